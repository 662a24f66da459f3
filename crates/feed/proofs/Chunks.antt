-- A record at once, or a byte: laws in the form in which the code's tests and calls leave their facts.
-- Assumes nothing.
use Prim.Native.Nat.{ℕ, ◌+◌, ◌-◌, ◌≤◌, ◌<◌}
use mathlib.Core.Path.{◌≡◌, refl, sym, ap, ◌∙◌}
use mathlib.Core.Bool.{Bool, true, false, cond, true≢false}
use mathlib.Core.List.{List, [], ◌∷◌}
use native.Mathlib.Omega.{arith}
use lib.Dec.{ltb}
use lib.IntN.{ℤ}
use lib.ListN.{length, get_or, take, drop, length-drop}
use lib.Seq.{drop-cons, length-take-le}
use Rattle.std.specs.Prelude.{Some}
use Rattle.common.specs.Limits.{greatest_tempo}
use Rattle.ticks.specs.declared.Command.{Command}
use Rattle.ticks.specs.declared.Tick.{Tick}
use Rattle.ticks.specs.Play.{Mechanism, over}
use Rattle.reader.specs.Modules.{as_module}
use Rattle.reader.specs.declared.module.Module.{Module as ReadModule}
use Rattle.voice.specs.LegalFacts.{Ready}
use Rattle.voice.specs.Modules.{samples_in}
use Rattle.machine.specs.declared.Machine.{Machine}
use Rattle.machine.specs.Turn.{Turned, turn, turn_of}
use Rattle.machine.specs.Turns.{turn_full, turn_fits}
use Rattle.decoder.specs.declared.reading.Record.{Record}
use Rattle.arrival.specs.declared.Arrival.{Arrival}
use Rattle.arrival.specs.Arrive.{played, end_shows}
use Rattle.arrival.specs.Ahead.{Found, Lies, laid, awaited_plays}
use Rattle.arrival.specs.Feed.{fed}
use Rattle.feed.specs.declared.Board.{Board}
use Rattle.feed.specs.Boards.{state_of, taking, Held, held_sound}
use Rattle.feed.specs.Feed.{registers_of, under}
use Rattle.feed.specs.Sound.{tick_low, tick_high, tick_ready}
use Rattle.feed.specs.Several.{several, several_one}
use Rattle.feed.specs.Takings.{Whole, Taken}
use Rattle.feed.proofs.Laws.{turn_stays}

-- ---- a record that lies ahead
module _ (m : ReadModule) (b : Board) (g : Held m b) where
  -- it is whole
  module _ (rs : List Command) (re : rs ≡ registers_of b.machine) (last c : ℕ) (sl : last ≡ m.layout.samples) (sc : c ≡ m.layout.channels) (bs : List ℕ) (i : ℕ) (r : Record) (h : Found last c rs b.arrival bs i (Some r)) where
    lies : Lies m.layout.samples m.layout.channels (registers_of b.machine) b.arrival bs i r
    lies = rw (sl, sc, re) at h.lies

    pub ahead_past : i ≤ r.next
    ahead_past = omega (arith, lies.low)

    pub ahead_low : i < r.next
    ahead_low = lies.low

    pub ahead_in : r.next ≤ length bs
    ahead_in = lies.high

    run_long : length (take (r.next - i) (drop i bs)) ≡ r.next - i
    run_long = length-take-le (r.next - i) (drop i bs) (omega (arith, lies.high, length-drop i bs))

    pub ahead_is_whole : Whole m.layout.samples m.layout.channels b.arrival b.machine (take (r.next - i) (drop i bs)) r.tick
    ahead_is_whole =
        record {
          awaited = lies.awaited;
          short = omega (arith, run_long, lies.short, m.legal.channels);
          few = omega (arith, run_long, lies.few);
          stream = bs;
          from = i;
          to = r.next;
          is = lies.is;
          plays = λ samples. awaited_plays m.layout.samples m.layout.channels registers_of (under m.layout.channels samples) (omega (arith, m.legal.channels)) bs i (omega (arith, lies.low, lies.high)) b.machine r.tick r.next lies.is b.arrival lies.awaited g.long lies.within;
        }

  -- its tick
  module _ (run : List ℕ) (t : Tick) (h : Whole m.layout.samples m.layout.channels b.arrival b.machine run t) where
    pub whole_high : t.tempo ≤ greatest_tempo
    whole_high = tick_high m.layout m.file.now m.extents b.arrival b.machine (held_sound m b g) h.stream h.from t h.to h.is

    pub whole_some : 0 < t.tempo
    whole_some = omega (arith, tick_low m.layout m.file.now m.extents b.arrival b.machine (held_sound m b g) h.stream h.from t h.to h.is)

    pub whole_ready : Ready (as_module m) m.extents b.machine.voices t.commands
    whole_ready = tick_ready m.layout m.file.now m.extents b.arrival b.machine (held_sound m b g) h.stream h.from t h.to h.is b.machine refl

    -- the tick's turn is the record's
    module _ (out out' : List ℤ) (size : ℕ) (w : Machine) where
      abbrev its : Mechanism ℤ Machine Tick
      its = under m.layout.channels (samples_in (as_module m) m.extents) b.arrival.version

      abbrev gs : List ℤ
      gs = its.frames b.machine t

      whole_turn : turn_of (several (taking m)) (state_of b) run out ≡ cond (ltb (length out) (length gs)) (turn true 0 (state_of b) out) (turn false (length gs) (fed (end_shows (played (laid b.arrival run))) (its.after b.machine t)) (over gs out))
      unfolding turn_of
      whole_turn = let y = h.plays (samples_in (as_module m) m.extents) in rw (y.heard, y.after)

      pub whole_full : turn true 0 w out' ≡ turn_of its b.machine t out → turn true 0 (fed b.arrival w) out' ≡ turn_of (several (taking m)) (state_of b) run out
      unfolding turn_of
      whole_full ue = go (ltb (length out) (length gs)) refl ue
        where
          go : (z : Bool) → ltb (length out) (length gs) ≡ z → turn true 0 w out' ≡ cond z (turn true 0 b.machine out) (turn false (length gs) (its.after b.machine t) (over gs out)) → turn true 0 (fed b.arrival w) out' ≡ turn_of (several (taking m)) (state_of b) run out
          go true z x = ap (λ (y : Turned ℤ Machine). turn true 0 (fed b.arrival y.machine) y.out) x ∙ sym (whole_turn ∙ rw z)
          go false z x = absurd (true≢false (ap (λ (y : Turned ℤ Machine). y.full) x))

      pub whole_plays : turn false size w out' ≡ turn_of its b.machine t out → (x : Arrival) → x ≡ end_shows (played (laid b.arrival run)) → turn false size (fed x w) out' ≡ turn_of (several (taking m)) (state_of b) run out
      unfolding turn_of
      whole_plays ue x e = rw e (go (ltb (length out) (length gs)) refl ue)
        where
          go : (z : Bool) → ltb (length out) (length gs) ≡ z → turn false size w out' ≡ cond z (turn true 0 b.machine out) (turn false (length gs) (its.after b.machine t) (over gs out))
              → turn false size (fed (end_shows (played (laid b.arrival run))) w) out' ≡ turn_of (several (taking m)) (state_of b) run out
          go true z y = absurd (true≢false (sym (ap (λ (u : Turned ℤ Machine). u.full) y)))
          go false z y = ap (λ (u : Turned ℤ Machine). turn false u.size (fed (end_shows (played (laid b.arrival run))) u.machine) u.out) y ∙ sym (whole_turn ∙ rw z)

-- ---- what is taken of a call's bytes
module _ {A W S : Type 0} (m : Mechanism A W S) (w : W) (t : S) (out : List A) (r : Turned A W) (e : r ≡ turn_of m w t out) where
  -- a turn takes no more numbers than there is room for
  turn_within : r.size ≤ length out
  unfolding turn_of
  turn_within = go r.full refl
    where
      go : (f : Bool) → r.full ≡ f → r.size ≤ length out
      go true f = none (ltb (length out) (length (m.frames w t))) e
        where
          none : (z : Bool) → r ≡ cond z (turn true 0 w out) (turn false (length (m.frames w t)) (m.after w t) (over (m.frames w t) out)) → r.size ≤ length out
          none true q = omega (arith, ap (λ (y : Turned A W). y.size) q)
          none false q = absurd (true≢false (sym f ∙ ap (λ (y : Turned A W). y.full) q))
      go false f = let x = turn_fits m w t out r e f in omega (arith, x.size, x.room)

module _ {A W : Type 0} (m : Mechanism A W ℕ) (w : W) (bs : List ℕ) (i : ℕ) (h : i < length bs) (out : List A) where
  -- one byte
  pub one_taken : (full : Bool) (size : ℕ) (w' : W) (out' : List A) → turn full size w' out' ≡ turn_of m w (get_or bs i 0) out → Taken m w bs i out full (i + 1) size w' out'
  one_taken full size w' out' e =
      let n : i + 1 - i ≡ 1 = omega arith in
      let one : take (i + 1 - i) (drop i bs) ≡ get_or bs i 0 ∷ [] = rw (n, drop-cons bs i 0 h) in
      record { low = omega arith; high = omega arith; within = turn_within m w (get_or bs i 0) out (turn full size w' out') e; stops = λ _. e; goes = λ _. e ∙ sym (several_one m w (get_or bs i 0) out) ∙ ap (λ (xs : List ℕ). turn_of (several m) w xs out) (sym one) }

  -- a record
  pub record_taken : (next size : ℕ) (w' : W) (out' : List A) → i < next → next ≤ length bs → turn false size w' out' ≡ turn_of (several m) w (take (next - i) (drop i bs)) out → Taken m w bs i out false next size w' out'
  record_taken next size w' out' l k t = record { low = l; high = k; within = turn_within (several m) w (take (next - i) (drop i bs)) out (turn false size w' out') t; stops = λ n. absurd (true≢false (sym n)); goes = λ _. t }

  -- after a record that does not fit board and buffer are as they were
  pub taken_after : (run : List ℕ) (w₁ : W) (out₁ : List A) → turn true 0 w₁ out₁ ≡ turn_of (several m) w run out → (n : Mechanism A W ℕ) → n ≡ m → (full : Bool) (next size : ℕ) (w' : W) (out' : List A) → Taken n w₁ bs i out₁ full next size w' out' → Taken m w bs i out full next size w' out'
  taken_after run w₁ out₁ e n s full next size w' out' k =
      let a : w₁ ≡ w = turn_stays (several m) w run out (turn true 0 w₁ out₁) e refl in
      let c : out₁ ≡ out = (turn_full (several m) w run out (turn true 0 w₁ out₁) e refl).cells in
      rw (s, a, c) at k
