-- Laws of the board's machine and of one byte, in the form in which the code's tests and calls leave their facts.
-- Assumes nothing.
use Prim.Native.Nat.{ℕ, ◌^◌, ◌≤◌, ◌<◌}
use mathlib.Core.Path.{◌≡◌, refl, sym, ap, subst, ◌∙◌}
use mathlib.Core.Bool.{Bool, true, false, not, cond, ◌&&◌, true≢false}
use mathlib.Core.List.{List, [], ◌∷◌}
use native.Mathlib.Omega.{arith}
use lib.Dec.{eqb, ltb}
use lib.IntN.{ℤ}
use lib.ListN.{length}
use borrow.Author.Tests.{ne_eqb, eqb-true, eqb-false, le-ltb}
use Rattle.std.specs.Prelude.{Option, None, Some}
use Rattle.laws.specs.Ranges.{all, all_from}
use Rattle.laws.specs.Every.{second_of}
use Rattle.common.specs.Limits.{width, greatest_tempo}
use Rattle.common.specs.Answers.{refused, accepted}
use Rattle.common.specs.AnswerLaws.{no_line, line_given, line_passed}
use Rattle.ticks.specs.declared.Command.{Command}
use Rattle.ticks.specs.declared.Tick.{Tick}
use Rattle.ticks.specs.Play.{Mechanism, over, after_all}
use Rattle.reader.specs.File.{Module}
use Rattle.reader.specs.Modules.{as_module}
use Rattle.reader.specs.Accept.{module_passed}
use Rattle.reader.specs.Samples.{Sample}
use Rattle.reader.specs.declared.Extent.{Extent}
use Rattle.reader.specs.declared.module.Module.{Module as ReadModule}
use Rattle.voice.specs.LegalFacts.{Ready}
use Rattle.voice.specs.Legal.{legal_voices}
use Rattle.voice.specs.Modules.{samples_in}
use Rattle.machine.specs.declared.Machine.{Machine}
use Rattle.machine.specs.Lengths.{carried_at}
use Rattle.machine.specs.Machine.{begins, frames, after, mechanism}
use Rattle.machine.specs.Turn.{Turned, turn, turn_of}
use Rattle.machine.specs.Turns.{turn_machine}
use Rattle.arrival.specs.declared.Arrival.{Arrival}
use Rattle.arrival.specs.Answers.{as_step}
use Rattle.arrival.specs.Arrive.{kept_bytes, bytes_of, taken, keep, holds, plays, step, legal_arrival}
use Rattle.arrival.specs.Ready as arriving
use Rattle.arrival.specs.Feed.{Fed, fed, step_frames, step_after}
use Rattle.feed.specs.declared.Board.{Board}
use Rattle.feed.specs.Boards.{state_of, taking, Held, held_sound, sound_held}
use Rattle.feed.specs.Feed.{registers_of, kept_under, begun, left, frames_under, after_under, under, legal_remainder, legal_board}
use Rattle.feed.specs.Rule.{framed, afterwards}
use Rattle.feed.specs.Several.{several, several_one}
use Rattle.feed.specs.Sound.{Sound, sound_all, tick_low, tick_high, tick_ready}
use Rattle.feed.specs.Judged.{Begun, Tested, Judged, Legal, legal_sound}

-- ---- the machine as a tick finds it
module _ (keeps : Bool) (w : Machine) (tempo : ℕ) where
  pub begun_on : keeps ≡ true → tempo ≡ w.tempo → ((w.remainder ≡ 0 → ⊥) → w.remainder < w.tempo) → tempo ≤ greatest_tempo → Begun keeps w tempo w
  unfolding begun
  begun_on k q rest most =
      record { voices = rw k; own = refl; begin = λ u z. rw k; low = low (eqb w.remainder 0) refl }
    where
      low : (z : Bool) → eqb w.remainder 0 ≡ z → w.remainder ≤ greatest_tempo
      low true z = omega (arith, eqb-true w.remainder 0 z)
      low false z = omega (arith, rest (eqb-false w.remainder 0 z))

  abbrev bare : Machine
  bare = record { voices = w.voices; tempo = w.tempo; remainder = 0 }

  pub begun_new : keeps ≡ true → (tempo ≡ w.tempo → ⊥) → Begun keeps w tempo bare
  unfolding begun begins carried_at
  begun_new k n =
      let f : eqb tempo w.tempo ≡ false = ne_eqb tempo w.tempo n in
      record { voices = rw k; own = refl; begin = λ u z. rw (k, z, f); low = omega arith }

  pub begun_old : keeps ≡ false → Begun keeps w tempo bare
  unfolding begun
  begun_old k = record { voices = rw k; own = refl; begin = λ u z. rw k; low = omega arith }

-- ---- a tick by the rule of a version
pub ready_own : (m : Module) (extents : List Extent) (w : Machine) (cs : List Command) (keeps : Bool) (tempo : ℕ) (x : Machine) → Ready m extents w.voices cs → Begun keeps w tempo x → Ready m extents x.voices cs
ready_own m extents w cs keeps tempo x r e = rw e.own r

pub begun_low : (keeps : Bool) (w : Machine) (tempo : ℕ) (x : Machine) → Begun keeps w tempo x → x.remainder ≤ greatest_tempo
begun_low keeps w tempo x e = e.low

module _ (c : ℕ) (samples : ℕ → Sample) (version : ℕ) (keeps : Bool) (ke : keeps ≡ kept_under version) (w : Machine) (t : Tick) (x : Machine) (xe : Begun keeps w t.tempo x) where
  -- the shared machine's turn is the board's
  frames_on : frames c samples x t ≡ frames_under c samples version w t
  unfolding frames_under
  frames_on = rw (← ke) (framed c samples x (begun keeps w) t xe.voices (xe.begin t refl))

  after_on : left keeps w (after keeps c samples x t) ≡ after_under c samples version w t
  unfolding after_under
  after_on = rw (← ke) (ap (left keeps w) (afterwards c samples keeps x (begun keeps w) t xe.voices (xe.begin t refl)))

  module _ (out out' : List ℤ) (full : Bool) (size : ℕ) (moved : Machine) (ue : turn full size moved out' ≡ turn_of (mechanism keeps c samples) x t out) where
    abbrev fs : List ℤ
    fs = frames c samples x t

    board_turn : turn_of (under c samples version) w t out ≡ cond (ltb (length out) (length fs)) (turn true 0 w out) (turn false (length fs) (left keeps w (after keeps c samples x t)) (over fs out))
    unfolding turn_of
    board_turn = rw (frames_on, after_on)

    pub under_full : full ≡ true → turn true 0 w out' ≡ turn_of (under c samples version) w t out
    unfolding turn_of
    under_full f = go (ltb (length out) (length fs)) refl ue
      where
        go : (z : Bool) → ltb (length out) (length fs) ≡ z → turn full size moved out' ≡ cond z (turn true 0 x out) (turn false (length fs) (after keeps c samples x t) (over fs out)) → turn true 0 w out' ≡ turn_of (under c samples version) w t out
        go true z q = ap (λ (y : Turned ℤ Machine). turn true 0 w y.out) q ∙ sym (board_turn ∙ rw z)
        go false z q = absurd (true≢false (sym f ∙ ap (λ (y : Turned ℤ Machine). y.full) q))

    pub under_plays : full ≡ false → (y : Machine) → y ≡ left keeps w moved → turn false size y out' ≡ turn_of (under c samples version) w t out
    unfolding turn_of
    under_plays f y ye = go (ltb (length out) (length fs)) refl ue
      where
        go : (z : Bool) → ltb (length out) (length fs) ≡ z → turn full size moved out' ≡ cond z (turn true 0 x out) (turn false (length fs) (after keeps c samples x t) (over fs out)) → turn false size y out' ≡ turn_of (under c samples version) w t out
        go true z q = absurd (true≢false (sym (ap (λ (u : Turned ℤ Machine). u.full) q) ∙ f))
        go false z q = rw ye (ap (λ (u : Turned ℤ Machine). turn false u.size (left keeps w u.machine) u.out) q ∙ sym (board_turn ∙ rw z))

-- ---- what a turn leaves
-- where it does not fit, the machine as it was
pub turn_stays : {A W S : Type 0} (m : Mechanism A W S) (w : W) (t : S) (out : List A) (r : Turned A W) → r ≡ turn_of m w t out → r.full ≡ true → r.machine ≡ w
unfolding turn_of
turn_stays {A} {W} m w t out r e f = go (ltb (length out) (length (m.frames w t))) e
  where
    go : (z : Bool) → r ≡ cond z (turn true 0 w out) (turn false (length (m.frames w t)) (m.after w t) (over (m.frames w t) out)) → r.machine ≡ w
    go true q = ap (λ (y : Turned A W). y.machine) q
    go false q = absurd (true≢false (sym f ∙ ap (λ (y : Turned A W). y.full) q))

module _ (m : ReadModule) (b : Board) (g : Held m b) (out out' : List ℤ) (full : Bool) (size : ℕ) (c : Board) where
  -- after bytes, what is held is so still
  pub held_run : (run : List ℕ) → turn full size (state_of c) out' ≡ turn_of (several (taking m)) (state_of b) run out → Held m c
  held_run run e = go full refl
    where
      sound : (z : Fed Machine) → state_of c ≡ z → Sound m.layout m.file.now m.extents z.arrival z.machine → Held m c
      sound z q s = sound_held m c (subst (λ (y : Fed Machine). Sound m.layout m.file.now m.extents y.arrival y.machine) (sym q) s)

      go : (f : Bool) → full ≡ f → Held m c
      go true f = sound (state_of b) (turn_stays (several (taking m)) (state_of b) run out (turn full size (state_of c) out') e f) (held_sound m b g)
      go false f = sound (after_all (taking m) (state_of b) run) (turn_machine (several (taking m)) (state_of b) run out (turn full size (state_of c) out') e f) (sound_all m.layout m.file.now m.extents run (state_of b) (held_sound m b g))

  pub held_byte : (d : ℕ) → turn full size (state_of c) out' ≡ turn_of (taking m) (state_of b) d out → Held m c
  held_byte d e = held_run (d ∷ []) (e ∙ sym (several_one (taking m) (state_of b) d out))

-- ---- a byte
module _ (m : ReadModule) (b : Board) (g : Held m b) (d : ℕ) (rs : List Command) (re : rs ≡ registers_of b.machine) (last c : ℕ) (sl : last ≡ m.layout.samples) (sc : c ≡ m.layout.channels) (o : Option Tick) (q : Arrival) (te : as_step o q ≡ step last c rs b.arrival d) where
  here : as_step o q ≡ step m.layout.samples m.layout.channels (registers_of b.machine) b.arrival d
  here = rw (sl, sc, re) at te

  pub byte_holds : o ≡ None → (out : List ℤ) → turn false 0 (fed q b.machine) out ≡ turn_of (taking m) (state_of b) d out
  unfolding turn_of step_frames step_after
  byte_holds n out =
      let x : holds q ≡ step m.layout.samples m.layout.channels (registers_of b.machine) b.arrival d = rw n at here in
      rw (← x, le-ltb (length out) 0 (omega arith))

  module _ (t : Tick) (n : o ≡ Some t) where
    plays_on : step m.layout.samples m.layout.channels (registers_of b.machine) b.arrival d ≡ plays t q
    plays_on = sym (rw n at here)

    done : arriving.Completes m.layout.samples m.layout.channels (registers_of b.machine) b.arrival d t
    done = arriving.plays_read m.layout.samples m.layout.channels (registers_of b.machine) b.arrival d t q plays_on

    pub byte_high : t.tempo ≤ greatest_tempo
    byte_high = tick_high m.layout m.file.now m.extents b.arrival b.machine (held_sound m b g) (bytes_of (keep b.arrival d)) 0 t done.next done.is

    pub byte_some : 0 < t.tempo
    byte_some = omega (arith, tick_low m.layout m.file.now m.extents b.arrival b.machine (held_sound m b g) (bytes_of (keep b.arrival d)) 0 t done.next done.is)

    pub byte_ready : Ready (as_module m) m.extents b.machine.voices t.commands
    byte_ready = tick_ready m.layout m.file.now m.extents b.arrival b.machine (held_sound m b g) (bytes_of (keep b.arrival d)) 0 t done.next done.is b.machine refl

    -- the tick's turn is the byte's
    module _ (out out' : List ℤ) (size : ℕ) (w : Machine) where
      abbrev its : Mechanism ℤ Machine Tick
      its = under m.layout.channels (samples_in (as_module m) m.extents) b.arrival.version

      abbrev gs : List ℤ
      gs = frames_under m.layout.channels (samples_in (as_module m) m.extents) b.arrival.version b.machine t

      byte_turn : turn_of (taking m) (state_of b) d out ≡ cond (ltb (length out) (length gs)) (turn true 0 (state_of b) out) (turn false (length gs) (fed q (after_under m.layout.channels (samples_in (as_module m) m.extents) b.arrival.version b.machine t)) (over gs out))
      unfolding turn_of step_frames step_after
      byte_turn = rw plays_on

      pub byte_full : turn true 0 w out' ≡ turn_of its b.machine t out → turn true 0 (fed b.arrival w) out' ≡ turn_of (taking m) (state_of b) d out
      unfolding turn_of
      byte_full ue = go (ltb (length out) (length gs)) refl ue
        where
          go : (z : Bool) → ltb (length out) (length gs) ≡ z → turn true 0 w out' ≡ cond z (turn true 0 b.machine out) (turn false (length gs) (after_under m.layout.channels (samples_in (as_module m) m.extents) b.arrival.version b.machine t) (over gs out))
              → turn true 0 (fed b.arrival w) out' ≡ turn_of (taking m) (state_of b) d out
          go true z x = ap (λ (y : Turned ℤ Machine). turn true 0 (fed b.arrival y.machine) y.out) x ∙ sym (byte_turn ∙ rw z)
          go false z x = absurd (true≢false (ap (λ (y : Turned ℤ Machine). y.full) x))

      pub byte_plays : turn false size w out' ≡ turn_of its b.machine t out → turn false size (fed q w) out' ≡ turn_of (taking m) (state_of b) d out
      unfolding turn_of
      byte_plays ue = go (ltb (length out) (length gs)) refl ue
        where
          go : (z : Bool) → ltb (length out) (length gs) ≡ z → turn false size w out' ≡ cond z (turn true 0 b.machine out) (turn false (length gs) (after_under m.layout.channels (samples_in (as_module m) m.extents) b.arrival.version b.machine t) (over gs out))
              → turn false size (fed q w) out' ≡ turn_of (taking m) (state_of b) d out
          go true z x = absurd (true≢false (sym (ap (λ (y : Turned ℤ Machine). y.full) x)))
          go false z x = ap (λ (y : Turned ℤ Machine). turn false y.size (fed q y.machine) y.out) x ∙ sym (byte_turn ∙ rw z)

-- ---- legality
module _ (m : ReadModule) (b : Board) (count : length b.machine.voices ≡ width) (long : length b.arrival.bytes ≡ kept_bytes) where
  pub board_tested : (rs : List Command) (last c : ℕ) (v r a : Bool) → rs ≡ registers_of b.machine → last ≡ m.layout.samples → c ≡ m.layout.channels → v ≡ legal_voices m.layout m.extents b.machine.voices → r ≡ legal_remainder b.machine → a ≡ legal_arrival last c rs b.arrival → (a ≡ true → taken b.arrival < 2 ^ 40)
      → Tested (as_module m) b (v && r && a)
  unfolding legal_board all all_from
  board_tested rs last c v r a l i k x y z few = record { is = rw (x, y, z, l, i, k, m.table); few = λ t. few (second_of (v && r) a t); voices = count; bytes = long }

-- refusal 14, or a legal board
module _ (m : ReadModule) (b : Board) (l : Bool) (lt : Tested (as_module m) b l) where
  tested : l ≡ true → Legal (as_module m) b
  tested h = record { layout = m.legal; judged = m.judged; legal = sym lt.is ∙ h; few = lt.few h; voices = lt.voices; bytes = lt.bytes }

  pub begun_held : l ≡ true → Held m b
  begun_held h = sound_held m b (rw m.table (legal_sound m.layout m.file.now b (tested h)))

  pub judged_legal : l ≡ true → Judged (as_module m) b (accepted 0)
  judged_legal h =
      record {
        is = module_passed refused (accepted 0) (as_module m) _ (accepted 0) m.judged (line_passed refused (accepted 0) 14 0 _ [] (accepted 0) (ap not (sym lt.is ∙ h)) (no_line refused (accepted 0) (accepted 0) refl));
        accepted = λ _. tested h;
      }

  pub judged_illegal : l ≡ false → Judged (as_module m) b (refused 14 0)
  judged_illegal h =
      record { is = module_passed refused (accepted 0) (as_module m) _ (refused 14 0) m.judged (line_given refused (accepted 0) 14 0 _ [] (refused 14 0) (ap not (sym lt.is ∙ h)) refl); accepted = λ e. absurd (omega arith) }
