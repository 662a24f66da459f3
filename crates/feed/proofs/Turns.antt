-- The loop that takes bytes, part by part: what is taken, followed by the bytes that are left, is the whole.
-- Assumes nothing.
use Prim.Native.Nat.{ℕ, ◌+◌, ◌-◌, ◌*◌, ◌^◌, ◌≤◌, ◌<◌}
use mathlib.Core.Path.{◌≡◌, refl, sym, ap, ◌∙◌}
use mathlib.Core.Bool.{Bool, true, false}
use mathlib.Core.List.{List, ◌∷◌, ◌++◌}
use native.Mathlib.Omega.{arith}
use native.Mathlib.Numerals.{add-one}
use lib.IntN.{ℤ}
use lib.ListN.{length, get_or, take, drop, drop_of_length-le, length-drop, take-append-drop}
use lib.Seq.{drop-cons, drop-drop, length-take-le}
use mir.Syntax.{w64}
use mir.Val.{Fits}
use borrow.Rule.Slice.PartMut.{put_mid}
use Rattle.laws.specs.Lent.{tail_long}
use Rattle.common.specs.Answers.{Outcome, outcome}
use Rattle.ticks.specs.Play.{after_all}
use Rattle.ticks.specs.Playing.{Playing, Played, playing_none, playing_all}
use Rattle.reader.specs.Modules.{as_module}
use Rattle.reader.specs.declared.module.Module.{Module as ReadModule}
use Rattle.voice.specs.Modules.{samples_in}
use Rattle.machine.specs.declared.Machine.{Machine}
use Rattle.machine.specs.Turn.{turn}
use Rattle.machine.specs.Turns.{turn_machine, stops_same, playing_stops}
use Rattle.arrival.specs.Arrive.{taken}
use Rattle.arrival.specs.Comes.{fault_stays}
use Rattle.arrival.specs.Feed.{Fed}
use Rattle.feed.specs.declared.Board.{Board}
use Rattle.feed.specs.declared.Reply.{Reply}
use Rattle.feed.specs.Boards.{state_of, taking}
use Rattle.feed.specs.Feed.{registers_of, under, reply_since, feed_of}
use Rattle.feed.specs.Sound.{taken_most}
use Rattle.feed.specs.Several.{several, playing_several, playing_idle}
use Rattle.feed.specs.Takings.{Taken}
use Rattle.feed.proofs.Laws.{turn_stays}

-- what the call is to return
abbrev fed_of : ReadModule → Board → List ℕ → List ℤ → Outcome Reply ℤ
fed_of m b bs out = feed_of m.layout.samples m.layout.channels (samples_in (as_module m) m.extents) b.arrival b.machine bs out

-- i bytes are taken, and those from i on are left; no byte has taken more than itself
pub record Taking (m₀ : ReadModule) (b₀ : Board) (bs : List ℕ) (out₀ : List ℤ) (m : ReadModule) (b : Board) (out : List ℤ) (at i : ℕ) : Type 0 where
  pub same : m ≡ m₀
  pub narrow : length out₀ < 2 ^ 62
  pub few : taken b.arrival ≤ taken b₀.arrival + i
  pub start : taken b₀.arrival < 2 ^ 41
  pub short : length bs < 2 ^ 63
  pub low : i ≤ length bs
  pub play : Playing (taking m₀) (state_of b₀) bs out₀ (state_of b) (drop i bs) out at i

pub taking_none : (m : ReadModule) (b : Board) (bs : List ℕ) (out : List ℤ) → taken b.arrival < 2 ^ 41 → length bs * 1 < 2 ^ 63 → length out * 2 < 2 ^ 63 → Taking m b bs out m b out 0 0
taking_none m b bs out f k h =
    record { same = refl; narrow = omega arith; few = omega arith; start = f; short = omega arith; low = omega arith; play = playing_none (taking m) (state_of b) bs out }

module _ {m₀ : ReadModule} {b₀ : Board} {bs : List ℕ} {out₀ : List ℤ} {m : ReadModule} {b : Board} {out : List ℤ} {at i : ℕ} (g : Taking m₀ b₀ bs out₀ m b out at i) where
  pub taking_within : at ≤ length out
  taking_within = omega (arith, g.play.long, g.play.low)

  pub taking_narrow : length out < 2 ^ 62
  taking_narrow = rw g.play.long g.narrow

  pub taking_few : taken b.arrival < 2 ^ 64
  taking_few = omega (arith, g.few, g.low, g.start, g.short)

  pub taking_start : taken b₀.arrival < 2 ^ 64
  taking_start = omega (arith, g.start)

  -- the reply where it is over
  module _ (r : Reply) (e : r ≡ reply_since b₀.arrival (state_of b)) where
    ends : (end : List ℤ) → Played (taking m₀) (state_of b₀) bs out₀ (state_of b) end i → outcome r end ≡ fed_of m₀ b₀ bs out₀
    unfolding feed_of
    ends end q = rw (e, q.state, q.cells)

    pub taken_all : length bs ≤ i → outcome r out ≡ fed_of m₀ b₀ bs out₀
    taken_all h = ends out (playing_all (taking m₀) (state_of b₀) bs out₀ (state_of b) (drop i bs) out at i g.play (drop_of_length-le bs {i = i} h))

    -- a fault is kept: no byte that is left does anything
    pub taken_faulty : (b.arrival.number ≡ 0 → ⊥) → outcome r out ≡ fed_of m₀ b₀ bs out₀
    unfolding feed_of
    taken_faulty n =
        let x = fault_stays m₀.layout.samples m₀.layout.channels registers_of (under m₀.layout.channels (samples_in (as_module m₀) m₀.extents)) (drop i bs) (state_of b) n in
        let q = playing_idle (taking m₀) (state_of b₀) bs out₀ (state_of b) (drop i bs) out at i g.play x.0 x.1 in
        rw (e, q.state, q.cells)

  -- a part of the bytes is taken, or the next byte does not fit
  module _ (full : Bool) (next size : ℕ) (c : Board) (part : List ℤ) (k : Taken (taking m) (state_of b) bs i (take (length out - at) (drop at out)) full next size (state_of c) part) where
    e : Taken (taking m₀) (state_of b) bs i (take (length out - at) (drop at out)) full next size (state_of c) part
    e = rw g.same at k

    first : drop i bs ≡ get_or bs i 0 ∷ drop (i + 1) bs
    first = drop-cons bs i 0 (omega (arith, e.low, e.high)) ∙ rw (add-one i)

    module _ (f : full ≡ true) where
      stays : state_of c ≡ state_of b
      stays = turn_stays (taking m₀) (state_of b) (get_or bs i 0) (take (length out - at) (drop at out)) (turn full size (state_of c) part) (e.stops f) f

      pub full_few : taken c.arrival < 2 ^ 64
      full_few = omega (arith, taking_few, ap (λ (z : Fed Machine). taken z.arrival) stays)

      pub full_long : length (put_mid at (length out - at) out part) ≡ length out₀
      full_long = ap length (stops_same (taking m₀) (state_of b₀) bs out₀ (state_of b) (drop i bs) out at i g.play (get_or bs i 0) (drop (i + 1) bs) first (turn full size (state_of c) part) (e.stops f) f) ∙ g.play.long

      pub taken_full : (r : Reply) → r ≡ reply_since b₀.arrival (state_of c) → outcome r (put_mid at (length out - at) out part) ≡ fed_of m₀ b₀ bs out₀
      unfolding feed_of
      taken_full r z =
          let s = playing_stops (taking m₀) (state_of b₀) bs out₀ (state_of b) (drop i bs) out at i g.play (get_or bs i 0) (drop (i + 1) bs) first (turn full size (state_of c) part) (e.stops f) f in
          rw (z, stays, s.state, s.cells)

    pub taking_next : Fits w64 (at + size)
    taking_next = record { fits = omega (arith, e.within, tail_long at out, taking_within, taking_narrow) }

    pub taking_more : full ≡ false → (n : ReadModule) → n ≡ m → Taking m₀ b₀ bs out₀ n c (put_mid at (length out - at) out part) (at + size) next
    taking_more f n s =
        let run : List ℕ = take (next - i) (drop i bs) in
        let lr : length run ≡ next - i = length-take-le (next - i) (drop i bs) (omega (arith, e.high, length-drop i bs)) in
        let n : i + length run ≡ next = omega (arith, lr, e.low) in
        let there : i + (next - i) ≡ next = omega (arith, e.low) in
        let rest : drop i bs ≡ run ++ drop next bs = sym (take-append-drop (next - i) (drop i bs)) ∙ ap (λ (xs : List ℕ). run ++ xs) (drop-drop (next - i) i bs ∙ ap (λ (j : ℕ). drop j bs) there) in
        let a : state_of c ≡ after_all (taking m₀) (state_of b) run = turn_machine (several (taking m₀)) (state_of b) run (take (length out - at) (drop at out)) (turn full size (state_of c) part) (e.goes f) f in
        record {
          same = s ∙ g.same;
          narrow = g.narrow;
          few = omega (arith, g.few, ap (λ (z : Fed Machine). taken z.arrival) a, taken_most m₀.layout m₀.file.now m₀.extents run (state_of b), n);
          start = g.start;
          short = g.short;
          low = e.high;
          play = rw n at (playing_several (taking m₀) (state_of b₀) bs out₀ (state_of b) (drop i bs) out at i g.play run (drop next bs) rest (turn full size (state_of c) part) (e.goes f) f);
        }
