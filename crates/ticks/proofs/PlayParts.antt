-- Playing on any machine: n ticks and then j are n + j (`play_append`), and a play in two parts is one play (`fit_parts`, `play_parts`).
-- Assumes nothing.
use Prim.Native.Nat.{ℕ, suc, ◌+◌, ◌-◌, ◌≤◌}
use Rattle.std.specs.Prelude.{◌≡◌, take}
use Rattle.std.proofs.Math.Path.{sym, ap}
use Rattle.std.proofs.Common.{◌∙◌, zero-add, suc-add, take-append-drop, drop-drop, length-take-le}
use mathlib.Core.List.{List, [], ◌∷◌, ◌++◌, append_assoc}
use native.Mathlib.Omega.{arith}
use Rattle.std.proofs.Math.ListN.{length, drop, length-drop, length-append}
use Rattle.std.proofs.Math.Seq.{take-append-add}
use borrow.Author.Tests.{le-leb}
use Rattle.ticks.specs.Play.{Mechanism, after_all, rendered, fit, play_out}
use Rattle.ticks.specs.PlayLaws.{fit_fits, fit_le, play_front, rendered_append}

module _ {A W T : Type 0} (m : Mechanism A W T) where
  -- ---- playing a list of ticks that all fit, and then another, is playing both
  pub fit_append : (room : ℕ) (w : W) (ss ts : List T) → length (rendered m w ss) ≤ room → fit m room w (ss ++ ts) ≡ length ss + fit m (room - length (rendered m w ss)) (after_all m w ss) ts
  unfolding rendered fit after_all
  fit_append room w [] ts h = let z : room - 0 ≡ room = omega arith in rw (z, zero-add)
  fit_append room w (s ∷ ss) ts h =
      let l : length (m.frames w s ++ rendered m (m.after w s) ss) ≡ length (m.frames w s) + length (rendered m (m.after w s) ss) = length-append (m.frames w s) (rendered m (m.after w s) ss) in
      let r : room - length (m.frames w s ++ rendered m (m.after w s) ss) ≡ room - length (m.frames w s) - length (rendered m (m.after w s) ss) = omega arith in
      rw (le-leb (length (m.frames w s)) room (omega arith), r, suc-add) (ap suc (fit_append (room - length (m.frames w s)) (m.after w s) ss ts (omega arith)))

  pub play_append : (w : W) (ss ts : List T) (buffer : List A) → length (rendered m w ss) ≤ length buffer → play_out m w (ss ++ ts) buffer ≡ rendered m w ss ++ play_out m (after_all m w ss) ts (drop (length (rendered m w ss)) buffer)
  unfolding play_out
  play_append w ss ts buffer h =
      let xs = rendered m w ss in
      let k = fit m (length buffer - length xs) (after_all m w ss) ts in
      let ys = rendered m (after_all m w ss) (take k ts) in
      let n : length (drop (length xs) buffer) ≡ length buffer - length xs = length-drop (length xs) buffer in
      let r : rendered m w (take (fit m (length buffer) w (ss ++ ts)) (ss ++ ts)) ≡ xs ++ ys = rw (fit_append (length buffer) w ss ts h, take-append-add ss ts k, rendered_append m w ss (take k ts)) in
      let d : drop (length (xs ++ ys)) buffer ≡ drop (length ys) (drop (length xs) buffer) = ap (λ (i : ℕ). drop i buffer) (length-append xs ys) ∙ sym (drop-drop (length ys) (length xs) buffer) in
      rw (r, n, d, append_assoc)

  -- ---- a play in two parts: as many ticks as fit a part's room, and then the others
  module _ (w : W) (ts : List T) (part : List A) where
    -- how many ticks the part holds, and their numbers
    abbrev pub part_count : ℕ
    part_count = fit m (length part) w ts

    abbrev pub part_numbers : List A
    part_numbers = rendered m w (take part_count ts)

    -- where the part ends
    abbrev pub part_end : W
    part_end = after_all m w (take part_count ts)

    module _ (buffer : List A) (h : length part ≤ length buffer) where
      inside : length part_numbers ≤ length buffer
      inside = omega (arith, fit_fits m (length part) w ts)

      -- the counts add up
      pub fit_parts : fit m (length buffer) w ts ≡ part_count + fit m (length (drop (length part_numbers) buffer)) part_end (drop part_count ts)
      fit_parts =
          ap (fit m (length buffer) w) (sym (take-append-drop part_count ts))
          ∙ fit_append (length buffer) w (take part_count ts) (drop part_count ts) inside
          ∙ rw (length-take-le part_count ts (fit_le m (length part) w ts), length-drop (length part_numbers) buffer)

      -- and the buffers follow each other
      pub play_parts : play_out m w ts buffer ≡ take (length part_numbers) (play_out m w ts part) ++ play_out m part_end (drop part_count ts) (drop (length part_numbers) buffer)
      play_parts =
          ap (λ (us : List T). play_out m w us buffer) (sym (take-append-drop part_count ts))
          ∙ play_append w (take part_count ts) (drop part_count ts) buffer inside
          ∙ ap (λ (xs : List A). xs ++ play_out m part_end (drop part_count ts) (drop (length part_numbers) buffer)) (sym (play_front m w ts part part_count (omega arith)))
