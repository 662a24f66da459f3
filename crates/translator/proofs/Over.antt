-- Writing over a room: at its front, then over its rest (`over_rest`); or over its rest first, and then at its front (`over_before`).
-- Assumes nothing.
use Prim.Native.Nat.{ℕ, ◌-◌, ◌≤◌}
use mathlib.Core.Path.{◌≡◌, refl, sym, ap, ◌∙◌}
use mathlib.Core.List.{List, ◌++◌, append_assoc}
use lib.ListN.{length, take, drop, length-append}
use lib.Seq.{take_at, drop_at, drop-drop, length-take-le}
use borrow.Rule.Slice.PartMut.{put_mid}
use Rattle.laws.specs.Lent.{tail_back}
use Rattle.ticks.specs.Play.{over}

module _ {A : Type 0} where
  over_append : (xs ys room : List A) → over (xs ++ ys) room ≡ xs ++ over ys (drop (length xs) room)
  over_append xs ys room =
      append_assoc xs ys _ ∙ ap (λ (k : ℕ). xs ++ (ys ++ drop k room)) (length-append xs ys) ∙ ap (λ (zs : List A). xs ++ (ys ++ zs)) (sym (drop-drop (length ys) (length xs) room))

  -- xs at the front, and then ys over the rest
  pub over_rest : (xs ys room part : List A) → part ≡ over ys (take (length (over xs room) - length xs) (drop (length xs) (over xs room)))
      → put_mid (length xs) (length (over xs room) - length xs) (over xs room) part ≡ over (xs ++ ys) room
  over_rest xs ys room part e =
      tail_back (over ys) (length xs) (over xs room) part e
      ∙ rw (take_at xs (drop (length xs) room) (length xs) refl, drop_at xs (drop (length xs) room) (length xs) refl) (sym (over_append xs ys room))

  -- ys over the rest, and then xs at the front
  pub over_before : (k : ℕ) (xs ys room part : List A) → length xs ≡ k → k ≤ length room → part ≡ over ys (take (length room - k) (drop k room))
      → over xs (put_mid k (length room - k) room part) ≡ over (xs ++ ys) room
  over_before k xs ys room part l h e =
      ap (λ (zs : List A). xs ++ zs)
      (ap (λ (j : ℕ). drop j (put_mid k (length room - k) room part)) l ∙ ap (drop k) (tail_back (over ys) k room part e) ∙ drop_at (take k room) (over ys (drop k room)) k (length-take-le k room h) ∙ ap (λ (j : ℕ). over ys (drop j room)) (sym l))
      ∙ sym (over_append xs ys room)
