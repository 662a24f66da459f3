-- A finetune above a byte may be cut to the greatest byte, a period above two bytes to their greatest, and semitones to a byte: no answer differs.
-- Assumes nothing.
use Prim.Native.Nat.{ℕ, ◌-◌, ◌^◌, min}
use mathlib.Core.Path.{◌≡◌, refl, sym, ◌∙◌, ap}
use mathlib.Core.Bool.{Bool, true, false}
use Rattle.std.proofs.Math.Path.{fun_ext}
use native.Mathlib.Omega.{arith}
use borrow.Author.Tests.{le-leb, ltb-true, ltb-false, ne_eqb}
use lib.Dec.{leb, ltb}
use Rattle.laws.specs.Ranges.{first}
use Rattle.tuning.specs.Table.{last_note, entry, greatest_of}
use Rattle.tuning.specs.Rules.{entry_none, entry_most}
use Rattle.tuning.specs.Tuned.{place_of, tuned, kept, semitones}
use Rattle.tuning.specs.Kept.{kept_most}

abbrev last_byte : ℕ
last_byte = 2 ^ 8 - 1

abbrev last_word : ℕ
last_word = 2 ^ 16 - 1

-- ---- an entry, and what a search tests
entry_same : (f i : ℕ) → entry (min f last_byte) i ≡ entry f i
entry_same f i = go (ltb last_byte f) refl
  where
    go : (b : Bool) → ltb last_byte f ≡ b → entry (min f last_byte) i ≡ entry f i
    go true e = let h = ltb-true last_byte f e in entry_none (min f last_byte) i (omega arith) ∙ sym (entry_none f i (omega arith))
    go false e = let h = ltb-false last_byte f e in ap (λ (g : ℕ). entry g i) (omega arith)

reached_same : (f p i : ℕ) → leb (entry f i) (min p last_word) ≡ leb (entry f i) p
reached_same f p i = go (ltb last_word p) refl
  where
    go : (b : Bool) → ltb last_word p ≡ b → leb (entry f i) (min p last_word) ≡ leb (entry f i) p
    go true e =
        let h = ltb-true last_word p e in
        let m = entry_most f i in
        rw (le-leb (entry f i) (min p last_word) (omega arith), le-leb (entry f i) p (omega arith)) refl
    go false e = let h = ltb-false last_word p e in ap (leb (entry f i)) (omega arith)

place_same : (f p : ℕ) → place_of f (min p last_word) ≡ place_of f p
unfolding place_of
place_same f p = ap (λ (t : ℕ → Bool). first t last_note) (fun_ext (reached_same f p))

place_cut : (f p : ℕ) → place_of (min f last_byte) (min p last_word) ≡ place_of f p
unfolding place_of
place_cut f p = ap (λ (t : ℕ → Bool). first t last_note) (fun_ext (λ i. rw (entry_same f i) (reached_same f p i)))

kept_cut : (f n : ℕ) → kept (min f last_byte) n ≡ kept f n
unfolding kept
kept_cut f n = rw (entry_same f 0, entry_same f last_note) refl

-- ---- the functions' definitions
pub greatest_wide : (f g r : ℕ) → g ≡ min f last_byte → r ≡ greatest_of g → r ≡ greatest_of f
greatest_wide f g r e q = q ∙ rw e (entry_same f 0)

module _ (f p g q r : ℕ) (e : g ≡ min f last_byte) (s : q ≡ min p last_word) where
  pub tuned_wide : (f ≡ 0 → ⊥) → r ≡ tuned g q → r ≡ tuned f p
  unfolding tuned
  tuned_wide z h = h ∙ rw (ne_eqb f 0 z, ne_eqb g 0 (λ (y : g ≡ 0). omega arith), e, s, place_same 0 p) (entry_same f (place_of 0 p))

  pub kept_wide : r ≡ kept g q → r ≡ kept f p
  kept_wide h = h ∙ rw (e, s) (kept_most (min f last_byte) p last_word (omega arith) ∙ kept_cut f p)

  pub semitones_wide : (k by : ℕ) → k ≡ min by last_byte → r ≡ semitones g q k → r ≡ semitones f p by
  unfolding semitones
  semitones_wide k by t h = h ∙ rw (e, s, t, place_cut f p) (entry_same f _ ∙ ap (entry f) (omega arith))
