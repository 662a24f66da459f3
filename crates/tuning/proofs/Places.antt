-- What the functions on the table rest on: a search along a row, and the cases of a finetune's definitions.
-- Assumes nothing.
use Prim.Native.Nat.{ℕ, suc, ◌+◌, ◌≤◌, ◌<◌, min, max}
use mathlib.Core.Path.{◌≡◌, refl, sym, ◌∙◌, ap}
use mathlib.Core.Bool.{Bool, true, false, cond, not}
use Rattle.std.specs.Prelude.{Option, Some, None, unwrap_or, position}
use Rattle.std.specs.List.{position_or_len}
use Rattle.std.proofs.lemmas.List.{length-take-le, get_or-take}
use Rattle.std.proofs.lemmas.List.Sums.{prefix_len-le-length}
use mathlib.Core.List.{List, [], ◌∷◌}
use native.Mathlib.Omega.{arith}
use borrow.Author.Tests.{ltb-true, ltb-false, ne_eqb}
use lib.Dec.{leb, ltb}
use lib.ListN.{length, get_or, take, get_or-eq_default}
use Rattle.laws.specs.Choice.{either}
use Rattle.laws.specs.Each.{get_or-each, length-each, each_by, get_or-replicate}
use Rattle.laws.specs.Ranges.{each, some, first}
use Rattle.laws.specs.Search.{some_none, some_not, at_first, at_end}
use Rattle.tuning.specs.Table.{last_finetune, row_length, last_note, printed, entry, row_of, greatest_of, least_of}
use Rattle.tuning.specs.Rules.{entry_none, row_high}
use Rattle.tuning.specs.Tuned.{place_of, tuned, kept, semitones}
use Rattle.tuning.specs.Ends.{ends_of}
use Rattle.tuning.specs.declared.table.Ends.{Ends}
use Rattle.tuning.specs.declared.table.TheConstants.{ROWS, NO_ROW}

-- ---- the table
rows_printed : ROWS ≡ each row_of (suc last_finetune)
unfolding each row_of entry printed
rows_printed = refl

-- a finetune past the last has no row
no_row : (f : ℕ) → last_finetune < f → NO_ROW ≡ row_of f
unfolding row_of
no_row f h = each_by (entry f) row_length 0 NO_ROW refl (λ i l. get_or-replicate 0 row_length i ∙ sym (entry_none f i (omega arith)))

pub row_printed : (f : ℕ) → get_or ROWS f NO_ROW ≡ row_of f
row_printed f = go (ltb last_finetune f) refl
  where
    go : (b : Bool) → ltb last_finetune f ≡ b → get_or ROWS f NO_ROW ≡ row_of f
    go true e = let h = ltb-true last_finetune f e in get_or-eq_default ROWS NO_ROW (omega arith) ∙ no_row f h
    go false e = let h = ltb-false last_finetune f e in ap (λ (rows : List (List ℕ)). get_or rows f NO_ROW) rows_printed ∙ get_or-each row_of (suc last_finetune) f NO_ROW (omega arith)

-- an entry of the row is the table's
pub entry_in : (f i : ℕ) (row : List ℕ) → row ≡ row_of f → i ≤ last_note → get_or row i 0 ≡ entry f i
unfolding row_of
entry_in f i row e l = rw e (get_or-each (entry f) row_length i 0 (omega arith))

-- ---- a search along a row
-- in a list from place i to n, of which nothing before passed
search_from : (t p : ℕ → Bool) (n i : ℕ) (xs : List ℕ) → i + length xs ≡ n → ((k : ℕ) → k < length xs → t (get_or xs k 0) ≡ p (i + k)) → some p i ≡ false → i + position_or_len t xs ≡ first p n
search_from t p n i [] e h w = let r = at_end p i n (omega arith) (omega arith) w in omega arith
search_from t p n i (x ∷ xs) e h w =
    let here : t x ≡ p i = h 0 (omega arith) ∙ ap p (omega arith) in
    go (t x) refl here (λ q. search_from t p n (i + 1) xs (omega arith) (λ k l. h (suc k) (omega arith) ∙ ap p (omega arith)) (some_not p i w (sym here ∙ q)))
  where
    go : (b : Bool) → t x ≡ b → t x ≡ p i → (t x ≡ false → (i + 1) + position_or_len t xs ≡ first p n) → i + cond (not b) (1 + position_or_len t xs) 0 ≡ first p n
    go true q here next = let r = at_first p i n (omega arith) w (sym here ∙ q) in omega arith
    go false q here next = let r = next q in omega arith

place_found : (f p : ℕ) (row : List ℕ) → row ≡ row_of f → length (take last_note row) ≡ last_note → position_or_len (λ x. leb x p) (take last_note row) ≡ place_of f p
unfolding place_of
place_found f p row e l =
    let r = search_from (λ x. leb x p) (λ i. leb (entry f i) p) last_note 0 (take last_note row) (omega arith) (λ k h. ap (λ (x : ℕ). leb x p) (get_or-take last_note row k 0 (omega arith) ∙ entry_in f k row e (omega arith) ∙ ap (entry f) (omega arith))) (some_none _) in
    omega arith

row_long : (f : ℕ) (row : List ℕ) → row ≡ row_of f → length (take last_note row) ≡ last_note
unfolding row_of
row_long f row e = let n = ap length e ∙ length-each (entry f) row_length in length-take-le last_note row (omega arith)

-- what was found in the row before its last place, or that place
found_or : (k n m : ℕ) → k ≤ n → m ≡ n → unwrap_or (cond (ltb k m) (Some k) None) n ≡ k
found_or k n m l e = either (λ (o : Option ℕ). unwrap_or o n ≡ k) (ltb k m) (Some k) None (λ q. refl) (λ q. omega (arith, ltb-false k m q))

pub place_by : (f p : ℕ) (row : List ℕ) (r : Option ℕ) (n : ℕ) → row ≡ row_of f → r ≡ position (λ x. leb x p) (take last_note row) → n ≡ unwrap_or r last_note → (n ≡ place_of f p) × (n ≤ last_note)
place_by f p row r n e q u =
    let l = row_long f row e in
    let k : ℕ = position_or_len (λ x. leb x p) (take last_note row) in
    let m : k ≤ last_note = omega (arith, prefix_len-le-length (λ x. not (leb x p)) (take last_note row)) in
    let s : n ≡ k = u ∙ ap (λ o. unwrap_or o last_note) q ∙ found_or k last_note _ m l in
    (s ∙ place_found f p row e l, omega arith)

-- ---- a note's period
pub tuned_by : (f p n r : ℕ) → (f ≡ 0 → ⊥) → n ≡ place_of 0 p → r ≡ entry f n → r ≡ tuned f p
unfolding tuned
tuned_by f p n r z e q = rw (ne_eqb f 0 z, ← e) q

pub semitones_by : (f p n m by r : ℕ) → n ≡ place_of f p → m ≡ min (n + by) last_note → r ≡ entry f m → r ≡ semitones f p by
unfolding semitones
semitones_by f p n m by r e q s = rw (← e, ← q) s

-- ---- between a row's limits
ends_in_order : (f : ℕ) → least_of f ≤ greatest_of f
ends_in_order f = go (ltb last_finetune f) refl
  where
    go : (b : Bool) → ltb last_finetune f ≡ b → least_of f ≤ greatest_of f
    go true e = let h = ltb-true last_finetune f e in omega (arith, entry_none f last_note (omega arith))
    go false e = row_high f last_note (ltb-false last_finetune f e) (omega arith)

pub ends_by : (f : ℕ) (row : List ℕ) → row ≡ row_of f → record { first = get_or row 0 0; last = get_or row last_note 0 } ≡ ends_of f
ends_by f row e = rw (entry_in f 0 row e (omega arith), entry_in f last_note row e (omega arith))

module _ (f n : ℕ) (e : Ends) (q : e ≡ ends_of f) where
  first_is : e.first ≡ greatest_of f
  first_is = ap (λ (x : Ends). x.first) q

  last_is : e.last ≡ least_of f
  last_is = ap (λ (x : Ends). x.last) q

  pub in_order : e.last ≤ e.first
  in_order = rw (first_is, last_is) (ends_in_order f)

  pub kept_by : (r : ℕ) → r ≡ max e.last (min n e.first) → r ≡ kept f n
  unfolding kept
  kept_by r s =
      s ∙ rw (first_is, last_is)
      (either (λ x. max (least_of f) (min n (greatest_of f)) ≡ x) (ltb (greatest_of f) n) _ _
      (λ t. omega (arith, ltb-true (greatest_of f) n t, ends_in_order f))
      (λ t. either (λ x. max (least_of f) (min n (greatest_of f)) ≡ x) (ltb n (least_of f)) _ _ (λ u. omega (arith, ltb-false (greatest_of f) n t, ltb-true n (least_of f) u)) (λ u. omega (arith, ltb-false (greatest_of f) n t, ltb-false n (least_of f) u))))
