-- The rules of the printed numbers, each shown by one computed test over all of them. Every entry lies in 108 to 907 (`entry_legal`; past the table
-- 0, `entry_none`, so that none is above, `entry_most`), and both are printed (`least_printed`, `greatest_printed`): they are the least and the greatest. Rows fall (`row_falls`), so a row's first entry is its
-- greatest (`row_high`) and its last its least (`row_low`). A step at 74 or more stays below one byte (`voice/specs/Kept.antt: step_below`).
-- Assumes nothing.
use Rattle.std.specs.Prelude.{ℕ, zero, suc, ◌+◌, ◌-◌, ◌*◌, ◌%◌, ◌≤◌, ◌<◌, ◌≡◌, refl, Bool, true, false, ◌||◌, eqb, ltb, length, get_or}
use Rattle.std.proofs.Common.{add-zero, zero-add, add-suc, le_refl, arith, ltb-true, ltb-false, ne_eqb}
use Rattle.std.proofs.Math.ListN.{get_or-eq_default}
use Rattle.laws.specs.Ranges.{every}
use Rattle.laws.specs.Every.{every_at}
use Rattle.common.specs.Limits.{least_period, greatest_period, between}
use Rattle.common.specs.LimitFacts.{between_has, Between}
use Rattle.tuning.specs.Table.{last_finetune, row_length, last_note, printed, entry, greatest_of, least_of}

-- how many are printed
abbrev printed_count : ℕ
printed_count = row_length * suc last_finetune

-- ---- every number is a legal period
abbrev sounds : ℕ → Bool
sounds k = between least_period greatest_period (get_or printed k 0)

all_sound : every sounds printed_count ≡ true
unfolding every printed
all_sound = refl

pub entry_legal : (f i : ℕ) → f ≤ last_finetune → i ≤ last_note → Between least_period greatest_period (entry f i)
unfolding entry
entry_legal f i h l = between_has least_period greatest_period _ (every_at sounds (row_length * f + i) printed_count all_sound (omega arith))

-- past the table a number reads as 0
pub entry_none : (f i : ℕ) → printed_count ≤ row_length * f + i → entry f i ≡ 0
unfolding entry printed
entry_none f i h = let past : length printed ≤ row_length * f + i = omega arith in get_or-eq_default printed 0 past

-- so no entry of any row is above the greatest period
pub entry_most : (f i : ℕ) → entry f i ≤ greatest_period
unfolding entry
entry_most f i = go (ltb (row_length * f + i) printed_count) refl
  where
    go : (b : Bool) → ltb (row_length * f + i) printed_count ≡ b → entry f i ≤ greatest_period
    go true e = (between_has least_period greatest_period _ (every_at sounds (row_length * f + i) printed_count all_sound (ltb-true _ _ e))).high
    go false e = omega (arith, entry_none f i (ltb-false _ _ e))

-- ---- the least and the greatest are printed
pub least_printed : entry 7 last_note ≡ least_period
unfolding entry printed
least_printed = refl

pub greatest_printed : entry 8 0 ≡ greatest_period
unfolding entry printed
greatest_printed = refl

-- ---- rows fall
abbrev falls : ℕ → Bool
falls k = eqb (k % row_length) last_note || ltb (get_or printed (suc k) 0) (get_or printed k 0)

all_fall : every falls printed_count ≡ true
unfolding every printed
all_fall = refl

pub row_falls : (f i : ℕ) → f ≤ last_finetune → i < last_note → entry f (suc i) < entry f i
unfolding entry
row_falls f i h l =
    simp add-suc (
    let k = row_length * f + i in
    let p : k % row_length ≡ i = omega arith in
    let other : eqb (k % row_length) last_note ≡ false = rw p (ne_eqb i last_note (λ (e : i ≡ last_note). omega arith)) in
    let t : falls k ≡ true = every_at falls k printed_count all_fall (omega arith) in
    ltb-true _ _ (rw other at t))

-- so an entry further on is no greater
falls_on : (f i d : ℕ) → f ≤ last_finetune → i + d ≤ last_note → entry f (i + d) ≤ entry f i
falls_on f i zero h l = rw (add-zero i) (le_refl (entry f i))
falls_on f i (suc d) h l =
    let next : entry f (suc (i + d)) < entry f (i + d) = row_falls f (i + d) h (omega arith) in
    let before = falls_on f i d h (omega arith) in
    rw (add-suc i d) (let r : entry f (suc (i + d)) ≤ entry f i = omega arith in r)

pub row_high : (f i : ℕ) → f ≤ last_finetune → i ≤ last_note → entry f i ≤ greatest_of f
row_high f i h l = rw (zero-add i) at (falls_on f 0 i h (rw (zero-add i) l))

pub row_low : (f i : ℕ) → f ≤ last_finetune → i ≤ last_note → least_of f ≤ entry f i
row_low f i h l =
    let e : i + (last_note - i) ≡ last_note = omega arith in
    rw e at (falls_on f i (last_note - i) h (omega arith))
