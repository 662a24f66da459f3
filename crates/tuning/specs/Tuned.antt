-- What a finetune does to periods: the note that a cell's period becomes, the row's limits, and semitones in the row.
-- Assumes nothing.
use Rattle.std.specs.Prelude.{ℕ, ◌+◌, min, cond, eqb, leb, ltb}
use Rattle.laws.specs.Ranges.{first}
use Rattle.tuning.specs.Table.{last_note, entry, greatest_of, least_of}

-- the place where a row is first at or below a period; from beyond its last, the last
unfoldable pub place_of : ℕ → ℕ → ℕ
place_of f p = first (λ i. leb (entry f i) p) last_note

-- a started or targeted note with finetune other than 0 takes the entry of its row at the place where the finetune 0 row is first at or below
-- the cell's period
unfoldable pub tuned : ℕ → ℕ → ℕ
tuned f p = cond (eqb f 0) p (entry f (place_of 0 p))

-- between the row's first and last entries: a result outside becomes the nearer
unfoldable pub kept : ℕ → ℕ → ℕ
kept f n = cond (ltb (greatest_of f) n) (greatest_of f) (cond (ltb n (least_of f)) (least_of f) n)

-- arpeggio runs in the row: take the first entry at or below the period, go on k, at most to the last
unfoldable pub semitones : ℕ → ℕ → ℕ → ℕ
semitones f p k = entry f (min (place_of f p + k) last_note)
