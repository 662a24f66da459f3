-- The room's part that the stream player is lent: as long as the translator counted.
-- Assumes nothing.
use Rattle.std.specs.Prelude.{ℕ, ◌≤◌, ◌≡◌, List, length, take}
use Rattle.std.proofs.Common.{sym, arith, length-take-le}
use Rattle.common.specs.Answers.{outcome}
use Rattle.common.specs.declared.Answer.{Answer}
use Rattle.translator.specs.Translate.{translate_of}
use Rattle.translator.specs.Streams.{count_inside}

-- the part that the translator counted lies in the room
pub part_inside : (m : List ℕ) (n : ℕ) (t : Answer) (room room' : List ℕ) → outcome t room' ≡ translate_of m n room → length room' ≡ length room → t.count ≤ length room'
part_inside m n t room room' e l = omega (arith, count_inside m n room t room' e)

-- and a part that does has its length
pub part_length : (n : ℕ) (room : List ℕ) → n ≤ length room → n ≡ length (take n room)
part_length n room l = sym (length-take-le n room l)
