-- None of the numbers passed passes the test.
use Rattle.std.proofs.Common.{ℕ, ◌≡◌, ◌<◌, Bool, false}
use Rattle.laws.specs.Ranges.{some}
use Rattle.reader.proofs.search.first.Given as goal

abbrev pub invariant-loop-i : goal.invariant-loop-i
invariant-loop-i g l =
    (p : ℕ → Bool) → ((i : ℕ) (b : Bool) → i < l.fn.n → goal.F-post g l.passes i b → b ≡ p i) → some p l.i ≡ false
