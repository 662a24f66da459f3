-- Both numbers are small enough that their sum is a signed number of 16 bits, which the machine stores as it is.
use Rattle.std.proofs.Common.{◌≡◌, ap₂, ℕ, ◌+◌, ◌<◌, List, length, ℤ, pos, ◌+ℤ◌, rules, arith}
use lib.Signed.{mag}
use mir.Syntax.{w16}
use mir.ValLaws.{to_z-of_z}
use Rattle.laws.specs.Each.{Parting, part_again}
use Rattle.laws.specs.Signed.{mag-add, reads_as, sfits_below, back}
use Rattle.runs.specs.Lines.{half16}
use Rattle.runs.specs.Cells.{number_at, Roomy, sum_at}
use Rattle.runs.proofs.scratch.add_to.Goals as goal

back_is : (x : ℤ) → mag x < half16 → back x ≡ x
back_is x h = to_z-of_z w16 x (sfits_below w16 h tt)

sum_is : (x y : ℤ) {b : ℕ} → mag x + b < half16 → mag y < b → back (back x +ℤ back y) ≡ x +ℤ y
sum_is x y {b} h k =
    let l : mag (x +ℤ y) < half16 = omega (arith, mag-add x y {a = mag x + 1} {b = b} (omega arith) k) in
    reads_as w16 (ap₂ ◌+ℤ◌ (back_is x (omega arith)) (back_is y (omega arith))) (sfits_below w16 l tt)

stored : (from to₀ to : List ℤ) (k : ℕ) → Roomy from to₀ (length to₀) → Parting (sum_at to₀ from) (number_at to₀) (pos 0) (length to₀) to k → k < length to₀ → back (back (number_at to k) +ℤ back (number_at from k)) ≡ sum_at to₀ from k
unfolding sum_at
stored from to₀ to k r m h = rw (m.rest k (omega arith)) (sum_is (number_at to₀ k) (number_at from k) (r.room k h) (r.small k h))

pub loop-k-preserved : goal.loop-k-preserved
loop-k-preserved c = search (part_again, stored, rules)
