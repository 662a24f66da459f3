-- The function computes the definition; a quotient is at most its dividend.
use mathlib.Core.Path.{refl}
use native.Mathlib.Omega.{arith}
use Rattle.machine.specs.Lengths.{length_at}
use Rattle.machine.proofs.Laws.{frames_few}
use Rattle.machine.proofs.length_at.Goals as goal

pub overflow_cast-result : goal.overflow_cast-result
overflow_cast-result c = omega (arith, frames_few c.args.tempo c.args.remainder c.requires.1)

pub returns : goal.returns
unfolding length_at
returns c = (refl, frames_few c.args.tempo c.args.remainder c.requires.1)
