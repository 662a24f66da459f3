-- The loop: what is kept tells a bad cell where one of the pairs passed has one.
use Rattle.std.proofs.Common.{rules}
use Rattle.reader.proofs.Scan.{two_begin, two_again, two_end}
use Rattle.reader.proofs.headed.Headed.some_bad.Goals as goal

pub loop-i-init : goal.loop-i-init
loop-i-init c = two_begin _ _ _

pub loop-i-preserved : goal.loop-i-preserved
loop-i-preserved c = search (two_again, rules)

pub returns : goal.returns
returns c = search (two_end, rules)
