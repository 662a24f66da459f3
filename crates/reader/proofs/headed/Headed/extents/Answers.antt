-- The loop: the table is filled up to a sample number, and the next sample begins where the last ended.
use Rattle.std.proofs.Common.{rules, refl, arith}
use Rattle.reader.proofs.Extents.{listed_begin, listing}
use Rattle.reader.proofs.headed.Headed.extents.Goals as goal

pub loop-k-init : goal.loop-k-init
loop-k-init c = listed_begin _ _ c.default-table.result _ _ refl (search (c.default-table.ensures, rules)) c.pattern_count.ensures.0 c.sample_behind-from.ensures.0 (omega (arith, c.sample_behind-from.ensures.1))

pub loop-k-preserved : goal.loop-k-preserved
loop-k-preserved c = search (listing, rules)

pub returns : goal.returns
returns c = search (listing, rules)
