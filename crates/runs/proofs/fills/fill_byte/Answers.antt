-- One fill, or two in a row.
use Rattle.std.proofs.Common.{rules, arith}
use Rattle.runs.proofs.Filling.{byte_once, byte_twice}
use Rattle.runs.proofs.fills.fill_byte.Goals as goal

pub returns-then-growth-lt-QUICK : goal.returns-then-growth-lt-QUICK
returns-then-growth-lt-QUICK c = byte_twice c.args.y _ _ _ (omega arith) (search rules) c.if-growth-lt-QUICK.true _ (omega arith) (search rules)

pub returns-else-growth-lt-QUICK : goal.returns-else-growth-lt-QUICK
returns-else-growth-lt-QUICK c = byte_once c.args.y _ _ _ (omega arith) (search rules) c.if-growth-lt-QUICK.false
