-- The loop goes byte by byte: when a byte's number is written, the next byte begins no later than the cells that it was written into end.
use Rattle.std.proofs.Common.{rules, arith}
use Rattle.voice_runs.proofs.Bytewise.{next_fits, next_less, bytewise_more}
use Rattle.voice_runs.proofs.bytes.fill_line.Goals as goal

pub overflow_add-due-in-loop-cell : goal.overflow_add-due-in-loop-cell
overflow_add-due-in-loop-cell c = next_fits _ _ _ _ _ c.args.count _ c.requires.pace (omega arith) (omega arith) _ _ _ _ c.loop-cell.invariant c.loop-cell-test.true

pub loop-cell-smaller : goal.loop-cell-smaller
loop-cell-smaller c = next_less _ _ _ _ _ c.args.count _ c.requires.pace (omega arith) (omega arith) _ _ _ _ c.loop-cell.invariant c.loop-cell-test.true

pub loop-cell-preserved : goal.loop-cell-preserved
loop-cell-preserved c =
    bytewise_more _ _ _ _ _ c.args.count _ c.requires.pace (omega arith) (omega arith) _ _ _ _ c.loop-cell.invariant c.loop-cell-test.true _ _ (search rules) (omega arith) c.fill_byte.ensures
