-- The voices move by the tick's length.
use Rattle.std.proofs.Common.{ap}
use Rattle.machine.specs.declared.sounder.Integers.{Integers}
use Rattle.machine.proofs.Laws.{tick_passed}
use Rattle.machine.proofs.sounder.Integers.pass_tick.Goals as goal

pub returns-clause-moved : goal.returns-clause-moved
returns-clause-moved c =
    tick_passed _ _ _ _ _ _ _ c.carried_at-begins.ensures.0 c.length_at-frames.ensures.0 _ _ (rw c.args.self.now.module.now.table at c.pass_by.ensures) (ap (λ (s : Integers). s.machine) c.rest.ensures)
