-- Before the end fewer bytes are in than are declared.
use Rattle.arrival.proofs.Laws.{step_few}
use Rattle.arrival.proofs.Arrival.step.Goals as goal

pub record_step-requires-clause-few : goal.record_step-requires-clause-few
record_step-requires-clause-few c = step_few c.args.self.now _ _ c.keep.ensures c.requires c.if-self-ne0.false c.is_ended.ensures.1
