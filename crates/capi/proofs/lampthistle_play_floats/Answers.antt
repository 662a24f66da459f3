-- The answer's, the state's and the record's cells and the buffer are those of the outcome that `play_floats` ensures.
use Rattle.capi.proofs.Floats.{floats_answered, floats_stated, floats_paired, floats_ticked, floats_left}
use borrow.Author.Rules.{rules}
use Rattle.capi.proofs.lampthistle_play_floats.Goals as goal

pub returns-clause-answered : goal.returns-clause-answered
returns-clause-answered c = search (floats_answered, rules)

pub returns-clause-stated : goal.returns-clause-stated
returns-clause-stated c = search (floats_stated, rules)

pub returns-clause-paired : goal.returns-clause-paired
returns-clause-paired c = search (floats_paired, rules)

pub returns-clause-ticked : goal.returns-clause-ticked
returns-clause-ticked c = search (floats_ticked, rules)

pub returns-clause-sounded : goal.returns-clause-sounded
returns-clause-sounded c = search (floats_left, rules)
