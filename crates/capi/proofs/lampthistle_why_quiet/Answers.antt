-- The answer's cells are those of the answer that `why_quiet` ensures.
use borrow.Author.Rules.{rules}
use Rattle.capi.proofs.Calls.{quiet_said}
use Rattle.capi.proofs.lampthistle_why_quiet.Goals as goal

pub returns : goal.returns
returns c = search (quiet_said, rules)
