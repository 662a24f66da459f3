-- Each loop is tested by the call.
use Rattle.std.proofs.Common.{rules}
use Rattle.laws.specs.Tests.{called, tests}
use Rattle.reader.proofs.headed.Headed.bad_loop.Goals as goal

pub returns-clause-found : goal.returns-clause-found
returns-clause-found c = c.first.ensures.found _ (λ i b l q. search (called, tests, rules))
