-- Each entry is tested as the definition does.
use Rattle.std.proofs.Common.{rules}
use Rattle.laws.specs.Tests.{called, tests}
use Rattle.reader.specs.Judge.{bad_entry}
use Rattle.reader.proofs.headed.Headed.bad_entry.Goals as goal

pub returns-clause-found : goal.returns-clause-found
unfolding bad_entry
returns-clause-found c = c.first.ensures.found _ (λ i b l q. search (called, tests, rules))
