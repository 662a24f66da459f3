-- A law for each answer, over what the calls before it returned.
use Rattle.player.proofs.Verdicts.{admit_refused, admit_legal, admit_illegal}
use Rattle.std.proofs.Common.{rules}
use Rattle.player.proofs.legality.admit.Goals as goal

pub returns-in_err-module-clause-judged : goal.returns-in_err-module-clause-judged
returns-in_err-module-clause-judged c = search (admit_refused, rules)

pub returns-then-is_legal-clause-judged : goal.returns-then-is_legal-clause-judged
returns-then-is_legal-clause-judged c = search (admit_legal, rules)

pub returns-clause-judged : goal.returns-clause-judged
returns-clause-judged c = search (admit_illegal, rules)
