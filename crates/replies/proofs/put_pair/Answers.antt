-- The record's cells are the last left and right and their tick, or on a refusal those that were there.
use Rattle.replies.proofs.Refusals.{kept_pair, kept_tick, new_pair, new_tick}
use borrow.Author.Rules.{rules}
use Rattle.replies.proofs.put_pair.Goals as goal

pub returns-then-a-ne0-clause-paired : goal.returns-then-a-ne0-clause-paired
returns-then-a-ne0-clause-paired c = search (kept_pair, rules)

pub returns-then-a-ne0-clause-ticked : goal.returns-then-a-ne0-clause-ticked
returns-then-a-ne0-clause-ticked c = search (kept_tick, rules)

pub returns-clause-paired : goal.returns-clause-paired
returns-clause-paired c = search (new_pair, rules)

pub returns-clause-ticked : goal.returns-clause-ticked
returns-clause-ticked c = search (new_tick, rules)
