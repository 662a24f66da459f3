-- The three tests are those of the definition.
use Rattle.player.proofs.Verdicts.{state_tested}
use Rattle.std.proofs.Common.{rules}
use Rattle.player.proofs.legality.legal_state.Goals as goal

pub returns : goal.returns
returns c = search (state_tested, rules)
