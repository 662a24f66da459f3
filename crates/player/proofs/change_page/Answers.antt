-- By the verdict: a refusal leaves the state, otherwise no line is left.
use Rattle.player.proofs.Admitted.{not_admitted, is_admitted}
use Rattle.common.specs.AnswerLaws.{no_line}
use Rattle.player.specs.Touch.{change_page_of}
use Rattle.std.proofs.Common.{rules}
use Rattle.player.proofs.change_page.Goals as goal

pub returns-in_err-admit : goal.returns-in_err-admit
unfolding change_page_of
returns-in_err-admit c = search (not_admitted, rules)

pub returns : goal.returns
unfolding change_page_of
returns c = search (is_admitted, no_line, rules)
