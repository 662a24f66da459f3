-- Every channel answers for itself.
use Rattle.std.proofs.Common.{rules, ◌∙◌, refl}
use Rattle.std.proofs.lemmas.Iterator.{YieldsList-from_range}
use Rattle.std.proofs.lemmas.Iterator.Search.{all_from_yields_List}
use Rattle.laws.specs.Tests.{tests}
use Rattle.common.specs.Limits.{width}
use Rattle.sequencer.specs.Legal.{legal_at}
use Rattle.sequencer.proofs.Laws.{every_list}
use Rattle.sequencer.proofs.legality.legal_channels.Goals as goal

pub returns : goal.returns
unfolding legal_at
returns c =
    all_from_yields_List (legal_at c.args.layout c.args.all) _ _ c.all.result c.all.ensures.ran (YieldsList-from_range 0 width width refl refl) (λ x b q k. search (rules, tests)) ∙ every_list _ width
