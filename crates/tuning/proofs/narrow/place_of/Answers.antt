-- The search along the row.
use Rattle.std.proofs.Common.{rules, tests, leb}
use Rattle.std.proofs.lemmas.Iterator.{YieldsList-from_slice}
use Rattle.std.proofs.lemmas.Iterator.Search.{position_from_yields_List}
use Rattle.tuning.proofs.Places.{place_by}
use Rattle.tuning.proofs.narrow.place_of.Goals as goal

pub returns : goal.returns
returns c =
    place_by _ _ _ c.position.result _ c.row_of-row.ensures
    (position_from_yields_List (λ x. leb x c.args.period) _ _ _ c.position.ensures.ran (YieldsList-from_slice _ c.iter.ensures.rest) (λ x b q k. search (rules, tests))) c.unwrap_or.ensures
