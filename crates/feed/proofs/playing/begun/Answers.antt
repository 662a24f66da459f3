-- A remainder that the tick does not begin with is left out (`Begun`).
use borrow.Author.Rules.{rules}
use Rattle.feed.proofs.Laws.{begun_on, begun_new, begun_old}
use Rattle.feed.proofs.playing.begun.Goals.{else-keeps-via-then-keeps+else-tempo-machine, else-keeps-via-else-keeps}
use Rattle.feed.proofs.playing.begun.Goals as goal

pub returns-then-tempo-machine : goal.returns-then-tempo-machine
returns-then-tempo-machine c = search (begun_on, rules)

pub returns : goal.returns
returns c = elim c.else-keeps.branch [ else-keeps-via-then-keeps+else-tempo-machine w ↦ search (begun_new, rules) | else-keeps-via-else-keeps w ↦ search (begun_old, rules) ]
