-- Each register is its voice's.
use Rattle.std.proofs.Common.{get_or}
use Rattle.laws.specs.Each.{each_by}
use Rattle.common.specs.Limits.{width}
use Rattle.ticks.specs.Commands.{nothing}
use Rattle.voice.specs.Frames.{blank}
use Rattle.feed.specs.Feed.{register_of, registers_of}
use Rattle.feed.proofs.facts.registers.Goals as goal

pub returns : goal.returns
unfolding registers_of
returns c =
    each_by (λ i. register_of (get_or c.args.machine.now.voices i blank)) width nothing c.map.result c.map.ensures.items.long
    (λ k h. let x = c.map.ensures.items.at k blank nothing h in x.2.met)
