-- What the loop over the channels begins with.
-- Assumes nothing.
use Rattle.std.specs.Prelude.{◌≡◌, List, length, replicate}
use Rattle.common.specs.Limits.{width}
use Rattle.ticks.specs.Commands.{nothing}
use Rattle.effects.specs.declared.Channel.{Channel}
use Rattle.sequencer.specs.declared.AllVoiced.{AllVoiced}

pub record BeforeWork (channels : List Channel) (all : AllVoiced) : Type 0 where
  pub same : all.channels ≡ channels
  pub long : length channels ≡ width
  pub none : all.commands ≡ replicate width nothing
