-- The channels of the layout that the tag names.
use mathlib.Core.Path.{ap}
use Rattle.reader.specs.declared.Layout.{Layout}
use Rattle.capi.proofs.lampthistle_channels.Goals as goal

pub returns : goal.returns
returns c = ap (λ (l : Layout). l.channels) c.layout_of-layout.ensures.value
