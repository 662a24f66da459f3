-- A law for each case of the frame.
use Rattle.floats.proofs.Storing.{gives_silence, gives_mono, gives_stereo}
use Rattle.floats.proofs.deliver_to.Goals as goal

pub returns-then-right-eq0 : goal.returns-then-right-eq0
returns-then-right-eq0 c = gives_silence _ _ c.ranges.left c.ranges.right _ c.if-left-eq0.true c.if-right-eq0.true

pub returns-in-One : goal.returns-in-One
returns-in-One c = gives_mono _ _ c.ranges.left c.ranges.right c.else-left-eq0.either _ _ c.in-One.is c.mono_number.ensures.number

pub returns-in-Two : goal.returns-in-Two
returns-in-Two c = gives_stereo _ _ c.ranges.left c.ranges.right c.else-left-eq0.either _ _ _ c.in-Two.is c.side_number.ensures.number c.side_number-in-Two.ensures.number
