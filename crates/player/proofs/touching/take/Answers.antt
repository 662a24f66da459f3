-- A law for each answer, over what the tests before it showed.
use Rattle.player.proofs.Touches.{touch_elsewhere, touch_old, touch_past, touch_accepted}
use Rattle.std.proofs.Common.{rules}
use Rattle.player.proofs.touching.take.Goals as goal

pub returns-then-touch-desk : goal.returns-then-touch-desk
returns-then-touch-desk c = search (touch_elsewhere, rules)

pub returns-then-age-gt-OLDEST : goal.returns-then-age-gt-OLDEST
returns-then-age-gt-OLDEST c = search (touch_old, rules)

pub returns-then-touch-positions : goal.returns-then-touch-positions
returns-then-touch-positions c = search (touch_past, rules)

pub returns : goal.returns
returns c = search (touch_accepted, rules)
