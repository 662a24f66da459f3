-- A law for each answer, over what the tests before it showed.
use Rattle.player.proofs.Bursts.{burst_many, burst_short, burst_unequal, burst_taken, lists_equal, room_for}
use Rattle.std.proofs.Common.{rules}
use Rattle.player.proofs.touching.take_burst.Goals as goal

pub returns-then-most-gt-MOST_TOUCHES : goal.returns-then-most-gt-MOST_TOUCHES
returns-then-most-gt-MOST_TOUCHES c = search (burst_many, rules)

pub returns-then-answers-most : goal.returns-then-answers-most
returns-then-answers-most c = search (burst_short, rules)

pub returns-then-is_unequal : goal.returns-then-is_unequal
returns-then-is_unequal c = search (burst_unequal, rules)

pub take_each-requires-clause-equal : goal.take_each-requires-clause-equal
take_each-requires-clause-equal c = lists_equal _ _ _ _ c.is_unequal.ensures c.if-is_unequal.false

pub take_each-requires-clause-room : goal.take_each-requires-clause-room
take_each-requires-clause-room c = search (room_for, rules)

pub returns : goal.returns
returns c = search (burst_taken, rules)
