-- The loop: the bytes that are taken, followed by those that are left, are the call's (`Taking`). After a fault those that are left do nothing.
use borrow.Author.Rules.{rules}
use Rattle.std.proofs.Common.{arith, true, false, refl}
use Rattle.feed.proofs.Turns.{taking_none, taking_next, taking_few, taking_start, taken_all, full_few, taken_full, taking_more, taken_faulty}
use Rattle.feed.proofs.feeding.Feeding.feed.Goals.{then-loop-i-test+else-self-eq0, else-loop-i-test}
use Rattle.feed.proofs.feeding.Feeding.feed.Goals as goal

pub loop-i-init : goal.loop-i-init
loop-i-init c = search (taking_none, rules)

pub reply_since-requires : goal.reply_since-requires
reply_since-requires c = (taking_start c.loop-i.invariant, full_few c.loop-i.invariant true _ 0 _ _ (rw c.in_default.is at c.take_chunk.ensures.taken) refl)

pub returns-in_default : goal.returns-in_default
returns-in_default c = taken_full c.loop-i.invariant true _ 0 _ _ (rw c.in_default.is at c.take_chunk.ensures.taken) refl _ c.reply_since.ensures

pub overflow_add-at : goal.overflow_add-at
overflow_add-at c = taking_next c.loop-i.invariant false c.in-Some.chunk.next c.in-Some.chunk.size _ _ (rw c.in-Some.is at c.take_chunk.ensures.taken)

pub loop-i-smaller : goal.loop-i-smaller
loop-i-smaller c = let k = rw c.in-Some.is at c.take_chunk.ensures.taken in omega (arith, k.low, k.high)

pub loop-i-preserved : goal.loop-i-preserved
loop-i-preserved c = taking_more c.loop-i.invariant false c.in-Some.chunk.next c.in-Some.chunk.size _ _ (rw c.in-Some.is at c.take_chunk.ensures.taken) refl _ c.take_chunk.ensures.same

pub reply_since-requires-2 : goal.reply_since-requires-2
reply_since-requires-2 c = (taking_start c.loop-i.invariant, taking_few c.loop-i.invariant)

pub returns : goal.returns
returns c =
    elim c.loop-i-test.branch [ then-loop-i-test+else-self-eq0 w ↦ taken_faulty c.loop-i.invariant _ c.reply_since-2.ensures w.if-self-eq0.false | else-loop-i-test w ↦ taken_all c.loop-i.invariant _ c.reply_since-2.ensures w.loop-i-test.false ]
