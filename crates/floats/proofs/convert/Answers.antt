-- The loop: the numbers that are stored, followed by those of the pairs that are left, are the whole (`Going`).
use Rattle.std.proofs.Common.{rules, arith}
use Rattle.floats.specs.Asked.{sides_some, sides_few}
use Rattle.floats.proofs.Converting.{pair_more, pair_none, pair_there, going_begin, going_room, going_next, going_again, going_last, going_out}
use Rattle.floats.proofs.convert.Goals as goal

pub loop-pair-init : goal.loop-pair-init
loop-pair-init c = going_begin _ _ _ _ _ (sides_some c.args.sides, sides_few c.args.sides) c.requires (search rules)

pub store-requires : goal.store-requires
store-requires c =
    let p = c.as_chunks.ensures in
    going_room _ _ _ _ _ _ _ _ _ c.loop-pair.invariant (pair_more _ _ p.front p.front_len _ c.loop-pair-test.true) _ (pair_there _ _ p.front p.front_len _ c.loop-pair-test.true) (search rules) (search rules) _ c.deliver_to.ensures

pub overflow_add-at : goal.overflow_add-at
overflow_add-at c =
    let p = c.as_chunks.ensures in
    rw c.count-at.ensures
    (going_next _ _ _ _ _ _ _ _ _ c.loop-pair.invariant (pair_more _ _ p.front p.front_len _ c.loop-pair-test.true) _ (pair_there _ _ p.front p.front_len _ c.loop-pair-test.true) (search rules) (search rules) _ c.deliver_to.ensures)

pub loop-pair-preserved : goal.loop-pair-preserved
loop-pair-preserved c =
    let p = c.as_chunks.ensures in
    rw c.count-at.ensures
    (going_again _ _ _ _ _ _ _ _ _ c.loop-pair.invariant (pair_more _ _ p.front p.front_len _ c.loop-pair-test.true) _ (pair_there _ _ p.front p.front_len _ c.loop-pair-test.true) (search rules) (search rules) _ c.deliver_to.ensures _ _ c.store.ensures c.pair_at-last.ensures _ (omega arith))

pub returns-clause-last : goal.returns-clause-last
returns-clause-last c = let p = c.as_chunks.ensures in going_last _ _ _ _ _ _ _ _ _ c.loop-pair.invariant (pair_none _ _ p.front p.front_len _ c.loop-pair-test.false)

pub returns-clause-written : goal.returns-clause-written
returns-clause-written c = let p = c.as_chunks.ensures in going_out _ _ _ _ _ _ _ _ _ c.loop-pair.invariant (pair_none _ _ p.front p.front_len _ c.loop-pair-test.false) c.requires
