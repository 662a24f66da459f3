-- The records that are written, followed by those that are left, are all; each goes into the part of the room that begins where the last one ended.
use borrow.Author.Rules.{rules}
use Rattle.translator.proofs.Passing.{Steps, pass_long, writing_fits, writing_spellable, writing_next, writing_more, writing_laws}
use Rattle.translator.proofs.passes.write_records.Goals as goal

pub loop-i-init : goal.loop-i-init
loop-i-init c = search (writing_laws, rules)

pub invariant_of-record : goal.invariant_of-record
invariant_of-record c =
    let e : Steps c.loop-i.pass c.next_tick-told.new.self c.next_tick-told.result = search rules in
    let l = pass_long _ _ _ e in
    record { few = c.args.m.now.legal.channels; long = (search rules, l.1) }

pub slice_bounds-put-count : goal.slice_bounds-put-count
slice_bounds-put-count c = search (writing_laws, rules)

pub put-len-requires-clause-small : goal.put-len-requires-clause-small
put-len-requires-clause-small c =
    let e : Steps c.loop-i.pass c.next_tick-told.new.self c.next_tick-told.result = search rules in
    writing_spellable _ _ _ _ _ _ _ c.loop-i.invariant _ _ e

pub put-len-requires-clause-fits : goal.put-len-requires-clause-fits
put-len-requires-clause-fits c =
    let e : Steps c.loop-i.pass c.next_tick-told.new.self c.next_tick-told.result = search rules in
    writing_fits _ _ _ _ _ _ _ c.loop-i.invariant _ _ e c.loop-i-test.true

pub overflow_add-len : goal.overflow_add-len
overflow_add-len c =
    let e : Steps c.loop-i.pass c.next_tick-told.new.self c.next_tick-told.result = search rules in
    writing_next _ _ _ _ _ _ _ c.loop-i.invariant _ _ e c.loop-i-test.true _ c.put-len.ensures.long

pub loop-i-preserved : goal.loop-i-preserved
loop-i-preserved c =
    let e : Steps c.loop-i.pass c.next_tick-told.new.self c.next_tick-told.result = search rules in
    writing_more _ _ _ _ _ _ _ c.loop-i.invariant _ _ e c.loop-i-test.true _ c.put-len.ensures.long _ c.put-len.ensures.written (search rules)

pub returns-clause-long : goal.returns-clause-long
returns-clause-long c = search (writing_laws, rules)

pub returns-clause-written : goal.returns-clause-written
returns-clause-written c = search (writing_laws, rules)
