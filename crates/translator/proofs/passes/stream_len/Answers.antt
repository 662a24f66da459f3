-- The records that are counted, followed by those that are left, are all.
use borrow.Author.Rules.{rules}
use Rattle.translator.proofs.Passing.{Steps, pass_next, pass_long, pass_laws}
use Rattle.translator.proofs.passes.stream_len.Goals as goal

pub loop-i-init : goal.loop-i-init
loop-i-init c = search (pass_laws, rules)

pub invariant_of-record : goal.invariant_of-record
invariant_of-record c =
    let e : Steps c.loop-i.pass c.next_tick-tick.new.self c.next_tick-tick.result = search rules in
    record { few = c.args.m.now.legal.channels; long = pass_long _ _ _ e }

pub overflow_add-len : goal.overflow_add-len
overflow_add-len c =
    let e : Steps c.loop-i.pass c.next_tick-tick.new.self c.next_tick-tick.result = search rules in
    pass_next _ _ _ _ _ c.loop-i.invariant _ _ e c.loop-i-test.true _ c.len-len.ensures.0

pub loop-i-preserved : goal.loop-i-preserved
loop-i-preserved c = search (pass_laws, rules)

pub overflow_add-result : goal.overflow_add-result
overflow_add-result c = search (pass_laws, rules)

pub returns : goal.returns
returns c = search (pass_laws, rules)
