-- The records that are counted, followed by those that are left, are all.
use Rattle.translator.proofs.Passing.{Passing}
use Rattle.translator.proofs.passes.stream_len.Given as goal

abbrev pub invariant-loop-i : goal.invariant-loop-i
invariant-loop-i l = Passing l.m l.fn.ticks l.pass l.len l.i
