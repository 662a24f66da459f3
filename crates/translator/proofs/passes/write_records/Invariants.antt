-- The records that are written, followed by those that are left, are all; each goes into the part of the room that begins where the last one ended.
use Rattle.translator.proofs.Passing.{Writing}
use Rattle.translator.proofs.passes.write_records.Given as goal

abbrev pub invariant-loop-i : goal.invariant-loop-i
invariant-loop-i l = Writing l.m l.fn.ticks l.initial.room l.room l.pass l.len l.i
