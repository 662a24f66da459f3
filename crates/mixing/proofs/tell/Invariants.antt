-- The channels so far are told; the others stay.
use Rattle.laws.specs.Each.{Parting}
use Rattle.common.specs.Limits.{width}
use Rattle.voice.specs.Frames.{blank}
use Rattle.mixing.specs.Sides.{voice_in, told_at}
use Rattle.mixing.proofs.tell.Given as goal

abbrev pub invariant-loop-i : goal.invariant-loop-i
invariant-loop-i l = Parting (told_at l.extents l.initial.voices l.commands) (voice_in l.initial.voices) blank width l.voices l.i
