-- The channels so far are told and moved by all frames; the others stay.
use Rattle.laws.specs.Each.{Parting}
use Rattle.common.specs.Limits.{width}
use Rattle.reader.specs.Modules.{as_module}
use Rattle.voice.specs.Modules.{samples_in}
use Rattle.voice.specs.Frames.{blank, moved_at}
use Rattle.mixing.specs.Sides.{voice_in}
use Rattle.mixing.proofs.pass_by.Given as goal

abbrev pub invariant-loop-i : goal.invariant-loop-i
invariant-loop-i l = Parting (moved_at (samples_in (as_module l.m) l.m.extents) l.initial.voices l.commands l.frames) (voice_in l.initial.voices) blank width l.voices l.i
