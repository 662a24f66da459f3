-- No voice sounds: the frames are zeros. Otherwise the pieces together are the frames, and the voices after them all that moved.
use borrow.Author.Rules.{rules}
use Rattle.laws.specs.Tests.{called}
use Rattle.mixing.proofs.Piecing.{sounding_period}
use Rattle.mixing.proofs.Mixing.{scale_legal, told_sounding, pieces_moved, pieces_mixed, silent_moved, silent_mixed}
use Rattle.mixing.proofs.mix_into.Goals as goal

pub returns-then-quiet-clause-moved : goal.returns-then-quiet-clause-moved
returns-then-quiet-clause-moved c = silent_moved _ _ _ _ _ c.args.m.now.legal c.requires.ready _ _ c.named-extents.ensures c.tell.ensures (called _ _ _ c.quiet.ensures c.if-quiet.true) _

pub returns-then-quiet-clause-mixed : goal.returns-then-quiet-clause-mixed
returns-then-quiet-clause-mixed c = silent_mixed _ _ _ _ _ c.args.m.now.legal c.requires.ready _ _ c.named-extents.ensures c.tell.ensures (called _ _ _ c.quiet.ensures c.if-quiet.true) c.args.frames c.args.out.now _ (search rules)

pub paces_of-requires-clause-by_index : goal.paces_of-requires-clause-by_index
paces_of-requires-clause-by_index c = sounding_period _ _ _ _ (told_sounding _ _ _ _ _ c.args.m.now.legal c.requires.ready _ _ c.named-extents.ensures c.tell.ensures)

pub invariant_of-mix : goal.invariant_of-mix
invariant_of-mix c = record { bytes = c.args.m.now.bytes; few = c.args.m.now.legal.channels; sides = scale_legal _ _ _ _ _ c.args.m.now.legal c.requires.ready _ c.scale.ensures }

pub pieces-requires-clause-voices : goal.pieces-requires-clause-voices
pieces-requires-clause-voices c = record { paced = c.paces_of.ensures; sounding = told_sounding _ _ _ _ _ c.args.m.now.legal c.requires.ready _ _ c.named-extents.ensures c.tell.ensures }

pub returns-clause-moved : goal.returns-clause-moved
returns-clause-moved c = pieces_moved _ _ _ _ _ c.args.m.now.legal c.requires.ready _ _ c.named-extents.ensures c.tell.ensures _ _ c.pieces.ensures.moved

pub returns-clause-mixed : goal.returns-clause-mixed
returns-clause-mixed c = pieces_mixed _ _ _ _ _ c.args.m.now.legal c.requires.ready _ _ c.named-extents.ensures c.tell.ensures _ _ _ _ c.scale.ensures c.requires.fits c.pieces.ensures.woven
