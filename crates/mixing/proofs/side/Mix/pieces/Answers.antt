-- The frames of the pieces so far are woven, and the voices are those after them; a piece goes on from there.
use native.Mathlib.Omega.{arith}
use Rattle.mixing.proofs.Piecing.{piecing_none, piecing_sounding, piecing_pacing, piecing_more, piece_at, piece_next}
use Rattle.mixing.proofs.side.Mix.pieces.Goals as goal

pub loop-k-init : goal.loop-k-init
loop-k-init c = piecing_none _ _ _ _ _ _ _ (omega arith) c.told-voices

pub piece-requires-clause-voices : goal.piece-requires-clause-voices
piece-requires-clause-voices c =
    let s = c.requires.voices.sounding in
    record { sounding = piecing_sounding s c.loop-k.invariant; paced = piecing_pacing s c.loop-k.invariant _ c.requires.voices.paced }

pub loop-k-preserved : goal.loop-k-preserved
loop-k-preserved c = piecing_more c.requires.voices.sounding c.loop-k.invariant _ _ _ _ _ (omega (arith, piece_at c.args.frames c.loop-k.k)) (omega (arith, piece_next c.args.frames c.loop-k.k)) c.piece.ensures.moved c.piece.ensures.woven
