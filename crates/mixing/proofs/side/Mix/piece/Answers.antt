-- The left side moves its voices and no other, so that the right side's numbers are those from the piece's start.
use borrow.Author.Rules.{rules}
use native.Mathlib.Omega.{arith}
use Rattle.runs.specs.Cells.{number_at}
use Rattle.mixing.proofs.Piecing.{left_sounding, left_pacing, piece_moved, piece_woven, woven_mid}
use Rattle.mixing.proofs.side.Mix.piece.Goals as goal

pub side-requires-2-clause-voices : goal.side-requires-2-clause-voices
side-requires-2-clause-voices c =
    let s = c.requires.voices.sounding in
    record { sounding = left_sounding _ _ _ _ s _ _ c.side.ensures.moved; paced = left_pacing _ _ _ _ s _ _ c.side.ensures.moved _ c.requires.voices.paced }

pub returns-clause-moved : goal.returns-clause-moved
returns-clause-moved c = piece_moved _ _ _ _ c.requires.voices.sounding _ _ c.side.ensures.moved _ c.side-2.ensures.moved

pub returns-clause-woven : goal.returns-clause-woven
returns-clause-woven c = piece_woven _ _ _ _ c.requires.voices.sounding _ _ c.side.ensures.moved _ _ (number_at c.side.new.cells) (number_at c.side-2.new.cells) c.args.out.now _ c.side.ensures.numbers c.side-2.ensures.numbers (woven_mid _ _ _ _ _ _ (omega (arith, c.side.ensures.long)) (omega (arith, c.side-2.ensures.long)) (search rules) c.interleave.ensures)
