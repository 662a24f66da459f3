-- Each field is the cell that the definition names, or what its call gives.
use Rattle.cells.proofs.voice_of.Goals as goal

pub returns : goal.returns
returns c = rw (c.word_number-2.ensures, c.word_number.ensures, c.byte_number.ensures, c.sample_unless.ensures)
