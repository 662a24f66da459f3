-- Each field is what its call gives.
use Rattle.cells.proofs.channel_of.Goals as goal

pub returns : goal.returns
returns c = rw (c.wave_of-2.ensures, c.wave_of.ensures, c.word_number-2.ensures, c.word_number.ensures, c.byte_number-2.ensures, c.byte_number.ensures, c.finetune_of.ensures, c.sample_unless.ensures)
