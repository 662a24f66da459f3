-- Each field is what its call gives.
use Rattle.cells.proofs.wave_of.Goals as goal

pub returns : goal.returns
returns c = cc
