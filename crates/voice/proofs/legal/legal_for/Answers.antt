-- The voices of all channels are judged, by the module's layout and extents.
use Rattle.voice.proofs.legal.legal_for.Goals as goal

pub returns : goal.returns
returns c = c.all_legal.ensures
