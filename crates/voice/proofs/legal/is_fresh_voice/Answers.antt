-- The fresh voice's fields are those that the definition asks for.
use Rattle.voice.proofs.AllLegal.{fresh_by_fields}
use Rattle.voice.proofs.legal.is_fresh_voice.Goals as goal

pub returns : goal.returns
returns c = fresh_by_fields _ _ (rw c.default.ensures at c.eq.ensures)
