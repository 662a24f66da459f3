-- The cells of the state that `fresh` ensures.
use Rattle.capi.proofs.lampthistle_fresh.Goals as goal

pub returns : goal.returns
returns c = cc
