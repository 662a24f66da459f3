-- The bytes of a whole stream, and what the call that judges them answers.
-- Assumes nothing.
use Rattle.std.specs.Prelude.{ℕ, ◌≡◌, Bool, true, false, List, [], Result, Ok, Err}
use Rattle.common.specs.Answers.{accepted, refusal}
use Rattle.common.specs.declared.Answer.{Answer}
use Rattle.common.specs.declared.refusals.Refusal.{Refusal}
use Rattle.ticks.specs.declared.Tick.{Tick}
use Rattle.records.specs.Format.{Decoded, ticks, decode}
use Rattle.records.specs.Format.Decoded.{refusal as refused_at}

-- whether a stream is not refused
unfoldable pub has_ticks : Decoded → Bool
has_ticks (refused_at number place) = false
has_ticks (ticks ts) = true

-- the ticks, none where it is refused
unfoldable pub ticks_in : Decoded → List Tick
ticks_in (refused_at number place) = []
ticks_in (ticks ts) = ts

-- the bytes decode to ticks, for samples to the last and so many channels
abbrev pub Whole : ℕ → ℕ → List ℕ → Type 0
Whole last c s = has_ticks (decode last c s) ≡ true

-- the answer of a call that judges, and returns what it judged
abbrev pub verdict_of : {A : Type 0} → Result A Refusal → Answer
verdict_of (Ok _) = accepted 0
verdict_of (Err e) = refusal e
