-- A burst keeps a legal state legal (`burst_keeps`).
-- Assumes nothing.
use Rattle.std.specs.Prelude.{◌≡◌, ℕ, true, List, length}
use Rattle.common.specs.AnswerLaws.{refusing_has}
use Rattle.common.specs.Answers.{Outcome}
use Rattle.reader.specs.File.{module_of}
use Rattle.player.specs.declared.State.{State}
use Rattle.player.specs.declared.Reply.{Reply}
use Rattle.player.specs.State.{legal_state}
use Rattle.player.specs.Burst.{Burst, taken_from, burst_of}
use Rattle.player.specs.Bursts.{through_keeps}

module _ (bytes : List ℕ) (b : Burst) (s : State) (l : legal_state (module_of bytes) s ≡ true) where
  -- a burst keeps a state legal, whether it is accepted or refused
  pub burst_keeps : (answers : List ℕ) → legal_state (module_of bytes) (burst_of bytes s b answers).reply.state ≡ true
  unfolding burst_of taken_from
  burst_keeps answers = refusing_has (λ (o : Outcome Reply ℕ). legal_state (module_of bytes) o.reply.state ≡ true) _ _ _ (λ number place. l) (λ p. through_keeps bytes b s l (length b.pages))
