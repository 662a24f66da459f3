-- What holds of a burst: a refused one changes nothing (`burst_refused_state`, `burst_refused_answers`), and each of its touches meets a legal
-- state. That it keeps a legal state legal follows in proofs/BurstKeeps.
-- Assumes nothing.
use Rattle.std.specs.Prelude.{◌≡◌, ℕ, zero, suc, true, List}
use Rattle.std.proofs.Math.Path.{refl}
use Rattle.common.specs.AnswerLaws.{refused_keeps}
use Rattle.common.specs.Answers.{Outcome}
use Rattle.reader.specs.File.{module_of}
use Rattle.player.specs.declared.State.{State}
use Rattle.player.specs.declared.Reply.{Reply}
use Rattle.player.specs.State.{legal_state}
use Rattle.player.specs.Touch.{touch_of}
use Rattle.player.specs.Burst.{Burst, state_through, taken_from, burst_of}
use Rattle.player.specs.Keeps.{touched_keeps}

-- ---- a refusal changes nothing
module _ (bytes : List ℕ) (s : State) (b : Burst) (answers : List ℕ) (h : (burst_of bytes s b answers).reply.answer.number ≡ 0 → ⊥) where
  -- a refused burst leaves the state as it stood
  pub burst_refused_state : (burst_of bytes s b answers).reply.state ≡ s
  unfolding burst_of taken_from
  burst_refused_state = refused_keeps (λ (o : Outcome Reply ℕ). o.reply.answer.number) (λ (o : Outcome Reply ℕ). o.reply.state) s _ _ _ refl (λ number place. refl) h

  -- and every answer cell
  pub burst_refused_answers : (burst_of bytes s b answers).out ≡ answers
  unfolding burst_of taken_from
  burst_refused_answers = refused_keeps (λ (o : Outcome Reply ℕ). o.reply.answer.number) (λ (o : Outcome Reply ℕ). o.out) answers _ _ _ refl (λ number place. refl) h

-- ---- legality
module _ (bytes : List ℕ) (b : Burst) (s : State) (l : legal_state (module_of bytes) s ≡ true) where
  -- each touch meets a legal state
  pub through_keeps : (k : ℕ) → legal_state (module_of bytes) (state_through (touch_of bytes) b s k) ≡ true
  unfolding state_through
  through_keeps zero = l
  through_keeps (suc k) = touched_keeps bytes (state_through (touch_of bytes) b s k) (through_keeps k) _ _ _
