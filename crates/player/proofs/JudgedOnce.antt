-- A burst is its single touches, though module and state are judged once (`judged_once`).
-- Assumes nothing.
use Rattle.std.specs.Prelude.{◌≡◌, ℕ, zero, suc, true, List, length, slice_index}
use Rattle.std.proofs.Math.Path.{refl, sym, ap, ap₂}
use Rattle.std.proofs.Common.{◌∙◌}
use Rattle.laws.specs.Each.{same_partly}
use Rattle.common.specs.Answers.{accepted, outcome}
use Rattle.reader.specs.File.{module_of, song_length}
use Rattle.reader.specs.Judge.{verdict}
use Rattle.player.specs.declared.State.{State}
use Rattle.player.specs.declared.Reply.{Reply}
use Rattle.player.specs.State.{legal_state, reply}
use Rattle.player.specs.Touch.{touch_of}
use Rattle.player.specs.Touching.{touch_from}
use Rattle.player.specs.Burst.{Burst, touch_at, state_through, answer_to, taken_from}
use Rattle.player.specs.Bursts.{through_keeps}
use Rattle.player.specs.Keeps.{touch_judged}

-- ---- a module and state that are judged once do for every touch of a burst
module _ (bytes : List ℕ) (e : (verdict (module_of bytes)).number ≡ 0) (burst : Burst) (s : State) (l : legal_state (module_of bytes) s ≡ true) where
  abbrev single : State → ℕ → ℕ → ℕ → Reply
  single = touch_of bytes

  abbrev inner : State → ℕ → ℕ → ℕ → Reply
  inner = touch_from (song_length (module_of bytes))

  once : (t : State) → legal_state (module_of bytes) t ≡ true → (page made position : ℕ) → inner t page made position ≡ single t page made position
  unfolding touch_from
  once t h page made position = sym (touch_judged bytes e t h page made position)

  by_state : (k : ℕ) → state_through inner burst s k ≡ state_through single burst s k → touch_at inner burst s k (state_through inner burst s k) ≡ touch_at single burst s k (state_through single burst s k)
  by_state k q = ap (touch_at inner burst s k) q ∙ once (state_through single burst s k) (through_keeps bytes burst s l k) _ _ _

  same_state : (k : ℕ) → state_through inner burst s k ≡ state_through single burst s k
  unfolding state_through
  same_state zero = refl
  same_state (suc k) = ap (λ (r : Reply). r.state) (by_state k (same_state k))

  same_answer : (k : ℕ) → answer_to inner burst s k ≡ answer_to single burst s k
  same_answer k = ap (λ (r : Reply). r.answer.number) (by_state k (same_state k))

  pub judged_once : (answers : List ℕ) → taken_from inner burst s answers ≡ taken_from single burst s answers
  unfolding taken_from
  judged_once answers =
      ap₂ (λ (t : State) (xs : List ℕ). outcome (reply (accepted (length burst.pages)) t) xs) (same_state (length burst.pages))
      (same_partly (answer_to inner burst s) (answer_to single burst s) (length burst.pages) (λ i. slice_index answers i) (length answers) (λ k h. same_answer k))
