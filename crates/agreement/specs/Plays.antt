-- What sounds on any machine: a play of a state's first n ticks, as many as fit, is what the demand asks of a player (`plays_sounds`).
-- Assumes nothing.
use Rattle.std.specs.Prelude.{ℕ, ◌≤◌, ◌≡◌, refl, List, length, take, drop}
use Rattle.std.proofs.Common.{sym, ap, ◌∙◌, drop_at}
use Rattle.common.specs.Answers.{accepted}
use Rattle.common.specs.declared.Answer.{Answer}
use Rattle.ticks.specs.declared.Tick.{Tick}
use Rattle.ticks.specs.Play.{over, Mechanism, rendered, fit, play_out}
use Rattle.reader.specs.File.{Module}
use Rattle.player.specs.declared.State.{State}
use Rattle.player.specs.Play.{ticks_of}
use Rattle.player.specs.Counts.{fit_within, first_fits, first_most, first_out, first_front}
use Rattle.agreement.specs.Demand.{Largest, Sounds}

module _ {A W : Type 0} (k : Mechanism A W Tick) (m : Module) (s : State) (w : W) where
  -- the numbers of the first j ticks
  abbrev sound : ℕ → List A
  sound j = rendered k w (ticks_of m j s)

  module _ (n : ℕ) (answer : Answer) (out out' : List A) (e : answer ≡ accepted (fit k (length out) w (ticks_of m n s))) (o : out' ≡ play_out k w (ticks_of m n s) out) where
    count_is : answer.count ≡ fit k (length out) w (ticks_of m n s)
    count_is = ap (λ (a : Answer). a.count) e

    leaves : out' ≡ over (sound answer.count) out
    leaves = o ∙ (first_out k m s w n out ∙ ap (λ (j : ℕ). over (sound j) out) (sym count_is))

    plays_largest : Largest (λ j. rendered k w (ticks_of m j s)) n (length out) answer.count
    plays_largest = rw count_is (record { within = fit_within k m s w n out; fits = first_fits k m s w n out; largest = first_most k m s w n out })

    plays_numbers : (j : ℕ) → j ≤ answer.count → take (length (sound j)) out' ≡ sound j
    plays_numbers j h = ap (take (length (sound j))) o ∙ first_front k m s w n out j (rw count_is at h)

    pub plays_sounds : Sounds (λ j. rendered k w (ticks_of m j s)) n answer.number answer.place answer.count out out'
    plays_sounds =
        record {
          accepts = (ap (λ (a : Answer). a.number) e, ap (λ (a : Answer). a.place) e);
          most = plays_largest;
          numbers = plays_numbers;
          stays =
              ap (drop (length (sound answer.count))) leaves
              ∙ drop_at (sound answer.count) (drop (length (sound answer.count)) out) (length (sound answer.count)) refl;
        }
