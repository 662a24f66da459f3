-- A channel is as fresh where it equals the fresh one.
-- Assumes nothing.
use Rattle.std.specs.Prelude.{Bool, true, false, ◌≡◌, refl}
use Rattle.std.proofs.Common.{sym, ◌∙◌}
use Rattle.effects.specs.Legal.{fresh_channel, is_fresh}
use Rattle.effects.specs.LegalFacts.{fresh_has, fresh_by}
use Rattle.effects.specs.declared.Channel.{Channel}

same_bool : (a b : Bool) → (a ≡ true → b ≡ true) → (b ≡ true → a ≡ true) → a ≡ b
same_bool true b f g = sym (f refl)
same_bool false true f g = g refl
same_bool false false f g = refl

pub fresh_tested : (ch d : Channel) (b : Bool) → d ≡ fresh_channel → (b ≡ true → ch ≡ d) → (ch ≡ d → b ≡ true) → b ≡ is_fresh ch
fresh_tested ch d b e has by = same_bool b (is_fresh ch) (λ t. fresh_by ch (has t ∙ e)) (λ t. by (fresh_has ch t ∙ sym e))
