-- What the call goes by: 1 to 9 and 14, then 24, then the play. Laws over plain variables.
-- Assumes nothing.
use Rattle.std.proofs.Common.{◌≡◌, ℕ, true, List, [], refl}
use lib.Ieee.{Float}
use Rattle.std.specs.Prelude.{Ok, Err}
use Rattle.common.specs.Answers.{accepted, outcome, refusal}
use Rattle.common.specs.AnswerLaws.{no_line, line_given, line_passed}
use Rattle.common.specs.declared.refusals.Refusal.{Refusal}
use Rattle.reader.specs.File.{module_of}
use Rattle.reader.specs.Modules.{as_module}
use Rattle.reader.specs.declared.module.Module.{Module}
use Rattle.floats.specs.declared.Pair.{Pair}
use Rattle.floats.specs.declared.Sides.{Sides}
use Rattle.floats.specs.Asked.{count_of, Asked, sides_asked}
use Rattle.player.specs.declared.State.{State}
use Rattle.player.specs.Legal.{Judged}
use Rattle.player.proofs.Admitted.{not_admitted, is_admitted}
use Rattle.float_player.specs.declared.FloatReply.{FloatReply}
use Rattle.float_player.specs.Play.{floats_answered, floats_from, play_floats_of}

module _ (bytes : List ℕ) (s : State) (n sides : ℕ) (pair : Pair) (out : List Float) where
  pub floats_refused : (e : Refusal) → Judged (module_of bytes) s (refusal e) → outcome (floats_answered s pair (Err e)) out ≡ play_floats_of bytes s n sides pair out
  unfolding play_floats_of
  floats_refused e j = not_admitted bytes s _ _ _ e j _ refl

  module _ (j : Judged (module_of bytes) s (accepted 0)) where
    pub floats_unasked : (e : Refusal) → Asked sides (Err e) → outcome (floats_answered s pair (Err e)) out ≡ play_floats_of bytes s n sides pair out
    unfolding play_floats_of
    floats_unasked e a = is_admitted bytes s _ _ _ j _ (line_given _ _ 24 0 _ [] _ a.0 (rw a.1))

    pub floats_played : (m : Module) (own : as_module m ≡ module_of bytes) (asked : Sides) → Asked sides (Ok asked) → (r : FloatReply) (out' : List Float) → outcome r out' ≡ floats_from (as_module m) s n (count_of asked) pair out → outcome (floats_answered s pair (Ok r)) out' ≡ play_floats_of bytes s n sides pair out
    unfolding play_floats_of
    floats_played m own asked a r out' e = is_admitted bytes s _ _ _ j _ (line_passed _ _ 24 0 _ [] _ (rw a (sides_asked asked)) (no_line _ _ _ (rw (own, ← a) at e)))
