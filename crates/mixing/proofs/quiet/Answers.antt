-- All voices of the slice are silent, or one is not.
use Rattle.std.specs.Prelude.{◌≡◌, true, false, take}
use Rattle.std.proofs.Common.{rules, tests}
use Rattle.std.proofs.lemmas.Iterator.{YieldsList-from_slice, cases_from_all}
use Rattle.voice.specs.Voice.{silent_of}
use Rattle.mixing.proofs.Telling.{quiet_by}
use Rattle.mixing.proofs.quiet.Goals as goal

pub returns : goal.returns
returns c =
    quiet_by _ _ _ (search rules) (cases_from_all _ _ _ (λ v. silent_of v ≡ true) (λ v. silent_of v ≡ false) c.all.ensures.ran (YieldsList-from_slice (take c.args.channels c.args.voices.now) (search rules)) (λ x q k. search (rules, tests)) (λ x q k. search (rules, tests)))
