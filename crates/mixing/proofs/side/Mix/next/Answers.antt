-- The first channel that the search finds is the next one that sounds.
use Rattle.std.specs.Prelude.{◌≡◌, true, false, ℕ}
use Rattle.std.proofs.Common.{rules, tests}
use Rattle.std.proofs.lemmas.Iterator.{first_from_Range}
use Rattle.mixing.specs.Sides.{number_of, voice_in, sounds_of}
use Rattle.mixing.proofs.Seeking.{seek_next}
use Rattle.mixing.proofs.side.Mix.next.Goals as goal

pub returns-clause-next : goal.returns-clause-next
returns-clause-next c =
    let sounds = λ (k : ℕ). sounds_of (number_of c.args.on) k (voice_in c.args.voices.now k) in
    seek_next _ _ _ _ _ c.requires (first_from_Range _ _ _ _ (λ k. sounds k ≡ true) (λ k. sounds k ≡ false) c.find.ensures.ran (λ x q k. search (rules, tests)) (λ x q k. search (rules, tests)))
