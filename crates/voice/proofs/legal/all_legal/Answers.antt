-- Each voice of the layout's channels is legal and each further one fresh, or one is not.
use Rattle.std.specs.Prelude.{◌≡◌, true, false, take, drop}
use Rattle.std.proofs.Common.{rules, tests, arith}
use Rattle.std.proofs.lemmas.Iterator.{YieldsList-from_slice, cases_from_all}
use Rattle.voice.specs.Legal.{voice_end, legal_voice, is_fresh_voice}
use Rattle.voice.proofs.AllLegal.{used_bad, rest_says}
use Rattle.voice.proofs.legal.all_legal.Goals as goal

pub returns-then-all : goal.returns-then-all
returns-then-all c =
    let l = c.args.layout in
    let vs = c.args.voices.now in
    let a =
    cases_from_all _ _ _ (λ v. legal_voice l.samples (voice_end c.args.extents.now v) v ≡ true) (λ v. legal_voice l.samples (voice_end c.args.extents.now v) v ≡ false) c.all.ensures.ran (YieldsList-from_slice (take l.channels vs) (search rules)) (λ x q k. search (rules, tests))
    (λ x q k. search (rules, tests)) in
    let m =
    cases_from_all _ _ _ (λ v. is_fresh_voice v ≡ true) (λ v. is_fresh_voice v ≡ false) c.all-then-all.ensures.ran (YieldsList-from_slice (drop l.channels vs) (search rules)) (λ x q k. search (rules, tests))
    (λ x q k. search (rules, tests)) in
    rest_says l c.args.extents.now vs (search rules) (omega arith) _ (rw c.if-all.true at a) m

pub returns-else-all : goal.returns-else-all
returns-else-all c =
    let l = c.args.layout in
    let vs = c.args.voices.now in
    let a =
    cases_from_all _ _ _ (λ v. legal_voice l.samples (voice_end c.args.extents.now v) v ≡ true) (λ v. legal_voice l.samples (voice_end c.args.extents.now v) v ≡ false) c.all.ensures.ran (YieldsList-from_slice (take l.channels vs) (search rules)) (λ x q k. search (rules, tests))
    (λ x q k. search (rules, tests)) in
    rw c.if-all.false (used_bad l c.args.extents.now vs (search rules) (omega arith) (rw c.if-all.false at a))
