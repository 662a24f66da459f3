-- The same tests, joined in the same order.
use Rattle.std.proofs.Common.{◌≡◌, ◌&&◌, leb, rules}
use Rattle.laws.specs.Ranges.{all, all_from}
use Rattle.laws.specs.Tests.{tests, called}
use Rattle.common.specs.Limits.{loudest, legal_period}
use Rattle.voice.specs.Legal.{legal_voice}
use Rattle.voice.proofs.legal.legal_voice.Goals.{then-from-last, else-from-last, then-from-le-LOUDEST, else-from-le-LOUDEST}
use Rattle.voice.proofs.legal.legal_voice.Goals as goal

pub returns-then-is_period : goal.returns-then-is_period
unfolding legal_voice all all_from
returns-then-is_period c =
    let e1 : c.if-from-last.value ≡ (leb c.args.voice.sample c.args.last && leb c.args.voice.volume loudest) =
    elim c.if-from-last.branch [ then-from-last w ↦ search (tests, called, rules) | else-from-last w ↦ search (tests, called, rules) ] in
    let e2 : c.if-from-le-LOUDEST.value ≡ (c.if-from-last.value && legal_period c.args.voice.period) =
    elim c.if-from-le-LOUDEST.branch [ then-from-le-LOUDEST w ↦ search (tests, called, rules) | else-from-le-LOUDEST w ↦ search (tests, called, rules) ] in
    rw (← e1, ← e2, c.if-is_period.true, ← c.voice_end.ensures) c.legal_index.ensures

pub returns-else-is_period : goal.returns-else-is_period
unfolding legal_voice all all_from
returns-else-is_period c =
    let e1 : c.if-from-last.value ≡ (leb c.args.voice.sample c.args.last && leb c.args.voice.volume loudest) =
    elim c.if-from-last.branch [ then-from-last w ↦ search (tests, called, rules) | else-from-last w ↦ search (tests, called, rules) ] in
    let e2 : c.if-from-le-LOUDEST.value ≡ (c.if-from-last.value && legal_period c.args.voice.period) =
    elim c.if-from-le-LOUDEST.branch [ then-from-le-LOUDEST w ↦ search (tests, called, rules) | else-from-le-LOUDEST w ↦ search (tests, called, rules) ] in
    rw (← e1, ← e2, c.if-is_period.false)
