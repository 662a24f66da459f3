-- The tick is the sequencer's, for the samples that the voices have: each number is that of the array before.
use Rattle.std.proofs.Common.{rules, ℕ, List, ◌≡◌, ◌<◌, ◌∙◌, arith, get_or, length, sym, ext_get_or}
use Rattle.common.specs.Limits.{width}
use Rattle.sequencer.specs.RunLaws.{run_same}
use Rattle.player.proofs.playing.next_tick.Goals as goal

same : {xs ys zs : List ℕ} → length xs ≡ width → length ys ≡ width → ((i : ℕ) → i < width → get_or xs i 0 ≡ get_or ys i 0) → ys ≡ zs → xs ≡ zs
same {xs} {ys} l m h e = ext_get_or 0 xs ys (l ∙ sym m) (λ i s. h i (omega (arith, s, l))) ∙ e

pub tick-requires-clause-legal : goal.tick-requires-clause-legal
tick-requires-clause-legal c =
    let p = c.map-sounding.ensures.items in
    run_same _ _ _ _ c.requires.legal (same p.long (search rules) (λ i h. let k = (p.at i 0 0 h).2 in search (k, rules)) c.soundings.ensures)

pub returns : goal.returns
returns c =
    let p = c.map-sounding.ensures.items in
    rw (c.tick.ensures, same p.long (search rules) (λ i h. let k = (p.at i 0 0 h).2 in search (k, rules)) c.soundings.ensures)
