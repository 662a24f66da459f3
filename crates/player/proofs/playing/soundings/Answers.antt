-- Number by number.
use Rattle.std.proofs.Common.{rules, ◌≡◌, ◌∙◌, arith, get_or, sym, ext_get_or}
use Rattle.laws.specs.Each.{get_or-each, length-each}
use Rattle.common.specs.Limits.{width}
use Rattle.voice.specs.Frames.{blank}
use Rattle.player.specs.Play.{soundings}
use Rattle.player.proofs.playing.soundings.Goals as goal

pub returns : goal.returns
unfolding soundings
returns c =
    ext_get_or 0 c.map.result (soundings c.args.voices.now) (c.map.ensures.items.long ∙ sym (length-each _ width))
    (λ i h. let k = (c.map.ensures.items.at i blank 0 (omega (arith, c.map.ensures.items.long))).2 in let e : get_or c.map.result i 0 ≡ (get_or c.args.voices.now i blank).sample = search (k, rules) in e ∙ sym (get_or-each _ width i 0 (omega (arith, c.map.ensures.items.long))))
