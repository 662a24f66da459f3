-- Number by number.
use Rattle.std.proofs.Common.{rules, ◌≡◌, ◌∙◌, arith, length, get_or, sym, ext_get_or}
use Rattle.common.specs.Limits.{width}
use Rattle.ticks.specs.Commands.{nothing, sounding_of}
use Rattle.ticks.specs.Legal.{length-sounding, get_or-sounding}
use Rattle.sequencer.proofs.sounding_of.Goals as goal

pub returns : goal.returns
returns c =
    let long : length c.args.commands ≡ width = search rules in
    ext_get_or 0 c.map.result (sounding_of c.args.commands) (c.map.ensures.items.long ∙ sym (length-sounding _ ∙ long))
    (λ i h. let k = (c.map.ensures.items.at i nothing 0 (omega (arith, c.map.ensures.items.long))).2 in let e : get_or c.map.result i 0 ≡ (get_or c.args.commands i nothing).sample = search (k, rules) in e ∙ sym (get_or-sounding _ i))
