-- Number by number.
use Rattle.std.proofs.Common.{rules, ◌≡◌, ◌∙◌, ◌%◌, arith, length, get_or, sym, ext_get_or, mod-eq_of_lt}
use Rattle.common.specs.Limits.{width}
use Rattle.sequencer.proofs.narrowed.Goals as goal

pub returns : goal.returns
returns c =
    let long : length c.args.samples ≡ width = search rules in
    ext_get_or 0 c.map.result c.args.samples (c.map.ensures.items.long ∙ sym long)
    (λ i h. let k = (c.map.ensures.items.at i 0 0 (omega (arith, c.map.ensures.items.long))).2 in let e : get_or c.map.result i 0 ≡ get_or c.args.samples i 0 % 256 = search (k, rules) in e ∙ mod-eq_of_lt (c.requires i (omega (arith, c.map.ensures.items.long))))
