-- The sample's part lies in the file, as every one of an accepted module does.
use Rattle.std.proofs.Common.{rules}
use Rattle.player.proofs.Causes.{part_order, part_within, cause_is}
use Rattle.player.proofs.quiet.voice_cause.Goals as goal

pub slice_bounds-why-count : goal.slice_bounds-why-count
slice_bounds-why-count c = search (part_order, rules)

pub slice_bounds-why-start : goal.slice_bounds-why-start
slice_bounds-why-start c = search (part_order, rules)

pub slice_bounds-why-end : goal.slice_bounds-why-end
slice_bounds-why-end c = search (part_within, rules)

pub returns : goal.returns
returns c = search (cause_is, rules)
