-- The channels so far are told and moved by all frames; the others stay.
use mathlib.Core.Path.{ap}
use lib.ListN.{get_or}
use Rattle.reader.specs.Samples.{no_extent}
use Rattle.laws.specs.Each.{part_end}
use Rattle.voice.specs.Frames.{moved}
use Rattle.mixing.proofs.Passing.{passing_legal, passing_more}
use Rattle.mixing.proofs.pass.Goals as goal

pub pass_voice-after-requires-clause-legal : goal.pass_voice-after-requires-clause-legal
pass_voice-after-requires-clause-legal c = passing_legal _ _ _ _ _ c.requires.layout c.requires.ready _ _ _ c.loop-i.invariant c.loop-i-test.true _ (ap (λ k. get_or c.args.extents k no_extent) c.from.ensures) _ c.told-told.ensures

pub loop-i-preserved : goal.loop-i-preserved
loop-i-preserved c = passing_more _ _ _ _ _ c.requires.layout c.requires.ready _ _ _ c.loop-i.invariant c.loop-i-test.true _ (ap (λ k. get_or c.args.extents k no_extent) c.from.ensures) _ c.told-told.ensures _ c.pass_voice-after.ensures

pub returns : goal.returns
unfolding moved
returns c = part_end _ _ _ _ _ _ _ c.loop-i.invariant c.loop-i-test.false c.loop-i.auto.i-end
