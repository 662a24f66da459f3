-- The channels so far are told and moved by all frames; the others stay.
use borrow.Author.Rules.{rules}
use mathlib.Core.Path.{ap}
use lib.ListN.{get_or}
use Rattle.reader.specs.Samples.{no_extent}
use Rattle.laws.specs.Each.{part_end}
use Rattle.voice.specs.Frames.{moved}
use Rattle.mixing.proofs.Passing.{passing_legal, passing_more}
use Rattle.mixing.proofs.pass_by.Goals as goal

-- the voice is legal beside its sample
pub pace-requires : goal.pace-requires
pace-requires c =
    (passing_legal _ _ _ _ _ c.args.m.now.legal c.requires.ready _ _ _ c.loop-i.invariant c.loop-i-test.true _ (ap (λ k. get_or c.args.m.now.extents k no_extent) c.from.ensures) _ c.told-told.ensures).period

pub invariant_of-runner : goal.invariant_of-runner
invariant_of-runner c = record {
  looping = search rules;
  legal = passing_legal _ _ _ _ _ c.args.m.now.legal c.requires.ready _ _ _ c.loop-i.invariant c.loop-i-test.true _ (ap (λ k. get_or c.args.m.now.extents k no_extent) c.from.ensures) _ c.told-told.ensures;
  paced = c.pace.ensures;
}

pub loop-i-preserved : goal.loop-i-preserved
loop-i-preserved c = passing_more _ _ _ _ _ c.args.m.now.legal c.requires.ready _ _ _ c.loop-i.invariant c.loop-i-test.true _ (ap (λ k. get_or c.args.m.now.extents k no_extent) c.from.ensures) _ c.told-told.ensures _ c.pass.ensures

pub returns : goal.returns
unfolding moved
returns c = part_end _ _ _ _ _ _ _ c.loop-i.invariant c.loop-i-test.false c.loop-i.auto.i-end
