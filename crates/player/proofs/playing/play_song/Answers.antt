-- The loop: what is played, followed by what is left to play, is the whole (`Turning`); the sequencer gives the next tick, the sounder plays it.
use Rattle.std.proofs.Common.{refl, ◌∙◌, arith}
use Rattle.player.specs.Turning.{turning_none, turning_run, turning_due, turned_full, turned_all, turning_more, turning_next}
use Rattle.player.proofs.playing.play_song.Goals as goal

pub loop-i-init : goal.loop-i-init
loop-i-init g c = record { turning = turning_none _ _ _ _ _ c.requires.begins; same = refl; counted = omega arith }

pub sounder_tick-worked-requires : goal.sounder_tick-worked-requires
sounder_tick-worked-requires g c = rw c.loop-i.invariant.same (turning_run _ c.loop-i.invariant.turning)

pub play_tick-requires-clause-due : goal.play_tick-requires-clause-due
play_tick-requires-clause-due g c = rw c.loop-i.invariant.same (turning_due _ c.loop-i.invariant.turning c.loop-i-test.true _ (rw c.loop-i.invariant.same at c.sounder_tick-worked.ensures))

pub returns-in-None-clause-over : goal.returns-in-None-clause-over
returns-in-None-clause-over g c = turned_full _ c.loop-i.invariant.turning c.loop-i-test.true _ (rw c.loop-i.invariant.same at c.sounder_tick-worked.ensures) _ _ (rw c.loop-i.invariant.same at c.in-None.ensures.turned)

pub returns-in-None-clause-same : goal.returns-in-None-clause-same
returns-in-None-clause-same g c = c.in-None.ensures.same ∙ c.loop-i.invariant.same

pub overflow_add-at : goal.overflow_add-at
overflow_add-at g c =
    turning_next _ c.loop-i.invariant.turning c.loop-i-test.true _ (rw c.loop-i.invariant.same at c.sounder_tick-worked.ensures) _ _ _ (rw c.loop-i.invariant.same at c.in-Some.ensures.turned) c.requires.narrow

pub loop-i-preserved : goal.loop-i-preserved
loop-i-preserved g c =
    record {
      turning = turning_more _ c.loop-i.invariant.turning c.loop-i-test.true _ (rw c.loop-i.invariant.same at c.sounder_tick-worked.ensures) _ _ _ (rw c.loop-i.invariant.same at c.in-Some.ensures.turned);
      same = c.in-Some.ensures.same ∙ c.loop-i.invariant.same;
      counted = omega (arith, c.in-Some.ensures.counted, c.loop-i.invariant.counted);
    }

pub returns-clause-over : goal.returns-clause-over
returns-clause-over g c = turned_all _ c.loop-i.invariant.turning c.loop-i-test.false

pub returns-clause-same : goal.returns-clause-same
returns-clause-same g c = c.loop-i.invariant.same
