-- The loop: what is played, followed by what is left to play, is the whole (`Turning`); the stream gives the next tick, the sounder plays it.
use Rattle.std.proofs.Common.{◌∙◌, arith}
use Rattle.board.specs.Playing.{turning_due, turned_full, turned_all, turning_next, turning_more}
use Rattle.board.proofs.play_ticks.Goals as goal

pub play_tick-requires-clause-due : goal.play_tick-requires-clause-due
play_tick-requires-clause-due g c = rw c.loop-tick.invariant.same (turning_due _ c.loop-tick.invariant.turning _ _ c.in-Some.ensures.steps)

pub returns-in_default-clause-played : goal.returns-in_default-clause-played
returns-in_default-clause-played g c = turned_full _ c.loop-tick.invariant.turning _ _ c.in-Some.ensures.steps _ _ (rw c.loop-tick.invariant.same at c.in_default.ensures.turned)

pub returns-in_default-clause-same : goal.returns-in_default-clause-same
returns-in_default-clause-same g c = c.in_default.ensures.same ∙ c.loop-tick.invariant.same

pub overflow_add-at : goal.overflow_add-at
overflow_add-at g c =
    turning_next _ c.loop-tick.invariant.turning _ _ c.in-Some.ensures.steps _ _ _ (rw c.loop-tick.invariant.same at c.in-Some-play_tick.ensures.turned) c.requires.narrow

pub loop-tick-preserved : goal.loop-tick-preserved
loop-tick-preserved g c =
    record {
      turning = turning_more _ c.loop-tick.invariant.turning _ _ c.in-Some.ensures.steps _ _ _ (rw c.loop-tick.invariant.same at c.in-Some-play_tick.ensures.turned);
      same = c.in-Some-play_tick.ensures.same ∙ c.loop-tick.invariant.same;
      counted = omega (arith, c.in-Some-play_tick.ensures.counted, c.loop-tick.invariant.counted);
    }

pub returns-clause-played : goal.returns-clause-played
returns-clause-played g c = turned_all _ c.loop-tick.invariant.turning c.in-None.ensures.steps.0

pub returns-clause-same : goal.returns-clause-same
returns-clause-same g c = c.loop-tick.invariant.same
