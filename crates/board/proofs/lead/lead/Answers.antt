-- The loop: the machine is the one before tick i, and the ticks left are those from there on (`Leading`), of this stream and after the registers that
-- sound (`Sounds`).
use Rattle.std.proofs.Common.{◌≡◌, refl, ◌∙◌, arith}
use Rattle.board.specs.Leading.{leading_none, leading_low, leading_more, leading_over, leading_end, led_legal}
use Rattle.board.specs.Going.{going_ready, going_some, sounds_begin, sounds_more}
use Rattle.board.proofs.lead.lead.Goals as goal

pub loop-init : goal.loop-init
loop-init c =
    let legal = led_legal c.args.m.now c.args.stream.now c.requires.last c.requires.channels in
    record {
      source = refl;
      keeping = refl;
      its = c.ticks-ticks.ensures.stream;
      leading = rw (c.fresh.ensures, c.ticks-ticks.ensures.all, c.requires.last, c.requires.channels) (leading_none legal);
      sounds = rw (c.fresh.ensures, c.ticks-ticks.ensures.all, c.ticks-ticks.ensures.registers, c.requires.last, c.requires.channels) (sounds_begin _ _ legal);
    }

pub returns-in_default-clause-module : goal.returns-in_default-clause-module
returns-in_default-clause-module c = c.loop.invariant.source

pub returns-in_default-clause-keeps : goal.returns-in_default-clause-keeps
returns-in_default-clause-keeps c = c.loop.invariant.keeping

pub returns-in_default-clause-stream : goal.returns-in_default-clause-stream
returns-in_default-clause-stream c = c.in_default.ensures.stream ∙ c.loop.invariant.its

pub returns-in_default-clause-led : goal.returns-in_default-clause-led
returns-in_default-clause-led c = rw c.in_default.ensures.stays (leading_over c.loop.invariant.leading c.args.first (omega arith) c.in_default.ensures.steps.0)

pub returns-in_default-clause-left : goal.returns-in_default-clause-left
returns-in_default-clause-left c =
    rw c.in_default.ensures.stays
    (leading_end c.args.m.now c.args.stream.now c.requires.last c.requires.channels c.args.keeping _ c.loop.ticks c.args.first c.loop.invariant.its (leading_over c.loop.invariant.leading c.args.first (omega arith) c.in_default.ensures.steps.0) c.loop.invariant.sounds)

pub pass_tick-requires-clause-ready : goal.pass_tick-requires-clause-ready
pass_tick-requires-clause-ready c = rw c.loop.invariant.source (going_ready c.loop.invariant.leading.going _ _ c.in-Some.ensures.steps)

pub pass_tick-requires-clause-tempo : goal.pass_tick-requires-clause-tempo
pass_tick-requires-clause-tempo c = going_some c.loop.invariant.leading.going _ _ c.in-Some.ensures.steps

pub pass_tick-requires-clause-remainder : goal.pass_tick-requires-clause-remainder
pass_tick-requires-clause-remainder c = leading_low c.loop.invariant.leading

pub loop-preserved : goal.loop-preserved
loop-preserved c =
    record {
      source = c.pass_tick.ensures.module ∙ c.loop.invariant.source;
      keeping = c.pass_tick.ensures.keeps ∙ c.loop.invariant.keeping;
      its = c.in-Some.ensures.stream ∙ c.loop.invariant.its;
      leading = rw (c.pass_tick.ensures.moved, c.loop.invariant.source, c.loop.invariant.keeping) (leading_more c.loop.invariant.leading _ _ c.in-Some.ensures.steps);
      sounds = rw (c.pass_tick.ensures.moved, c.loop.invariant.source, c.loop.invariant.keeping) (sounds_more c.loop.invariant.leading.going _ _ c.in-Some.ensures.steps c.args.keeping _ c.in-Some.ensures.registers);
    }

pub returns-clause-module : goal.returns-clause-module
returns-clause-module c = c.loop.invariant.source

pub returns-clause-keeps : goal.returns-clause-keeps
returns-clause-keeps c = c.loop.invariant.keeping

pub returns-clause-stream : goal.returns-clause-stream
returns-clause-stream c = c.loop.invariant.its

pub returns-clause-led : goal.returns-clause-led
returns-clause-led c = let e : c.loop.counter ≡ c.args.first = omega arith in rw (← e) c.loop.invariant.leading

pub returns-clause-left : goal.returns-clause-left
returns-clause-left c =
    let e : c.loop.counter ≡ c.args.first = omega arith in
    rw (← e) (leading_end c.args.m.now c.args.stream.now c.requires.last c.requires.channels c.args.keeping _ c.loop.ticks c.loop.counter c.loop.invariant.its c.loop.invariant.leading c.loop.invariant.sounds)
