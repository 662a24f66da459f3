-- The byte's turn is that of the tick that it completes, or takes no number.
use Rattle.std.proofs.Common.{true, false}
use Rattle.feed.proofs.Laws.{byte_holds, byte_ready, byte_some, byte_high, byte_full, byte_plays, held_byte}
use Rattle.feed.proofs.feeding.Feeding.take_byte.Goals as goal

pub returns-in_default-clause-turned : goal.returns-in_default-clause-turned
returns-in_default-clause-turned c = byte_holds c.args.self.now.module.now c.args.self.now.board c.args.self.now.held c.args.byte _ c.registers.ensures _ _ c.scope.ensures.0 c.scope.ensures.1 _ _ c.step-step.ensures c.in_default.is c.args.out.now

pub invariant_of-self : goal.invariant_of-self
invariant_of-self c = record { held = held_byte c.args.self.now.module.now c.args.self.now.board c.args.self.now.held c.args.out.now c.args.out.now false 0 _ c.args.byte (byte_holds c.args.self.now.module.now c.args.self.now.board c.args.self.now.held c.args.byte _ c.registers.ensures _ _ c.scope.ensures.0 c.scope.ensures.1 _ _ c.step-step.ensures c.in_default.is c.args.out.now) }

pub play-requires-clause-ready : goal.play-requires-clause-ready
play-requires-clause-ready c = byte_ready c.args.self.now.module.now c.args.self.now.board c.args.self.now.held c.args.byte _ c.registers.ensures _ _ c.scope.ensures.0 c.scope.ensures.1 _ _ c.step-step.ensures c.in-Some.tick c.in-Some.is

pub play-requires-clause-tempo : goal.play-requires-clause-tempo
play-requires-clause-tempo c = (byte_some c.args.self.now.module.now c.args.self.now.board c.args.self.now.held c.args.byte _ c.registers.ensures _ _ c.scope.ensures.0 c.scope.ensures.1 _ _ c.step-step.ensures c.in-Some.tick c.in-Some.is, byte_high c.args.self.now.module.now c.args.self.now.board c.args.self.now.held c.args.byte _ c.registers.ensures _ _ c.scope.ensures.0 c.scope.ensures.1 _ _ c.step-step.ensures c.in-Some.tick c.in-Some.is)

pub returns-in_err-size-clause-turned : goal.returns-in_err-size-clause-turned
returns-in_err-size-clause-turned c = rw c.from_residual.ensures (byte_full c.args.self.now.module.now c.args.self.now.board c.args.self.now.held c.args.byte _ c.registers.ensures _ _ c.scope.ensures.0 c.scope.ensures.1 _ _ c.step-step.ensures c.in-Some.tick c.in-Some.is c.args.out.now c.play.new.out 0 c.play.new.machine (rw c.in_err-size.was at c.play.ensures))

pub invariant_of-self-in-Break-1 : goal.invariant_of-self-in-Break-1
invariant_of-self-in-Break-1 c =
    record { held = held_byte c.args.self.now.module.now c.args.self.now.board c.args.self.now.held c.args.out.now c.play.new.out true 0 _ c.args.byte (byte_full c.args.self.now.module.now c.args.self.now.board c.args.self.now.held c.args.byte _ c.registers.ensures _ _ c.scope.ensures.0 c.scope.ensures.1 _ _ c.step-step.ensures c.in-Some.tick c.in-Some.is c.args.out.now c.play.new.out 0 c.play.new.machine (rw c.in_err-size.was at c.play.ensures)) }

pub returns-clause-turned : goal.returns-clause-turned
returns-clause-turned c = byte_plays c.args.self.now.module.now c.args.self.now.board c.args.self.now.held c.args.byte _ c.registers.ensures _ _ c.scope.ensures.0 c.scope.ensures.1 _ _ c.step-step.ensures c.in-Some.tick c.in-Some.is c.args.out.now c.play.new.out c.in_ok-size.size c.play.new.machine (rw c.in_ok-size.was at c.play.ensures)

pub invariant_of-self-2 : goal.invariant_of-self-2
invariant_of-self-2 c =
    record {
      held = held_byte c.args.self.now.module.now c.args.self.now.board c.args.self.now.held c.args.out.now c.play.new.out false c.in_ok-size.size _ c.args.byte (byte_plays c.args.self.now.module.now c.args.self.now.board c.args.self.now.held c.args.byte _ c.registers.ensures _ _ c.scope.ensures.0 c.scope.ensures.1 _ _ c.step-step.ensures c.in-Some.tick c.in-Some.is c.args.out.now c.play.new.out c.in_ok-size.size c.play.new.machine (rw c.in_ok-size.was at c.play.ensures));
    }
