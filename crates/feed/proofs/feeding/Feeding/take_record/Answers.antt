-- The record's bytes, one by one, would play its tick and nothing else (`whole_plays`).
use Rattle.std.proofs.Common.{true, false}
use Rattle.feed.proofs.Laws.{held_run}
use Rattle.feed.proofs.Chunks.{whole_high, whole_some, whole_ready, whole_full, whole_plays}
use Rattle.feed.proofs.feeding.Feeding.take_record.Goals as goal

pub play-requires-clause-ready : goal.play-requires-clause-ready
play-requires-clause-ready c = whole_ready c.args.self.now.module.now c.args.self.now.board c.args.self.now.held c.args.run.now c.args.tick c.requires

pub play-requires-clause-tempo : goal.play-requires-clause-tempo
play-requires-clause-tempo c = (whole_some c.args.self.now.module.now c.args.self.now.board c.args.self.now.held c.args.run.now c.args.tick c.requires, whole_high c.args.self.now.module.now c.args.self.now.board c.args.self.now.held c.args.run.now c.args.tick c.requires)

pub invariant_of-self : goal.invariant_of-self
invariant_of-self c = record { held = held_run c.args.self.now.module.now c.args.self.now.board c.args.self.now.held c.args.out.now c.play.new.out true 0 _ c.args.run.now (whole_full c.args.self.now.module.now c.args.self.now.board c.args.self.now.held c.args.run.now c.args.tick c.requires c.args.out.now c.play.new.out 0 c.play.new.machine (rw c.in_err-size.was at c.play.ensures)) }

pub returns-in_err-size-clause-turned : goal.returns-in_err-size-clause-turned
returns-in_err-size-clause-turned c = rw c.from_residual.ensures (whole_full c.args.self.now.module.now c.args.self.now.board c.args.self.now.held c.args.run.now c.args.tick c.requires c.args.out.now c.play.new.out 0 c.play.new.machine (rw c.in_err-size.was at c.play.ensures))

pub invariant_of-self-2 : goal.invariant_of-self-2
invariant_of-self-2 c =
    record {
      held = held_run c.args.self.now.module.now c.args.self.now.board c.args.self.now.held c.args.out.now c.play.new.out false c.in_ok-size.size _ c.args.run.now (whole_plays c.args.self.now.module.now c.args.self.now.board c.args.self.now.held c.args.run.now c.args.tick c.requires c.args.out.now c.play.new.out c.in_ok-size.size c.play.new.machine (rw c.in_ok-size.was at c.play.ensures) c.with_record-self.result c.with_record-self.ensures);
    }

pub returns-clause-turned : goal.returns-clause-turned
returns-clause-turned c = whole_plays c.args.self.now.module.now c.args.self.now.board c.args.self.now.held c.args.run.now c.args.tick c.requires c.args.out.now c.play.new.out c.in_ok-size.size c.play.new.machine (rw c.in_ok-size.was at c.play.ensures) c.with_record-self.result c.with_record-self.ensures
