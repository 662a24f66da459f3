-- A record that lies ahead whole is taken at once (`record_taken`); otherwise the byte is, after which the buffer is lent as it was (`taken_after`).
use Rattle.std.proofs.Common.{ap}
use Rattle.feed.specs.Boards.{taking, state_of}
use Rattle.feed.proofs.Chunks.{ahead_low, ahead_in, ahead_is_whole, record_taken, taken_after}
use Rattle.feed.proofs.feeding.Feeding.take_chunk.Goals as goal

pub take_record-requires : goal.take_record-requires
take_record-requires c = ahead_is_whole c.args.self.now.module.now c.args.self.now.board c.args.self.now.held _ c.registers-registers.ensures _ _ c.scope-scope.ensures.0 c.scope-scope.ensures.1 c.args.bytes.now c.args.at c.in-Some.record (rw c.in-Some.is at c.ahead.ensures)

pub returns-in_default-take_record-clause-taken : goal.returns-in_default-take_record-clause-taken
returns-in_default-take_record-clause-taken c =
    taken_after (taking c.args.self.now.module.now) (state_of c.args.self.now.board) c.args.bytes.now c.args.at c.requires c.args.out.now _ (state_of c.take_record.new.self.board) c.take_record.new.out (rw c.in_default-take_record.is at c.take_record.ensures.turned) (taking c.take_record.new.self.module.now) (ap taking c.take_record.ensures.same) _ _ _ _ _
    c.take_one-in_default-take_record.ensures.taken

pub returns-clause-taken : goal.returns-clause-taken
returns-clause-taken c =
    record_taken (taking c.args.self.now.module.now) (state_of c.args.self.now.board) c.args.bytes.now c.args.at c.requires c.args.out.now c.in-Some.record.next c.in-Some-take_record.size _ _ (ahead_low c.args.self.now.module.now c.args.self.now.board c.args.self.now.held _ c.registers-registers.ensures _ _ c.scope-scope.ensures.0 c.scope-scope.ensures.1 c.args.bytes.now c.args.at c.in-Some.record (rw c.in-Some.is at c.ahead.ensures)) (ahead_in c.args.self.now.module.now c.args.self.now.board c.args.self.now.held _ c.registers-registers.ensures _ _ c.scope-scope.ensures.0 c.scope-scope.ensures.1 c.args.bytes.now c.args.at c.in-Some.record (rw c.in-Some.is at c.ahead.ensures)) (rw c.in-Some-take_record.is at c.take_record.ensures.turned)
