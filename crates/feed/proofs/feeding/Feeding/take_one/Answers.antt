-- One byte is a part of the call's bytes (`one_taken`).
use Rattle.std.proofs.Common.{true, false}
use Rattle.feed.specs.Boards.{taking, state_of}
use Rattle.feed.proofs.Chunks.{one_taken}
use Rattle.feed.proofs.feeding.Feeding.take_one.Goals as goal

pub returns-in_err-size-clause-taken : goal.returns-in_err-size-clause-taken
returns-in_err-size-clause-taken c = rw c.from_residual.ensures (one_taken (taking c.args.self.now.module.now) (state_of c.args.self.now.board) c.args.bytes.now c.args.at c.requires c.args.out.now true 0 _ _ (rw c.in_err-size.was at c.take_byte.ensures.turned))

pub returns-clause-taken : goal.returns-clause-taken
returns-clause-taken c = one_taken (taking c.args.self.now.module.now) (state_of c.args.self.now.board) c.args.bytes.now c.args.at c.requires c.args.out.now false c.in_ok-size.size _ _ (rw c.in_ok-size.was at c.take_byte.ensures.turned)
