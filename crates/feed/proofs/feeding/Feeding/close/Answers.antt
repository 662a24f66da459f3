-- Closing takes no byte.
use Rattle.std.proofs.Common.{arith}
use Rattle.feed.proofs.Calls.{closed_few}
use Rattle.feed.proofs.feeding.Feeding.close.Goals as goal

pub reply_since-requires : goal.reply_since-requires
reply_since-requires c = (omega arith, closed_few c.args.self.now.board.arrival c.close.new.self c.close.ensures c.requires)
