-- The second nibble adds at most 15 to a multiple of 16, so the first byte alone decides.
use Rattle.std.proofs.Common.{◌+◌}
use Rattle.reader.specs.Judge.{bad_number_at}
use Rattle.reader.proofs.Laws.{number_high}
use Rattle.reader.proofs.headed.Headed.is_bad_number.Goals as goal

pub returns : goal.returns
unfolding bad_number_at
returns c = number_high _ _ _ _ c.args.self.now.legal.sixteens c.from.ensures (c.args.self.now.bytes (c.args.at + 2))
