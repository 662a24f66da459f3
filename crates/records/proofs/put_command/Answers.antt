-- Six stores in a row are the run of the command's bytes.
-- Assumes nothing.
use native.Mathlib.Omega.{arith}
use native.Mathlib.Numerals.{towards_suc}
use Rattle.records.specs.Format.{command_bytes}
use Rattle.records.proofs.Channels.{from_bool_bit, period_high, period_low}
use Rattle.records.proofs.put_command.Goals as goal

pub returns : goal.returns
unfolding command_bytes
returns c =
    simp (c.from.ensures, c.to_be_bytes-period.ensures, from_bool_bit, period_high c.args.c.period (omega arith), period_low c.args.c.period (omega arith), towards_suc)
