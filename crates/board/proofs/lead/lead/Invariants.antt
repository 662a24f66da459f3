-- The loop: the machine is the one before tick i, and the ticks left are those from there on (`Leading`), of this stream and after the registers that
-- sound (`Sounds`).
use Rattle.std.proofs.Common.{◌≡◌}
use Rattle.records.specs.Format.{decode}
use Rattle.decoder.specs.Whole.{ticks_in}
use Rattle.decoder.specs.Left.{ticks_left}
use Rattle.board.specs.Going.{Sounds}
use Rattle.board.specs.Leading.{Leading}
use Rattle.board.proofs.lead.lead.Given as goal

abbrev pub invariant-loop : goal.invariant-loop
invariant-loop l =
    record {
      source : l.sounder.module.now ≡ l.m;
      keeping : l.sounder.keeps ≡ l.keeping;
      its : l.ticks.stream ≡ l.stream;
      leading : Leading l.m l.keeping (ticks_in (decode l.m.layout.samples l.m.layout.channels l.stream.header.bytes.now)) l.sounder.machine (ticks_left l.ticks) l.counter;
      sounds : Sounds l.m l.sounder.machine l.ticks.registers (ticks_left l.ticks);
    }
