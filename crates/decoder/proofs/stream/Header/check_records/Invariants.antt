-- The answer of the records that are left is that of all.
use Prim.Native.Nat.{◌-◌}
use Rattle.records.specs.Format.{first_record}
use Rattle.decoder.proofs.Records.{Checked}
use Rattle.decoder.proofs.stream.Header.check_records.Given as goal

abbrev pub invariant-loop : goal.invariant-loop
invariant-loop l = Checked l.scope.last l.scope.channels l.self.bytes.now l.end (first_record l.self.bytes.now) l.registers l.at (l.end - l.counter)
