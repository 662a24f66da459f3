-- A row's first and last entry together, as code finds them.
-- Assumes nothing.
use Rattle.std.specs.Prelude.{ℕ}
use Rattle.tuning.specs.Table.{greatest_of, least_of}
use Rattle.tuning.specs.declared.table.Ends.{Ends}

abbrev pub ends_of : ℕ → Ends
ends_of f = record { first = greatest_of f; last = least_of f }
