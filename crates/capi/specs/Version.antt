-- The library's version, as the header has it.
-- Assumes nothing.
use Rattle.std.specs.Prelude.{ℕ}

-- major times 1,000,000, plus minor times 1,000, plus patch: 0.8.0
abbrev pub library_version : ℕ
library_version = 8000
