-- The command of a voice that was told nothing, and the samples that sound after commands.
-- Assumes nothing.
use Rattle.std.specs.Prelude.{ℕ, false, List, [], ◌∷◌}
use Rattle.ticks.specs.declared.Command.{Command}

-- ---- a command and a tick
-- the command of a voice that was never told anything
abbrev pub nothing : Command
nothing = record { sample = 0; volume = 0; period = 0; start = false; offset = 0 }

-- ---- ticks in a row
-- the samples that sound after these commands
unfoldable pub sounding_of : List Command → List ℕ
sounding_of [] = []
sounding_of (c ∷ cs) = c.sample ∷ sounding_of cs
