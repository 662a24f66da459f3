-- How a module's ticks are sounded as floats, on the machine that plays them.
-- Assumes nothing.
use Rattle.std.specs.Prelude.{ℕ, Bool, Float}
use Rattle.reader.specs.File.{channel_count}
use Rattle.reader.specs.Modules.{as_module}
use Rattle.reader.specs.declared.module.Module.{Module}
use Rattle.voice.specs.Voice.{samples_of}
use Rattle.machine.specs.declared.Machine.{Machine}
use Rattle.machine.specs.Machine.{mechanism}
use Rattle.machine.specs.Sounding.{Way}
use Rattle.float_machine.specs.Machine.{FloatMachine, floats_by}
use Rattle.float_machine.specs.Beside.{floats_hold}

-- the shared machine in it
abbrev pub shared : FloatMachine → Machine
shared w = w.machine

abbrev pub floats : ℕ → Module → Bool → Way Float FloatMachine
floats sides m keeps =
    record {
      source = m;
      keeps = keeps;
      plays = floats_by sides (mechanism keeps (channel_count (as_module m)) (samples_of (as_module m)));
      held = shared;
      holds = floats_hold sides keeps (channel_count (as_module m)) (samples_of (as_module m));
    }
