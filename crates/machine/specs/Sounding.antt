-- How a module's ticks are sounded, on a machine that has the shared one in it.
-- Assumes nothing.
use Rattle.std.specs.Prelude.{◌≤◌, ◌<◌, Bool, ℤ}
use Rattle.std.proofs.Common.{arith}
use Rattle.common.specs.Limits.{least_tempo, greatest_tempo}
use Rattle.ticks.specs.declared.Tick.{Tick}
use Rattle.ticks.specs.Play.{Mechanism}
use Rattle.reader.specs.File.{channel_count}
use Rattle.reader.specs.Modules.{as_module}
use Rattle.reader.specs.declared.module.Module.{Module}
use Rattle.voice.specs.Voice.{samples_of}
use Rattle.voice.specs.LegalFacts.{Ready}
use Rattle.machine.specs.declared.Machine.{Machine}
use Rattle.machine.specs.Machine.{mechanism}
use Rattle.machine.specs.Carries.{Holds, itself, holds_itself}

-- the module, whether remainders are kept, how its ticks are played, and the shared machine in what plays them
pub record Way (A W : Type 0) : Type 0 where
  pub source : Module
  pub keeps : Bool
  pub plays : Mechanism A W Tick
  pub held : W → Machine
  pub holds : Holds plays held keeps (channel_count (as_module source)) (samples_of (as_module source))

-- a tick that the machine is ready for
pub record Due {A W : Type 0} (y : Way A W) (w : W) (t : Tick) : Type 0 where
  pub ready : Ready (as_module y.source) y.source.extents (y.held w).voices t.commands
  pub tempo : least_tempo ≤ t.tempo
  pub below : (y.held w).remainder < (y.held w).tempo
  pub slow : (y.held w).tempo ≤ greatest_tempo

module _ {A W : Type 0} {y : Way A W} {w : W} {t : Tick} (d : Due y w t) where
  pub due_some : 0 < t.tempo
  due_some = omega (arith, d.tempo)

  pub due_low : (y.held w).remainder ≤ greatest_tempo
  due_low = omega (arith, d.below, d.slow)

-- as 16-bit numbers
abbrev pub integers : Module → Bool → Way ℤ Machine
integers m keeps =
    record {
      source = m;
      keeps = keeps;
      plays = mechanism keeps (channel_count (as_module m)) (samples_of (as_module m));
      held = itself;
      holds = holds_itself keeps (channel_count (as_module m)) (samples_of (as_module m));
    }
