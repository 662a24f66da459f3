-- The play of floats: where the loop of a song's ticks is over, its answer, record and buffer are the definition's.
-- Assumes nothing.
use Rattle.std.proofs.Common.{◌≡◌, ℕ, true, List, length, refl}
use lib.Ieee.{Float}
use Rattle.common.specs.Answers.{accepted, outcome}
use Rattle.common.specs.Limits.{width}
use Rattle.reader.specs.Modules.{as_module}
use Rattle.reader.specs.declared.module.Module.{Module}
use Rattle.sequencer.specs.declared.Song.{Song}
use Rattle.floats.specs.declared.Pair.{Pair}
use Rattle.float_machine.specs.Machine.{FloatMachine}
use Rattle.float_machine.specs.Sounding.{floats}
use Rattle.player.specs.declared.State.{State}
use Rattle.player.specs.State.{legal_state, reply}
use Rattle.player.specs.Running.{Over}
use Rattle.player.specs.Turning.{Begins}
use Rattle.float_player.specs.declared.FloatReply.{FloatReply}
use Rattle.float_player.specs.Play.{float_reply, start_of, floats_from}

module _ (m : Module) {s : State} (sides : ℕ) (pair : Pair) where
  pub floats_begin : legal_state (as_module m) s ≡ true → length s.voices ≡ width → Begins (floats sides m true) (start_of s pair) s.song
  floats_begin e l = record { keeps = refl; tempo = refl; long = l; legal = e }

  pub floats_end : {n i : ℕ} {song : Song} {w : FloatMachine} {out₀ out : List Float} (r : FloatReply) → Over (floats sides m true).plays (λ x. x.machine.voices) (as_module m) s (start_of s pair) n out₀ song w out i
      → r ≡ float_reply (reply (accepted i) (record { song = song; voices = w.machine.voices; remainder = w.machine.remainder })) w.last → outcome r out ≡ floats_from (as_module m) s n sides pair out₀
  unfolding floats_from
  floats_end r o e = rw (e, o.tune, ← o.cells, ← o.machine, ← o.count)
