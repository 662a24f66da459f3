-- The play of 16-bit numbers: where the loop of a song's ticks is over, its answer and buffer are the definition's.
-- Assumes nothing.
use Rattle.std.proofs.Common.{◌≡◌, ℕ, true, List, length, ℤ, refl}
use Rattle.common.specs.Answers.{accepted, outcome}
use Rattle.common.specs.Limits.{width}
use Rattle.reader.specs.Modules.{as_module}
use Rattle.reader.specs.declared.module.Module.{Module}
use Rattle.sequencer.specs.declared.Song.{Song}
use Rattle.machine.specs.declared.Machine.{Machine}
use Rattle.machine.specs.Sounding.{integers}
use Rattle.player.specs.declared.State.{State}
use Rattle.player.specs.declared.Reply.{Reply}
use Rattle.player.specs.State.{legal_state, reply}
use Rattle.player.specs.Play.{machine_of, played_from}
use Rattle.player.specs.Running.{Over}
use Rattle.player.specs.Turning.{Begins}

module _ (m : Module) {s : State} where
  pub integers_begin : legal_state (as_module m) s ≡ true → length s.voices ≡ width → Begins (integers m true) (machine_of s) s.song
  integers_begin e l = record { keeps = refl; tempo = refl; long = l; legal = e }

  pub integers_end : {n i : ℕ} {song : Song} {w : Machine} {out₀ out : List ℤ} (r : Reply) → Over (integers m true).plays (λ x. x.voices) (as_module m) s (machine_of s) n out₀ song w out i
      → r ≡ reply (accepted i) (record { song = song; voices = w.voices; remainder = w.remainder }) → outcome r out ≡ played_from (as_module m) s n out₀
  unfolding played_from
  integers_end r o e = rw (e, o.tune, ← o.cells, ← o.machine, ← o.count)
