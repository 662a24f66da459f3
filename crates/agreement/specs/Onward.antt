-- Demand 3 for a part of a stream: what the board plays of it from a tick on is what the player plays on from its state before that tick (`part_as_player`).
-- Assumes nothing.
use Rattle.std.specs.Prelude.{ℕ, ◌+◌, ◌≤◌, ◌≡◌, true, List, ◌++◌, ℤ, length}
use Rattle.std.proofs.Common.{sym, ◌∙◌, take_at}
use Rattle.std.proofs.Math.Seq.{drop_at}
use borrow.Author.Tests.{eq-eqb}
use Rattle.laws.specs.Each.{length-each}
use Rattle.common.specs.Answers.{outcome, refusing}
use Rattle.common.specs.ByteLaws.{Bytes}
use Rattle.common.specs.Limits.{width}
use Rattle.reader.specs.File.{Module, module_of, channel_count}
use Rattle.reader.specs.Layouts.{module_legal}
use Rattle.reader.specs.Judge.{verdict}
use Rattle.sequencer.specs.Songs.{fresh_song}
use Rattle.sequencer.specs.RunLaws.{length-ticks}
use Rattle.voice.specs.declared.Voice.{Voice}
use Rattle.voice.specs.Voice.{fresh_voice, samples_of}
use Rattle.machine.specs.Machine.{fresh_machine}
use Rattle.player.specs.declared.State.{State}
use Rattle.player.specs.State.{fresh_state, legal_state}
use Rattle.player.specs.Play.{soundings, machine_of, ticks_of, played_from, play_of}
use Rattle.player.specs.Legal.{state_has, state_by}
use Rattle.player.specs.Kept.{fresh_state_lem}
use Rattle.player.specs.Counts.{ticked, machine_ticked}
use Rattle.player.specs.Keeps.{play_accepted, ticked_legal}
use Rattle.player.specs.Parts.{ticks_then}
use Rattle.translator.specs.Translate.{most_ticks, fresh_ticks, stream_of}
use Rattle.translator.specs.Streams.{stream_keeps, decode_stream}
use Rattle.board.specs.Board.{led_to, played_ticks, played_by, play_stream_from_of}
use Rattle.agreement.specs.Agreement.{fresh_ticks_lem}

module _ (bytes : List ℕ) (e : (verdict (module_of bytes)).number ≡ 0) (b : Bytes bytes) (first n : ℕ) (few : first + n ≤ most_ticks) where
  abbrev m : Module
  m = module_of bytes

  -- the player's state before tick `first`
  abbrev pub there : State
  there = ticked m first fresh_state

  fresh_long : length fresh_state.voices ≡ width
  unfolding fresh_state fresh_machine
  fresh_long = length-each {A = Voice} (λ i. fresh_voice) width

  fresh_legal : legal_state m fresh_state ≡ true
  fresh_legal = fresh_state_lem m (module_legal bytes) e

  pub there_legal : legal_state m there ≡ true
  there_legal = state_by m (module_legal bytes) there (ticked_legal m (module_legal bytes) e b fresh_state (state_has m (module_legal bytes) fresh_state fresh_long fresh_legal) first)

  -- the stream's ticks: those before it, and those that the player plays on from there
  pub ticks_are : fresh_ticks m (first + n) ≡ ticks_of m first fresh_state ++ ticks_of m n there
  ticks_are = sym (fresh_ticks_lem m (first + n)) ∙ ticks_then bytes e b fresh_state fresh_long fresh_legal first n

  pub before_long : length (ticks_of m first fresh_state) ≡ first
  before_long = length-ticks m first fresh_state.song (soundings fresh_state.voices)

  pub led_there : led_to true (channel_count m) (samples_of m) first (ticks_of m first fresh_state ++ ticks_of m n there) ≡ machine_of there
  unfolding led_to fresh_state fresh_song fresh_machine
  led_there = rw (take_at (ticks_of m first fresh_state) (ticks_of m n there) first before_long) (sym (machine_ticked m first fresh_state))

  pub part_as_player : (out : List ℤ) → play_stream_from_of bytes (stream_of m (first + n)) first out ≡ outcome (play_of bytes there n out).reply.answer (play_of bytes there n out).out
  unfolding play_stream_from_of refusing played_by played_ticks played_from
  part_as_player out =
      rw (
        eq-eqb (verdict m).number 0 e,
        stream_keeps m (first + n),
        decode_stream m (record { layout = module_legal bytes; judged = e; bytes = b }) (first + n) few,
        ticks_are,
        led_there,
        drop_at (ticks_of m first fresh_state) (ticks_of m n there) first before_long,
        play_accepted bytes e there there_legal n out,
      )
