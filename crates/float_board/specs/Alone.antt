-- Float frames, too, follow from the stream's bytes and the samples with their lengths and loops alone, never from patterns or table (`same_floats`); so does the record.
-- Assumes nothing.
use Rattle.std.specs.Prelude.{ℕ, ◌≤◌, ◌≡◌, Bool, List, ℤ, length, drop, Float}
use Rattle.std.proofs.Math.Path.{refl}
use Rattle.std.proofs.Common.{sym, ap, ◌∙◌}
use Rattle.common.specs.Answers.{refusing}
use Rattle.common.specs.Limits.{width}
use Rattle.ticks.specs.declared.Tick.{Tick}
use Rattle.ticks.specs.Commands.{sounding_of}
use Rattle.ticks.specs.Legal.{LegalTicks, length-sounding}
use Rattle.ticks.specs.Play.{Mechanism, fit, play_out}
use Rattle.reader.specs.File.{module_of, sample_count, channel_count}
use Rattle.reader.specs.Layouts.{module_legal}
use Rattle.reader.specs.Judge.{verdict}
use Rattle.reader.specs.Samples.{Sample, extents_of}
use Rattle.reader.specs.Extents.{sample_of}
use Rattle.voice.specs.Voice.{samples_of}
use Rattle.voice.specs.Modules.{sample_is}
use Rattle.machine.specs.declared.Machine.{Machine}
use Rattle.machine.specs.Machine.{mechanism}
use Rattle.floats.specs.declared.Pair.{Pair}
use Rattle.floats.specs.Frames.{floats_of}
use Rattle.float_machine.specs.Machine.{float_frames, float_after, floats_by}
use Rattle.records.specs.Format.{keeps, at_first, Decoded, refusal, ticks, decode}
use Rattle.records.specs.Registers.{first_long}
use Rattle.records.specs.Decoded.{stream_of_lem}
use Rattle.board.specs.Alone.{Alike, fit_same, rendered_same, after_alike, legal_onward, samples_alike, led_same}
use Rattle.float_board.specs.Board.{floats_on, floats_led, played_floats, floats_board_by, float_board_of, play_stream_floats_from_of}

-- two machines that play 16-bit frames alike play floats alike
floats_alike : (sides last : ℕ) (k k' : Mechanism ℤ Machine Tick) → Alike last k k' → Alike last (floats_by sides k) (floats_by sides k')
unfolding float_frames float_after
floats_alike sides last k k' a =
    record {
      frames = λ w soundings long t l. ap (floats_of sides) (a.frames w.machine soundings long t l);
      after = λ w soundings long t l. rw (a.frames w.machine soundings long t l, a.after w.machine soundings long t l);
    }

module _ (last c : ℕ) (room : c ≤ width) (samples others : ℕ → Sample) (same : (k : ℕ) → k ≤ last → samples k ≡ others k) (sides : ℕ) (pair : Pair) where
  played_same : (keeping : Bool) (soundings : List ℕ) → length soundings ≡ width → (first : ℕ) (ts : List Tick) (out : List Float) → LegalTicks last soundings ts → played_floats keeping c samples first ts sides pair out ≡ played_floats keeping c others first ts sides pair out
  unfolding played_floats play_out
  played_same keeping soundings long first ts out l =
      let a = floats_alike sides last (mechanism keeping c samples) (mechanism keeping c others) (samples_alike keeping last c room samples others same) in
      let w = floats_led keeping c others first ts pair in
      let n = fit (floats_on keeping c others sides) (length out) w (drop first ts) in
      let d = legal_onward last first soundings long ts l in
      rw (
        led_same keeping last c room samples others same soundings long first ts l,
        fit_same a (length out) w d.soundings d.long (drop first ts) d.legal,
        rendered_same a w d.soundings d.long (drop first ts) n d.legal,
        after_alike a w d.soundings d.long (drop first ts) n d.legal,
      )

  board_same : (first : ℕ) (stream : List ℕ) (out : List Float) → float_board_of last c samples first stream sides pair out ≡ float_board_of last c others first stream sides pair out
  unfolding floats_board_by
  board_same first stream out = go (decode last c stream) refl
    where
      go : (d : Decoded) → decode last c stream ≡ d → floats_board_by (keeps stream) c samples first d sides pair out ≡ floats_board_by (keeps stream) c others first d sides pair out
      go (refusal number place) e = refl
      go (ticks ts) e = played_same (keeps stream) (sounding_of at_first) (length-sounding at_first ∙ first_long) first ts out (stream_of_lem last c stream ts e).legal

-- two accepted files of as many channels with equal samples give equal numbers, and equal answers and records, for every stream, tick to begin with, sides and output
pub same_floats : (bytes bytes' : List ℕ) → (verdict (module_of bytes)).number ≡ 0 → (verdict (module_of bytes')).number ≡ 0
    → channel_count (module_of bytes) ≡ channel_count (module_of bytes')
    → ((k : ℕ) → k ≤ sample_count (module_of bytes) → sample_of (module_of bytes) k ≡ sample_of (module_of bytes') k)
    → (stream : List ℕ) (first sides : ℕ) (pair : Pair) (out : List Float) → play_stream_floats_from_of bytes stream first sides pair out ≡ play_stream_floats_from_of bytes' stream first sides pair out
unfolding play_stream_floats_from_of refusing
same_floats bytes bytes' e e' count same stream first sides pair out =
    let m = module_of bytes in
    let m' = module_of bytes' in
    rw (
      e,
      e',
      board_same (sample_count m) (channel_count m) (module_legal bytes).channels (samples_of m) (samples_of m')
          (λ k h. sample_is m (module_legal bytes).samples (extents_of m) refl k h ∙ (same k h ∙ sym (sample_is m' (module_legal bytes').samples (extents_of m') refl k h)))
          sides pair first stream out
          ∙ ap (λ (c : ℕ). float_board_of (sample_count m) c (samples_of m') first stream sides pair out) count,
    )
