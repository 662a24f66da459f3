-- A stream in parts: what is played from a tick on is what the whole stream has there (`part_of_whole`), where a part ends the next begins (`part_goes_on`), and so a call that
-- plays as many ticks as its buffer holds, and then one from the next tick on, are one call (`stream_add`).
-- Assumes nothing.
use Rattle.std.specs.Prelude.{ℕ, ◌+◌, ◌≤◌, ◌≡◌, Bool, List, ◌++◌, ℤ, length, take, drop}
use Rattle.std.proofs.Common.{sym, ◌∙◌, take-append-drop, drop-drop}
use Rattle.std.proofs.Math.Path.{ap}
use Rattle.common.specs.Answers.{accepted, Outcome, outcome}
use Rattle.common.specs.declared.Answer.{Answer}
use Rattle.ticks.specs.declared.Tick.{Tick}
use Rattle.ticks.specs.Play.{Mechanism, after_all, rendered, fit}
use Rattle.ticks.specs.PlayLaws.{rendered_append}
use Rattle.ticks.proofs.PlayParts.{fit_parts, play_parts}
use Rattle.reader.specs.File.{module_of, sample_count, channel_count}
use Rattle.reader.specs.Judge.{verdict}
use Rattle.reader.specs.Samples.{Sample}
use Rattle.voice.specs.Voice.{samples_of}
use Rattle.machine.specs.declared.Machine.{Machine}
use Rattle.machine.specs.Machine.{fresh_machine, mechanism}
use Rattle.records.specs.Format.{keeps, ticks, decode}
use Rattle.board.specs.Board.{led_to, play_stream_from_of}
use Rattle.board.specs.Leading.{led_on}
use Rattle.board.specs.Counts.{stream_mechanism, stream_led, stream_numbers, stream_played}

module _ (keeping : Bool) (c : ℕ) (samples : ℕ → Sample) (ts : List Tick) where
  abbrev k : Mechanism ℤ Machine Tick
  k = mechanism keeping c samples

  -- the numbers before tick `first`, and then those from it on
  pub part_of_whole : (first : ℕ) → rendered k fresh_machine ts ≡ rendered k fresh_machine (take first ts) ++ rendered k (led_to keeping c samples first ts) (drop first ts)
  unfolding led_to
  part_of_whole first = ap (rendered k fresh_machine) (sym (take-append-drop first ts)) ∙ rendered_append k fresh_machine (take first ts) (drop first ts)

  -- after n ticks from `first` on: the machine, and the ticks that are left, are those of tick first + n
  pub part_goes_on : (first n : ℕ) → (led_to keeping c samples (first + n) ts ≡ after_all k (led_to keeping c samples first ts) (take n (drop first ts))) × (drop (first + n) ts ≡ drop n (drop first ts))
  part_goes_on first n = (led_on keeping c samples first n ts, sym (drop-drop n first ts))

-- ---- the calls
-- two plays as one: the counts added, and the first p cells of the first buffer followed by the second buffer
abbrev pub joined : {A : Type 0} → ℕ → Outcome Answer A → Outcome Answer A → Outcome Answer A
joined p o q = outcome (accepted (o.reply.count + q.reply.count)) (take p o.out ++ q.out)

module _ (bytes stream : List ℕ) (ts : List Tick) (e : (verdict (module_of bytes)).number ≡ 0) (d : decode (sample_count (module_of bytes)) (channel_count (module_of bytes)) stream ≡ ticks ts) (first : ℕ) (part out : List ℤ) (h : length part ≤ length out) where
  abbrev count : ℕ
  count = fit (stream_mechanism bytes stream ts) (length part) (stream_led bytes stream ts first) (drop first ts)

  -- a call from tick `first` on into any buffer that is no longer, and then a call from the tick after its last on into the rest of the buffer, are one call into the buffer
  pub stream_add : play_stream_from_of bytes stream first out
      ≡ joined (length (stream_numbers bytes stream ts first (play_stream_from_of bytes stream first part).reply.count)) (play_stream_from_of bytes stream first part)
      (play_stream_from_of bytes stream (first + (play_stream_from_of bytes stream first part).reply.count) (drop (length (stream_numbers bytes stream ts first (play_stream_from_of bytes stream first part).reply.count)) out))
  stream_add =
      let w = stream_led bytes stream ts first in
      let on = part_goes_on (keeps stream) (channel_count (module_of bytes)) (samples_of (module_of bytes)) ts first count in
      rw (
        stream_played bytes stream ts e d first out,
        stream_played bytes stream ts e d first part,
        stream_played bytes stream ts e d (first + count) (drop (length (stream_numbers bytes stream ts first count)) out),
        on.0,
        on.1,
        fit_parts (stream_mechanism bytes stream ts) w (drop first ts) part out h,
        play_parts (stream_mechanism bytes stream ts) w (drop first ts) part out h,
      )
