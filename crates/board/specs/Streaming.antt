-- The loop that plays a stream's ticks, on any machine that carries the voices: what is played, followed by the ticks of the records that are left, is the whole.
-- Assumes nothing.
use Rattle.std.specs.Prelude.{ℕ, ◌+◌, ◌-◌, ◌≤◌, ◌<◌, ◌≡◌, true, false, Ok, List, length, take, drop}
use Rattle.std.proofs.Common.{ap, ◌∙◌}
use borrow.Rule.Slice.PartMut.{put_mid}
use Rattle.ticks.specs.declared.Command.{Command}
use Rattle.ticks.specs.declared.Tick.{Tick}
use Rattle.ticks.specs.Play.{Mechanism}
use Rattle.ticks.specs.Playing.{Playing, Played, playing_none, playing_all}
use Rattle.reader.specs.File.{Module, sample_count, channel_count}
use Rattle.voice.specs.declared.Voice.{Voice}
use Rattle.machine.specs.Turn.{Turned, turn_of}
use Rattle.machine.specs.Turns.{turn_machine, stops_same, playing_stops, playing_turns}
use Rattle.machine.specs.Carries.{Carries}
use Rattle.records.specs.Format.{read_record}
use Rattle.decoder.specs.declared.reading.Record.{Record}
use Rattle.decoder.specs.Results.{as_record}
use Rattle.board.specs.Reading.{Reading, reading_end, next, next_ready, reading_more}

module _ {A W : Type 0} (k : Mechanism A W Tick) (voices_of : W → List Voice) (m : Module) (s : List ℕ) (count : ℕ) where
  -- i ticks of these are played on w₀ and into out₀
  pub record Streaming (w₀ : W) (its : List Tick) (out₀ : List A) (w : W) (registers : List Command) (from : ℕ) (out : List A) (at i : ℕ) : Type 0 where
    pub carries : Carries k voices_of m
    pub rest : List Tick
    pub going : Reading m s count (voices_of w) registers from i rest
    pub play : Playing k w₀ its out₀ w rest out at i

  pub streaming_none : (w₀ : W) (its : List Tick) (out₀ : List A) (registers : List Command) (from : ℕ) → Carries k voices_of m → Reading m s count (voices_of w₀) registers from 0 its → Streaming w₀ its out₀ w₀ registers from out₀ 0 0
  streaming_none w₀ its out₀ registers from c g = record { carries = c; rest = its; going = g; play = playing_none k w₀ its out₀ }

  module _ {w₀ : W} {its : List Tick} {out₀ : List A} {w : W} {registers : List Command} {from : ℕ} {out : List A} {at i : ℕ} (g : Streaming w₀ its out₀ w registers from out at i) where
    -- no record is left
    pub streamed_all : count ≤ i → Played k w₀ its out₀ w out i
    streamed_all h = playing_all k w₀ its out₀ w g.rest out at i g.play (reading_end g.going h)

    module _ (h : i < count) (r : Record) (q : Ok r ≡ as_record (read_record (sample_count m) (channel_count m) s from registers)) (x : Turned A W) (e : x ≡ turn_of k w r.tick (take (length out - at) (drop at out))) where
      -- it does not fit
      pub streamed_full : x.full ≡ true → Played k w₀ its out₀ w (put_mid at (length out - at) out x.out) i
      streamed_full f = let n = next g.going h r q in playing_stops k w₀ its out₀ w g.rest out at i g.play r.tick n.rest n.is x e f

      pub full_long : x.full ≡ true → length (put_mid at (length out - at) out x.out) ≡ length out₀
      full_long f = let n = next g.going h r q in ap length (stops_same k w₀ its out₀ w g.rest out at i g.play r.tick n.rest n.is x e f) ∙ g.play.long

      -- it fits
      pub streaming_more : x.full ≡ false → Streaming w₀ its out₀ x.machine r.tick.commands r.next (put_mid at (length out - at) out x.out) (at + x.size) (i + 1)
      streaming_more f =
          let n = next g.going h r q in
          let v : x.machine ≡ k.after w r.tick = turn_machine k w r.tick (take (length out - at) (drop at out)) x e f in
          record {
            carries = g.carries;
            rest = n.rest;
            going = reading_more g.going h r q (voices_of x.machine) (rw v (g.carries.legal w r.tick (next_ready g.going h r q))) (λ j l. rw v (g.carries.sample w r.tick j l));
            play = playing_turns k w₀ its out₀ w g.rest out at i g.play r.tick n.rest n.is x e f;
          }
