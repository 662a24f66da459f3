-- The loop that plays a song's ticks in code, on any way of sounding them: what its needs want, over plain variables.
-- Assumes nothing.
use Rattle.std.specs.Prelude.{◌≡◌, ℕ, ◌+◌, ◌-◌, ◌^◌, ◌<◌, ◌≤◌, true, false, List, length, take, drop, refl}
use Rattle.std.proofs.Common.{ap, ◌∙◌, arith, Fits, subst}
use Rattle.std.specs.Int.{w64}
use borrow.Rule.Slice.PartMut.{put_mid}
use Rattle.laws.specs.Lent.{tail_long}
use Rattle.common.specs.Limits.{width, greatest_tempo}
use Rattle.ticks.specs.declared.Command.{Command}
use Rattle.ticks.specs.declared.Command.{Command}
use Rattle.ticks.specs.declared.Tick.{Tick}
use Rattle.ticks.specs.Legal.{LegalTick}
use Rattle.reader.specs.File.{Module, channel_count}
use Rattle.reader.specs.Modules.{as_module}
use Rattle.reader.specs.declared.Extent.{Extent}
use Rattle.reader.specs.declared.Extent.{Extent}
use Rattle.sequencer.specs.declared.Song.{Song}
use Rattle.sequencer.specs.declared.Worked.{Worked}
use Rattle.sequencer.specs.Songs.{tick_of}
use Rattle.sequencer.specs.LegalFacts.{LegalRun}
use Rattle.voice.specs.declared.Voice.{Voice}
use Rattle.voice.specs.LegalFacts.{Ready}
use Rattle.voice.specs.LegalFacts.{Ready}
use Rattle.voice.specs.Voice.{samples_of}
use Rattle.machine.specs.declared.Machine.{Machine}
use Rattle.machine.specs.Machine.{after}
use Rattle.machine.specs.Turn.{turn, turn_of}
use Rattle.machine.specs.Turns.{turn_machine, turn_stays, turn_fits}
use Rattle.machine.specs.Kept.{after_below}
use Rattle.machine.specs.Carries.{holds_carries}
use Rattle.machine.specs.Sounding.{Way, Due}
use Rattle.player.specs.declared.State.{State}
use Rattle.player.specs.Play.{soundings}
use Rattle.player.specs.State.{legal_state}
use Rattle.player.specs.Legal.{state_has}
use Rattle.player.specs.Kept.{state_run, tick_is_legal, tick_ready}
use Rattle.player.specs.Running.{Running, Over, running_none, running_more, over_all, over_full}

-- the voices of a way's machine
abbrev pub voices_in : {A W : Type 0} → Way A W → W → List Voice
voices_in y w = (y.held w).voices

-- by the table of extents that a module was read with
ready_by : {m : Module} {xs ys : List Extent} {vs : List Voice} {cs : List Command} → xs ≡ ys → Ready m ys vs cs → Ready m xs vs cs
ready_by e r = rw e r

-- the state of a song and a machine
abbrev pub state_of : Song → Machine → State
state_of song w = record { song = song; voices = w.voices; remainder = w.remainder }

-- a machine and a song from which the module may be played: its song's tempo is the tick before's
pub record Begins {A W : Type 0} (y : Way A W) (w : W) (song : Song) : Type 0 where
  pub keeps : y.keeps ≡ true
  pub tempo : (y.held w).tempo ≡ song.time.tempo
  pub long : length (voices_in y w) ≡ width
  pub legal : legal_state (as_module y.source) (state_of song (y.held w)) ≡ true

-- the loop runs, with a remainder below a legal tempo
pub record Turning {A W : Type 0} (y : Way A W) (s₀ : State) (w₀ : W) (n : ℕ) (out₀ : List A) (song : Song) (w : W) (out : List A) (at i : ℕ) : Type 0 where
  pub below : ((y.held w).remainder < (y.held w).tempo) × ((y.held w).tempo ≤ greatest_tempo)
  pub run : Running y.plays (voices_in y) (as_module y.source) s₀ w₀ n out₀ song w out at i

module _ {A W : Type 0} (y : Way A W) where
  abbrev m : Module
  m = as_module y.source

  pub turning_none : (w : W) (song : Song) (n : ℕ) (out : List A) → Begins y w song → Turning y (state_of song (y.held w)) w n out song w out 0 0
  turning_none w song n out b =
      let s = state_of song (y.held w) in
      let legal = state_has m y.source.legal s b.long b.legal in
      record {
        below = rw b.tempo (legal.remainder, legal.voiced.song.time.tempo.high);
        run = running_none y.plays (voices_in y) m s w n out y.source.legal y.source.judged y.source.bytes (holds_carries y.plays y.held true m y.source.legal (rw b.keeps at y.holds)) legal.voiced refl;
      }

  module _ {s₀ : State} {w₀ : W} {n : ℕ} {out₀ : List A} {song : Song} {w : W} {out : List A} {at i : ℕ} (g : Turning y s₀ w₀ n out₀ song w out at i) where
    abbrev vs : List Voice
    vs = voices_in y w

    pub turning_within : at ≤ length out
    turning_within = omega (arith, g.run.playing.long, g.run.playing.low)

    -- the song and the sounding samples are legal
    pub turning_run : LegalRun (as_module y.source) song (soundings (voices_in y w))
    turning_run = state_run m g.run.layout g.run.judge g.run.bytes song vs g.run.legal

    -- all ticks are played
    pub turned_all : n ≤ i → Over y.plays (voices_in y) (as_module y.source) s₀ w₀ n out₀ song w out n
    turned_all h =
        let e : i ≡ n = omega (arith, g.run.low) in
        subst (λ (j : ℕ). Over y.plays (voices_in y) (as_module y.source) s₀ w₀ n out₀ song w out j) e (over_all y.plays (voices_in y) m g.run h)

    module _ (h : i < n) (x : Worked) (worked : x ≡ tick_of (as_module y.source) song (soundings (voices_in y w))) where
      abbrev t : Tick
      t = (tick_of m song (soundings vs)).tick

      legal : LegalTick m.layout.samples (soundings vs) t
      legal = tick_is_legal m g.run.layout g.run.judge g.run.bytes song vs g.run.legal

      -- the next tick is due
      pub turning_due : Due y w x.tick
      turning_due =
          record {
            ready = ready_by y.source.table (rw worked (tick_ready m g.run.layout g.run.judge g.run.bytes song vs g.run.legal));
            tempo = rw worked legal.tempo.low;
            below = g.below.0;
            slow = g.below.1;
          }

      -- it does not fit
      pub turned_full : (next : W) (part : List A) → turn true 0 next part ≡ turn_of y.plays w x.tick (take (length out - at) (drop at out)) → Over y.plays (voices_in y) (as_module y.source) s₀ w₀ n out₀ song next (put_mid at (length out - at) out part) i
      turned_full next part q =
          let e = q ∙ ap (λ (z : Worked). turn_of y.plays w z.tick (take (length out - at) (drop at out))) worked in
          rw (turn_stays y.plays w t (take (length out - at) (drop at out)) (turn true 0 next part) e refl)
          (over_full y.plays (voices_in y) m g.run h (turn true 0 next part) e refl)

      -- it fits
      module _ (size : ℕ) (next : W) (part : List A) (q : turn false size next part ≡ turn_of y.plays w x.tick (take (length out - at) (drop at out))) where
        turn_is : turn false size next part ≡ turn_of y.plays w t (take (length out - at) (drop at out))
        turn_is = q ∙ ap (λ (z : Worked). turn_of y.plays w z.tick (take (length out - at) (drop at out))) worked

        moved : y.held next ≡ after y.keeps (channel_count m) (samples_of m) (y.held w) t
        moved = ap y.held (turn_machine y.plays w t (take (length out - at) (drop at out)) (turn false size next part) turn_is refl) ∙ y.holds.moves w t

        next_below : ((y.held next).remainder < (y.held next).tempo) × ((y.held next).tempo ≤ greatest_tempo)
        unfolding after
        next_below = rw moved (after_below y.keeps (channel_count m) (samples_of m) (y.held w) t (omega (arith, legal.tempo.low)), legal.tempo.high)

        -- the next tick's place is a number of the machine
        pub turning_next : length out₀ < 2 ^ 62 → Fits w64 (at + size)
        turning_next l =
            let f = turn_fits y.plays w t (take (length out - at) (drop at out)) (turn false size next part) turn_is refl in
            record { fits = omega (arith, tail_long at out, turning_within, g.run.playing.long, f.room, f.size) }

        pub turning_more : Turning y s₀ w₀ n out₀ x.song next (put_mid at (length out - at) out part) (at + size) (i + 1)
        turning_more =
            let s : x.song ≡ (tick_of m song (soundings vs)).song = ap (λ (y : Worked). y.song) worked in
            record {
              below = next_below;
              run = rw s (running_more y.plays (voices_in y) m g.run h (turn false size next part) turn_is refl);
            }
