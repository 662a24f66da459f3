-- A tick keeps song and voices legal (`tick_kept`), on any machine that has the voices in it and moves them as the commands say; fresh states are legal.
-- Assumes nothing.
use Rattle.std.specs.Prelude.{◌≡◌, ℕ, ◌<◌, Bool, true, false, List, length, nat_lt, slice_index, slice_index_or, refl}
use Rattle.std.proofs.Common.{sym, ap, ◌∙◌, arith, ext_get_or, ltb-true, ltb-false}
use Rattle.laws.specs.Each.{length-each, get_or-each, same_each}
use Rattle.laws.specs.Ranges.{each}
use Rattle.common.specs.ByteLaws.{Bytes}
use Rattle.common.specs.Limits.{width}
use Rattle.ticks.specs.declared.Tick.{Tick}
use Rattle.ticks.specs.Legal.{LegalTick, get_or-sounding}
use Rattle.ticks.specs.Play.{Mechanism}
use Rattle.reader.specs.File.{Module, sample_count, channel_count, song_length}
use Rattle.reader.specs.Judge.{verdict}
use Rattle.reader.specs.Accept.{accepted_has}
use Rattle.reader.specs.Samples.{extents_of}
use Rattle.sequencer.specs.declared.Song.{Song}
use Rattle.sequencer.specs.Songs.{tick_of, fresh_song, fresh_sounding}
use Rattle.sequencer.specs.Kept.{fresh_legal}
use Rattle.sequencer.specs.Runs.{sounding_after_tick}
use Rattle.voice.specs.declared.Voice.{Voice}
use Rattle.voice.specs.Voice.{fresh_voice}
use Rattle.voice.specs.Frames.{blank}
use Rattle.reader.specs.Layouts.{LegalLayout}
use Rattle.voice.specs.LegalFacts.{Ready}
use Rattle.sequencer.specs.LegalFacts.{LegalRun}
use Rattle.voice.specs.Modules.{table_inside}
use Rattle.machine.specs.Machine.{fresh_machine}
use Rattle.machine.specs.Kept.{machine_fresh}
use Rattle.player.specs.State.{fresh_state, legal_state}
use Rattle.player.specs.Play.{soundings}
use Rattle.player.specs.Legal.{LegalVoiced, state_by}
use Rattle.sequencer.specs.RunLaws.{run_tick, run_kept}
use Rattle.machine.specs.Carries.{Carries}

-- ---- the sounding samples
pub soundings_at : (vs : List Voice) (i : ℕ) → i < width → slice_index (soundings vs) i ≡ (slice_index_or vs i blank).sample
unfolding soundings
soundings_at vs i h = get_or-each (λ j. (slice_index_or vs j blank).sample) width i 0 h

soundings_long : (vs : List Voice) → length (soundings vs) ≡ width
unfolding soundings
soundings_long vs = length-each (λ i. (slice_index_or vs i blank).sample) width

-- ---- the next tick of a legal state
module _ (m : Module) (y : LegalLayout m.layout) (e : (verdict m).number ≡ 0) (b : Bytes m.bytes) (song : Song) (vs : List Voice) (l : LegalVoiced m song vs) where
  pub state_run : LegalRun m song (soundings vs)
  state_run =
      record {
        song = l.song;
        sounding =
            record {
              long = soundings_long vs;
              low = λ i h. rw (soundings_at vs i (omega (arith, y.channels))) (l.voices.used i h).sample;
              rest = λ i w h. soundings_at vs i w ∙ ap (λ (v : Voice). v.sample) (l.voices.rest i w h);
            };
      }

  pub tick_is_legal : LegalTick (sample_count m) (soundings vs) (tick_of m song (soundings vs)).tick
  tick_is_legal = run_tick m (accepted_has m e) b y.channels song (soundings vs) state_run

  -- the voices are ready for its commands
  pub tick_ready : Ready m (extents_of m) vs (tick_of m song (soundings vs)).tick.commands
  tick_ready =
      record {
        inside = table_inside m y.samples (extents_of m) refl (accepted_has m e);
        voices = l.voices;
        commands =
            λ i h.
            let w : i < width = omega (arith, y.channels) in
            rw (← soundings_at vs i w) (tick_is_legal.commands i (rw (soundings_long vs) w));
      }

module _ {A W : Type 0} (k : Mechanism A W Tick) (voices_of : W → List Voice) (m : Module) (h : Carries k voices_of m) (y : LegalLayout m.layout) (e : (verdict m).number ≡ 0) (b : Bytes m.bytes) (song : Song) (w : W) (l : LegalVoiced m song (voices_of w)) where
  abbrev vs : List Voice
  vs = voices_of w

  abbrev t : Tick
  t = (tick_of m song (soundings vs)).tick

  -- song and voices after the tick are legal
  pub tick_kept : LegalVoiced m (tick_of m song (soundings vs)).song (voices_of (k.after w t))
  tick_kept =
      record {
        song = (run_kept m (accepted_has m e) b y.channels song (soundings vs) (state_run m y e b song vs l)).song;
        voices = h.legal w t (tick_ready m y e b song vs l);
      }

  -- the samples that sound after it are its commands'
  pub after_soundings : soundings (voices_of (k.after w t)) ≡ sounding_after_tick m song (soundings vs)
  after_soundings = ext_get_or 0 (soundings (voices_of (k.after w t))) (sounding_after_tick m song (soundings vs)) (soundings_long (voices_of (k.after w t)) ∙ sym run.sounding.long) (λ i p. at i (rw (soundings_long (voices_of (k.after w t))) at p))
    where
      run : LegalRun m (tick_of m song (soundings vs)).song (sounding_after_tick m song (soundings vs))
      run = run_kept m (accepted_has m e) b y.channels song (soundings vs) (state_run m y e b song vs l)

      at : (i : ℕ) → i < width → slice_index (soundings (voices_of (k.after w t))) i ≡ slice_index (sounding_after_tick m song (soundings vs)) i
      at i low = soundings_at (voices_of (k.after w t)) i low ∙ by (nat_lt i (channel_count m)) refl
        where
          by : (u : Bool) → nat_lt i (channel_count m) ≡ u → (slice_index_or (voices_of (k.after w t)) i blank).sample ≡ slice_index (sounding_after_tick m song (soundings vs)) i
          by true q = h.sample w t i (ltb-true i (channel_count m) q) ∙ sym (get_or-sounding t.commands i)
          by false q = ap (λ (v : Voice). v.sample) (tick_kept.voices.rest i low (ltb-false i (channel_count m) q)) ∙ sym (run.sounding.rest i low (ltb-false i (channel_count m) q))

-- ---- fresh states are legal
pub fresh_state_lem : (m : Module) → LegalLayout m.layout → (verdict m).number ≡ 0 → legal_state m fresh_state ≡ true
unfolding fresh_state fresh_machine fresh_song
fresh_state_lem m y e =
    state_by m y fresh_state
    (record {
      voiced =
          record {
            song = fresh_legal (song_length m) m.layout y.channels (accepted_has m e).song.0;
            voices = (machine_fresh m.layout (extents_of m) y.channels).voices;
          };
      remainder = omega arith;
    })

-- and their voices sound nothing
pub fresh_soundings : soundings fresh_state.voices ≡ fresh_sounding
unfolding fresh_state soundings
fresh_soundings = same_each (λ (i : ℕ). (slice_index_or (each (λ (j : ℕ). fresh_voice) width) i blank).sample) (λ (i : ℕ). 0) width (λ i h. ap (λ (v : Voice). v.sample) (get_or-each (λ (j : ℕ). fresh_voice) width i blank h))
