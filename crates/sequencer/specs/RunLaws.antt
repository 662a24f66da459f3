-- Ticks in a row: n ticks and then j more are n + j (`ticks_add`, `song_add`); every tick of a legal run is legal (`run_tick`, `runs_ticks`) and leaves
-- one (`run_kept`, `runs_kept`); a fresh song with no sample sounding is legal for every accepted file (`fresh_run`).
-- Assumes nothing.
use Rattle.std.specs.Prelude.{◌≡◌, ℕ, zero, suc, ◌+◌, ◌<◌, ◌≤◌, List, ◌∷◌, ◌++◌, length, ◌==◌, slice_index_or}
use Rattle.std.proofs.Math.Path.{refl, ap}
use Rattle.std.proofs.Common.{◌∙◌, arith}
use Rattle.std.proofs.Math.Nat.{zero-add, suc-add}
use Rattle.std.proofs.Common.{zero-le}
use Rattle.laws.specs.Choice.{either}
use Rattle.laws.specs.Each.{length-each, get_or-each, get_or-other}
use Rattle.common.specs.Limits.{width}
use Rattle.common.specs.ByteLaws.{Bytes}
use Rattle.ticks.specs.Legal.{LegalTick, LegalTicks, length-sounding, get_or-sounding}
use Rattle.ticks.specs.Legal.LegalTicks.{none, more}
use Rattle.ticks.specs.declared.Command.{Command}
use Rattle.ticks.specs.declared.Tick.{Tick}
use Rattle.reader.specs.File.{Module, song_length, sample_count, channel_count}
use Rattle.reader.specs.Accept.{Accepted}
use Rattle.sequencer.specs.Songs.{fresh_song, fresh_sounding, song_work, voiced_on, all_voiced, next_tick, time_to, advanced, tick_with, tick_of}
use Rattle.ticks.specs.Commands.{nothing}
use Rattle.sequencer.specs.LegalFacts.{LegalSounding, LegalRun}
use Rattle.sequencer.specs.Kept.{song_kept, tick_legal, fresh_legal}
use Rattle.sequencer.specs.Runs.{sounding_after_tick, ticks_from, song_after}
use Rattle.sequencer.specs.declared.Time.{Time}
use Rattle.sequencer.specs.declared.Song.{Song}

-- the sounding samples after n ticks
unfoldable pub sounding_after : Module → ℕ → Song → List ℕ → List ℕ
sounding_after m zero s k = k
sounding_after m (suc n) s k = sounding_after m n (tick_of m s k).song (sounding_after_tick m s k)

-- ---- the song's tempo after a tick is the tick's
pub tick_tempo : (m : Module) (s : Song) (k : List ℕ) → (tick_of m s k).song.time.tempo ≡ (tick_of m s k).tick.tempo
unfolding tick_of tick_with advanced time_to
tick_tempo m s k =
    let t = (song_work m s).time in
    either (λ (x : Time). x.tempo ≡ t.tempo) (next_tick t == 0) _ _ (λ e. refl) (λ e. refl)

-- ---- n ticks, and then j more
module _ (m : Module) where
  pub length-ticks : (n : ℕ) (s : Song) (k : List ℕ) → length (ticks_from m n s k) ≡ n
  unfolding ticks_from
  length-ticks zero s k = refl
  length-ticks (suc n) s k = ap suc (length-ticks n _ _)

  pub ticks_add : (n j : ℕ) (s : Song) (k : List ℕ) → ticks_from m (n + j) s k ≡ ticks_from m n s k ++ ticks_from m j (song_after m n s k) (sounding_after m n s k)
  unfolding ticks_from song_after sounding_after
  ticks_add zero j s k = rw zero-add
  ticks_add (suc n) j s k = rw suc-add (ap (λ (ts : List Tick). (tick_of m s k).tick ∷ ts) (ticks_add n j _ _))

  pub song_add : (n j : ℕ) (s : Song) (k : List ℕ) → song_after m (n + j) s k ≡ song_after m j (song_after m n s k) (sounding_after m n s k)
  unfolding song_after sounding_after
  song_add zero j s k = rw zero-add
  song_add (suc n) j s k = rw suc-add (song_add n j _ _)

-- ---- legality is kept by every tick
-- a channel past the count is told nothing
untold : (m : Module) (s : Song) (k : List ℕ) (i : ℕ) → i < width → channel_count m ≤ i → (slice_index_or (tick_of m s k).tick.commands i nothing).sample ≡ 0
unfolding tick_of tick_with all_voiced
untold m s k i w p = ap (λ (c : Command). c.sample) (get_or-other (λ j. (voiced_on m s k j).command) (channel_count m) (λ j. nothing) width i nothing w p)

module _ (m : Module) (a : Accepted m) (b : Bytes m.bytes) (room : channel_count m ≤ width) where
  -- one tick is legal
  pub run_tick : (s : Song) (k : List ℕ) → LegalRun m s k → LegalTick (sample_count m) k (tick_of m s k).tick
  run_tick s k l = tick_legal m a b room s l.song k l.sounding

  -- its commands' samples are legal to sound
  sounds : (s : Song) (k : List ℕ) → LegalRun m s k → LegalSounding m (sounding_after_tick m s k)
  sounds s k l =
      record {
        long = length-sounding (tick_of m s k).tick.commands ∙ t.long ∙ l.sounding.long;
        low = λ i p. rw (get_or-sounding (tick_of m s k).tick.commands i) (t.commands i (rw l.sounding.long (let w : i < width = omega arith in w))).sample;
        rest = λ i w p. get_or-sounding (tick_of m s k).tick.commands i ∙ untold m s k i w p;
      }
    where
      t : LegalTick (sample_count m) k (tick_of m s k).tick
      t = run_tick s k l

  -- and leaves a legal song with legal sounding samples
  pub run_kept : (s : Song) (k : List ℕ) → LegalRun m s k → LegalRun m (tick_of m s k).song (sounding_after_tick m s k)
  run_kept s k l = record { song = song_kept m a b room s l.song k l.sounding; sounding = sounds s k l }

  -- n ticks are legal, each beside the one before
  pub runs_ticks : (n : ℕ) (s : Song) (k : List ℕ) → LegalRun m s k → LegalTicks (sample_count m) k (ticks_from m n s k)
  unfolding ticks_from
  runs_ticks zero s k l = none
  runs_ticks (suc n) s k l = more (run_tick s k l) (runs_ticks n _ _ (run_kept s k l))

  pub runs_kept : (n : ℕ) (s : Song) (k : List ℕ) → LegalRun m s k → LegalRun m (song_after m n s k) (sounding_after m n s k)
  unfolding song_after sounding_after
  runs_kept zero s k l = l
  runs_kept (suc n) s k l = runs_kept n _ _ (run_kept s k l)

-- ---- sounding samples that were computed
pub run_same : (m : Module) (s : Song) (k r : List ℕ) → LegalRun m s k → r ≡ k → LegalRun m s r
run_same m s k r l e = rw e l

-- ---- a fresh song with no sample sounding is legal for every accepted file
pub fresh_run : (m : Module) → Accepted m → channel_count m ≤ width → LegalRun m fresh_song fresh_sounding
fresh_run m a room =
    record {
      song = fresh_legal (song_length m) m.layout room a.song.0;
      sounding =
          record {
            long = length-each {A = ℕ} (λ i. 0) width;
            low = λ i l. rw (get_or-each {A = ℕ} (λ j. 0) width i 0 (omega arith)) zero-le;
            rest = λ i w l. get_or-each {A = ℕ} (λ j. 0) width i 0 w;
          };
    }
