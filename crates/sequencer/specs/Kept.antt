-- Legality is kept: for an accepted file, a legal song and sounding samples to the last, the song after a tick is legal (`song_kept`), and so is the tick (`tick_legal`). A fresh song is legal (`fresh_legal`).
-- Assumes nothing.
use Rattle.std.specs.Prelude.{◌≡◌, ℕ, zero, suc, ◌+◌, ◌%◌, ◌<◌, ◌≤◌, List, get_or, ◌==◌, slice_index, slice_index_or, refl}
use Rattle.std.proofs.Math.Path.{sym}
use Rattle.std.proofs.Common.{◌∙◌, arith, eqb-true, lit<, lit≤}
use Rattle.std.proofs.Common.{zero-le}
use Rattle.laws.specs.Choice.{either}
use Rattle.laws.specs.Each.{get_or-each, length-partly, get_or-first, get_or-other, partly_each}
use Rattle.common.specs.ByteLaws.{Bytes}
use Rattle.common.specs.Limits.{width, last_byte}
use Rattle.common.specs.LimitFacts.LegalPeriod.{silent}
use Rattle.ticks.specs.Commands.{nothing}
use Rattle.sequencer.specs.LegalFacts.{LegalSong, LegalSounding}
use Rattle.ticks.specs.Legal.{LegalCommand, LegalTick}
use Rattle.ticks.specs.declared.Command.{Command}
use Rattle.reader.specs.File.{Module, sample_count, channel_count, song_length}
use Rattle.reader.specs.Cells.{cell_at, cell_from, cell_offset}
use Rattle.reader.specs.Accept.{Accepted, LegalCell}
use Rattle.reader.proofs.CellsInside.{cell_legal}
use Rattle.reader.specs.declared.Layout.{Layout}
use Rattle.effects.specs.Legal.{fresh_channel}
use Rattle.effects.specs.LegalFacts.{fresh_channel_legal, LegalChannel}
use Rattle.effects.specs.Kept.{voiced_channel, voiced_command}
use Rattle.effects.specs.declared.Channel.{Channel}
use Rattle.sequencer.specs.Row.{cell_on, flow_through, flow_of}
use Rattle.sequencer.specs.Songs.{fresh_song, song_by, song_work, voiced_on, all_voiced, advanced, tick_with, tick_of}
use Rattle.sequencer.specs.RowKept.{LegalFlow, flow_legal, flow_from_legal}
use Rattle.sequencer.specs.NextKept.{position_begins, course_legal, course_kept, time_kept}
use Rattle.sequencer.specs.declared.Flow.{Flow}
use Rattle.sequencer.specs.declared.Song.{Song}

-- ---- the row's work
module _ (m : Module) (a : Accepted m) (b : Bytes m.bytes) (s : Song) (l : LegalSong (song_length m) m.layout s) where
  cell_on_lem : (i : ℕ) → i < channel_count m → LegalCell (sample_count m) (cell_on m s.course.at i)
  cell_on_lem i h = cell_legal m a s.course.at.position s.course.at.row i l.course.at.position l.course.at.row h

  param_on : (i : ℕ) → (cell_on m s.course.at i).param ≤ last_byte
  unfolding cell_at cell_from
  param_on i = omega (arith, b (cell_offset m s.course.at.position s.course.at.row i + 3))

  flows : (f : Flow) → LegalFlow (song_length m) f → (n : ℕ) → LegalFlow (song_length m) (flow_through m s.course.at f n)
  unfolding flow_through
  flows f h zero = h
  flows f h (suc n) = flow_legal (cell_on m s.course.at n) (param_on n) (song_length m) s.course.at.row a.song.0 l.course.at.row (flow_through m s.course.at f n) (flows f h n)

  row_song : s.time.tick ≡ 0 → LegalSong (song_length m) m.layout (song_by (song_length m) s (flow_of m s.course s.time))
  unfolding song_by
  row_song e =
      let f = flows _ (flow_from_legal (song_length m) s.course s.time e l.course l.time) (channel_count m) in
      record { course = course_legal _ _ _ a.song.0 l.course f; time = f.time; channels = l.channels; rest = l.rest }

  pub work_kept : LegalSong (song_length m) m.layout (song_work m s)
  unfolding song_work
  work_kept = either (LegalSong (song_length m) m.layout) (s.time.tick == 0) _ _ (λ e. row_song (eqb-true _ _ e)) (λ e. l)

  -- any channel in the tick
  module _ (sounding : List ℕ) (i : ℕ) (h : i < channel_count m) (k : get_or sounding i 0 ≤ sample_count m) where
    pub channel_kept : LegalChannel (sample_count m) (voiced_on m s sounding i).channel
    unfolding voiced_on
    channel_kept = voiced_channel m a (cell_on m s.course.at i) (cell_on_lem i h) (param_on i) s.time.tick (s.time.tick % s.time.speed) (slice_index_or s.channels i fresh_channel) (l.channels i h) (slice_index sounding i) k

    pub command_legal : LegalCommand (sample_count m) (slice_index sounding i) (voiced_on m s sounding i).command
    unfolding voiced_on
    command_legal = voiced_command m a (cell_on m s.course.at i) (cell_on_lem i h) (param_on i) s.time.tick (s.time.tick % s.time.speed) (slice_index_or s.channels i fresh_channel) (l.channels i h) (slice_index sounding i) k

-- ---- after the frames
advanced_legal : (positions : ℕ) (layout : Layout) (s : Song) → LegalSong positions layout s → (chs : List Channel) → ((i : ℕ) → i < layout.channels → LegalChannel layout.samples (slice_index_or chs i fresh_channel)) → ((i : ℕ) → i < width → layout.channels ≤ i → slice_index_or chs i fresh_channel ≡ fresh_channel) → LegalSong positions layout (advanced s chs)
unfolding advanced
advanced_legal positions layout s l chs h r = record { course = course_kept _ _ _ l.course; time = time_kept s.time l.time; channels = h; rest = r }

-- ---- the tick
nothing_legal : (last : ℕ) → LegalCommand last 0 nothing
nothing_legal last = record { sample = zero-le; volume = zero-le; period = silent; offset = zero-le; stays = λ e. refl; plain = λ e. refl }

-- the song after a tick is legal
module _ (m : Module) (a : Accepted m) (b : Bytes m.bytes) (room : channel_count m ≤ width) (s : Song) (l : LegalSong (song_length m) m.layout s) (sounding : List ℕ) (k : LegalSounding m sounding) where
  pub song_kept : LegalSong (song_length m) m.layout (tick_of m s sounding).song
  unfolding tick_of tick_with all_voiced
  song_kept =
      advanced_legal _ _ _ (work_kept m a b s l) _ (λ i h. rw (get_or-first f (channel_count m) (λ j. fresh_channel) width i fresh_channel room h) (channel_kept m a b s l sounding i h (k.low i h)))
      (λ i w h. get_or-other f (channel_count m) (λ j. fresh_channel) width i fresh_channel w h)
    where
      f : ℕ → Channel
      f j = (voiced_on m s sounding j).channel

  -- and so is the tick
  pub tick_legal : LegalTick (sample_count m) sounding (tick_of m s sounding).tick
  unfolding tick_of tick_with all_voiced
  tick_legal =
      record {
        tempo = (work_kept m a b s l).time.tempo;
        long = length-partly f (channel_count m) (λ j. nothing) width ∙ sym k.long;
        commands = λ i h. partly_each (λ (j : ℕ) (x : Command). LegalCommand (sample_count m) (slice_index sounding j) x) f (channel_count m) (λ j. nothing) width nothing (λ j q. command_legal m a b s l sounding j q (k.low j q)) (λ j w q. rw (k.rest j w q) (nothing_legal (sample_count m))) i (rw k.long at h);
      }
    where
      f : ℕ → Command
      f j = (voiced_on m s sounding j).command

-- ---- fresh states are legal
pub fresh_legal : (positions : ℕ) (layout : Layout) → layout.channels ≤ width → 0 < positions → LegalSong positions layout fresh_song
unfolding fresh_song
fresh_legal positions layout room h =
    record {
      course = position_begins positions 0 h;
      time = record { speed = record { low = lit≤ tt; high = lit≤ tt }; delay = zero-le; tick = lit< tt; tempo = record { low = lit≤ tt; high = lit≤ tt } };
      channels = λ i l. rw (get_or-each (λ j. fresh_channel) width i fresh_channel (omega arith)) (fresh_channel_legal layout.samples);
      rest = λ i w l. get_or-each (λ j. fresh_channel) width i fresh_channel w;
    }
