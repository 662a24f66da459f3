-- A song is legal exactly where the question of refusal 14 is answered by yes: `song_has` and `song_by_lem`, from the same of its groups.
-- Assumes nothing.
use Rattle.std.specs.Prelude.{◌≡◌, ℕ, ◌<◌, ◌≤◌, Bool, true, List, length, nat_lt, slice_index, slice_index_or}
use Rattle.std.proofs.Common.{arith, le-leb, leb-true, lt-ltb, le-ltb, ltb-true, ltb-false}
use Rattle.laws.specs.Choice.{either}
use Rattle.laws.specs.Every.{all_at, all_by, Each, every_at, every_by}
use Rattle.common.specs.Limits.{width, last_row, least_tempo, greatest_tempo}
use Rattle.reader.specs.declared.Layout.{Layout}
use Rattle.effects.specs.Legal.{fresh_channel}
use Rattle.effects.specs.LegalFacts.{fresh_has, fresh_by, channel_has, channel_by, LegalChannel}
use Rattle.effects.specs.declared.Channel.{Channel}
use Rattle.sequencer.specs.Songs.{row_ticks}
use Rattle.sequencer.specs.Legal.{least_speed, greatest_speed, last_delay, legal_place, legal_loop, legal_course, legal_time, legal_or_fresh, legal_at, legal_song}
use Rattle.sequencer.specs.declared.Place.{Place}
use Rattle.sequencer.specs.declared.Loop.{Loop}
use Rattle.sequencer.specs.declared.Course.{Course}
use Rattle.sequencer.specs.declared.Time.{Time}
use Rattle.sequencer.specs.declared.Song.{Song}
use Rattle.laws.specs.Ranges.{every}
use Rattle.common.specs.LimitFacts.{between_has, between_by, Between}
use Rattle.reader.specs.File.{Module, sample_count, channel_count, song_length}

-- ---- as facts
-- positions below song length, rows to 63
pub record LegalPlace (positions : ℕ) (p : Place) : Type 0 where
  pub position : p.position < positions
  pub row : p.row ≤ last_row

-- loop row to 63, count 0 to 15
pub record LegalLoop (l : Loop) : Type 0 where
  pub row : l.row ≤ last_row
  pub count : l.count ≤ last_delay

-- position and next position, row and next row, loop row and count
pub record LegalCourse (positions : ℕ) (c : Course) : Type 0 where
  pub at : LegalPlace positions c.at
  pub next : LegalPlace positions c.next
  pub looping : LegalLoop c.looping

-- speed 1 to 31, delay 0 to 15, u below speed × (1 + delay), tempo 32 to 255
pub record LegalTime (t : Time) : Type 0 where
  pub speed : Between least_speed greatest_speed t.speed
  pub delay : t.delay ≤ last_delay
  pub tick : t.tick < row_ticks t
  pub tempo : Between least_tempo greatest_tempo t.tempo

-- for a module of this song length and layout; a channel past the count is as fresh
pub record LegalSong (positions : ℕ) (l : Layout) (s : Song) : Type 0 where
  pub course : LegalCourse positions s.course
  pub time : LegalTime s.time
  pub channels : (i : ℕ) → i < l.channels → LegalChannel l.samples (slice_index_or s.channels i fresh_channel)
  pub rest : (i : ℕ) → i < width → l.channels ≤ i → slice_index_or s.channels i fresh_channel ≡ fresh_channel

-- a sounding sample to the last for each channel in use, and 0 for the others
pub record LegalSounding (m : Module) (k : List ℕ) : Type 0 where
  pub long : length k ≡ width
  pub low : (i : ℕ) → i < channel_count m → slice_index k i ≤ sample_count m
  pub rest : (i : ℕ) → i < width → channel_count m ≤ i → slice_index k i ≡ 0

-- a legal song with its sounding samples
pub record LegalRun (m : Module) (s : Song) (k : List ℕ) : Type 0 where
  pub song : LegalSong (song_length m) m.layout s
  pub sounding : LegalSounding m k

place_has : (positions : ℕ) (p : Place) → legal_place positions p ≡ true → LegalPlace positions p
unfolding legal_place
place_has positions p e =
    let h = all_at _ e in
    record { position = ltb-true p.position positions (h 0); row = leb-true p.row last_row (h 1) }

place_by : (positions : ℕ) (p : Place) → LegalPlace positions p → legal_place positions p ≡ true
unfolding legal_place Each
place_by positions p h = all_by _ (lt-ltb _ _ h.position, (le-leb _ _ h.row, tt))

loop_has : (l : Loop) → legal_loop l ≡ true → LegalLoop l
unfolding legal_loop
loop_has l e = let h = all_at _ e in record { row = leb-true l.row last_row (h 0); count = leb-true l.count last_delay (h 1) }

loop_by : (l : Loop) → LegalLoop l → legal_loop l ≡ true
unfolding legal_loop Each
loop_by l h = all_by _ (le-leb _ _ h.row, (le-leb _ _ h.count, tt))

course_has : (positions : ℕ) (c : Course) → legal_course positions c ≡ true → LegalCourse positions c
unfolding legal_course
course_has positions c e =
    let h = all_at _ e in
    record { at = place_has positions c.at (h 0); next = place_has positions c.next (h 1); looping = loop_has c.looping (h 2) }

course_by_lem : (positions : ℕ) (c : Course) → LegalCourse positions c → legal_course positions c ≡ true
unfolding legal_course Each
course_by_lem positions c h =
    all_by _ (place_by positions c.at h.at, (place_by positions c.next h.next, (loop_by c.looping h.looping, tt)))

time_has : (t : Time) → legal_time t ≡ true → LegalTime t
unfolding legal_time
time_has t e =
    let h = all_at _ e in
    record {
      speed = between_has least_speed greatest_speed t.speed (h 0);
      delay = leb-true t.delay last_delay (h 1);
      tick = ltb-true t.tick (row_ticks t) (h 2);
      tempo = between_has least_tempo greatest_tempo t.tempo (h 3);
    }

time_by : (t : Time) → LegalTime t → legal_time t ≡ true
unfolding legal_time Each
time_by t h =
    all_by _ (between_by _ _ _ h.speed, (le-leb _ _ h.delay, (lt-ltb _ _ h.tick, (between_by _ _ _ h.tempo, tt))))

module _ (l : Layout) (room : l.channels ≤ width) (chs : List Channel) (e : every (legal_at l chs) width ≡ true) (i : ℕ) where
  used_has : i < l.channels → LegalChannel l.samples (slice_index_or chs i fresh_channel)
  unfolding legal_at legal_or_fresh
  used_has h = channel_has l.samples (slice_index_or chs i fresh_channel) (rw (lt-ltb i l.channels h) at (every_at (legal_at l chs) i width e (omega arith)))

  rest_has : i < width → l.channels ≤ i → slice_index_or chs i fresh_channel ≡ fresh_channel
  unfolding legal_at legal_or_fresh
  rest_has w h = fresh_has (slice_index_or chs i fresh_channel) (rw (le-ltb i l.channels h) at (every_at (legal_at l chs) i width e w))

module _ (positions : ℕ) (l : Layout) (room : l.channels ≤ width) (s : Song) where
  pub song_has : legal_song positions l s ≡ true → LegalSong positions l s
  unfolding legal_song
  song_has e =
      let h = all_at _ e in
      record {
        course = course_has positions s.course (h 0);
        time = time_has s.time (h 1);
        channels = used_has l room s.channels (h 2);
        rest = rest_has l room s.channels (h 2);
      }

  used_by : LegalSong positions l s → (i : ℕ) → i < width → legal_at l s.channels i ≡ true
  unfolding legal_at legal_or_fresh
  used_by h i w =
      either (λ (b : Bool). b ≡ true) (nat_lt i l.channels) _ _ (λ t. channel_by l.samples (slice_index_or s.channels i fresh_channel) (h.channels i (ltb-true i l.channels t)))
      (λ t. fresh_by (slice_index_or s.channels i fresh_channel) (h.rest i w (ltb-false i l.channels t)))

  pub song_by_lem : LegalSong positions l s → legal_song positions l s ≡ true
  unfolding legal_song Each
  song_by_lem h =
      all_by _ (course_by_lem positions s.course h.course, (time_by s.time h.time, (every_by (legal_at l s.channels) width (used_by h), tt)))
