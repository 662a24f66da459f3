-- The song: the next place, the whole of a tick, and what comes after its frames.
-- The sounding sample numbers stand beside the song, a number for each channel; a song has no voices.
-- Assumes nothing.
use Rattle.std.specs.Prelude.{ℕ, ◌+◌, ◌*◌, ◌%◌, ◌^◌, ◌&&◌, ◌||◌, cond, List, ◌==◌, nat_lt, Option, None, Some, is_some, is_none, option_map, unwrap_or, slice_index, slice_index_or}
use Rattle.laws.specs.Ranges.{each, padded}
use Rattle.ticks.specs.Commands.{nothing}
use Rattle.common.specs.Limits.{width, last_row}
use Rattle.reader.specs.File.{Module, song_length, channel_count}
use Rattle.effects.specs.Commands.{voiced}
use Rattle.effects.specs.Legal.{fresh_channel}
use Rattle.effects.specs.declared.Channel.{Channel}
use Rattle.effects.specs.declared.Voiced.{Voiced}
use Rattle.sequencer.specs.Row.{cell_on, following, flow_of}
use Rattle.sequencer.specs.declared.Place.{Place}
use Rattle.sequencer.specs.declared.Loop.{Loop}
use Rattle.sequencer.specs.declared.Course.{Course}
use Rattle.sequencer.specs.declared.Time.{Time}
use Rattle.sequencer.specs.declared.Desk.{Desk}
use Rattle.sequencer.specs.declared.Move.{Move}
use Rattle.sequencer.specs.declared.Flow.{Flow}
use Rattle.sequencer.specs.declared.Song.{Song}
use Rattle.sequencer.specs.declared.AllVoiced.{AllVoiced}
use Rattle.sequencer.specs.declared.Worked.{Worked}

-- ---- fresh
-- a position and a row
abbrev pub place : ℕ → ℕ → Place
place position row = record { position = position; row = row }

-- loop row and count 0
abbrev pub no_loop : Loop
no_loop = record { row = 0; count = 0 }

-- position and next position; row, next row, loop row and count 0
abbrev pub course_from : ℕ → Course
course_from position = record { at = place position 0; next = place position 0; looping = no_loop }

-- position 0; tick in row u and delay 0, speed 6, tempo 125; clock 0, page 0
unfoldable pub fresh_song : Song
fresh_song =
    record {
      course = course_from 0;
      time = record { tick = 0; delay = 0; speed = 6; tempo = 125 };
      desk = record { clock = 0; page = 0 };
      channels = each (λ i. fresh_channel) width;
    }

-- and no sample sounding
abbrev pub fresh_sounding : List ℕ
fresh_sounding = each (λ i. 0) width

-- ---- the next place
-- with B or D, B's position and D's row: with D alone the following position, with B alone row 0
unfoldable pub led_to : ℕ → Move → Option Place
led_to after v = cond (is_none v.position && is_none v.row) None (Some (place (unwrap_or v.position after) (unwrap_or v.row 0)))

-- the next row, or row 0 of the following position after 63
unfoldable pub passed : ℕ → Place → Place
passed after at = cond (nat_lt at.row last_row) (place at.position (at.row + 1)) (place after 0)

-- where B or D lead; otherwise an asked jump; otherwise what comes by itself
unfoldable pub next_of : ℕ → Place → Flow → Place
next_of positions at f =
    let after = following positions at.position in
    unwrap_or (led_to after f.moving) (unwrap_or (option_map (place at.position) f.looping.target) (passed after at))

-- fixing it by B, D or row 63 sets loop row and count to 0 at once
unfoldable pub loop_after : ℕ → Flow → Loop
loop_after row f = cond (is_none f.moving.position && is_none f.moving.row && (is_some f.looping.target || nat_lt row last_row)) f.looping.kept no_loop

-- the course with what all channels did to it
unfoldable pub course_by : ℕ → Course → Flow → Course
course_by positions c f = record { at = c.at; next = next_of positions c.at f; looping = loop_after c.at.row f }

-- the song with that course and the time that the cells left
unfoldable pub song_by : ℕ → Song → Flow → Song
song_by positions s f = record { course = course_by positions s.course f; time = f.time; desk = s.desk; channels = s.channels }

-- the song after the row's work; the next place is fixed only at u = 0
unfoldable pub song_work : Module → Song → Song
song_work m s = cond (s.time.tick == 0) (song_by (song_length m) s (flow_of m s.course s.time)) s

-- ---- the channels in a tick
-- channel i, with t = u mod speed
unfoldable pub voiced_on : Module → Song → List ℕ → ℕ → Voiced
voiced_on m s sounding i =
    voiced m.bytes (cell_on m s.course.at i) s.time.tick (s.time.tick % s.time.speed) (slice_index_or s.channels i fresh_channel) (slice_index sounding i)

-- the channels in use; the others are as fresh, and their voices are told nothing
unfoldable pub all_voiced : Module → Song → List ℕ → AllVoiced
all_voiced m s sounding =
    record {
      channels = padded (λ i. (voiced_on m s sounding i).channel) fresh_channel (channel_count m) width;
      commands = padded (λ i. (voiced_on m s sounding i).command) nothing (channel_count m) width;
    }

-- ---- after the frames
-- a row has speed × (1 + delay) ticks
abbrev pub row_ticks : Time → ℕ
row_ticks t = t.speed * (1 + t.delay)

-- u gains 1; at speed × (1 + delay) it is 0
unfoldable pub next_tick : Time → ℕ
next_tick t = cond (nat_lt (t.tick + 1) (row_ticks t)) (t.tick + 1) 0

-- a time at tick u, with a delay
abbrev pub time_at : Time → ℕ → ℕ → Time
time_at t u delay = record { tick = u; delay = delay; speed = t.speed; tempo = t.tempo }

-- where u comes to 0, delay is 0
unfoldable pub time_to : ℕ → Time → Time
time_to u t = cond (u == 0) (time_at t 0 0) (time_at t u t.delay)

-- and the next place is taken
unfoldable pub course_to : ℕ → Course → Course
course_to u c = cond (u == 0) (record { at = c.next; next = c.next; looping = c.looping }) c

-- clock gains 1 modulo 2^32
unfoldable pub desk_after : Desk → Desk
desk_after d = record { clock = (d.clock + 1) % 2 ^ 32; page = d.page }

-- the song then, with its channels after their work
unfoldable pub advanced : Song → List Channel → Song
advanced s chs =
    record {
      course = course_to (next_tick s.time) s.course;
      time = time_to (next_tick s.time) s.time;
      desk = desk_after s.desk;
      channels = chs;
    }

-- ---- the tick
-- a song after the row's work: the tick has its tempo; then comes what is after the frames
unfoldable pub tick_with : Song → AllVoiced → Worked
tick_with s v = record { song = advanced s v.channels; tick = record { tempo = s.time.tempo; commands = v.commands } }

-- the whole of a tick: the song after it, and what it tells the voices
unfoldable pub tick_of : Module → Song → List ℕ → Worked
tick_of m s sounding = tick_with (song_work m s) (all_voiced m s sounding)
