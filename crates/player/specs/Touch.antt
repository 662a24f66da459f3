-- Touches and page changes.
-- Assumes nothing.
use Rattle.std.specs.Prelude.{ℕ, ◌+◌, ◌-◌, ◌%◌, ◌^◌, not, List, [], ◌∷◌, ◌==◌, nat_lt}
use Rattle.common.specs.Answers.{refused, accepted, Line, line, refusing}
use Rattle.reader.specs.File.{module_of, song_length}
use Rattle.sequencer.specs.declared.Desk.{Desk}
use Rattle.sequencer.specs.declared.Song.{Song}
use Rattle.sequencer.specs.Songs.{course_from, time_at}
use Rattle.player.specs.declared.State.{State}
use Rattle.player.specs.declared.Reply.{Reply}
use Rattle.player.specs.State.{state_lines, reply}

-- the state with another song, its voices and its remainder as they were
abbrev pub with_song : State → Song → State
with_song s song = record { song = song; voices = s.voices; remainder = s.remainder }

-- ---- a page change
-- adds 1 to the page modulo 2^32
unfoldable pub page_after : Desk → Desk
page_after d = record { clock = d.clock; page = (d.page + 1) % 2 ^ 32 }

unfoldable pub page_changed : Song → Song
page_changed s = record { course = s.course; time = s.time; desk = page_after s.desk; channels = s.channels }

unfoldable pub change_page_of : List ℕ → State → Reply
change_page_of bytes s =
    refusing (λ number place. reply (refused number place) s) (reply (accepted 0) (with_song s (page_changed s.song))) (state_lines (module_of bytes) s [])

-- ---- a touch carries page, clock when made, and song position
-- its age is clock minus made, modulo 2^32
unfoldable pub age_of : ℕ → ℕ → ℕ
age_of clock made = (clock + 2 ^ 32 - made) % 2 ^ 32

-- older than 25 ticks
abbrev pub oldest : ℕ
oldest = 25

-- accepted, it sets position and next position to its own, row, next row, u, delay, loop row and count to 0, and nothing else
unfoldable pub touched_at : Song → ℕ → Song
touched_at s position = record { course = course_from position; time = time_at s.time 0 0; desk = s.desk; channels = s.channels }

-- from another page; too old; a position at or past song length
abbrev pub touch_lines : ℕ → Desk → ℕ → ℕ → ℕ → List Line
touch_lines positions d page made position =
    line 16 (not (page == d.page)) 0
    ∷ line 17 (nat_lt oldest (age_of d.clock made)) 0
    ∷ line 18 (not (nat_lt position positions)) 0
    ∷ []

unfoldable pub touch_of : List ℕ → State → ℕ → ℕ → ℕ → Reply
touch_of bytes s page made position =
    refusing (λ number place. reply (refused number place) s) (reply (accepted 0) (with_song s (touched_at s.song position)))
    (state_lines (module_of bytes) s (touch_lines (song_length (module_of bytes)) s.song.desk page made position))
