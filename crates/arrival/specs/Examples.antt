-- Bytes that arrive, by computation: which byte shows what. Registers 0, samples to 31, four channels.
-- Assumes nothing.
use Rattle.std.specs.Prelude.{ℕ, ◌≡◌, refl, List, [], ◌∷◌, ◌++◌}
use Rattle.laws.specs.Ranges.{all, all_from}
use Rattle.common.specs.Bytes.{four_at}
use Rattle.common.specs.Answers.{refusing}
use Rattle.records.specs.Legal.{legal_beside}
use Rattle.records.specs.Format.{at_first, known_version, shift, stream_channels, read_by, held, period_at, start_at, spelled, good_body, read_body, read_channel, read_channels, unused_bits, read_bodies, read_record}
use Rattle.records.specs.Examples.{empty_stream, note_stream}
use Rattle.arrival.specs.declared.Arrival.{Arrival}
use Rattle.arrival.specs.Arrive.{at_start, taken, total, ended, shows_by, unknown, other, header_shows, end_shows, open_shows, header_step, record_step, step, closed}
use Rattle.arrival.specs.Cuts.{arrival_of}

unfoldable pub arrived : Arrival → List ℕ → Arrival
arrived p [] = p
arrived p (b ∷ bs) = arrived (arrival_of (step 31 4 at_first p b)) bs

-- number and place of the fault, and the bytes that are taken
pub record Shown : Type 0 where
  pub number : ℕ
  pub place : ℕ
  pub took : ℕ

abbrev pub shown : ℕ → ℕ → ℕ → Shown
shown number place took = record { number = number; place = place; took = took }

abbrev pub after : List ℕ → Shown
after bs = shown (arrived at_start bs).number (arrived at_start bs).fault (taken (arrived at_start bs))

-- a header of one tick with so many bytes after the first number
abbrev pub head : ℕ → List ℕ
head follow = 0 ∷ 0 ∷ 0 ∷ follow ∷ 1 ∷ 0 ∷ 0 ∷ 0 ∷ 1 ∷ []

pub bytes_show : (after (empty_stream 1) ≡ shown 0 0 11)
    × (after (empty_stream 1 ++ 0 ∷ []) ≡ shown 21 12 11)
    × (after (note_stream 2) ≡ shown 0 0 17)
    × (after (0 ∷ 0 ∷ 0 ∷ 0 ∷ []) ≡ shown 21 4 4)
    × (after (0 ∷ 0 ∷ 0 ∷ 1 ∷ 9 ∷ []) ≡ shown 21 5 5)
    × (after (0 ∷ 0 ∷ 0 ∷ 7 ∷ 9 ∷ []) ≡ shown 22 4 5)
    × (after (0 ∷ 0 ∷ 0 ∷ 7 ∷ 3 ∷ 6 ∷ []) ≡ shown 28 4 6)
    × (after (0 ∷ 0 ∷ 0 ∷ 2 ∷ 3 ∷ 6 ∷ []) ≡ shown 21 6 6)
    × (after (0 ∷ 0 ∷ 0 ∷ 5 ∷ 3 ∷ 4 ∷ 0 ∷ 0 ∷ 0 ∷ []) ≡ shown 28 4 9)
    × (after (0 ∷ 0 ∷ 0 ∷ 8 ∷ 3 ∷ 4 ∷ 0 ∷ 0 ∷ 0 ∷ 1 ∷ 0 ∷ 125 ∷ []) ≡ shown 0 0 12)
    × (after (head 5) ≡ shown 23 9 9)
    × (after (head 13 ++ 16 ∷ []) ≡ shown 23 9 10)
    × (after (head 13 ++ 0 ∷ 31 ∷ []) ≡ shown 23 9 11)
    × (after (head 13 ++ 1 ∷ 125 ∷ 1 ∷ 64 ∷ 255 ∷ []) ≡ shown 0 0 14)
    × (after (head 13 ++ 1 ∷ 125 ∷ 1 ∷ 64 ∷ 255 ∷ 0 ∷ []) ≡ shown 23 9 15)
    × (after (head 13 ++ 1 ∷ 125 ∷ 1 ∷ 64 ∷ 1 ∷ 172 ∷ 0 ∷ []) ≡ shown 23 9 16)
    × (after (head 12 ++ 1 ∷ 125 ∷ 1 ∷ 64 ∷ 1 ∷ 172 ∷ 1 ∷ []) ≡ shown 23 9 16)
    × (after (head 9 ++ 0 ∷ 125 ∷ 0 ∷ []) ≡ shown 23 11 12)
    × ((closed (arrived at_start (head 13))).number ≡ 21)
    × ((closed (arrived at_start (head 13))).fault ≡ 9)
unfolding all all_from four_at refusing legal_beside at_first known_version read_by held period_at start_at spelled good_body read_body read_channel read_channels unused_bits read_bodies read_record at_start total ended shift stream_channels shows_by unknown other header_shows end_shows open_shows header_step record_step step closed arrived
bytes_show = (refl, refl, refl, refl, refl, refl, refl, refl, refl, refl, refl, refl, refl, refl, refl, refl, refl, refl, refl, refl)
