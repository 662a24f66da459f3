-- The paper's two whole streams for one tick, of four channels and version 1: as they are written, and as they are read.
-- Assumes nothing.
use Rattle.std.specs.Prelude.{◌≡◌, refl, true, false, List, [], ◌∷◌, ℕ, drop}
use Rattle.laws.specs.Ranges.{all, all_from}
use Rattle.common.specs.Bytes.{four_bytes, four_at}
use Rattle.common.specs.Answers.{refusing}
use Rattle.ticks.specs.declared.Tick.{Tick}
use Rattle.records.specs.Legal.{legal_beside}
use Rattle.records.specs.Format.{known_version, keeps, shift, stream_channels, at_first, changed, mask, command_bytes, channel_bytes, channels_bytes, record_bytes, records, count_byte, stream_header, encode_after, encode, held, spelled, read_body, read_channel, read_channels, read_record, ticks, with_tick, decode_records, decode_after, decode, read_by, period_at, start_at, good_body, unused_bits, read_bodies}

-- an empty first row
abbrev pub empty_row : Tick
empty_row = record { tempo = 125; commands = at_first }

abbrev pub empty_stream : ℕ → List ℕ
empty_stream v = 0x00 ∷ 0x00 ∷ 0x00 ∷ 0x07 ∷ v ∷ 0x00 ∷ 0x00 ∷ 0x00 ∷ 0x01 ∷ 0x00 ∷ 0x7D ∷ []

-- the same as version 3, for so many channels
abbrev pub empty_counted : ℕ → List ℕ
empty_counted c = 0x00 ∷ 0x00 ∷ 0x00 ∷ 0x08 ∷ 0x03 ∷ c ∷ 0x00 ∷ 0x00 ∷ 0x00 ∷ 0x01 ∷ 0x00 ∷ 0x7D ∷ []

-- sample 1 at volume 64 with period 428 on channel 1
abbrev pub note : Tick
note = record { tempo = 125; commands = record { sample = 1; volume = 64; period = 428; start = true; offset = 0 } ∷ drop 1 at_first }

abbrev pub note_stream : ℕ → List ℕ
note_stream v =
    0x00 ∷ 0x00 ∷ 0x00 ∷ 0x0D ∷ v ∷ 0x00 ∷ 0x00 ∷ 0x00 ∷ 0x01
    ∷ 0x01 ∷ 0x7D ∷ 0x01 ∷ 0x40 ∷ 0x01 ∷ 0xAC ∷ 0x01 ∷ 0x00 ∷ []

abbrev pub note_counted : ℕ → List ℕ
note_counted c =
    0x00 ∷ 0x00 ∷ 0x00 ∷ 0x0E ∷ 0x03 ∷ c ∷ 0x00 ∷ 0x00 ∷ 0x00 ∷ 0x01
    ∷ 0x01 ∷ 0x7D ∷ 0x01 ∷ 0x40 ∷ 0x01 ∷ 0xAC ∷ 0x01 ∷ 0x00 ∷ []

pub whole_streams : (encode 0x01 4 (empty_row ∷ []) ≡ empty_stream 0x01) × (encode 0x01 4 (note ∷ []) ≡ note_stream 0x01)
unfolding four_bytes at_first changed mask command_bytes channel_bytes channels_bytes record_bytes records shift count_byte stream_header encode_after
whole_streams = (refl, refl)

-- they decode, and their ticks keep no remainder
pub first_streams : (decode 31 4 (empty_stream 0x01) ≡ ticks (empty_row ∷ []))
    × (decode 31 4 (note_stream 0x01) ≡ ticks (note ∷ []))
    × (keeps (empty_stream 0x01) ≡ false)
    × (keeps (note_stream 0x01) ≡ false)
unfolding all all_from four_at refusing legal_beside known_version keeps shift stream_channels at_first read_by held period_at start_at spelled good_body read_body read_channel read_channels unused_bits read_bodies read_record with_tick decode_records decode_after
first_streams = (refl, refl, refl, refl)
