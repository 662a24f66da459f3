-- The paper's two whole streams for one tick, as version 3 for each number of channels: what translation gives from a module with an empty first row, and from one
-- with that note.
-- Assumes nothing.
use Rattle.std.specs.Prelude.{ℕ, ◌-◌, ◌*◌, ◌≡◌, refl, List, [], ◌∷◌, ◌++◌, replicate}
use Rattle.laws.specs.Ranges.{each, partly, some, total, largest}
use Rattle.common.specs.Answers.{refusing}
use Rattle.common.specs.Bytes.{four_at, four_bytes}
use Rattle.reader.specs.File.{Module, module_of, channels_of, patterns_of, sample_place}
use Rattle.reader.specs.Judge.{cell_lines, rest_lines, verdict, tagged, bad_length, bad_entry, bad_volume, bad_loop, bad_number_at, bad_period_at, bad_at}
use Rattle.reader.specs.Cells.{cell_from, cell_at}
use Rattle.effects.specs.Notes.{is_note}
use Rattle.effects.specs.Starts.{note_start, effect_start, row_start, start_for}
use Rattle.tuning.specs.Tuned.{tuned}
use Rattle.effects.specs.Work.{latched_by, given_finetune, row_finetune, given_volume, row_volume, given_period, row_period, row_channel, worked}
use Rattle.effects.specs.Wavering.{vibrates, trembles}
use Rattle.effects.specs.Sounded.{arpeggio, transposed, arpeggiated, sounded_period, sounded_volume}
use Rattle.effects.specs.Commands.{command_of, voiced_by, voiced}
use Rattle.sequencer.specs.Row.{row_tempo, row_time, row_flow, flow_from, flow_through}
use Rattle.sequencer.specs.Songs.{fresh_song, song_by, song_work, voiced_on, all_voiced, tick_with, tick_of}
use Rattle.sequencer.specs.Runs.{ticks_from}
use Rattle.records.specs.Format.{at_first, changed, mask, command_bytes, channel_bytes, channels_bytes, record_bytes, records, shift, count_byte, stream_header, encode_after}
use Rattle.records.specs.Examples.{empty_counted, note_counted}
use Rattle.translator.specs.Translate.{stream_of}

-- ---- the modules
-- sample 1 has one word at volume 64; song length 1, one pattern of a tag's channels, which is empty but for the cell of row 0 on channel 1
unfoldable pub with_cell : List ℕ → ℕ → List ℕ → Module
with_cell tag channels cell =
    module_of
    (replicate 42 0
    ++ (0 ∷ 1 ∷ 0 ∷ 64 ∷ 0 ∷ 0 ∷ 0 ∷ 1 ∷ (replicate 900 0
    ++ (1 ∷ (replicate 129 0
    ++ (tag
    ++ (cell
    ++ replicate (256 * channels - 2) 0)))))))

-- `M.K.`, and `6CHN` and `8CHN`
abbrev pub MK : List ℕ
MK = 0x4D ∷ 0x2E ∷ 0x4B ∷ 0x2E ∷ []

abbrev pub CHN : ℕ → List ℕ
CHN digit = digit ∷ 0x43 ∷ 0x48 ∷ 0x4E ∷ []

-- an empty first row
abbrev pub empty : List ℕ → ℕ → Module
empty tag channels = with_cell tag channels (0x00 ∷ 0x00 ∷ 0x00 ∷ 0x00 ∷ [])

-- sample 1 with period 428 on channel 1
abbrev pub noted : List ℕ → ℕ → Module
noted tag channels = with_cell tag channels (0x01 ∷ 0xAC ∷ 0x10 ∷ 0x00 ∷ [])

-- ---- their streams
abbrev Accepted : List ℕ → ℕ → Type 0
Accepted tag channels = ((verdict (empty tag channels)).number ≡ 0) × ((verdict (noted tag channels)).number ≡ 0)

abbrev Streams : List ℕ → ℕ → Type 0
Streams tag channels = (stream_of (empty tag channels) 1 ≡ empty_counted channels) × (stream_of (noted tag channels) 1 ≡ note_counted channels)

mk_accepted : Accepted MK 4
unfolding with_cell channels_of four_at verdict rest_lines cell_lines refusing some total largest patterns_of sample_place tagged bad_length bad_entry bad_volume bad_loop bad_number_at bad_period_at bad_at
mk_accepted = (refl, refl)

mk_streams : Streams MK 4
unfolding with_cell channels_of four_at each partly cell_from cell_at is_note note_start effect_start row_start start_for latched_by tuned given_finetune row_finetune given_volume row_volume given_period row_period row_channel worked vibrates trembles arpeggio transposed arpeggiated sounded_period sounded_volume command_of voiced_by voiced
    row_tempo row_time row_flow flow_from flow_through fresh_song song_by song_work voiced_on all_voiced tick_with tick_of ticks_from
    four_bytes at_first changed mask command_bytes channel_bytes channels_bytes record_bytes records shift count_byte stream_header encode_after
mk_streams = (refl, refl)

six_accepted : Accepted (CHN 0x36) 6
unfolding with_cell channels_of four_at verdict rest_lines cell_lines refusing some total largest patterns_of sample_place tagged bad_length bad_entry bad_volume bad_loop bad_number_at bad_period_at bad_at
six_accepted = (refl, refl)

six_streams : Streams (CHN 0x36) 6
unfolding with_cell channels_of four_at each partly cell_from cell_at is_note note_start effect_start row_start start_for latched_by tuned given_finetune row_finetune given_volume row_volume given_period row_period row_channel worked vibrates trembles arpeggio transposed arpeggiated sounded_period sounded_volume command_of voiced_by voiced
    row_tempo row_time row_flow flow_from flow_through fresh_song song_by song_work voiced_on all_voiced tick_with tick_of ticks_from
    four_bytes at_first changed mask command_bytes channel_bytes channels_bytes record_bytes records shift count_byte stream_header encode_after
six_streams = (refl, refl)

eight_accepted : Accepted (CHN 0x38) 8
unfolding with_cell channels_of four_at verdict rest_lines cell_lines refusing some total largest patterns_of sample_place tagged bad_length bad_entry bad_volume bad_loop bad_number_at bad_period_at bad_at
eight_accepted = (refl, refl)

eight_streams : Streams (CHN 0x38) 8
unfolding with_cell channels_of four_at each partly cell_from cell_at is_note note_start effect_start row_start start_for latched_by tuned given_finetune row_finetune given_volume row_volume given_period row_period row_channel worked vibrates trembles arpeggio transposed arpeggiated sounded_period sounded_volume command_of voiced_by voiced
    row_tempo row_time row_flow flow_from flow_through fresh_song song_by song_work voiced_on all_voiced tick_with tick_of ticks_from
    four_bytes at_first changed mask command_bytes channel_bytes channels_bytes record_bytes records shift count_byte stream_header encode_after
eight_streams = (refl, refl)

pub modules_accepted : Accepted MK 4 × Accepted (CHN 0x36) 6 × Accepted (CHN 0x38) 8
modules_accepted = (mk_accepted, six_accepted, eight_accepted)

pub one_tick : Streams MK 4 × Streams (CHN 0x36) 6 × Streams (CHN 0x38) 8
one_tick = (mk_streams, six_streams, eight_streams)
