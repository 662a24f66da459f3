-- The cases marked P: one table under one claim, proved by computing the definitions that the contracts cite. A small module serves where a case needs one.
-- Assumes nothing.
use Rattle.std.specs.Prelude.{ℕ, ◌≡◌, refl, true, false, List, [], ◌∷◌, ◌++◌, ℤ, pos, neg_ℤ, get_or, replicate}
use Rattle.std.proofs.Common.{ap}
use Rattle.laws.specs.Ranges.{each, partly, every, all, all_from, some, total, largest, first}
use Rattle.ticks.specs.Commands.{nothing}
use Rattle.common.specs.Bytes.{four_at}
use Rattle.common.specs.Answers.{refused, accepted, refusing}
use Rattle.ticks.specs.declared.Command.{Command}
use Rattle.reader.specs.declared.Cell.{Cell}
use Rattle.reader.specs.File.{Module, module_of, song_length, channel_count, channels_of, patterns_of, sample_place}
use Rattle.reader.specs.Judge.{cell_lines, rest_lines, verdict, tagged, bad_length, bad_entry, bad_volume, bad_loop, bad_number_at, bad_period_at, bad_at}
use Rattle.reader.specs.Cells.{cell_from, cell_at}
use Rattle.reader.specs.Samples.{extent_of}
use Rattle.effects.specs.declared.Channel.{Channel}
use Rattle.effects.specs.Notes.{is_portamento, is_note}
use Rattle.motion.specs.Slides.{lowered, towards}
use Rattle.motion.specs.Waves.{fresh_wave, moved}
use Rattle.motion.specs.Legal.{is_fresh_wave, legal_wave}
use Rattle.tuning.specs.Table.{printed, entry}
use Rattle.tuning.specs.Tuned.{place_of, tuned, kept, semitones}
use Rattle.effects.specs.Sounded.{arpeggio, transposed, arpeggiated, sounded_period, sounded_volume}
use Rattle.effects.specs.Work.{given_finetune, row_finetune, given_period, row_period, row_channel, slides_volume, tick_volume, tick_period, tick_channel, worked}
use Rattle.effects.specs.Wavering.{vibrates, trembles}
use Rattle.effects.specs.Commands.{after_sound, voiced_by, voiced}
use Rattle.effects.specs.Legal.{fresh_channel, is_fresh, legal_channel}
use Rattle.sequencer.specs.Row.{row_speed, row_delay, row_loop, row_move, row_time, row_flow, flow_from, flow_through}
use Rattle.sequencer.specs.Songs.{fresh_song, fresh_sounding, next_of, course_by, song_by, song_work, voiced_on, all_voiced, next_tick, time_to, course_to, desk_after, advanced, tick_with, tick_of, led_to, passed}
use Rattle.sequencer.specs.Legal.{legal_place, legal_loop, legal_course, legal_time, legal_or_fresh, legal_at, legal_song}
use Rattle.sequencer.specs.Runs.{song_after}
use Rattle.voice.specs.declared.Voice.{Voice}
use Rattle.voice.specs.Voice.{fresh_voice, samples_of, arrive_at, silent_of, signed_of, read_at, gives_of, growth_of, carried, step_of, told_of}
use Rattle.voice.specs.Frames.{steps_of, side_of, sum_of, scale_of, frames_from, mixed}
use Rattle.voice.specs.Legal.{legal_index, legal_voice, is_fresh_voice, legal_used_voice, legal_voices}
use Rattle.machine.specs.Lengths.{carried_at, length_at}
use Rattle.machine.specs.Machine.{begins, tick_length, frames}
use Rattle.player.specs.declared.State.{State}
use Rattle.player.specs.declared.Reply.{Reply}
use Rattle.player.specs.State.{fresh_state, legal_state, reply}
use Rattle.player.specs.Touch.{age_of, touched_at, with_song, touch_lines, touch_of}
use Rattle.player.specs.Keeps.{touch_judged}

-- ---- a small module
-- of sample 1's header, length to repeat length: five words, volume 64, repeat start 2 and repeat length 3 in words
unfoldable pub header : List ℕ
header = 0 ∷ 5 ∷ 0 ∷ 64 ∷ 0 ∷ 2 ∷ 0 ∷ 3 ∷ []

-- row 0: period 428 with 102 on channel 1, F03 on channel 2
unfoldable pub row : List ℕ
row = 0x01 ∷ 0xAC ∷ 0x01 ∷ 0x02 ∷ 0x00 ∷ 0x00 ∷ 0x0F ∷ 0x03 ∷ []

-- sample 1's bytes: 128 at index 2, 127 at index 3
unfoldable pub bytes : List ℕ
bytes = 0 ∷ 0 ∷ 128 ∷ 127 ∷ 0 ∷ 0 ∷ 0 ∷ 0 ∷ 0 ∷ 0 ∷ []

-- song length 1, every table entry 0, one pattern
unfoldable pub file : List ℕ
file =
    replicate 42 0
    ++ (header
    ++ (replicate 900 0
    ++ (1 ∷ (replicate 129 0
    ++ (0x4D ∷ 0x2E ∷ 0x4B ∷ 0x2E ∷ (row
    ++ (replicate 1016 0
    ++ bytes)))))))

-- read as a module
abbrev pub module1 : Module
module1 = module_of file

file_accepted : (verdict module1).number ≡ 0
unfolding header row bytes file channels_of four_at verdict rest_lines cell_lines refusing some total largest patterns_of sample_place tagged bad_length bad_entry bad_volume bad_loop bad_number_at bad_period_at bad_at
file_accepted = refl

-- ---- what the cases are about
-- a cell with an effect and its parameter alone
abbrev pub cell : ℕ → ℕ → Cell
cell effect param = record { sample = 0; period = 0; effect = effect; param = param }

-- a channel with a volume and period 428
abbrev pub channel : ℕ → Channel
channel volume = record { latched = 0; finetune = 0; volume = volume; period = 428; target = 0; memory = 0; vibrato = fresh_wave; tremolo = fresh_wave }

-- a voice on sample 1 at an index and a fraction, with volume 64 and period 428, and the command that leaves it there
abbrev pub voice : ℕ → ℕ → Voice
voice index fraction = record { sample = 1; period = 428; volume = 64; index = index; fraction = fraction; stopped = false }

abbrev pub going_on : Command
going_on = record { sample = 1; volume = 64; period = 428; start = false; offset = 0 }

-- left in a tick's first frame, with a voice at this index on channels 1 and 4
unfoldable pub left : ℕ → ℤ
left index =
    get_or
    (frames (channel_count module1) (samples_of module1) (record { voices = voice index 0 ∷ fresh_voice ∷ fresh_voice ∷ voice index 0 ∷ []; tempo = 125; remainder = 0 })
    (record { tempo = 125; commands = going_on ∷ nothing ∷ nothing ∷ going_on ∷ [] }))
    0 (pos 0)

-- the fresh state with clock 3
unfoldable pub clock3 : State
clock3 =
    record {
      song = record { course = fresh_song.course; time = fresh_song.time; desk = record { clock = 3; page = 0 }; channels = fresh_song.channels };
      voices = fresh_state.voices;
      remainder = 0;
    }

-- the number that answers a touch on it, made at a clock
abbrev pub touch_made : ℕ → ℕ
touch_made made = (touch_of file clock3 0 made 0).answer.number

-- ---- the table
pub record Cases : Type 0 where
  -- step at 428; at 113; at 856
  pub p1 : growth_of 428 ≡ 11314
  pub p2 : growth_of 113 ≡ 42855
  pub p3 : growth_of 856 ≡ 5657
  -- frames at tempo 125; at 32; at 255: from remainder 0
  pub p4 : length_at 125 0 ≡ 960
  pub p5 : length_at 32 0 ≡ 3750
  pub p6 : length_at 255 0 ≡ 470
  -- byte 128, volume 64 on 1 and 4; byte 127
  pub p7 : left 2 ≡ neg_ℤ (pos 32768)
  pub p8 : left 3 ≡ pos 32512
  -- period 428, 102, speed 3: 424 at row's end, where the next row is taken
  pub p9 : ((get_or (song_after module1 3 fresh_song fresh_sounding).channels 0 fresh_channel).period ≡ 424) × ((song_after module1 3 fresh_song fresh_sounding).course.at.row ≡ 1)
  -- 428 towards 404 by 10: 418, 408, 404
  pub p10 : (towards 428 404 10 ≡ 418) × (towards 418 404 10 ≡ 408) × (towards 408 404 10 ≡ 404)
  -- arpeggio 047 on 428: 339, 285
  pub p11 : (sounded_period (cell 0x00 0x47) 1 (channel 64) ≡ 339) × (sounded_period (cell 0x00 0x47) 2 (channel 64) ≡ 285)
  -- A35 raises by 3
  pub p12 : (worked file (cell 0x0A 0x35) 1 1 (channel 20)).volume ≡ 23
  -- clock 3, made 4,294,967,290: age 9, accepted; age 25 too, 26 not
  pub p13 : (age_of 3 4294967290 ≡ 9) × (touch_made 4294967290 ≡ 0) × (age_of 3 4294967274 ≡ 25) × (touch_made 4294967274 ≡ 0) × (age_of 3 4294967273 ≡ 26) × (touch_made 4294967273 ≡ 17)
  -- start 2, repeat 3 words: index 10 becomes 4
  pub p14 : (step_of (samples_of module1 1) (voice 9 65535)).index ≡ 4

-- ---- the claim
clock3_legal : legal_state module1 clock3 ≡ true
unfolding header row bytes file channels_of four_at clock3 every each all all_from fresh_song legal_place legal_loop legal_course legal_time legal_or_fresh legal_at legal_song legal_channel is_fresh legal_wave is_fresh_wave legal_index legal_voice is_fresh_voice legal_used_voice legal_voices fresh_state legal_state
clock3_legal = refl

touch_number : (made : ℕ) → touch_made made ≡ (refusing (λ number place. reply (refused number place) clock3) (reply (accepted 0) (with_song clock3 (touched_at clock3.song 0))) (touch_lines (song_length module1) clock3.song.desk 0 made 0)).answer.number
touch_number made = ap (λ (r : Reply). r.answer.number) (touch_judged file file_accepted clock3 clock3_legal 0 made 0)

pub cases : Cases
unfolding header row bytes file channels_of four_at left clock3 refusing each partly
    some total largest patterns_of sample_place cell_from cell_at extent_of
    is_portamento is_note vibrates trembles moved printed entry first place_of tuned kept semitones lowered towards arpeggio transposed arpeggiated sounded_period sounded_volume given_finetune row_finetune given_period row_period row_channel slides_volume tick_volume tick_period tick_channel worked after_sound voiced_by voiced
    row_speed row_delay row_loop row_move row_time row_flow flow_from flow_through fresh_song led_to passed next_of course_by song_by song_work voiced_on all_voiced next_tick time_to course_to desk_after advanced tick_with tick_of song_after
    arrive_at silent_of signed_of read_at gives_of growth_of carried step_of told_of steps_of side_of sum_of scale_of frames_from mixed carried_at length_at begins tick_length frames age_of
cases =
    record {
      p1 = refl;
      p2 = refl;
      p3 = refl;
      p4 = refl;
      p5 = refl;
      p6 = refl;
      p7 = refl;
      p8 = refl;
      p9 = (refl, refl);
      p10 = (refl, refl, refl);
      p11 = (refl, refl);
      p12 = refl;
      p13 = (refl, touch_number 4294967290, refl, touch_number 4294967274, refl, touch_number 4294967273);
      p14 = refl;
    }
