-- A state as cells, plain numbers at the C boundary: a song's, then each channel's, its own and its voice's.
-- Assumes nothing.
use Rattle.std.specs.Prelude.{ℕ, zero, suc, ◌+◌, ◌-◌, ◌*◌, min, Bool, cond, ◌||◌, List, [], ◌∷◌, ◌++◌, get_or, eqb, leb, ltb}
use Rattle.laws.specs.Ranges.{each}
use Rattle.common.specs.Bytes.{bit}
use Rattle.common.specs.Limits.{width, last_byte, last_word, sample_numbers}
use Rattle.tuning.specs.Table.{last_finetune}
use Rattle.motion.specs.declared.Wave.{Wave}
use Rattle.effects.specs.declared.Channel.{Channel}
use Rattle.effects.specs.Legal.{fresh_channel}
use Rattle.sequencer.specs.declared.Song.{Song}
use Rattle.voice.specs.declared.Voice.{Voice}
use Rattle.voice.specs.Frames.{blank}
use Rattle.player.specs.declared.State.{State}

-- ---- how many
-- a song's cells, with the remainder
abbrev pub song_cell_count : ℕ
song_cell_count = 13

-- a wave's cells
abbrev pub wave_cell_count : ℕ
wave_cell_count = 4

-- a channel's plain numbers
abbrev pub plain_cell_count : ℕ
plain_cell_count = 6

-- its own cells, with two waves
abbrev pub own_cell_count : ℕ
own_cell_count = plain_cell_count + (wave_cell_count + wave_cell_count)

-- its voice's
abbrev pub voice_cell_count : ℕ
voice_cell_count = 6

-- and both
abbrev pub channel_cell_count : ℕ
channel_cell_count = own_cell_count + voice_cell_count

-- a state's
abbrev pub cell_count : ℕ
cell_count = song_cell_count + channel_cell_count * width

-- where a channel's cells begin
abbrev pub channel_place : ℕ → ℕ
channel_place i = song_cell_count + channel_cell_count * i

-- ---- from a state
-- position, row, tick, delay, next position, next row, loop row, loop count, speed, tempo, remainder, clock, page
abbrev pub song_cells : Song → ℕ → List ℕ
song_cells s remainder =
    s.course.at.position
    ∷ s.course.at.row
    ∷ s.time.tick
    ∷ s.time.delay
    ∷ s.course.next.position
    ∷ s.course.next.row
    ∷ s.course.looping.row
    ∷ s.course.looping.count
    ∷ s.time.speed
    ∷ s.time.tempo
    ∷ remainder
    ∷ s.desk.clock
    ∷ s.desk.page
    ∷ []

-- -16 as a 32-bit number in two's complement
abbrev pub below_zero : ℕ
below_zero = 4294967280

-- a finetune as such a number: 8 to 15 are -8 to -1
unfoldable pub finetune_cell : ℕ → ℕ
finetune_cell f = cond (ltb f 8) f (cond (leb f last_finetune) (below_zero + f) f)

-- x, y, place, form
abbrev pub wave_cells : Wave → List ℕ
wave_cells w = w.x ∷ w.y ∷ w.place ∷ w.form ∷ []

-- latched sample, finetune, volume, period, target, memory
abbrev pub plain_cells : Channel → List ℕ
plain_cells c = c.latched ∷ finetune_cell c.finetune ∷ c.volume ∷ c.period ∷ c.target ∷ c.memory ∷ []

-- then vibrato and tremolo
abbrev pub own_cells : Channel → List ℕ
own_cells c = plain_cells c ++ (wave_cells c.vibrato ++ wave_cells c.tremolo)

-- sample, period, volume, index, fraction, stopped
abbrev pub voice_cells : Voice → List ℕ
voice_cells v = v.sample ∷ v.period ∷ v.volume ∷ v.index ∷ v.fraction ∷ bit v.stopped ∷ []

abbrev pub channel_cells : Channel → Voice → List ℕ
channel_cells c v = own_cells c ++ voice_cells v

-- channel i's
abbrev pub cells_at : List Channel → List Voice → ℕ → List ℕ
cells_at cs vs i = channel_cells (get_or cs i fresh_channel) (get_or vs i blank)

-- f 0, .., f (n - 1), one behind the other
unfoldable pub joined : {A : Type 0} → (ℕ → List A) → ℕ → List A
joined f zero = []
joined f (suc n) = joined f n ++ f n

-- the song's, then each channel's
unfoldable pub state_cells : State → List ℕ
state_cells s = song_cells s.song s.remainder ++ joined (cells_at s.song.channels s.voices) width

-- ---- from cells
-- a number that is kept as a byte; a larger cell gives 255, which no legal sample, volume or wave has
unfoldable pub byte_number : ℕ → ℕ
byte_number n = min n last_byte

-- a number that is kept in two bytes; a larger cell gives 65,535, which no legal period is
unfoldable pub word_number : ℕ → ℕ
word_number n = min n last_word

-- a sample's number; where a number beside it is none that can be kept, one that no legal state has
unfoldable pub sample_unless : Bool → ℕ → ℕ
sample_unless lost n = cond lost sample_numbers (byte_number n)

-- a wave, from a place on
abbrev pub wave_of : List ℕ → ℕ → Wave
wave_of l at =
    record {
      x = byte_number (get_or l at 0);
      y = byte_number (get_or l (at + 1) 0);
      place = byte_number (get_or l (at + 2) 0);
      form = byte_number (get_or l (at + 3) 0);
    }

-- the finetune that a cell says: -8 to -1 are 8 to 15; one outside -8 to 7 gives 16, which no legal state has
unfoldable pub finetune_of : ℕ → ℕ
finetune_of x = cond (ltb x 8) x (cond (ltb x (below_zero + 8)) (last_finetune + 1) (x - below_zero))

-- a channel's own numbers, from a place on; every byte is a legal memory
abbrev pub channel_of : List ℕ → ℕ → Channel
channel_of l at =
    record {
      latched = sample_unless (ltb last_byte (get_or l (at + 5) 0)) (get_or l at 0);
      finetune = finetune_of (get_or l (at + 1) 0);
      volume = byte_number (get_or l (at + 2) 0);
      period = word_number (get_or l (at + 3) 0);
      target = word_number (get_or l (at + 4) 0);
      memory = byte_number (get_or l (at + 5) 0);
      vibrato = wave_of l (at + plain_cell_count);
      tremolo = wave_of l (at + plain_cell_count + wave_cell_count);
    }

-- a voice, from a place on; a flag above 1 is no flag, and every number of two bytes is a legal fraction
abbrev pub voice_of : List ℕ → ℕ → Voice
voice_of l at =
    record {
      sample = sample_unless (ltb 1 (get_or l (at + 5) 0) || ltb last_word (get_or l (at + 4) 0)) (get_or l at 0);
      period = word_number (get_or l (at + 1) 0);
      volume = byte_number (get_or l (at + 2) 0);
      index = get_or l (at + 3) 0;
      fraction = word_number (get_or l (at + 4) 0);
      stopped = eqb (get_or l (at + 5) 0) 1;
    }

-- where the remainder stands
abbrev pub remainder_place : ℕ
remainder_place = 10

-- a song with these channels, from the first cells
abbrev pub song_of : List ℕ → List Channel → Song
song_of l cs =
    record {
      course =
          record {
            at = record { position = get_or l 0 0; row = get_or l 1 0 };
            next = record { position = get_or l 4 0; row = get_or l 5 0 };
            looping = record { row = get_or l 6 0; count = get_or l 7 0 };
          };
      time = record { tick = get_or l 2 0; delay = get_or l 3 0; speed = get_or l 8 0; tempo = get_or l 9 0 };
      desk = record { clock = get_or l 11 0; page = get_or l 12 0 };
      channels = cs;
    }

-- the state that cells say
unfoldable pub state_of : List ℕ → State
state_of l =
    record {
      song = song_of l (each (λ i. channel_of l (channel_place i)) width);
      voices = each (λ i. voice_of l (channel_place i + own_cell_count)) width;
      remainder = get_or l remainder_place 0;
    }
