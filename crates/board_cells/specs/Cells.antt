-- A board as cells, plain numbers at the C boundary: how far the stream has arrived, the machine's tempo and remainder, then each voice's.
-- Assumes nothing.
use Rattle.std.specs.Prelude.{ℕ, ◌+◌, ◌*◌, ◌/◌, ◌%◌, min, ◌≡◌, cond, List, [], ◌∷◌, ◌++◌, length, get_or, take, eqb}
use Rattle.laws.specs.Ranges.{each}
use Rattle.common.specs.Limits.{width}
use Rattle.voice.specs.declared.Voice.{Voice}
use Rattle.voice.specs.Frames.{blank}
use Rattle.machine.specs.declared.Machine.{Machine}
use Rattle.cells.specs.Cells.{voice_cell_count, voice_cells, joined, voice_of}
use Rattle.arrival.specs.declared.Arrival.{Arrival}
use Rattle.arrival.specs.Arrive.{kept_bytes, kept_fault}
use Rattle.feed.specs.declared.Board.{Board}
use Rattle.feed.specs.declared.Reply.{Reply}

-- ---- how many
-- the cells of the kept bytes, four bytes each, and where they begin
abbrev pub word_count : ℕ
word_count = 13

abbrev pub word_place : ℕ
word_place = 3

-- the numbers behind them, and where they begin
abbrev pub number_count : ℕ
number_count = 10

abbrev pub number_place : ℕ
number_place = word_place + word_count

-- where the voices begin
abbrev pub voices_place : ℕ
voices_place = number_place + number_count

-- a board's
abbrev pub board_cell_count : ℕ
board_cell_count = voices_place + voice_cell_count * width

-- where a voice's cells begin
abbrev pub voice_place : ℕ → ℕ
voice_place i = voices_place + voice_cell_count * i

-- one more than the greatest number of a cell
abbrev pub cell_size : ℕ
cell_size = 4294967296

-- that number
abbrev pub greatest_cell : ℕ
greatest_cell = 4294967295

-- ---- from a board
-- a number's low cell and its high cell
abbrev pub low_cell : ℕ → ℕ
low_cell n = n % cell_size

abbrev pub high_cell : ℕ → ℕ
high_cell n = n / cell_size

-- how many bytes are kept; a number that no cell has, and no legal board, gives the greatest
unfoldable pub kept_cell : ℕ → ℕ
kept_cell n = min n greatest_cell

-- four bytes, the first lowest
abbrev pub word_of : List ℕ → ℕ → ℕ
word_of bytes at = get_or bytes at 0 + 256 * get_or bytes (at + 1) 0 + 65536 * get_or bytes (at + 2) 0 + 16777216 * get_or bytes (at + 3) 0

-- the place of the open header or record, and how many of its bytes are kept
abbrev pub start_cells : Arrival → List ℕ
start_cells p = low_cell p.place ∷ high_cell p.place ∷ kept_cell p.kept ∷ []

-- the bytes
abbrev pub word_cells : List ℕ → List ℕ
word_cells bytes = each (λ i. word_of bytes (4 * i)) word_count

-- follow, version, channels, ticks, records, number, fault, tempo, remainder
abbrev pub number_cells : Arrival → Machine → List ℕ
number_cells p w =
    p.follow
    ∷ p.version
    ∷ p.channels
    ∷ p.count
    ∷ p.records
    ∷ p.number
    ∷ low_cell p.fault
    ∷ high_cell p.fault
    ∷ w.tempo
    ∷ w.remainder
    ∷ []

-- all that comes before the voices
abbrev pub front_cells : Arrival → Machine → List ℕ
front_cells p w = (start_cells p ++ word_cells p.bytes) ++ number_cells p w

-- voice i's
abbrev pub voice_cells_at : List Voice → ℕ → List ℕ
voice_cells_at vs i = voice_cells (get_or vs i blank)

-- cells whose front is written
pub record Fronted (p : Arrival) (w : Machine) (cells : List ℕ) : Type 0 where
  pub long : length cells ≡ board_cell_count
  pub front : take voices_place cells ≡ front_cells p w

-- the front, then each voice's
unfoldable pub board_cells : Board → List ℕ
board_cells b = front_cells b.arrival b.machine ++ joined (voice_cells_at b.machine.voices) width

-- ---- from cells
-- a number of two cells
abbrev pub wide_of : ℕ → ℕ → ℕ
wide_of low high = low + cell_size * high

-- a byte of a cell, the first lowest
unfoldable pub byte_of : ℕ → ℕ → ℕ
byte_of cell k = cond (eqb k 0) (cell % 256) (cond (eqb k 1) (cell / 256 % 256) (cond (eqb k 2) (cell / 65536 % 256) (cell / 16777216 % 256)))

-- byte i of the kept ones
abbrev pub byte_in : List ℕ → ℕ → ℕ
byte_in l i = byte_of (get_or l (word_place + i / 4) 0) (i % 4)

-- how far the stream has arrived
abbrev pub arrival_of : List ℕ → Arrival
arrival_of l =
    record {
      place = wide_of (get_or l 0 0) (get_or l 1 0);
      kept = get_or l 2 0;
      bytes = each (byte_in l) kept_bytes;
      follow = get_or l 16 0;
      version = get_or l 17 0;
      channels = get_or l 18 0;
      count = get_or l 19 0;
      records = get_or l 20 0;
      number = get_or l 21 0;
      fault = wide_of (get_or l 22 0) (get_or l 23 0);
    }

-- the machine that plays it
abbrev pub machine_of : List ℕ → Machine
machine_of l = record { voices = each (λ i. voice_of l (voice_place i)) width; tempo = get_or l 24 0; remainder = get_or l 25 0 }

-- the board that cells say
unfoldable pub board_of : List ℕ → Board
board_of l = record { arrival = arrival_of l; machine = machine_of l }

-- ---- what a call leaves
-- number, place, count, and how many bytes were taken
abbrev pub feed_cells : Reply → List ℕ
feed_cells r = r.answer.number ∷ r.answer.place ∷ r.answer.count ∷ r.taken ∷ []

-- the cells of the board after the call; on a refusal, which is no fault that is kept, every cell stays
unfoldable pub board_after : Reply → List ℕ → List ℕ
board_after r cells = cond (kept_fault r.answer.number) (board_cells r.board) cells
