-- Boards and cells say the same: every board whose numbers fit their cells is the board of its cells (`board_cells_lem`), and cells whose numbers
-- fit their fields are the cells of their board (`cells_board`).
-- Assumes nothing.
use Prim.Native.Nat.{ℕ, zero, suc, ◌+◌, ◌*◌, ◌/◌, ◌%◌, ◌<◌}
use Rattle.std.specs.Prelude.{◌≡◌, length, get_or, take, drop}
use Rattle.std.proofs.Math.Path.{refl, ap₂}
use Rattle.std.proofs.Common.{sym, ap, ◌∙◌, add-zero, arith, take-add}
use mathlib.Core.List.{List, ◌++◌}
use Rattle.std.proofs.Math.Nat.{div-div-eq-div-mul}
use Rattle.std.proofs.Math.ListN.{take-append-drop, length-drop, get_or-append}
use Rattle.std.proofs.Math.Seq.{drop-drop, take_all}
use Rattle.laws.specs.Ranges.{each}
use Rattle.laws.specs.Each.{each_by, length-each, get_or-each, same_each}
use Rattle.laws.specs.Positions.{at_offset}
use Rattle.common.specs.Limits.{width}
use Rattle.voice.specs.Frames.{blank}
use Rattle.cells.specs.Cells.{voice_cell_count, joined, voice_of}
use Rattle.cells.specs.Joined.{part_at, joined_parts, joined_at}
use Rattle.cells.specs.RoundTrip.{KeptVoice, KeptVoiceCells, voice_back, voice_again, part_is}
use Rattle.arrival.specs.Arrive.{kept_bytes}
use Rattle.feed.specs.declared.Board.{Board}
use Rattle.board_cells.specs.Cells.{word_count, word_place, number_count, number_place, voices_place, board_cell_count, voice_place, cell_size, low_cell, high_cell, kept_cell, word_of, start_cells, word_cells, number_cells, front_cells, voice_cells_at, wide_of, board_cells, byte_of, byte_in, arrival_of, machine_of, board_of}

-- ---- a number and its two cells
wide_back : (n : ℕ) → wide_of (low_cell n) (high_cell n) ≡ n
wide_back n = omega arith

low_again : (low high : ℕ) → low < cell_size → low_cell (wide_of low high) ≡ low
low_again low high h = omega arith

high-again : (low high : ℕ) → low < cell_size → high_cell (wide_of low high) ≡ high
high-again low high h = omega arith

kept_stays : (n : ℕ) → n < cell_size → kept_cell n ≡ n
unfolding kept_cell
kept_stays n h = omega arith

-- ---- four bytes and their cell
module _ (bytes : List ℕ) (small : (i : ℕ) → get_or bytes i 0 < 256) (at : ℕ) where
  byte_back : (k : ℕ) → k < 4 → byte_of (word_of bytes at) k ≡ get_or bytes (at + k) 0
  unfolding byte_of
  byte_back zero l = rw (add-zero at) (omega (arith, small at))
  byte_back (suc zero) l = omega (arith, small at, small (at + 1))
  byte_back (suc (suc zero)) l = omega (arith, small at, small (at + 1), small (at + 2))
  byte_back (suc (suc (suc zero))) l = omega (arith, small at, small (at + 1), small (at + 2), small (at + 3))
  byte_back (suc (suc (suc (suc k)))) l = absurd (omega arith)

-- a cell's four bytes
digits_sum : (x a b c p q r s : ℕ) → x ≡ p + 256 * a → a ≡ q + 256 * b → b ≡ r + 256 * c → c ≡ s → p + 256 * q + 65536 * r + 16777216 * s ≡ x
digits_sum x a b c p q r s e f g h = omega arith

bytes_again : (x : ℕ) → x < cell_size → x % 256 + 256 * (x / 256 % 256) + 65536 * (x / 65536 % 256) + 16777216 * (x / 16777216 % 256) ≡ x
bytes_again x h =
    let second : x / 256 / 256 ≡ x / 65536 = div-div-eq-div-mul x 256 256 in
    let third : x / 65536 / 256 ≡ x / 16777216 = div-div-eq-div-mul x 65536 256 in
    digits_sum x (x / 256) (x / 65536) (x / 16777216) _ _ _ _ (omega arith) (rw (← second) (omega arith)) (rw (← third) (omega arith)) (omega arith)

-- byte k of word j
byte_at : (l : List ℕ) (j k n : ℕ) → j < word_count → k < 4 → n ≡ 4 * j + k → get_or (each (byte_in l) kept_bytes) n 0 ≡ byte_of (get_or l (word_place + j) 0) k
byte_at l j k n h m e =
    let q : n / 4 ≡ j = omega arith in
    let r : n % 4 ≡ k = omega arith in
    get_or-each (byte_in l) kept_bytes n 0 (omega arith) ∙ ap₂ (λ (x y : ℕ). byte_of (get_or l (word_place + x) 0) y) q r

word_again : (l : List ℕ) (j : ℕ) → j < word_count → get_or l (word_place + j) 0 < cell_size → word_of (each (byte_in l) kept_bytes) (4 * j) ≡ get_or l (word_place + j) 0
unfolding byte_of
word_again l j h s =
    rw (
      byte_at l j 0 (4 * j) h (omega arith) (omega arith),
      byte_at l j 1 (4 * j + 1) h (omega arith) (omega arith),
      byte_at l j 2 (4 * j + 2) h (omega arith) (omega arith),
      byte_at l j 3 (4 * j + 3) h (omega arith) (omega arith),
    )
    (bytes_again (get_or l (word_place + j) 0) s)

-- ---- a board's cells, read
-- numbers that fit their cells
pub record FitsCells (b : Board) : Type 0 where
  pub kept : b.arrival.kept < cell_size
  pub room : length b.arrival.bytes ≡ kept_bytes
  pub bytes : (i : ℕ) → get_or b.arrival.bytes i 0 < 256
  pub voices : length b.machine.voices ≡ width
  pub voice : (i : ℕ) → i < width → KeptVoice (get_or b.machine.voices i blank)

module _ (b : Board) (f : FitsCells b) where
  abbrev l : List ℕ
  l = board_cells b

  -- the words stand behind the place and the count of kept bytes
  words_there : drop word_place l ≡ word_cells b.arrival.bytes ++ (number_cells b.arrival b.machine ++ joined (voice_cells_at b.machine.voices) width)
  unfolding board_cells each
  words_there = refl

  byte_there : (i : ℕ) → i < kept_bytes → byte_in l i ≡ get_or b.arrival.bytes i 0
  byte_there i h =
      let e : 4 * (i / 4) + i % 4 ≡ i = omega arith in
      let word : get_or l (word_place + i / 4) 0 ≡ word_of b.arrival.bytes (4 * (i / 4)) = word_there (i / 4) (omega arith) in
      ap (λ (x : ℕ). byte_of x (i % 4)) word ∙ byte_back b.arrival.bytes f.bytes (4 * (i / 4)) (i % 4) (omega arith) ∙ ap (λ (x : ℕ). get_or b.arrival.bytes x 0) e
    where
      word_there : (j : ℕ) → j < word_count → get_or l (word_place + j) 0 ≡ word_of b.arrival.bytes (4 * j)
      word_there j m = at_offset l word_place _ words_there j ∙ get_or-append (word_cells b.arrival.bytes) _ 0 j (omega (arith, length-each (λ i. word_of b.arrival.bytes (4 * i)) word_count)) ∙ get_or-each (λ i. word_of b.arrival.bytes (4 * i)) word_count j 0 m

  bytes_back : each (byte_in l) kept_bytes ≡ b.arrival.bytes
  bytes_back = sym (each_by _ kept_bytes 0 b.arrival.bytes f.room (λ i k. sym (byte_there i k)))

  -- the voices' cells come behind the numbers, in parts of one length
  part_there : (i : ℕ) → i < width → take voice_cell_count (drop (voice_place i) l) ≡ voice_cells_at b.machine.voices i
  unfolding board_cells each
  part_there i h = rw (← drop-drop (voice_cell_count * i) voices_place l) (joined_at voice_cell_count (voice_cells_at b.machine.voices) (λ j. refl) width i h)

  voice_there : (i : ℕ) → i < width → drop (voice_place i) l ≡ voice_cells_at b.machine.voices i ++ drop voice_cell_count (drop (voice_place i) l)
  voice_there i h =
      sym (take-append-drop voice_cell_count (drop (voice_place i) l)) ∙ ap (λ (xs : List ℕ). xs ++ drop voice_cell_count (drop (voice_place i) l)) (part_there i h)

  voices_back : each (λ i. voice_of l (voice_place i)) width ≡ b.machine.voices
  voices_back = sym (each_by _ width blank b.machine.voices f.voices (λ i k. sym (voice_back l (voice_place i) _ _ (f.voice i k) (voice_there i k))))

  -- the board of a board's cells is the board
  pub board_cells_lem : board_of (board_cells b) ≡ b
  unfolding board_of board_cells each
  board_cells_lem =
      rw (bytes_back, voices_back, wide_back b.arrival.place, wide_back b.arrival.fault, kept_stays b.arrival.kept f.kept)

-- ---- cells, written again
module _ (l : List ℕ) (long : length l ≡ board_cell_count) (small : (i : ℕ) → i < board_cell_count → get_or l i 0 < cell_size) where
  start_again : start_cells (arrival_of l) ≡ take word_place l
  unfolding each
  start_again =
      rw (
        part_is l 0 word_place (omega arith),
        low_again (get_or l 0 0) (get_or l 1 0) (small 0 (omega arith)),
        high-again (get_or l 0 0) (get_or l 1 0) (small 0 (omega arith)),
        kept_stays (get_or l 2 0) (small 2 (omega arith)),
      )

  words_again : word_cells (arrival_of l).bytes ≡ take word_count (drop word_place l)
  words_again =
      same_each _ _ word_count (λ j h. word_again l j h (small (word_place + j) (omega arith))) ∙ sym (part_is l word_place word_count (omega arith))

  numbers_again : number_cells (arrival_of l) (machine_of l) ≡ take number_count (drop number_place l)
  unfolding each
  numbers_again =
      rw (
        part_is l number_place number_count (omega arith),
        low_again (get_or l 22 0) (get_or l 23 0) (small 22 (omega arith)),
        high-again (get_or l 22 0) (get_or l 23 0) (small 22 (omega arith)),
      )

  front_again : front_cells (arrival_of l) (machine_of l) ≡ take voices_place l
  front_again = ap₂ ◌++◌ (ap₂ ◌++◌ start_again words_again ∙ sym (take-add word_place word_count l)) numbers_again ∙ sym (take-add number_place number_count l)

  module _ (kept : (i : ℕ) → i < width → KeptVoiceCells l (voice_place i)) where
    voice_cells_lem : (i : ℕ) → i < width → voice_cells_at (machine_of l).voices i ≡ part_at voice_cell_count (drop voices_place l) i
    voice_cells_lem i h =
        rw (get_or-each (λ j. voice_of l (voice_place j)) width i blank h, drop-drop (voice_cell_count * i) voices_place l)
        (voice_again l (voice_place i) (omega arith) (kept i h))

    -- they are the cells of their board
    pub cells_board : board_cells (board_of l) ≡ l
    unfolding board_cells board_of
    cells_board =
        ap₂ ◌++◌ front_again
        (joined_parts voice_cell_count (drop voices_place l) (voice_cells_at (machine_of l).voices) width voice_cells_lem
        ∙ take_all (voice_cell_count * width) (drop voices_place l) (omega (arith, length-drop voices_place l)))
        ∙ take-append-drop voices_place l
