-- What is written behind what: the front, then voice after voice; and what a call leaves. Laws over plain variables.
-- Assumes nothing.
use Prim.Native.Nat.{ℕ, zero, suc, ◌+◌, ◌≤◌, ◌<◌}
use mathlib.Core.Path.{◌≡◌, refl, ap, ◌∙◌}
use mathlib.Core.Bool.{Bool, true, false}
use mathlib.Core.List.{List, ◌++◌}
use native.Mathlib.Omega.{arith}
use lib.ListN.{length, take, get_or}
use Rattle.std.specs.Int.{to_le_bytes, w32}
use lib.Seq.{sets, length-sets}
use Rattle.laws.specs.Ranges.{each}
use Rattle.laws.specs.Positions.{sets-append}
use Rattle.common.specs.Limits.{width}
use Rattle.voice.specs.declared.Voice.{Voice}
use Rattle.machine.specs.declared.Machine.{Machine}
use Rattle.cells.specs.Cells.{voice_cell_count, joined}
use Rattle.arrival.specs.declared.Arrival.{Arrival}
use Rattle.arrival.specs.Arrive.{kept_fault}
use Rattle.feed.specs.declared.Board.{Board}
use Rattle.feed.specs.declared.Reply.{Reply}
use Rattle.cells.specs.Puts.{Written, take-sets, written_none, written_more, written_all}
use Rattle.board_cells.specs.Cells.{word_place, number_place, voices_place, board_cell_count, voice_place, start_cells, word_cells, number_cells, front_cells, voice_cells_at, Fronted, board_cells, byte_of, board_after}

-- ---- the front
-- each run begins where the one before it ends, so that they are one
front_whole : (p : Arrival) (w : Machine) (zeros start words all : List ℕ) → start ≡ sets zeros 0 (start_cells p) → words ≡ sets start word_place (word_cells p.bytes) → all ≡ sets words number_place (number_cells p w) → all ≡ sets zeros 0 (front_cells p w)
unfolding each
front_whole p w zeros start words all e q r =
    rw (sets-append zeros 0 (start_cells p ++ word_cells p.bytes) (number_cells p w), sets-append zeros 0 (start_cells p) (word_cells p.bytes), ← e, ← q) r

pub fronted : (p : Arrival) (w : Machine) (zeros start words all : List ℕ) → length zeros ≡ board_cell_count → start ≡ sets zeros 0 (start_cells p) → words ≡ sets start word_place (word_cells p.bytes) → all ≡ sets words number_place (number_cells p w) → Fronted p w all
unfolding each
fronted p w zeros start words all h e q r =
    let whole : all ≡ sets zeros 0 (front_cells p w) = front_whole p w zeros start words all e q r in
    record {
      long = ap length whole ∙ length-sets zeros 0 (front_cells p w) ∙ h;
      front = ap (take voices_place) whole ∙ take-sets (front_cells p w) zeros 0 (omega arith);
    }

-- ---- voice after voice
-- the first i voices' cells are written, behind the front
abbrev pub VoicesWritten : List Voice → List ℕ → List ℕ → ℕ → Type 0
VoicesWritten vs = Written voices_place voice_cell_count width (voice_cells_at vs)

pub voices_none : (vs : List Voice) (cells₀ : List ℕ) (p : Arrival) (w : Machine) → Fronted p w cells₀ → VoicesWritten vs cells₀ cells₀ 0
voices_none vs cells₀ p w f = written_none _ _ _ _ cells₀ f.long

pub voices_more : (vs : List Voice) (cells₀ old new : List ℕ) (i : ℕ) → VoicesWritten vs cells₀ old i → i < width → new ≡ sets old (voice_place i) (voice_cells_at vs i) → VoicesWritten vs cells₀ new (i + 1)
voices_more vs cells₀ old new i = written_more _ _ _ (voice_cells_at vs) cells₀ old new i refl

pub voices_all : (b : Board) (cells₀ cells : List ℕ) (i : ℕ) → Fronted b.arrival b.machine cells₀ → VoicesWritten b.machine.voices cells₀ cells i → width ≤ i → cells ≡ board_cells b
unfolding board_cells
voices_all b cells₀ cells i f w h = written_all _ _ _ _ cells₀ cells i w h ∙ ap (λ (xs : List ℕ). xs ++ joined (voice_cells_at b.machine.voices) width) f.front

pub ruleset writes = (voices_none, voices_more, voices_all)

-- ---- what a call leaves
module _ (r : Reply) (cells : List ℕ) (k : Bool) (e : k ≡ kept_fault r.answer.number) where
  pub after_kept : (new : List ℕ) → k ≡ true → new ≡ board_cells r.board → new ≡ board_after r cells
  unfolding board_after
  after_kept new t q = q ∙ rw (← e, t)

  pub after_refused : k ≡ false → cells ≡ board_after r cells
  unfolding board_after
  after_refused t = rw (← e, t)

-- ---- a cell's bytes
pub byte_is : (cell k : ℕ) → k < 4 → get_or (to_le_bytes w32 cell) k 0 ≡ byte_of cell k
unfolding byte_of
byte_is cell zero h = omega arith
byte_is cell (suc zero) h = omega arith
byte_is cell (suc (suc zero)) h = omega arith
byte_is cell (suc (suc (suc zero))) h = omega arith
byte_is cell (suc (suc (suc (suc k)))) h = absurd (omega arith)
