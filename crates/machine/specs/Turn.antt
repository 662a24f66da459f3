-- A tick into a buffer, on any machine: nothing where it does not fit.
-- Assumes nothing.
use Rattle.std.specs.Prelude.{Option, Some, None, ℕ, Bool, true, false, cond, List, ltb, ℤ, length}
use Rattle.ticks.specs.Play.{Mechanism, over}
use Rattle.machine.specs.declared.Machine.{Machine}
use Rattle.machine.specs.declared.Turn.{Turn}

-- whether the buffer was too full, how many numbers the tick took, the machine after it and the buffer after it
pub record Turned (A W : Type 0) : Type 0 where
  pub full : Bool
  pub size : ℕ
  pub machine : W
  pub out : List A

-- a turn of these four
abbrev pub turn : {A W : Type 0} → Bool → ℕ → W → List A → Turned A W
turn full size machine out = record { full = full; size = size; machine = machine; out = out }

-- the shared machine's, as it was returned, with the buffer that it left
abbrev pub turned : Turn → List ℤ → Turned ℤ Machine
turned r out = turn r.full r.size r.machine out

-- as it was answered: nothing, or how many numbers
abbrev pub answered : {A W : Type 0} → Option ℕ → W → List A → Turned A W
answered None w out = turn true 0 w out
answered (Some size) w out = turn false size w out

-- where the tick does not fit nothing moves; otherwise its numbers go into the front of the buffer, whose rest stays
unfoldable pub turn_of : {A W T : Type 0} → Mechanism A W T → W → T → List A → Turned A W
turn_of m w t out = cond (ltb (length out) (length (m.frames w t))) (turn true 0 w out) (turn false (length (m.frames w t)) (m.after w t) (over (m.frames w t) out))
