-- The bytes that a mask says: for each set bit, lowest first, its channel's command. Those of a record's mask are the record's (`marked_mask`).
-- Assumes nothing.
use Rattle.std.specs.Prelude.{ℕ, ◌+◌, ◌*◌, ◌/◌, ◌%◌, ◌≡◌, refl, Bool, true, false, not, cond, List, [], ◌∷◌, ◌++◌, length, take, eqb}
use Rattle.std.proofs.Common.{arith, eq-eqb, ne_eqb}
use Rattle.common.specs.Bytes.{bit}
use Rattle.ticks.specs.declared.Command.{Command}
use Rattle.records.specs.Format.{changed, mask, command_bytes, channel_bytes, channels_bytes}

-- what a channel adds whose bit is the lowest of m
unfoldable pub bit_bytes : ℕ → Command → List ℕ
bit_bytes m c = cond (eqb (m % 2) 0) [] (command_bytes c)

-- what all channels add by the mask m
unfoldable pub marked_bytes : ℕ → List Command → List ℕ
marked_bytes m [] = []
marked_bytes m (c ∷ cs) = bit_bytes m c ++ marked_bytes (m / 2) cs

-- ---- a mask's lowest bit, and the others
pub lowest : (b : Bool) (m : ℕ) → eqb ((bit b + 2 * m) % 2) 0 ≡ not b
lowest true m = ne_eqb ((1 + 2 * m) % 2) 0 (λ q. omega arith)
lowest false m = eq-eqb ((0 + 2 * m) % 2) 0 (omega arith)

pub half : (b : Bool) (m : ℕ) → (bit b + 2 * m) / 2 ≡ m
half true m = omega arith
half false m = omega arith

-- ---- a record's mask
bit_bytes_lem : (b : Bool) (m : ℕ) (c : Command) → bit_bytes (bit b + 2 * m) c ≡ cond b (command_bytes c) []
unfolding bit_bytes
bit_bytes_lem true m c = rw (lowest true m)
bit_bytes_lem false m c = rw (lowest false m)

pub marked_mask : (rs cs : List Command) → marked_bytes (mask rs cs) (take (length rs) cs) ≡ channels_bytes rs cs
unfolding marked_bytes mask channels_bytes channel_bytes
marked_mask [] cs = refl
marked_mask (r ∷ rs) [] = refl
marked_mask (r ∷ rs) (c ∷ cs) = rw (bit_bytes_lem (changed r c) (mask rs cs) c, half (changed r c) (mask rs cs), marked_mask rs cs)
