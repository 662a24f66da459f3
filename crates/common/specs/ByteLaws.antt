-- Lists of bytes; and what was written as bytes is read: numbers of four bytes, and flags.
-- Assumes nothing.
use Rattle.std.specs.Prelude.{ℕ, ◌+◌, ◌*◌, ◌/◌, ◌%◌, ◌^◌, ◌≤◌, ◌<◌, ◌≡◌, refl, Bool, true, false, List, ◌++◌, eqb, get_or, drop}
use Rattle.std.proofs.Common.{mod-eq_of_lt, div-add-mod', arith}
use Rattle.laws.specs.Positions.{at_offset, at_position}
use Rattle.common.specs.Bytes.{four_at, four_bytes, bit}

-- every element is a byte: known of each slice of u8, and of no list
abbrev pub Bytes : List ℕ → Type 0
Bytes xs = (i : ℕ) → get_or xs i 0 < 256

-- ---- what was written is read
four_parts : (n : ℕ) → n < 2 ^ 32 → ((n / 256 / 256 / 256 % 256 * 256 + n / 256 / 256 % 256) * 256 + n / 256 % 256) * 256 + n % 256 ≡ n
four_parts n h =
    let top : n / 256 / 256 / 256 < 256 = omega arith in
    rw (mod-eq_of_lt top, div-add-mod' (n / 256 / 256) 256, div-add-mod' (n / 256) 256) (div-add-mod' n 256)

pub four_back : (s : List ℕ) (at n : ℕ) (rest : List ℕ) → n < 2 ^ 32 → drop at s ≡ four_bytes n ++ rest → four_at s at ≡ n
unfolding four_bytes four_at
four_back s at n rest h e =
    rw (at_position s at _ e, at_offset s at _ e 1, at_offset s at _ e 2, at_offset s at _ e 3) (four_parts n h)

pub bit_back : (b : Bool) → eqb (bit b) 1 ≡ b
bit_back true = refl
bit_back false = refl

pub bit_most : (b : Bool) → bit b ≤ 1
bit_most true = omega arith
bit_most false = omega arith
