-- Bytes by their place, numbers of two and four bytes with the high byte first, and flags as numbers.
-- Assumes nothing.
use Rattle.std.specs.Prelude.{ℕ, ◌+◌, ◌*◌, ◌/◌, ◌%◌, Bool, true, false, List, [], ◌∷◌, get_or}

-- the byte at a place, 0 past the end
abbrev pub byte_at : List ℕ → ℕ → ℕ
byte_at xs i = get_or xs i 0

-- two bytes, the high one first
abbrev pub word_at : List ℕ → ℕ → ℕ
word_at xs i = byte_at xs i * 256 + byte_at xs (i + 1)

-- the number that the four bytes at a place spell
unfoldable pub four_at : List ℕ → ℕ → ℕ
four_at s at = ((byte_at s at * 256 + byte_at s (at + 1)) * 256 + byte_at s (at + 2)) * 256 + byte_at s (at + 3)

-- and the four bytes of a number
unfoldable pub four_bytes : ℕ → List ℕ
four_bytes n = n / 256 / 256 / 256 % 256 ∷ n / 256 / 256 % 256 ∷ n / 256 % 256 ∷ n % 256 ∷ []

-- a flag: 1 or 0
abbrev pub bit : Bool → ℕ
bit true = 1
bit false = 0
