-- Lines through bytes: places that grow evenly, in 65,536ths of a byte.
-- Assumes nothing.
use Rattle.std.specs.Prelude.{List, ℕ, ◌+◌, ◌*◌, ◌/◌, ◌<◌, length}

-- how many parts a byte has
abbrev pub parts : ℕ
parts = 65536

-- a place stays in half a word of 64 bits, below this
abbrev pub half64 : ℕ
half64 = 4294967296

-- which byte a line reads in frame j
abbrev pub byte_of : ℕ → ℕ → ℕ → ℕ
byte_of from growth j = (from + j * growth) / parts

-- n frames of a line stay in the bytes and in half a word
pub record Line (bytes : List ℕ) (from growth n : ℕ) : Type 0 where
  pub low : from + n * growth < half64
  pub inside : (j : ℕ) → j < n → byte_of from growth j < length bytes

-- a signed 16-bit number is at least -32,768 and below 32,768
abbrev pub half16 : ℕ
half16 = 32768

-- half of that
abbrev pub quarter16 : ℕ
quarter16 = 16384
