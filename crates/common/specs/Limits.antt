-- The limits of a module's, a state's and a tick's numbers. They are named here and nowhere else.
-- Assumes nothing.
use Rattle.std.specs.Prelude.{ℕ, Bool, not, ◌&&◌, ◌||◌, eqb, leb, ltb}

-- how many channels arrays have room for; a file may have fewer
abbrev pub width : ℕ
width = 8

-- how many sample numbers there are, with 0 for none; a file may have fewer
abbrev pub sample_numbers : ℕ
sample_numbers = 32

-- volumes to 64
abbrev pub loudest : ℕ
loudest = 64

-- tempo 32 to 255
abbrev pub least_tempo : ℕ
least_tempo = 32

abbrev pub greatest_tempo : ℕ
greatest_tempo = 255

-- a byte: the largest slide memory and offset / 256
abbrev pub last_byte : ℕ
last_byte = 255

-- the largest number of two bytes
abbrev pub last_word : ℕ
last_word = 65535

-- 64 rows, to 63
abbrev pub rows : ℕ
rows = 64

abbrev pub last_row : ℕ
last_row = 63

-- a cell's period is 0 or 113 to 856
abbrev pub least_cell_period : ℕ
least_cell_period = 113

abbrev pub greatest_cell_period : ℕ
greatest_cell_period = 856

-- a state's and a tick's period is 0 or 108 to 907, the least and the greatest of the periods of all finetunes
abbrev pub least_period : ℕ
least_period = 108

abbrev pub greatest_period : ℕ
greatest_period = 907

abbrev pub between : ℕ → ℕ → ℕ → Bool
between least greatest n = leb least n && leb n greatest

abbrev pub legal_period : ℕ → Bool
legal_period p = eqb p 0 || between least_period greatest_period p

-- ---- a period of a cell
-- neither 0 nor 113 to 856
abbrev pub bad_period : ℕ → Bool
bad_period p = not (eqb p 0) && (ltb p least_cell_period || ltb greatest_cell_period p)
