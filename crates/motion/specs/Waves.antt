-- Waves, of vibrato and tremolo alike: a wave has its own x and its own y, its place and its form. What holds of one holds of both.
-- Assumes nothing.
use Rattle.std.specs.Prelude.{ℕ, ◌+◌, ◌-◌, ◌*◌, ◌/◌, ◌%◌, min, Bool, cond, List, [], ◌∷◌, get_or, eqb, ltb}
use Rattle.motion.specs.Slides.{lowered, raised, louder, softer}
use Rattle.motion.specs.declared.Wave.{Wave}

-- all these begin at 0
abbrev pub fresh_wave : Wave
fresh_wave = record { x = 0; y = 0; place = 0; form = 0 }

-- x and y are digits: memories to 15
abbrev pub last_memory : ℕ
last_memory = 15

-- ---- half waves are 32 numbers
abbrev pub half_wave : ℕ
half_wave = 32

-- wave place 0 to 63
abbrev pub whole_wave : ℕ
whole_wave = 64

-- the forms: sine 0, ramp 1, square 2
abbrev pub sine_form : ℕ
sine_form = 0

abbrev pub ramp_form : ℕ
ramp_form = 1

abbrev pub square_form : ℕ
square_form = 2

-- sine: the way up
unfoldable pub rising : List ℕ
rising =
    0 ∷ 24 ∷ 49 ∷ 74 ∷ 97 ∷ 120 ∷ 141 ∷ 161 ∷ 180 ∷ 197 ∷ 212 ∷ 224 ∷ 235 ∷ 244 ∷ 250 ∷ 253 ∷ 255 ∷ []

-- its last, at the peak
abbrev pub peak_place : ℕ
peak_place = 16

-- then back down to 24
unfoldable pub sine : ℕ → ℕ
sine i = get_or rising (min i (half_wave - i)) 0

-- ramp is 8 per place
abbrev pub ramp : ℕ → ℕ
ramp i = 8 * i

-- square 255
abbrev pub greatest_entry : ℕ
greatest_entry = 255

-- ---- the entry at a place, as its size and its sign
-- from 32 the sign is changed
unfoldable pub is_raising : ℕ → Bool
is_raising place = ltb place half_wave

-- from 32 sine and square repeat, and the ramp is 255 less 8 for each place past 32
unfoldable pub entry_size : ℕ → ℕ → ℕ
entry_size form place =
    cond (eqb form sine_form) (sine (place % half_wave))
    (cond (eqb form ramp_form) (cond (is_raising place) (ramp (place % half_wave)) (greatest_entry - ramp (place % half_wave)))
    greatest_entry)

-- ---- the offset: the entry times depth div so much, the size divided first
unfoldable pub offset_size : ℕ → Wave → ℕ
offset_size divisor w = entry_size w.form w.place * w.y / divisor

-- and the sign put back: a number goes up or down by that
unfoldable pub wavered : (ℕ → ℕ → ℕ) → (ℕ → ℕ → ℕ) → ℕ → Wave → ℕ → ℕ
wavered up down divisor w n = cond (is_raising w.place) (up n (offset_size divisor w)) (down n (offset_size divisor w))

-- vibrato: a period by div 128, kept between the first and last entries of the finetune's row; a period of 0 stays 0
abbrev pub vibrato_divisor : ℕ
vibrato_divisor = 128

abbrev pub vibrated : ℕ → Wave → ℕ → ℕ
vibrated f = wavered (raised f) (lowered f) vibrato_divisor

-- tremolo: a volume by div 64, kept in 0 to 64
abbrev pub tremolo_divisor : ℕ
tremolo_divisor = 64

abbrev pub trembled : Wave → ℕ → ℕ
trembled = wavered louder softer tremolo_divisor

-- the place then gains x modulo 64, where the wave is used
unfoldable pub moved : Bool → Wave → Wave
moved used w = cond used (record { x = w.x; y = w.y; place = (w.place + w.x) % whole_wave; form = w.form }) w

-- ---- memory: a number that is given, 0 meaning the old one
unfoldable pub remembered : Bool → ℕ → ℕ → ℕ
remembered given n old = cond given (cond (eqb n 0) old n) old
