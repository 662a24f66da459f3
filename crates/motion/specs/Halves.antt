-- The two halves of a wave: the sine goes back down as it came up, sine and square repeat from 32, and the ramp's second half is 255 less
-- its first. No entry is above 255.
-- Assumes nothing.
use Rattle.std.specs.Prelude.{ℕ, ◌+◌, ◌-◌, ◌%◌, ◌≤◌, ◌<◌, ◌≡◌, refl, Bool, true, [], ◌∷◌, eqb, leb, get_or}
use Rattle.std.proofs.Common.{ap, arith, le_refl, lt-ltb, le-ltb, leb-true}
use Rattle.laws.specs.Ranges.{each, every}
use Rattle.laws.specs.Every.{every_at}
use Rattle.laws.specs.Numbers.{cond-le}
use Rattle.motion.specs.Waves.{half_wave, sine_form, ramp_form, square_form, greatest_entry, rising, sine, ramp, is_raising, entry_size}

-- the sine's half wave, whole
pub sine_whole : each sine half_wave ≡ 0 ∷ 24 ∷ 49 ∷ 74 ∷ 97 ∷ 120 ∷ 141 ∷ 161 ∷ 180 ∷ 197 ∷ 212 ∷ 224 ∷ 235 ∷ 244 ∷ 250 ∷ 253 ∷ 255 ∷ 253 ∷ 250 ∷ 244 ∷ 235 ∷ 224 ∷ 212 ∷ 197 ∷ 180 ∷ 161 ∷ 141 ∷ 120 ∷ 97 ∷ 74 ∷ 49 ∷ 24 ∷ []
unfolding each sine rising
sine_whole = refl

-- it goes back down as it came up
pub sine_back : (i : ℕ) → i ≤ half_wave → sine i ≡ sine (half_wave - i)
unfolding sine
sine_back i h = ap (λ (k : ℕ). get_or rising k 0) (omega arith)

-- from 32 sine and square repeat
pub sine_again : (i : ℕ) → i < half_wave → entry_size sine_form (i + half_wave) ≡ entry_size sine_form i
unfolding entry_size
sine_again i h = ap sine (omega arith)

pub square_again : (i : ℕ) → entry_size square_form (i + half_wave) ≡ entry_size square_form i
unfolding entry_size
square_again i = refl

-- and the ramp is 255 less what it was 32 places before
pub ramp_again : (i : ℕ) → i < half_wave → entry_size ramp_form (i + half_wave) ≡ greatest_entry - entry_size ramp_form i
unfolding entry_size is_raising
ramp_again i h =
    let e : (i + half_wave) % half_wave ≡ i % half_wave = omega arith in
    rw (le-ltb (i + half_wave) half_wave (omega arith), lt-ltb i half_wave h, e)

-- ---- no entry is above 255
abbrev low : ℕ → Bool
low i = leb (sine i) greatest_entry

all_low : every low half_wave ≡ true
unfolding every sine rising
all_low = refl

sine_most : (i : ℕ) → i < half_wave → sine i ≤ greatest_entry
sine_most i l = leb-true (sine i) greatest_entry (every_at low i half_wave all_low l)

pub entry_most : (form place : ℕ) → entry_size form place ≤ greatest_entry
unfolding entry_size
entry_most form place =
    let i = place % half_wave in
    let up : ramp i ≤ greatest_entry = omega arith in
    let down : greatest_entry - ramp i ≤ greatest_entry = omega arith in
    cond-le greatest_entry (eqb form sine_form) _ _ (sine_most i (omega arith))
    (cond-le greatest_entry (eqb form ramp_form) _ _ (cond-le greatest_entry (is_raising place) _ _ up down) (le_refl greatest_entry))
