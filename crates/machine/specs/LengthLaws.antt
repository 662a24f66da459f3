-- Tick lengths: no tick has more than 3,750 frames (`length_most`, `tick_most`), a remainder stays below the tempo, and frames of ticks at one tempo add up (`lengths_add`).
-- Assumes nothing.
use Rattle.std.specs.Prelude.{ℕ, zero, suc, ◌+◌, ◌*◌, ◌/◌, ◌%◌, ◌≤◌, ◌<◌, ◌≡◌, refl, Bool, true, eqb}
use Rattle.std.proofs.Common.{sym, ap, arith, mod-lt, div-lt_iff_lt-mul, zero-add, eqb-true, eq-eqb}
use Rattle.std.proofs.Math.Nat.{div-add-mod, mul-add-div, div-eq_of_lt}
use Rattle.laws.specs.Choice.{either}
use Rattle.common.specs.Limits.{least_tempo}
use Rattle.machine.specs.Lengths.{tick_frames, carried_at, length_at, kept_at}

-- the longest tick's frames
abbrev pub longest : ℕ
longest = 3750

-- ---- ranges
-- a remainder stays below the tempo
pub kept_below : (keeps : Bool) (tempo remainder : ℕ) → 0 < tempo → kept_at keeps tempo remainder < tempo
unfolding kept_at
kept_below keeps tempo remainder h = either (λ (n : ℕ). n < tempo) keeps _ _ (λ _. mod-lt (tick_frames + remainder) h) (λ _. h)

-- and so does what a tick begins with
pub carried_below : (before remainder tempo : ℕ) → remainder < before → 0 < tempo → carried_at before remainder tempo < tempo
unfolding carried_at
carried_below before remainder tempo h z = either (λ (n : ℕ). n < tempo) (eqb tempo before) _ _ (λ e. omega (arith, eqb-true tempo before e)) (λ _. z)

-- no tick has more than 3,750 frames
pub length_most : (tempo remainder : ℕ) → least_tempo ≤ tempo → remainder < tempo → length_at tempo remainder ≤ longest
unfolding length_at
length_most tempo remainder l h =
    let b : tick_frames + remainder < 3751 * tempo = omega arith in
    let z : 0 < tempo = omega arith in
    let d : (tick_frames + remainder) / tempo < 3751 = (div-lt_iff_lt-mul z).1 b in
    omega arith

-- ---- what a tick begins with
-- at the tempo of the tick before it is what that left
pub carried_same : (tempo remainder : ℕ) → carried_at tempo remainder tempo ≡ remainder
unfolding carried_at
carried_same tempo remainder = rw (eq-eqb tempo tempo refl)

-- where nothing was left it is nothing
pub carried_none : (before tempo : ℕ) → carried_at before 0 tempo ≡ 0
unfolding carried_at
carried_none before tempo = either (λ (n : ℕ). n ≡ 0) (eqb tempo before) 0 0 (λ _. refl) (λ _. refl)

-- ---- ticks in a row at one tempo
-- the frames of n of them, of which the first begins with a remainder
unfoldable pub lengths_at : ℕ → ℕ → ℕ → ℕ
lengths_at tempo remainder zero = 0
lengths_at tempo remainder (suc n) = length_at tempo remainder + lengths_at tempo (kept_at true tempo remainder) n

pub lengths_add : (tempo : ℕ) → 0 < tempo → (n remainder : ℕ) → remainder < tempo → lengths_at tempo remainder n ≡ (tick_frames * n + remainder) / tempo
unfolding lengths_at length_at kept_at
lengths_add tempo h zero remainder b = rw zero-add (sym (div-eq_of_lt b))
lengths_add tempo h (suc n) remainder b =
    let q = (tick_frames + remainder) / tempo in
    let k = (tick_frames + remainder) % tempo in
    let d : tempo * q + k ≡ tick_frames + remainder = div-add-mod (tick_frames + remainder) tempo in
    let e : tick_frames * suc n + remainder ≡ tempo * q + (tick_frames * n + k) = omega arith in
    rw (e, mul-add-div h q (tick_frames * n + k)) (ap (λ (j : ℕ). q + j) (lengths_add tempo h n k (mod-lt (tick_frames + remainder) h)))
