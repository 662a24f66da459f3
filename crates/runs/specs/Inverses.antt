-- Division by a known number as a product with its inverse: exact for numbers below 2 ^ 27 and divisors of at most 16 bits.
-- Assumes nothing.
use Rattle.std.specs.Prelude.{◌≡◌, refl, ℕ, ◌+◌, ◌*◌, ◌/◌, ◌^◌, ◌≤◌, ◌<◌, ltb, cond}
use Rattle.std.proofs.Common.{mul_assoc, mul-add, mul_right_comm, add-mul, one-mul, mul-le-mul, mul-le-mul_left, mul-le-mul_right, mul-lt-mul_of_pos_right, div-mul-le_self, div-le_self, arith, Fits, ltb-false}
use Rattle.std.proofs.Math.Nat.{lt-div-mul-add}
use Rattle.std.specs.Int.{w64}
use Rattle.runs.specs.Lines.{parts}
use Rattle.laws.specs.Choice.{either}
use Rattle.runs.specs.Written.{together}

-- an inverse counts in 2 ^ 46ths
abbrev pub unit : ℕ
unit = 70368744177664

-- numbers below this are divided
abbrev pub dividends : ℕ
dividends = 134217728

-- the inverse of a divisor, more than exact by at most one
unfoldable pub inverse_of : ℕ → ℕ
inverse_of g = unit / g + 1

-- a byte has at most so many frames
abbrev pub most_frames : ℕ
most_frames = 16

-- a line that grows by this or more leaves a byte after one fill
abbrev pub quick : ℕ
quick = 8192

-- so many cells a line's byte is stored into: one fill or two
unfoldable pub lasting : ℕ → ℕ
lasting g = cond (ltb g quick) (together + together) together

-- they are enough for all of its frames
pub lasting_enough : (g : ℕ) → parts ≤ most_frames * g → parts ≤ lasting g * g
unfolding lasting
lasting_enough g h = either (λ (n : ℕ). parts ≤ n * g) (ltb g quick) (together + together) together (λ _. h) (λ e. omega (arith, ltb-false g quick e))

pub lasting_most : (g : ℕ) → lasting g ≤ most_frames
unfolding lasting
lasting_most g = either (λ n. n ≤ most_frames) (ltb g quick) (together + together) together (λ _. omega arith) (λ _. omega arith)

-- i is the inverse of g; a line that grows by g stays in a byte for so many frames at most, and skips none
pub record Inverse (g i : ℕ) : Type 0 where
  pub brief : parts ≤ most_frames * g
  pub slow : g < parts
  pub above : unit < i * g
  pub near : i * g ≤ unit + g

pub inverse_is : (g i : ℕ) → parts ≤ most_frames * g → g < parts → i ≡ inverse_of g → Inverse g i
unfolding inverse_of
inverse_is g i l h e =
    let z : 0 < g = omega arith in
    rw e (record { brief = l; slow = h; above = omega (arith, b, lt-div-mul-add {a = unit} z); near = omega (arith, b, div-mul-le_self unit g) })
  where
    b : (unit / g + 1) * g ≡ unit / g * g + g
    b = omega (arith, add-mul (unit / g) 1 g, one-mul g)

inverse_low : (g i : ℕ) → Inverse g i → i ≤ 2 ^ 35
inverse_low g i m = let l : 4096 ≤ g = omega (arith, m.brief) in omega (arith, m.near, m.slow, mul-le-mul_left i l)

module _ (g i x : ℕ) (m : Inverse g i) (h : x < dividends) where
  pub product_low : x * i ≤ 2 ^ 62
  product_low = omega (arith, mul-le-mul (let a : x ≤ dividends = omega arith in a) (inverse_low g i m))

  pub product_fits : Fits w64 (x * i)
  product_fits = record { fits = omega (arith, product_low) }

  -- the product with the inverse, times g, is x units and a little more
  product_above : x * unit ≤ x * i * g
  product_above = omega (arith, mul_assoc x i g, mul-le-mul_left x (let a : unit ≤ i * g = omega (arith, m.above) in a))

  product_near : x * i * g < x * unit + unit
  product_near =
      omega (arith, mul_assoc x i g, mul-le-mul_left x m.near, mul-add x unit g, mul-le-mul (let a : x ≤ dividends = omega arith in a) (let b : g ≤ parts = omega (arith, m.slow) in b))

  pub quotient_low : x * i / unit * g ≤ x
  quotient_low = omega (arith, product_near, mul-le-mul_right g (div-mul-le_self (x * i) unit), mul_right_comm (x * i / unit) unit g)

  pub quotient_high : x < x * i / unit * g + g
  quotient_high =
      let z : 0 < unit = omega arith in
      omega (arith, product_above, mul-lt-mul_of_pos_right (lt-div-mul-add {a = x * i} z) (let p : 0 < g = omega (arith, m.brief) in p), add-mul (x * i / unit * unit) unit g, mul_right_comm (x * i / unit) unit g)

-- ---- how it is computed
pub inverse_none : (g : ℕ) → g ≡ 0 → 1 ≡ inverse_of g
unfolding inverse_of
inverse_none g e = rw e

pub inverse_quotient : (g : ℕ) → unit / g + 1 ≡ inverse_of g
unfolding inverse_of
inverse_quotient g = refl

pub inverse_fits : (g n : ℕ) → n ≤ 1 → Fits w64 (unit / g + n)
inverse_fits g n h = record { fits = omega (arith, div-le_self unit g) }
