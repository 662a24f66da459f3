-- The bits of `exactly` show the number, and a 24-bit number as a float, divided by a power of two, is `exactly` that.
-- Assumes nothing.
use Rattle.std.specs.Prelude.{◌≡◌, refl, Bool, true, false, cond, not, ℕ, zero, suc, ◌+◌, ◌-◌, ◌*◌, ◌/◌, ◌%◌, ◌^◌, ◌≤◌, ◌<◌, T, eqb, leb, ℤ, pos, negsuc, nat_abs, Float}
use Rattle.std.proofs.Common.{sym, ap, ◌∙◌, subst, mul_assoc, mul_comm, mul_right_comm, one-mul, mul-pos, mul-le-mul_right, zero-lt-suc, lt_irrefl, lt_of_lt_of_le, le_of_lt, mul_left_comm, zero-mul, arith, ne_eqb, eq-eqb, le-leb, lit≤, lit<, pow-add, pow_pos, pow_mono, shl_lt}
use Rattle.std.proofs.Math.Nat.{eq_of_mul-eq-mul_right}
use Rattle.std.proofs.lemmas.Bool.{lt-leb}
use Rattle.std.specs.Int.Signed.{mag}
use Rattle.std.specs.Float.{nan, inf, fin, Format, binary32}
use Rattle.std.specs.Float.Ieee.{low, unlike, up, down, size, round, div, of_int, fits, is_nan, odd, of_fields, of_bits, to_bits}
use Rattle.std.specs.Float.Ieee.Digits.{size-lt, size-le, size_reaches}
use Rattle.std.specs.Float.Ieee.Fits.{down_pos, round-fits}
use Rattle.std.specs.Float.Ieee.Exact.{HasValue, odd_sign, round_exact}
use Rattle.std.specs.Float.Ieee.Back.{round_whole}
use Rattle.std.specs.Float.Ieee.Bits.{of_bits-to_bits, to_bits-of_bits, of_bits-fits}
use Rattle.std.specs.Float.Ieee.Nearest.{div_same}
use Rattle.std.specs.Float.Ieee.Scale.{round_same}
use Rattle.floats.specs.Exact.{sign_bit, word, bits_of, exactly, sign_of, power_of, significand_of, Shows, Exact}

abbrev pub negative : ℤ → Bool
negative (pos n) = false
negative (negsuc n) = true

-- ---- the fields of the bits
module _ (n : ℕ) (some : 0 < n) (short : n < 2 ^ 24) where
  digits : size n ≤ 24
  digits = size-le n 24 short

  some_digits : 0 < size n
  some_digits = go (size n) (size-lt n)
    where
      go : (d : ℕ) → n < 2 ^ d → 0 < d
      go zero h = absurd (omega arith)
      go (suc d) h = zero-lt-suc d

  top_low : 2 ^ 23 ≤ n * 2 ^ (24 - size n)
  top_low =
      let h : 2 ^ (size n - 1) * 2 ^ (24 - size n) ≤ n * 2 ^ (24 - size n) = mul-le-mul_right (2 ^ (24 - size n)) (size_reaches n (size n - 1) (omega (arith, some_digits))) in
      let e : size n - 1 + (24 - size n) ≡ 23 = omega (arith, digits, some_digits) in
      subst (λ (x : ℕ). x ≤ n * 2 ^ (24 - size n)) (sym (pow-add 2 (size n - 1) (24 - size n)) ∙ ap (λ (x : ℕ). 2 ^ x) e) h

  top_high : n * 2 ^ (24 - size n) < 2 ^ 24
  top_high =
      let e : size n + (24 - size n) ≡ 24 = omega (arith, digits) in
      subst (λ (x : ℕ). n * 2 ^ (24 - size n) < 2 ^ x) e (shl_lt (size n) (24 - size n) (size-lt n))

  module _ (k : ℕ) (small : k ≤ 126) where
    -- the power's field is above 0
    field_is : suc (125 + size n - k) ≡ 126 + size n - k
    field_is = omega (arith, some_digits)

    number_is : n * 2 ^ (24 - size n) * 2 ^ (126 + size n - k) ≡ n * 2 ^ (150 - k)
    number_is =
        let e : 24 - size n + (126 + size n - k) ≡ 150 - k = omega (arith, digits) in
        mul_assoc n (2 ^ (24 - size n)) (2 ^ (126 + size n - k)) ∙ ap (λ (x : ℕ). n * x) (sym (pow-add 2 (24 - size n) (126 + size n - k)) ∙ ap (λ (x : ℕ). 2 ^ x) e)

    value_is : n * 2 ^ (24 - size n) * 2 ^ (125 + size n - k) * 2 ^ k ≡ n * 2 ^ 149
    value_is =
        let e : 24 - size n + (125 + size n - k) + k ≡ 149 = omega (arith, digits, some_digits) in
        ap (λ (x : ℕ). x * 2 ^ k) (mul_assoc n (2 ^ (24 - size n)) (2 ^ (125 + size n - k)) ∙ ap (λ (x : ℕ). n * x) (sym (pow-add 2 (24 - size n) (125 + size n - k))))
        ∙ mul_assoc n (2 ^ (24 - size n + (125 + size n - k))) (2 ^ k)
        ∙ ap (λ (x : ℕ). n * x) (sym (pow-add 2 (24 - size n + (125 + size n - k)) k) ∙ ap (λ (x : ℕ). 2 ^ x) e)

-- the fields of a word, where the significand u has 24 digits
module _ (s x u : ℕ) (sign : s < 2) (field : x < 255) (from : 2 ^ 23 ≤ u) (to : u < 2 ^ 24) where
  sign_of_lem : sign_of (word s x (u - 2 ^ 23)) ≡ s
  sign_of_lem = omega arith

  power_of_lem : power_of (word s x (u - 2 ^ 23)) ≡ x
  power_of_lem = omega arith

  significand_of_lem : significand_of (word s x (u - 2 ^ 23)) ≡ u
  significand_of_lem = omega arith

  -- the fields as `of_bits` reads them
  field_of : word s x (u - 2 ^ 23) % 2 ^ 31 / 2 ^ 23 ≡ x
  field_of = omega arith

  digits_of : word s x (u - 2 ^ 23) % 2 ^ 23 ≡ u - 2 ^ 23
  digits_of = omega arith

positive_word : (x u : ℕ) → x < 255 → u < 2 ^ 24 → leb (2 ^ 31) (word 0 x (u - 2 ^ 23)) ≡ false
positive_word x u h k = lt-leb (2 ^ 31) (word 0 x (u - 2 ^ 23)) (omega arith)

negative_word : (x u : ℕ) → leb (2 ^ 31) (word 1 x (u - 2 ^ 23)) ≡ true
negative_word x u = le-leb (2 ^ 31) (word 1 x (u - 2 ^ 23)) (omega arith)

word_below : (s x u : ℕ) → s < 2 → x < 255 → u < 2 ^ 24 → word s x (u - 2 ^ 23) < 2 ^ 32
word_below s x u h k l = omega arith

-- ---- the bits show the number
nonzero : (z : ℤ) → 0 < nat_abs z → eqb (nat_abs z) 0 ≡ false
nonzero z h = ne_eqb (nat_abs z) 0 (λ e. lt_irrefl 0 (subst (λ (x : ℕ). 0 < x) e h))

sign_small : (z : ℤ) → sign_bit z < 2
sign_small (pos n) = lit< tt
sign_small (negsuc n) = lit< tt

module _ (z : ℤ) (k : ℕ) (some : 0 < nat_abs z) (short : nat_abs z < 2 ^ 24) (small : k ≤ 126) where
  abbrev power : ℕ
  power = 126 + size (nat_abs z) - k

  abbrev significand : ℕ
  significand = nat_abs z * 2 ^ (24 - size (nat_abs z))

  bits_are : bits_of z k ≡ word (sign_bit z) power (significand - 2 ^ 23)
  unfolding bits_of
  bits_are = rw (nonzero z some)

  power_high : power < 255
  power_high = omega (arith, digits (nat_abs z) some short)

  power_low : 0 < power
  power_low = omega (arith, some_digits (nat_abs z) some short)

  pub shows : Shows z k (bits_of z k)
  shows =
      let lo = top_low (nat_abs z) some short in
      let hi = top_high (nat_abs z) some short in
      let p = power_of_lem (sign_bit z) power significand (sign_small z) power_high lo hi in
      let q = significand_of_lem (sign_bit z) power significand (sign_small z) power_high lo hi in
      subst (Shows z k) (sym bits_are)
      record {
        sign = sign_of_lem (sign_bit z) power significand (sign_small z) power_high lo hi;
        lowest = subst (λ (x : ℕ). 1 ≤ x) (sym p) power_low;
        highest = subst (λ (x : ℕ). x ≤ 254) (sym p) (omega (arith, power_high));
        number = ap (λ (x : ℕ). x * 2 ^ power_of (word (sign_bit z) power (significand - 2 ^ 23))) q ∙ ap (λ (x : ℕ). significand * 2 ^ x) p ∙ number_is (nat_abs z) some short k small;
      }

  below_some : bits_of z k < 2 ^ 32
  below_some = subst (λ (b : ℕ). b < 2 ^ 32) (sym bits_are) (word_below (sign_bit z) power significand (sign_small z) power_high (top_high (nat_abs z) some short))

zero_bits : (k : ℕ) → bits_of (pos 0) k ≡ 0
unfolding bits_of
zero_bits k = refl

zero-bits_of : (z : ℤ) (k : ℕ) → nat_abs z ≡ 0 → bits_of z k ≡ 0
unfolding bits_of
zero-bits_of z k e = rw (eq-eqb (nat_abs z) 0 e)

-- ---- from one fraction to another of the same size
rescale : (x : Float) (s : Bool) (w l num den : ℕ) → 0 < l → num * l ≡ w * den → HasValue x s w l → HasValue x s num den
rescale nan s w l num den p h v = v
rescale (inf t) s w l num den p h v = v
rescale (fin t m e) s w l num den p h v = (
  v.0,
  eq_of_mul-eq-mul_right l p (m * up e * den) (num * down e)
      (mul_right_comm (m * up e) den l ∙ ap (λ (x : ℕ). x * den) v.1 ∙ mul_right_comm w (down e) den ∙ ap (λ (x : ℕ). x * down e) (sym h) ∙ mul_right_comm num l (down e)),
)

-- ---- a value that fits is settled by its sign and its size
cross : (x d y g a c l : ℕ) → 0 < c → x * c ≡ a * d → y * c ≡ a * g → x * l * g ≡ y * l * d
cross x d y g a c l C v w =
    eq_of_mul-eq-mul_right c C (x * l * g) (y * l * d)
    (mul_right_comm (x * l) g c ∙ ap (λ (z : ℕ). z * g) (mul_right_comm x l c ∙ ap (λ (z : ℕ). z * l) v)
    ∙ around a d l g
    ∙ sym (mul_right_comm (y * l) d c ∙ ap (λ (z : ℕ). z * d) (mul_right_comm y l c ∙ ap (λ (z : ℕ). z * l) w)))
  where
    around : (a d l g : ℕ) → a * d * l * g ≡ a * g * l * d
    around a d l g = simp (mul_assoc, mul_comm, mul_left_comm)

same_units : (m : ℕ) (e : ℤ) (n : ℕ) (g : ℤ) (a c l : ℕ) → 0 < c → m * up e * c ≡ a * down e → n * up g * c ≡ a * down g → m * up e * l / down e ≡ n * up g * l / down g
same_units m e n g a c l C v w = div_same (m * up e * l) (down e) (n * up g * l) (down g) (down_pos e) (down_pos g) (cross (m * up e) (down e) (n * up g) (down g) a c l C v w)

same_bits : (f : Format) (t u s : Bool) (m : ℕ) (e : ℤ) (n : ℕ) (g : ℤ) (a c : ℕ) → 0 < c → HasValue (fin t m e) s a c → HasValue (fin u n g) s a c → to_bits f (fin t m e) ≡ to_bits f (fin u n g)
unfolding to_bits
same_bits f t u s m e n g a c C v w = rw (v.0, w.0, same_units m e n g a c (2 ^ low f) C v.1 w.1)

value_unique : (f : Format) (x y : Float) (s : Bool) (a c : ℕ) → 0 < c → T (fits f x) → T (fits f y) → HasValue x s a c → HasValue y s a c → x ≡ y
value_unique f nan y s a c C p q v w = absurd v
value_unique f (inf t) y s a c C p q v w = absurd v
value_unique f (fin t m e) nan s a c C p q v w = absurd w
value_unique f (fin t m e) (inf u) s a c C p q v w = absurd w
value_unique f (fin t m e) (fin u n g) s a c C p q v w = sym (of_bits-to_bits f (fin t m e) p) ∙ ap (of_bits f) (same_bits f t u s m e n g a c C v w) ∙ of_bits-to_bits f (fin u n g) q

-- ---- the value of the definition
fields_value : (s : Bool) (x t n k : ℕ) → suc x < 255 → (2 ^ 23 + t) * 2 ^ x * 2 ^ k ≡ n * 2 ^ 149 → HasValue (of_fields binary32 s (suc x) t) s n (2 ^ k)
unfolding of_fields
fields_value s x t n k h e =
    subst (λ (b : Bool). HasValue (cond b (cond (eqb t 0) (inf s) nan) (odd 24 s (2 ^ 23 + t) x 149)) s n (2 ^ k)) (sym (ne_eqb (suc x) 255 (λ q. omega arith)))
    (rescale (odd 24 s (2 ^ 23 + t) x 149) s ((2 ^ 23 + t) * 2 ^ x) (2 ^ 149) n (2 ^ k) (pow_pos 149) (sym e) (odd_sign 24 s (2 ^ 23 + t) x 149))

-- ---- division by a power of two
shared : (x n d k : ℕ) → x * 1 ≡ n * d → x * 1 * 2 ^ k ≡ n * (1 * 2 ^ k * d)
shared x n d k v = ap (λ (z : ℕ). z * 2 ^ k) v ∙ around (2 ^ k)
  where
    around : (p : ℕ) → n * d * p ≡ n * (1 * p * d)
    around p = simp (one-mul, mul_assoc, mul_comm)

divided_by : (s : Bool) (x : Float) (n k : ℕ) → HasValue x s n 1 → div binary32 x (fin false 1 (pos k)) ≡ round binary32 s n (2 ^ k)
unfolding div
divided_by s nan n k v = absurd v
divided_by s (inf t) n k v = absurd v
divided_by s (fin t m e) n k v =
    ap (λ (b : Bool). round binary32 b (m * up e * 1) (1 * 2 ^ k * down e)) (like t ∙ v.0)
    ∙ round_same binary32 s (m * up e * 1) (1 * 2 ^ k * down e) n (2 ^ k) (mul-pos (mul-pos (zero-lt-suc 0) (pow_pos k)) (down_pos e)) (pow_pos k) (shared (m * up e) n (down e) k v.1)
  where
    like : (t : Bool) → unlike t false ≡ t
    like true = refl
    like false = refl

rounded : (s : Bool) (n k : ℕ) → n < 2 ^ 24 → k ≤ 149 → HasValue (round binary32 s n (2 ^ k)) s n (2 ^ k)
rounded s n k h l = round_exact binary32 s n (2 ^ k) n (149 - k) (pow_pos k) h (lt_of_lt_of_le (shl_lt 24 (149 - k) h) (pow_mono {j = 277} (omega arith))) (ap (λ (x : ℕ). n * x) whole ∙ sym (mul_assoc n (2 ^ (149 - k)) (2 ^ k)))
  where
    e : 149 ≡ 149 - k + k
    e = omega arith

    whole : 2 ^ 149 ≡ 2 ^ (149 - k) * 2 ^ k
    whole = ap (λ (x : ℕ). 2 ^ x) e ∙ pow-add 2 (149 - k) k

-- ---- the value
sign_test : (z : ℤ) (x u : ℕ) → x < 255 → u < 2 ^ 24 → leb (2 ^ 31) (word (sign_bit z) x (u - 2 ^ 23)) ≡ negative z
sign_test (pos n) x u h k = positive_word x u h k
sign_test (negsuc n) x u h k = negative_word x u

of_word : (s : Bool) (w x t : ℕ) → leb (2 ^ 31) w ≡ s → w % 2 ^ 31 / 2 ^ 23 ≡ x → w % 2 ^ 23 ≡ t → of_bits binary32 w ≡ of_fields binary32 s x t
unfolding of_bits
of_word s w x t a b c = rw (a, b, c)

filled : (u x k : ℕ) {m : ℕ} → 2 ^ 23 ≤ u → u * 2 ^ x * 2 ^ k ≡ m → (2 ^ 23 + (u - 2 ^ 23)) * 2 ^ x * 2 ^ k ≡ m
filled u x k h e = let q : 2 ^ 23 + (u - 2 ^ 23) ≡ u = omega arith in ap (λ (v : ℕ). v * 2 ^ x * 2 ^ k) q ∙ e

some_value : (z : ℤ) (k : ℕ) → 0 < nat_abs z → nat_abs z < 2 ^ 24 → k ≤ 126 → HasValue (exactly z k) (negative z) (nat_abs z) (2 ^ k)
unfolding exactly
some_value z k some short small =
    let n = nat_abs z in
    let d = size n in
    let u = n * 2 ^ (24 - d) in
    let x = 125 + d - k in
    let lo = top_low n some short in
    let hi = top_high n some short in
    let at = power_high z k some short small in
    let w = word (sign_bit z) (126 + d - k) (u - 2 ^ 23) in
    let f = field_of (sign_bit z) (126 + d - k) u (sign_small z) at lo hi ∙ sym (field_is n some short k small) in
    let t = digits_of (sign_bit z) (126 + d - k) u (sign_small z) at lo hi in
    subst (λ (v : Float). HasValue v (negative z) n (2 ^ k)) (sym (ap (of_bits binary32) (bits_are z k some short small) ∙ of_word (negative z) w (suc x) (u - 2 ^ 23) (sign_test z (126 + d - k) u at hi) f t))
    (fields_value (negative z) x (u - 2 ^ 23) n k (omega (arith, at, field_is n some short k small)) (filled u x k lo (value_is n some short k small)))

zero-value : (k : ℕ) → HasValue (exactly (pos 0) k) false 0 (2 ^ k)
unfolding exactly bits_of of_bits
zero-value k = (refl, zero-mul (2 ^ k))

pub exactly_value : (z : ℤ) (k : ℕ) → nat_abs z < 2 ^ 24 → k ≤ 126 → HasValue (exactly z k) (negative z) (nat_abs z) (2 ^ k)
exactly_value (pos zero) k h l = zero-value k
exactly_value (pos (suc n)) k h l = some_value (pos (suc n)) k (zero-lt-suc n) h l
exactly_value (negsuc n) k h l = some_value (negsuc n) k (zero-lt-suc n) h l

exactly_fits : (z : ℤ) (k : ℕ) → T (fits binary32 (exactly z k))
unfolding exactly
exactly_fits z k = of_bits-fits binary32 (bits_of z k)

whole_value : (z : ℤ) → nat_abs z < 2 ^ 24 → HasValue (of_int binary32 z) (negative z) (nat_abs z) 1
unfolding of_int
whole_value (pos n) h = round_whole binary32 false n (le_of_lt h)
whole_value (negsuc n) h = round_whole binary32 true (suc n) (le_of_lt h)

-- ---- the bits
no_nan : (x : Float) (s : Bool) (a c : ℕ) → HasValue x s a c → T (not (is_nan x))
unfolding is_nan
no_nan nan s a c v = v
no_nan (inf t) s a c v = tt
no_nan (fin t m e) s a c v = tt

bits_below : (z : ℤ) (k : ℕ) → nat_abs z < 2 ^ 24 → k ≤ 126 → bits_of z k < 2 ^ 32
bits_below (pos zero) k h l = subst (λ (b : ℕ). b < 2 ^ 32) (sym (zero_bits k)) (lit< tt)
bits_below (pos (suc n)) k h l = below_some (pos (suc n)) k (zero-lt-suc n) h l
bits_below (negsuc n) k h l = below_some (negsuc n) k (zero-lt-suc n) h l

pub exactly_bits : (z : ℤ) (k : ℕ) → nat_abs z < 2 ^ 24 → k ≤ 126 → to_bits binary32 (exactly z k) ≡ bits_of z k
unfolding exactly
exactly_bits z k h l = to_bits-of_bits binary32 (bits_of z k) (bits_below z k h l) (no_nan (exactly z k) (negative z) (nat_abs z) (2 ^ k) (exactly_value z k h l))

pub exactly_is_exact : (z : ℤ) (k : ℕ) → nat_abs z < 2 ^ 24 → k ≤ 126 → Exact z k (to_bits binary32 (exactly z k))
exactly_is_exact z k h l =
    subst (Exact z k) (sym (exactly_bits z k h l))
    record { zero = zero-bits_of z k; other = λ s. shows z k s h l }

-- z as a float, divided by 2 ^ k
pub quotient_is : (z : ℤ) (k : ℕ) → nat_abs z < 2 ^ 24 → k ≤ 126 → div binary32 (of_int binary32 z) (fin false 1 (pos k)) ≡ exactly z k
quotient_is z k h l =
    divided_by (negative z) (of_int binary32 z) (nat_abs z) k (whole_value z h)
    ∙ value_unique binary32 (round binary32 (negative z) (nat_abs z) (2 ^ k)) (exactly z k) (negative z) (nat_abs z) (2 ^ k) (pow_pos k) (round-fits binary32 (negative z) (nat_abs z) (2 ^ k)) (exactly_fits z k)
    (rounded (negative z) (nat_abs z) k h (omega arith)) (exactly_value z k h l)

-- the program's constants
constant_15 : of_bits binary32 1191182336 ≡ fin false 1 (pos 15)
unfolding of_bits
constant_15 = refl

constant_16 : of_bits binary32 1199570944 ≡ fin false 1 (pos 16)
unfolding of_bits
constant_16 = refl

pub by_32768 : (z : ℤ) → nat_abs z < 2 ^ 24 → div binary32 (of_int binary32 z) (of_bits binary32 1191182336) ≡ exactly z 15
by_32768 z h = ap (div binary32 (of_int binary32 z)) constant_15 ∙ quotient_is z 15 h (lit≤ tt)

pub by_65536 : (z : ℤ) → nat_abs z < 2 ^ 24 → div binary32 (of_int binary32 z) (of_bits binary32 1199570944) ≡ exactly z 16
by_65536 z h = ap (div binary32 (of_int binary32 z)) constant_16 ∙ quotient_is z 16 h (lit≤ tt)

-- a 16-bit number
pub small_size : (z : ℤ) {a b : ℕ} → mag z < a → a < b → nat_abs z < b
small_size (pos n) h l = omega arith
small_size (negsuc n) h l = omega arith
