-- The bits of a mask: in two numbers joined, in a number of two halves, in its lowest byte.
-- Assumes nothing.
use Prim.Native.Nat.{ℕ, ◌+◌, ◌-◌, ◌*◌, ◌/◌, ◌%◌, ◌^◌, ◌<◌, min, max}
use mathlib.Core.Path.{◌≡◌, refl, sym, ap, ap₂, ◌∙◌}
use mathlib.Core.Bool.{Bool, true, false, not, ◌||◌}
use native.Mathlib.Omega.{arith}
use native.Mathlib.Nat.{mod-lt}
use lib.Arith.{bin_ind}
use lib.Bits.{bit_and, bit_or, and_step, or_step, and_block, and_mask, or_add_and, and_le_l, and_le_r, and_zero_r}
use lib.Dec.{eqb}
use borrow.Author.Tests.{eqb-true, eqb-false, ne_eqb, eq-eqb}
use Rattle.reader.specs.Halves.{has}

-- ---- two numbers joined
-- a mask keeps of two numbers joined what it keeps of each
and_or : (x y m : ℕ) → bit_and (bit_or x y) m ≡ bit_or (bit_and x m) (bit_and y m)
and_or = bin_ind (λ (n : ℕ). (y m : ℕ) → bit_and (bit_or n y) m ≡ bit_or (bit_and n m) (bit_and y m)) (λ y m. refl) again
  where
    again : (n : ℕ) → ((y m : ℕ) → bit_and (bit_or (n / 2) y) m ≡ bit_or (bit_and (n / 2) m) (bit_and y m)) → (y m : ℕ) → bit_and (bit_or n y) m ≡ bit_or (bit_and n m) (bit_and y m)
    again n ih y m =
        let p : bit_or n y / 2 ≡ bit_or (n / 2) (y / 2) = omega (arith, or_step n y) in
        let q : bit_or n y % 2 ≡ max (n % 2) (y % 2) = omega (arith, or_step n y) in
        let r : bit_and n m / 2 ≡ bit_and (n / 2) (m / 2) = omega (arith, and_step n m) in
        let s : bit_and n m % 2 ≡ min (n % 2) (m % 2) = omega (arith, and_step n m) in
        let t : bit_and y m / 2 ≡ bit_and (y / 2) (m / 2) = omega (arith, and_step y m) in
        let u : bit_and y m % 2 ≡ min (y % 2) (m % 2) = omega (arith, and_step y m) in
        let v : min (max (n % 2) (y % 2)) (m % 2) ≡ max (min (n % 2) (m % 2)) (min (y % 2) (m % 2)) = omega arith in
        and_step (bit_or n y) m
        ∙ ap₂ (λ (a b : ℕ). bit_and a (m / 2) * 2 + min b (m % 2)) p q
        ∙ ap₂ (λ (a b : ℕ). a * 2 + b) (ih (y / 2) (m / 2)) v
        ∙ ap₂ (λ (a b : ℕ). bit_or a b * 2 + max (min (n % 2) (m % 2)) (min (y % 2) (m % 2))) (sym r) (sym t)
        ∙ ap₂ (λ (a b : ℕ). bit_or (bit_and n m / 2) (bit_and y m / 2) * 2 + max a b) (sym s) (sym u)
        ∙ sym (or_step (bit_and n m) (bit_and y m))

-- a number that is 0 only where two are
not-zero : (n a b : ℕ) → (n ≡ 0 → (a ≡ 0) × (b ≡ 0)) → (a ≡ 0 → b ≡ 0 → n ≡ 0) → not (eqb n 0) ≡ not (eqb a 0) || not (eqb b 0)
not-zero n a b f g = go (eqb a 0) refl (eqb b 0) refl
  where
    go : (s : Bool) → eqb a 0 ≡ s → (t : Bool) → eqb b 0 ≡ t → not (eqb n 0) ≡ not s || not t
    go true p true q = ap not (eq-eqb n 0 (g (eqb-true a 0 p) (eqb-true b 0 q)))
    go true p false q = ap not (ne_eqb n 0 (λ (e : n ≡ 0). eqb-false b 0 q (f e).1))
    go false p t q = ap not (ne_eqb n 0 (λ (e : n ≡ 0). eqb-false a 0 p (f e).0))

pub or_not_zero : (a b : ℕ) → not (eqb (bit_or a b) 0) ≡ not (eqb a 0) || not (eqb b 0)
or_not_zero a b = not-zero (bit_or a b) a b (λ (e : bit_or a b ≡ 0). (omega (arith, or_add_and a b, and_le_r a b), omega (arith, or_add_and a b, and_le_l a b))) (λ (p : a ≡ 0) (q : b ≡ 0). omega (arith, or_add_and a b))

pub has_or : (m x y : ℕ) → has m (bit_or x y) ≡ has m x || has m y
unfolding has
has_or m x y = ap (λ (n : ℕ). not (eqb n 0)) (and_or x y m) ∙ or_not_zero (bit_and x m) (bit_and y m)

-- ---- a number of two halves: those of each half
pub has_halves : (a b x y : ℕ) → b < 65536 → y < 65536 → has (a * 65536 + b) (x * 65536 + y) ≡ has a x || has b y
unfolding has
has_halves a b x y h k = ap (λ (n : ℕ). not (eqb n 0)) (and_block 16 x a y b k h) ∙ not-zero (bit_and x a * 65536 + bit_and y b) (bit_and x a) (bit_and y b) (λ (e : bit_and x a * 65536 + bit_and y b ≡ 0). (omega arith, omega arith)) (λ (p : bit_and x a ≡ 0) (q : bit_and y b ≡ 0). omega arith)

-- a mask that keeps the lowest bits of each half
pub low_bits : (w k : ℕ) → 2 ^ k - 1 < 65536 → bit_and w ((2 ^ k - 1) * 65536 + (2 ^ k - 1)) ≡ w / 65536 % 2 ^ k * 65536 + w % 65536 % 2 ^ k
low_bits w k h =
    let e : w ≡ w / 65536 * 65536 + w % 65536 = omega arith in
    ap (λ (n : ℕ). bit_and n ((2 ^ k - 1) * 65536 + (2 ^ k - 1))) e
    ∙ and_block 16 (w / 65536) (2 ^ k - 1) (w % 65536) (2 ^ k - 1) (mod-lt w (omega arith)) h
    ∙ ap₂ (λ (a b : ℕ). a * 65536 + b) (and_mask (w / 65536) k) (and_mask (w % 65536) k)

-- ---- a mask of eight bits
pub first_byte : (x m : ℕ) → m < 256 → bit_and x m ≡ bit_and (x % 256) m
first_byte x m h =
    let q : x ≡ x / 256 * 256 + x % 256 = omega arith in
    let r : m ≡ 0 * 256 + m = omega arith in
    ap₂ bit_and q r ∙ and_block 8 (x / 256) 0 (x % 256) m (omega arith) h ∙ omega (arith, and_zero_r (x / 256))
