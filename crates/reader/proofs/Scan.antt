-- The scan of two cells at once, over plain variables: what is kept of a bad cell, and a search over two halves.
-- Assumes nothing.
use Prim.Native.Nat.{ℕ, zero, suc, ◌+◌, ◌-◌, ◌*◌, ◌/◌, ◌%◌, ◌^◌, ◌≤◌, ◌<◌}
use mathlib.Core.Path.{◌≡◌, refl, sym, ap, ap₂, ◌∙◌, subst}
use mathlib.Core.Bool.{Bool, true, false, not, cond, ◌||◌}
use mathlib.Core.List.{List}
use native.Mathlib.Omega.{arith}
use native.Mathlib.Nat.{mod-eq_of_lt}
use lib.Bits.{bit_and, bit_or, bit_xor, or_block, xor_block, or_lt, xor_lt}
use lib.Pow.{shr-shr, mod-mod-pow, field, high, low}
use lib.Dec.{eqb, ltb}
use borrow.Author.Tests.{ne_eqb, ltb-true, ltb-false, lt-ltb, le-ltb}
use Rattle.laws.specs.Ranges.{some, every}
use Rattle.laws.specs.Every.{every_at}
use Rattle.laws.specs.Search.{none_at, some_step, some_end}
use Rattle.laws.specs.Tests.{or_parts}
use Rattle.common.specs.Bytes.{byte_at}
use Rattle.common.specs.Limits.{least_cell_period, greatest_cell_period, bad_period}
use Rattle.reader.specs.declared.Layout.{Layout}
use Rattle.reader.specs.File.{Module, lent}
use Rattle.reader.specs.Judge.{bad_at, bad_cell, bad_number_at, bad_period_at}
use Rattle.reader.specs.Layouts.{LegalLayout}
use Rattle.reader.specs.Halves.{has, first_two, low_period, upper_bits, bad_periods, mark_bits, upper_halves, seen_bad}
use Rattle.reader.proofs.Laws.{number_high}
use Rattle.reader.proofs.Masks.{or_not_zero, has_or, has_halves, low_bits, first_byte}

-- ---- the lower ten bits of each half's period
periods_are : (w : ℕ) → w < 2 ^ 32 → bit_and w 0x00030003 * 256 + bit_and (w / 256) 0x00FF00FF ≡ low_period (w / 65536) * 65536 + low_period (w % 65536)
periods_are w h =
    let a : bit_and w 0x00030003 ≡ w / 65536 % 4 * 65536 + w % 65536 % 4 = low_bits w 2 (omega arith) in
    let b : bit_and (w / 256) 0x00FF00FF ≡ w / 256 / 65536 % 256 * 65536 + w / 256 % 65536 % 256 = low_bits (w / 256) 8 (omega arith) in
    let c : w / 256 / 65536 % 256 ≡ w / 65536 / 256 = ap (λ (n : ℕ). n % 256) (shr-shr w 8 16 ∙ sym (shr-shr w 16 8)) ∙ mod-eq_of_lt (omega arith) in
    let d : w / 256 % 65536 % 256 ≡ w % 65536 / 256 = mod-mod-pow (w / 256) 8 8 ∙ sym (field w 8 8) in
    rw (a, b, c, d) (omega arith)

low-lt : (x : ℕ) → x < 65536 → low_period x < 1024
low-lt x h = omega arith

pub period_high : (w : ℕ) → w < 2 ^ 32 → (bit_and w 0x00030003 * 256 + bit_and (w / 256) 0x00FF00FF) / 65536 ≡ low_period (w / 65536)
period_high w h = rw (periods_are w h) (high (low_period (w / 65536)) 16 (omega (arith, low-lt (w % 65536) (omega arith))))

pub period_low : (w : ℕ) → w < 2 ^ 32 → (bit_and w 0x00030003 * 256 + bit_and (w / 256) 0x00FF00FF) % 65536 ≡ low_period (w % 65536)
period_low w h = rw (periods_are w h) (low (low_period (w / 65536)) 16 (omega (arith, low-lt (w % 65536) (omega arith))))

pub period_high_lt : (w : ℕ) → w < 2 ^ 32 → (bit_and w 0x00030003 * 256 + bit_and (w / 256) 0x00FF00FF) / 65536 < 1024
period_high_lt w h = rw (period_high w h) (low-lt (w / 65536) (omega arith))

pub period_low_lt : (w : ℕ) → w < 2 ^ 32 → (bit_and w 0x00030003 * 256 + bit_and (w / 256) 0x00FF00FF) % 65536 < 1024
period_low_lt w h = rw (period_low w h) (low-lt (w % 65536) (omega arith))

-- ---- tests joined
or_same : {a b c d : Bool} → a ≡ c → b ≡ d → a || b ≡ c || d
or_same p q = ap₂ (λ (s t : Bool). s || t) p q

cross : (a b c d : Bool) → (a || b) || (c || d) ≡ (a || c) || (b || d)
cross true b c d = refl
cross false true true d = refl
cross false true false d = refl
cross false false c d = refl

-- ---- tests that are the same at every number below a bound, by computation
abbrev same : Bool → Bool → Bool
same true b = b
same false b = not b

is_same : (a b : Bool) → same a b ≡ true → a ≡ b
is_same true b e = sym e
is_same false true e = e
is_same false false e = refl

by_table : (p q : ℕ → Bool) (n i : ℕ) → every (λ x. same (p x) (q x)) n ≡ true → i < n → p i ≡ q i
by_table p q n i e l = is_same (p i) (q i) (every_at (λ x. same (p x) (q x)) i n e l)

-- ---- what is marked
-- a period of ten bits that reaches 1024 with the number added is above the greatest; is not 0; is the least or above
abbrev above_greatest : ℕ
above_greatest = 1023 - greatest_cell_period

abbrev above0 : ℕ
above0 = 1023

abbrev from_least : ℕ
from_least = 1024 - least_cell_period

abbrev mark : ℕ → ℕ
mark x = bit_or (x + above_greatest) (bit_xor (x + above0) (x + from_least))

mark_is : (x : ℕ) → x < 1024 → has 1024 (mark x) ≡ bad_period x
unfolding every has
mark_is x l = by_table (λ x. has 1024 (mark x)) bad_period 1024 x refl l

mark_lt : (x : ℕ) → x < 1024 → mark x < 65536
mark_lt x l = or_lt 16 (x + above_greatest) (bit_xor (x + above0) (x + from_least)) (omega arith) (xor_lt 16 (x + above0) (x + from_least) (omega arith) (omega arith))

-- the halves are marked apart
mark_both : (p x y : ℕ) → p ≡ x * 65536 + y → x < 1024 → y < 1024 → bit_or (p + above_greatest * 65537) (bit_xor (p + above0 * 65537) (p + from_least * 65537)) ≡ mark x * 65536 + mark y
mark_both p x y e h k =
    let a : p + above_greatest * 65537 ≡ (x + above_greatest) * 65536 + (y + above_greatest) = omega arith in
    let b : p + above0 * 65537 ≡ (x + above0) * 65536 + (y + above0) = omega arith in
    let c : p + from_least * 65537 ≡ (x + from_least) * 65536 + (y + from_least) = omega arith in
    ap₂ bit_or a (ap₂ bit_xor b c ∙ xor_block 16 (x + above0) (x + from_least) (y + above0) (y + from_least) (omega arith) (omega arith))
    ∙ or_block 16 (x + above_greatest) (bit_xor (x + above0) (x + from_least)) (y + above_greatest) (bit_xor (y + above0) (y + from_least)) (omega arith) (xor_lt 16 (y + above0) (y + from_least) (omega arith) (omega arith))

pub marks_are : (w p : ℕ) → p / 65536 ≡ low_period (w / 65536) → p % 65536 ≡ low_period (w % 65536) → p / 65536 < 1024 → p % 65536 < 1024 → has mark_bits (bit_or (p + above_greatest * 65537) (bit_xor (p + above0 * 65537) (p + from_least * 65537))) ≡ bad_periods w
marks_are w p e f h k =
    ap (has mark_bits) (mark_both p (p / 65536) (p % 65536) (omega arith) h k)
    ∙ has_halves 1024 1024 (mark (p / 65536)) (mark (p % 65536)) (omega arith) (mark_lt (p % 65536) k)
    ∙ or_same (mark_is (p / 65536) h ∙ ap bad_period e) (mark_is (p % 65536) k ∙ ap bad_period f)

-- ---- a half
-- a bad cell by its first two bytes, the first one low
unfoldable bad_half : ℕ → ℕ → Bool
bad_half last x = ltb last (x % 256) || bad_period (x % 16 * 256 + x / 256)

-- the cell's own test
cell_half : (l : Layout) (file : List ℕ) (at x : ℕ) → LegalLayout l → ((i : ℕ) → byte_at file i < 256) → x ≡ first_two file at → bad_half l.samples x ≡ bad_at (lent l file) at
unfolding bad_half bad_at bad_number_at bad_period_at
cell_half l file at x legal bytes e =
    let a : x % 256 ≡ byte_at file at = omega (arith, bytes at) in
    let b : x / 256 ≡ byte_at file (at + 1) = omega (arith, bytes at) in
    let c : x % 16 ≡ byte_at file at % 16 = sym (mod-mod-pow x 4 4) ∙ ap (λ (n : ℕ). n % 16) a in
    or_same (number_high l.samples (byte_at file at) (byte_at file (at + 2)) (x % 256) legal.sixteens a (bytes (at + 2))) (ap₂ (λ (u v : ℕ). bad_period (u * 256 + v)) c b)

too_high : (z : ℕ) → 1023 < z → bad_period z ≡ true
too_high z h = rw (ne_eqb z 0 (λ (e : z ≡ 0). omega arith), le-ltb z least_cell_period (omega arith), lt-ltb greatest_cell_period z (omega arith))

upper_lt : (t : Bool) → cond t 0xFC 0xEC < 256
upper_lt true = omega arith
upper_lt false = omega arith

upper_is : (last b : ℕ) → (last + 1) % 16 ≡ 0 → last < 32 → b < 256 → has (upper_bits last) b ≡ ltb last b || ltb 3 (b % 16)
unfolding every has
upper_is last b e h l = go (ltb last 16) refl
  where
    go : (t : Bool) → ltb last 16 ≡ t → has (cond t 0xFC 0xEC) b ≡ ltb last b || ltb 3 (b % 16)
    go true q =
        let f : 15 ≡ last = omega (arith, ltb-true last 16 q) in
        subst (λ (n : ℕ). has 0xFC b ≡ ltb n b || ltb 3 (b % 16)) f (by_table (has 0xFC) (λ b. ltb 15 b || ltb 3 (b % 16)) 256 b refl l)
    go false q =
        let f : 31 ≡ last = omega (arith, ltb-false last 16 q) in
        subst (λ (n : ℕ). has 0xEC b ≡ ltb n b || ltb 3 (b % 16)) f (by_table (has 0xEC) (λ b. ltb 31 b || ltb 3 (b % 16)) 256 b refl l)

-- by the upper bits, and the period's ten bits
half_is : (last x : ℕ) → (last + 1) % 16 ≡ 0 → last < 32 → x < 65536 → has (upper_bits last) x || bad_period (low_period x) ≡ bad_half last x
unfolding has bad_half
half_is last x e h l = ap (λ (t : Bool). t || bad_period (low_period x)) (ap (λ (n : ℕ). not (eqb n 0)) (first_byte x (upper_bits last) (upper_lt (ltb last 16))) ∙ upper_is last (x % 256) e h (omega arith)) ∙ go (ltb last (x % 256)) (ltb 3 (x % 256 % 16)) refl
  where
    go : (s t : Bool) → ltb 3 (x % 256 % 16) ≡ t → (s || t) || bad_period (low_period x) ≡ s || bad_period (x % 16 * 256 + x / 256)
    go true t q = refl
    go false true q =
        let k : 3 < x % 16 = omega (arith, ltb-true 3 (x % 256 % 16) q) in
        sym (too_high (x % 16 * 256 + x / 256) (omega arith))
    go false false q =
        let k : x % 16 ≡ x % 4 = omega (arith, ltb-false 3 (x % 256 % 16) q) in
        ap (λ (n : ℕ). bad_period (n * 256 + x / 256)) (sym k)

-- ---- both halves
pub upper_of_15 : (last : ℕ) → last < 16 → 0x00FC00FC ≡ upper_halves last
upper_of_15 last h = rw (lt-ltb last 16 h)

pub upper_of_31 : (last : ℕ) → 16 ≤ last → 0x00EC00EC ≡ upper_halves last
upper_of_31 last h = rw (le-ltb last 16 h)

pub seen_is : (last u bytes marks : ℕ) → u ≡ upper_halves last → not (eqb (bit_or (bit_and bytes u) (bit_and marks mark_bits)) 0) ≡ seen_bad last bytes marks
unfolding seen_bad has
seen_is last u bytes marks e = ap (λ (k : ℕ). not (eqb (bit_or (bit_and bytes k) (bit_and marks mark_bits)) 0)) e ∙ or_not_zero (bit_and bytes (upper_halves last)) (bit_and marks mark_bits)

seen_both : (last x y t : ℕ) → (last + 1) % 16 ≡ 0 → last < 32 → x < 65536 → y < 65536 → has mark_bits t ≡ bad_periods (x * 65536 + y) → seen_bad last (x * 65536 + y) t ≡ bad_half last x || bad_half last y
unfolding seen_bad
seen_both last x y t m h k l q =
    or_same (has_halves (upper_bits last) (upper_bits last) x y (omega (arith, upper_lt (ltb last 16))) l) (q ∙ ap₂ (λ (u v : ℕ). bad_period (low_period u) || bad_period (low_period v)) (high x 16 l) (low x 16 l))
    ∙ cross (has (upper_bits last) x) (has (upper_bits last) y) (bad_period (low_period x)) (bad_period (low_period y))
    ∙ or_same (half_is last x m h k) (half_is last y m h l)

seen_or : (last a b s t : ℕ) → seen_bad last (bit_or a b) (bit_or s t) ≡ seen_bad last a s || seen_bad last b t
unfolding seen_bad
seen_or last a b s t =
    or_same (has_or (upper_halves last) a b) (has_or mark_bits s t)
    ∙ cross (has (upper_halves last) a) (has (upper_halves last) b) (has mark_bits s) (has mark_bits t)

-- ---- two halves of the numbers below a bound
none_by : (p : ℕ → Bool) (n : ℕ) → ((i : ℕ) → i < n → p i ≡ false) → some p n ≡ false
unfolding some
none_by p zero h = refl
none_by p (suc n) h = rw (none_by p n (λ i l. h i (omega arith)), h n (omega arith))

same_false : (a b : Bool) → (a ≡ false → b ≡ false) → (b ≡ false → a ≡ false) → a ≡ b
same_false true true f g = refl
same_false true false f g = g refl
same_false false b f g = sym (f refl)

-- the numbers below m, and as many from h
some_two : (p : ℕ → Bool) (h m : ℕ) → h ≤ m → some (λ i. p i || p (h + i)) m ≡ some p (h + m)
some_two p h m l = same_false (some (λ i. p i || p (h + i)) m) (some p (h + m)) (λ e. none_by p (h + m) (λ i k. by e i k (ltb i m) refl)) (λ e. none_by (λ i. p i || p (h + i)) m (λ i k. rw (none_at p i (h + m) (omega arith) e, none_at p (h + i) (h + m) (omega arith) e)))
  where
    none : some (λ i. p i || p (h + i)) m ≡ false → (i : ℕ) → i < m → (p i ≡ false) × (p (h + i) ≡ false)
    none e i k = or_parts (p i) (p (h + i)) (none_at (λ i. p i || p (h + i)) i m k e)

    by : some (λ i. p i || p (h + i)) m ≡ false → (i : ℕ) → i < h + m → (t : Bool) → ltb i m ≡ t → p i ≡ false
    by e i k true q = (none e i (ltb-true i m q)).0
    by e i k false q =
        let g : m ≤ i = ltb-false i m q in
        let r : h + (i - h) ≡ i = omega arith in
        subst (λ (j : ℕ). p j ≡ false) r (none e (i - h) (omega arith)).1

-- ---- the loop
-- cell i, and the cell so many further on
abbrev pub bad_two : Module → ℕ → ℕ → Bool
bad_two m h i = bad_cell m i || bad_cell m (h + i)

pub two_begin : (l : Layout) (file : List ℕ) (h : ℕ) → seen_bad l.samples 0 0 ≡ some (bad_two (lent l file) h) 0
unfolding seen_bad has some
two_begin l file h = refl

pub two_again : (l : Layout) (file : List ℕ) (h i x y t bytes marks : ℕ) → LegalLayout l → ((k : ℕ) → byte_at file k < 256) → x ≡ first_two file (l.patterns + 4 * i) → x < 65536 → y ≡ first_two file (l.patterns + 4 * (h + i)) → y < 65536 → has mark_bits t ≡ bad_periods (x * 65536 + y) → seen_bad l.samples bytes marks ≡ some (bad_two (lent l file) h) i → seen_bad l.samples (bit_or bytes (x * 65536 + y)) (bit_or marks t) ≡ some (bad_two (lent l file) h) (i + 1)
two_again l file h i x y t bytes marks legal below ex kx ey ky et e =
    seen_or l.samples bytes (x * 65536 + y) marks t
    ∙ some_step (bad_two (lent l file) h) i (seen_bad l.samples bytes marks) (seen_bad l.samples (x * 65536 + y) t) e these
  where
    these : seen_bad l.samples (x * 65536 + y) t ≡ bad_two (lent l file) h i
    these =
        seen_both l.samples x y t legal.sixteens legal.samples kx ky et
        ∙ or_same (cell_half l file (l.patterns + 4 * i) x legal below ex) (cell_half l file (l.patterns + 4 * (h + i)) y legal below ey)

pub two_end : (l : Layout) (file : List ℕ) (n h m i bytes marks : ℕ) (r : Bool) → h ≤ m → h + m ≡ n → m ≤ i → i ≤ m → seen_bad l.samples bytes marks ≡ some (bad_two (lent l file) h) i → r ≡ seen_bad l.samples bytes marks → r ≡ some (bad_cell (lent l file)) n
two_end l file n h m i bytes marks r a b c d e q = q ∙ some_end (bad_two (lent l file) h) i m (seen_bad l.samples bytes marks) c d e ∙ some_two (bad_cell (lent l file)) h m a ∙ ap (some (bad_cell (lent l file))) b
