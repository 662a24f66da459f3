-- What a voice gives stays below 8,192, and a frame's numbers in 16 bits signed, whatever the number of channels: a side has at most half of them.
-- The sums are exact and nothing is clipped.
-- Assumes nothing.
use Rattle.std.specs.Prelude.{◌≡◌, ℕ, zero, suc, ◌+◌, ◌*◌, ◌/◌, ◌%◌, ◌<◌, ◌≤◌, Bool, true, false, cond, ◌⊎◌, List, get_or, ℤ, pos, ◌+ℤ◌, ◌-ℤ◌, ◌*ℤ◌, ◌==◌, nat_le, nat_lt, slice_index, slice_index_or, refl}
use Rattle.std.proofs.Common.{inl, inr, add-zero, le_refl, mul-le-mul_right, arith, ltb-true, ltb-false, leb-true, eq-eqb}
use Rattle.std.proofs.Math.Nat.{add-mul-mod_self_right}
use Rattle.std.proofs.Math.IntN.{+ℤ_idl, +ℤ_idr}
use Rattle.std.specs.Int.Signed.{mag}
use Rattle.laws.specs.Choice.{either}
use Rattle.laws.specs.Signed.{sub_neg, mag-add, mag-mul}
use Rattle.common.specs.ByteLaws.{Bytes}
use Rattle.common.specs.Limits.{width, loudest}
use Rattle.ticks.specs.declared.Command.{Command}
use Rattle.ticks.specs.Commands.{nothing}
use Rattle.reader.specs.Samples.{Sample}
use Rattle.voice.specs.declared.Voice.{Voice}
use Rattle.voice.specs.Voice.{silent_of, signed_of, read_at, gives_of}
use Rattle.voice.specs.Frames.{steps_of, side_of, sum_of, doubled_to, scale_of, frames_from, blank, sounding_at, voice_at, heard, mixed}
use Rattle.voice.specs.Kept.{told_volume, steps_volume}

-- a signed byte times a volume to 64 is at least -8,192 and below 8,192
abbrev pub greatest_given : ℕ
greatest_given = 8192

-- a signed 16-bit number is at least -32,768 and below 32,768
abbrev pub half16 : ℕ
half16 = 32768

-- ---- a voice
pub signed_range : (b : ℕ) → b < 256 → mag (signed_of b) < 128
unfolding signed_of
signed_range b h = either (λ (z : ℤ). mag z < 128) (nat_lt b 128) (pos b) (pos b -ℤ pos 256) (λ e. ltb-true b 128 e) (λ e. rw (sub_neg b 256 h) (omega (arith, ltb-false b 128 e)))

read_range : (bytes : List ℕ) → Bytes bytes → (i : ℕ) → mag (read_at bytes i) < 128
unfolding read_at
read_range bytes h i = either (λ (z : ℤ). mag z < 128) (nat_lt i 2) (pos 0) (signed_of (slice_index bytes i)) (λ _. omega arith) (λ _. signed_range (slice_index bytes i) (h i))

pub gives_range : (bytes : List ℕ) → Bytes bytes → (v : Voice) → v.volume ≤ loudest → mag (gives_of bytes v) < greatest_given
unfolding gives_of
gives_range bytes h v l =
    either (λ (z : ℤ). mag z < greatest_given) (silent_of v) (pos 0) (read_at bytes v.index *ℤ pos v.volume) (λ _. omega arith)
    (λ _. mag-mul (read_at bytes v.index) v.volume (read_range bytes h v.index) l (omega arith))

-- what channel i gives
pub heard_range : (samples : ℕ → Sample) (vs : List Voice) (cs : List Command) (k i : ℕ) → Bytes (sounding_at samples cs i).bytes → (get_or cs i nothing).volume ≤ loudest → mag (heard samples vs cs k i) < greatest_given
heard_range samples vs cs k i b l =
    let s = sounding_at samples cs i in
    gives_range s.bytes b (steps_of s k (voice_at samples vs cs i)) (rw (steps_volume s (voice_at samples vs cs i) k, told_volume s (slice_index_or cs i nothing) (slice_index_or vs i blank)) l)

-- ---- how many of the first c channels are on side s
count_of : ℕ → ℕ → ℕ
count_of s zero = 0
count_of s (suc i) = count_of s i + cond (side_of i == s) 1 0

-- of each four in a row the first and the last are left
abbrev Counts : ℕ → Type 0
Counts c = (count_of 0 c ≡ (c + 3) / 4 + c / 4) × (count_of 1 c ≡ (c + 2) / 4 + (c + 1) / 4)

turn_side : (c k : ℕ) → (c + 1) / 2 ≡ k + c / 4 * 2 → side_of c ≡ k % 2
unfolding side_of
turn_side c k e = rw e (add-mul-mod_self_right k (c / 4) 2)

counts : (c : ℕ) → Counts c
unfolding count_of side_of
counts zero = omega arith
counts (suc c) = by (c % 4) refl (counts c)
  where
    step : (t : ℕ) → side_of c ≡ t → (count_of 0 c + cond (t == 0) 1 0 ≡ (suc c + 3) / 4 + suc c / 4) × (count_of 1 c + cond (t == 1) 1 0 ≡ (suc c + 2) / 4 + (suc c + 1) / 4) → Counts (suc c)
    step t e h = rw e h

    by : (r : ℕ) → c % 4 ≡ r → Counts c → Counts (suc c)
    by zero e h = step 0 (turn_side c 0 (omega arith)) (omega arith)
    by (suc zero) e h = step 1 (turn_side c 1 (omega arith)) (omega arith)
    by (suc (suc zero)) e h = step 1 (turn_side c 1 (omega arith)) (omega arith)
    by (suc (suc (suc zero))) e h = step 0 (turn_side c 2 (omega arith)) (omega arith)
    by (suc (suc (suc (suc r)))) e h = absurd (omega arith)

-- at most half of them, rounded up
half : (s c : ℕ) → s < 2 → 2 * count_of s c ≤ c + 1
half zero c l = omega (arith, counts c)
half (suc zero) c l = omega (arith, counts c)
half (suc (suc s)) c l = omega arith

pub side_two : (i : ℕ) → side_of i < 2
unfolding side_of
side_two i = omega arith

-- before channel i, one fewer of its side than with it
before : (i : ℕ) → 2 * count_of (side_of i) i ≤ i
unfolding count_of
before i = by (half (side_of i) (suc i) (side_two i))
  where
    by : 2 * (count_of (side_of i) i + cond (side_of i == side_of i) 1 0) ≤ suc i + 1 → 2 * count_of (side_of i) i ≤ i
    by h = let k : 2 * (count_of (side_of i) i + 1) ≤ suc i + 1 = rw (eq-eqb (side_of i) (side_of i) refl) at h in omega arith

-- ---- a sum of j numbers below 8,192
abbrev Small : ℕ → ℤ → Type 0
Small j z = (mag z < greatest_given * j) ⊎ (z ≡ pos 0)

grown : (j : ℕ) (x y : ℤ) → Small j x → mag y < greatest_given → Small (j + 1) (x +ℤ y)
grown j x y (inl h) k = inl (omega (arith, mag-add x y h k))
grown j x y (inr e) k = inl (rw (e, +ℤ_idl y) (omega arith))

small : (g : ℕ → ℤ) (s i : ℕ) → ((j : ℕ) → j < i → mag (g j) < greatest_given) → Small (count_of s i) (sum_of g s i)
unfolding sum_of count_of
small g s zero h = inr refl
small g s (suc i) h = go (side_of i == s) (small g s i (λ j l. h j (omega arith)))
  where
    go : (b : Bool) → Small (count_of s i) (sum_of g s i) → Small (count_of s i + cond b 1 0) (sum_of g s i +ℤ cond b (g i) (pos 0))
    go true m = grown _ _ _ m (h i (omega arith))
    go false m = rw (add-zero (count_of s i), +ℤ_idr (sum_of g s i)) m

-- ---- a side
-- so many times what half of the channels give, rounded up, has room in 16 bits
pub record LegalSides (channels times : ℕ) : Type 0 where
  pub sides : greatest_given * ((channels + 1) / 2 * times) ≤ half16
  pub scale : (0 < times) × (times ≤ 2)

-- so it is for every number of channels
pub sides_legal : (c : ℕ) → c ≤ width → LegalSides c (scale_of c)
unfolding scale_of
sides_legal c h =
    either (LegalSides c) (nat_le c doubled_to) 2 1 (λ e. record { sides = omega (arith, leb-true c doubled_to e); scale = omega arith })
    (λ e. record { sides = omega arith; scale = omega arith })

module _ (g : ℕ → ℤ) (c times : ℕ) (legal : LegalSides c times) where
  -- nothing is clipped
  pub side_fits : (s : ℕ) → s < 2 → ((j : ℕ) → j < c → mag (g j) < greatest_given) → mag (sum_of g s c *ℤ pos times) < half16
  side_fits s l h =
      let few : count_of s c ≤ (c + 1) / 2 = omega (arith, half s c l) in
      go (small g s c h) (mul-le-mul_right times few)
    where
      go : Small (count_of s c) (sum_of g s c) → count_of s c * times ≤ (c + 1) / 2 * times → mag (sum_of g s c *ℤ pos times) < half16
      go (inl k) m = omega (arith, mag-mul (sum_of g s c) times k (le_refl times) legal.scale.0, legal.sides)
      go (inr e) m = rw e (omega arith)

  -- and there is room for channel i when those before it are mixed
  pub room_before : (i : ℕ) → i < c → ((j : ℕ) → j < i → mag (g j) < greatest_given) → mag (sum_of g (side_of i) i *ℤ pos times) + greatest_given * times < half16
  room_before i l h =
      let few : count_of (side_of i) i + 1 ≤ (c + 1) / 2 = omega (arith, before i) in
      go (small g (side_of i) i h) (mul-le-mul_right times few)
    where
      go : Small (count_of (side_of i) i) (sum_of g (side_of i) i) → (count_of (side_of i) i + 1) * times ≤ (c + 1) / 2 * times → mag (sum_of g (side_of i) i *ℤ pos times) + greatest_given * times < half16
      go (inl k) m = omega (arith, mag-mul (sum_of g (side_of i) i) times k (le_refl times) legal.scale.0, legal.sides)
      go (inr e) m = rw e (omega (arith, legal.scale))

-- ---- a frame's numbers
each_number : (P : ℤ → Type 0) (times : ℕ) (g : ℕ → ℕ → ℤ) (c : ℕ) → P (pos 0) → ((k s : ℕ) → s < 2 → P (sum_of (g k) s c *ℤ pos times)) → (n k j : ℕ) → P (slice_index_or (frames_from times g c k n) j (pos 0))
unfolding frames_from
each_number P times g c z p zero k j = z
each_number P times g c z p (suc n) k zero = p k 0 (omega arith)
each_number P times g c z p (suc n) k (suc zero) = p k 1 (omega arith)
each_number P times g c z p (suc n) k (suc (suc j)) = each_number P times g c z p n (suc k) j

-- with volumes to 64 and samples of bytes, no number of a frame leaves 16 bits signed
pub mixed_fits : (c : ℕ) → c ≤ width → (samples : ℕ → Sample) → ((k : ℕ) → Bytes (samples k).bytes) → (vs : List Voice) (cs : List Command) → ((i : ℕ) → i < c → (get_or cs i nothing).volume ≤ loudest) → (n j : ℕ) → mag (slice_index_or (mixed c samples vs cs n) j (pos 0)) < half16
unfolding mixed
mixed_fits c room samples bytes vs cs low n j =
    each_number (λ (z : ℤ). mag z < half16) (scale_of c) (heard samples vs cs) c (omega arith)
    (λ k s q. side_fits (heard samples vs cs k) c (scale_of c) (sides_legal c room) s q (λ i l. heard_range samples vs cs k i (bytes (get_or cs i nothing).sample) (low i l)))
    n 0 j
