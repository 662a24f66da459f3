-- Delivered floats are exact for the 16-bit numbers that they are made of: each float of a list of frames (`delivered_exact`), and both floats of the record
-- of the last left and right (`last_exact`). What is said of a call is `ExactPlay`.
-- Assumes nothing.
use Rattle.std.specs.Prelude.{◌≡◌, refl, false, List, [], ◌∷◌, ◌++◌, ℕ, zero, suc, ◌+◌, ◌-◌, ◌*◌, ◌/◌, ◌%◌, ◌≤◌, ◌<◌, ℤ, pos, ◌+ℤ◌, Float, length, get_or}
use Rattle.std.proofs.Common.{sym, ap, ◌∙◌, append-nil, arith, lit≤, lit<, length-append, get_or-append-add}
use Rattle.std.specs.Float.{binary32}
use Rattle.std.specs.Float.Ieee.{to_bits}
use Rattle.std.specs.Int.Signed.{mag}
use Rattle.laws.specs.Signed.{mag-add}
use Rattle.floats.specs.declared.Pair.{Pair}
use Rattle.floats.specs.Exact.{exactly, Exact}
use Rattle.floats.specs.Frames.{unasked, positive_zero, floats_of, pair_of, last_of}
use Rattle.floats.specs.Quotient.{exactly_is_exact, small_size}
use Rattle.floats.specs.Lengths.{floats_more, floats_size}
use Rattle.floats.specs.Theorems.{one_number, two_numbers, asked_some, asked_few}

-- ---- numbers
-- each is in 16 bits signed: at least -32,768 and below 32,768
abbrev pub In16 : List ℤ → Type 0
In16 xs = (j : ℕ) → mag (get_or xs j (pos 0)) < 32768

-- they are of whole frames, each a left and a right number
abbrev pub Whole : List ℤ → Type 0
Whole xs = length xs % 2 ≡ 0

-- ---- exact floats
-- the floats in front of fs are exact for the numbers xs
pub record ExactFloats (sides : ℕ) (xs : List ℤ) (fs : List Float) : Type 0 where
  -- the numbers are of whole frames: none is left over
  pub whole : Whole xs
  -- there are as many floats for each frame as the page has sides
  pub room : sides * (length xs / 2) ≤ length fs
  -- for two sides each is its number divided by 2 ^ 15
  pub two : sides ≡ 2 → (j : ℕ) → j < length xs → Exact (get_or xs j (pos 0)) 15 (to_bits binary32 (get_or fs j positive_zero))
  -- for one side each is the sum of its frame's left and right divided by 2 ^ 16
  pub one : sides ≡ 1 → (j : ℕ) → 2 * j + 1 < length xs → Exact (get_or xs (2 * j) (pos 0) +ℤ get_or xs (2 * j + 1) (pos 0)) 16 (to_bits binary32 (get_or fs j positive_zero))

-- both floats of a record are exact for a left and a right number
pub record ExactPair (x y : ℤ) (pair : Pair) : Type 0 where
  pub left : Exact x 15 (to_bits binary32 pair.left)
  pub right : Exact y 15 (to_bits binary32 pair.right)

-- the record after the numbers xs is exact for their last left and right, and the old one where there is no frame
pub record ExactLast (xs : List ℤ) (old pair : Pair) : Type 0 where
  pub none : length xs ≡ 0 → pair ≡ old
  pub some : 0 < length xs → ExactPair (get_or xs (length xs - 2) (pos 0)) (get_or xs (length xs - 1) (pos 0)) pair

-- what a float call leaves is exact for the numbers xs: its buffer, and its record, which was the old one before
pub record ExactPlay (sides : ℕ) (xs : List ℤ) (old pair : Pair) (fs : List Float) : Type 0 where
  pub floats : ExactFloats sides xs fs
  pub last : ExactLast xs old pair

-- ---- a number of 16 bits is delivered exactly
side_exact : (x : ℤ) → mag x < 32768 → Exact x 15 (to_bits binary32 (exactly x 15))
side_exact x h = exactly_is_exact x 15 (small_size x h (lit< tt)) (lit≤ tt)

mono_exact : (x y : ℤ) → mag x < 32768 → mag y < 32768 → Exact (x +ℤ y) 16 (to_bits binary32 (exactly (x +ℤ y) 16))
mono_exact x y h k = exactly_is_exact (x +ℤ y) 16 (small_size (x +ℤ y) (mag-add x y h k) (lit< tt)) (lit≤ tt)

-- ---- a list of frames
floats_two : (x y : ℤ) (xs : List ℤ) → floats_of 2 (x ∷ y ∷ xs) ≡ exactly x 15 ∷ exactly y 15 ∷ floats_of 2 xs
floats_two x y xs = floats_more 2 x y xs ∙ ap (λ (fs : List Float). fs ++ floats_of 2 xs) (two_numbers x y)

floats_one : (x y : ℤ) (xs : List ℤ) → floats_of 1 (x ∷ y ∷ xs) ≡ exactly (x +ℤ y) 16 ∷ floats_of 1 xs
floats_one x y xs = floats_more 1 x y xs ∙ ap (λ (fs : List Float). fs ++ floats_of 1 xs) (one_number x y)

-- its floats one by one, whatever follows them
two_at : (xs : List ℤ) (rest : List Float) → Whole xs → (j : ℕ) → j < length xs → get_or (floats_of 2 xs ++ rest) j positive_zero ≡ exactly (get_or xs j (pos 0)) 15
two_at [] rest e j h = absurd (omega arith)
two_at (x ∷ []) rest e j h = absurd (omega arith)
two_at (x ∷ y ∷ xs) rest e zero h = rw (floats_two x y xs)
two_at (x ∷ y ∷ xs) rest e (suc zero) h = rw (floats_two x y xs)
two_at (x ∷ y ∷ xs) rest e (suc (suc j)) h = rw (floats_two x y xs) (two_at xs rest (omega arith) j (omega arith))

one_at : (xs : List ℤ) (rest : List Float) (j : ℕ) → 2 * j + 1 < length xs → get_or (floats_of 1 xs ++ rest) j positive_zero ≡ exactly (get_or xs (2 * j) (pos 0) +ℤ get_or xs (2 * j + 1) (pos 0)) 16
one_at [] rest j h = absurd (omega arith)
one_at (x ∷ []) rest j h = absurd (omega arith)
one_at (x ∷ y ∷ xs) rest zero h = rw (floats_one x y xs)
one_at (x ∷ y ∷ xs) rest (suc j) h =
    let even : 2 * suc j ≡ suc (suc (2 * j)) = omega arith in
    let odd : 2 * suc j + 1 ≡ suc (suc (2 * j + 1)) = omega arith in
    rw (floats_one x y xs, odd, even) (one_at xs rest j (omega arith))

-- delivered for one side or two, the floats of whole frames of 16-bit numbers are exact, whatever follows them
pub delivered_exact : (sides : ℕ) → unasked sides ≡ false → (xs : List ℤ) → Whole xs → In16 xs → (rest : List Float) → ExactFloats sides xs (floats_of sides xs ++ rest)
delivered_exact sides a xs e h rest =
    let some = asked_some sides (unasked sides) refl a in
    let few = asked_few sides (unasked sides) refl a in
    record {
      whole = e;
      room = omega (arith, length-append (floats_of sides xs) rest, floats_size sides some few (length xs / 2) xs (omega arith));
      two = λ s j l. rw (s, two_at xs rest e j l) (side_exact (get_or xs j (pos 0)) (h j));
      one = λ s j l. rw (s, one_at xs rest j l) (mono_exact (get_or xs (2 * j) (pos 0)) (get_or xs (2 * j + 1) (pos 0)) (h (2 * j)) (h (2 * j + 1)));
    }

-- ---- the record
-- after the numbers xs it has their last left and right, and it is the old one where there is no frame
pub record LastIs (xs : List ℤ) (old pair : Pair) : Type 0 where
  pub none : length xs ≡ 0 → pair ≡ old
  pub left : 0 < length xs → pair.left ≡ exactly (get_or xs (length xs - 2) (pos 0)) 15
  pub right : 0 < length xs → pair.right ≡ exactly (get_or xs (length xs - 1) (pos 0)) 15

pub last_none : (old : Pair) → LastIs [] old old
last_none old = record { none = λ e. refl; left = λ h. absurd (omega arith); right = λ h. absurd (omega arith) }

-- a number from the end of a list is that of what was appended to it
from_end : (xs ys : List ℤ) (i : ℕ) → i ≤ length ys → get_or ys (length ys - i) (pos 0) ≡ get_or (xs ++ ys) (length (xs ++ ys) - i) (pos 0)
from_end xs ys i h =
    let q : length xs + (length ys - i) ≡ length (xs ++ ys) - i = omega (arith, length-append xs ys) in
    sym (get_or-append-add xs ys (length ys - i) (pos 0)) ∙ ap (λ (n : ℕ). get_or (xs ++ ys) n (pos 0)) q

-- numbers, and then more
pub last_append : (xs ys : List ℤ) (old mid pair : Pair) → Whole ys → LastIs xs old mid → LastIs ys mid pair → LastIs (xs ++ ys) old pair
last_append xs [] old mid pair e a b = rw (append-nil, b.none refl) a
last_append xs (y ∷ []) old mid pair e a b = absurd (omega arith)
last_append xs (y ∷ z ∷ ys) old mid pair e a b =
    let some : 0 < length (y ∷ z ∷ ys) = omega arith in
    record {
      none = λ q. absurd (omega (arith, length-append xs (y ∷ z ∷ ys)));
      left = λ h. b.left some ∙ ap (λ (x : ℤ). exactly x 15) (from_end xs (y ∷ z ∷ ys) 2 (omega arith));
      right = λ h. b.right some ∙ ap (λ (x : ℤ). exactly x 15) (from_end xs (y ∷ z ∷ ys) 1 (omega arith));
    }

-- the record after frames
pub last_is : (tick : ℕ) (old : Pair) (xs : List ℤ) → Whole xs → LastIs xs old (last_of tick old xs)
unfolding last_of
last_is tick old [] e = last_none old
last_is tick old (x ∷ []) e = absurd (omega arith)
last_is tick old (x ∷ y ∷ xs) e =
    last_append (x ∷ y ∷ []) xs old (pair_of tick x y) (last_of tick (pair_of tick x y) xs) (omega arith)
    (record { none = λ q. absurd (omega arith); left = λ h. refl; right = λ h. refl })
    (last_is tick (pair_of tick x y) xs (omega arith))

-- of 16-bit numbers both of its floats are exact
pub last_exact : (xs : List ℤ) → In16 xs → (old pair : Pair) → LastIs xs old pair → ExactLast xs old pair
last_exact xs h old pair l =
    record {
      none = l.none;
      some =
          λ s.
          record {
            left = rw (l.left s) (side_exact (get_or xs (length xs - 2) (pos 0)) (h (length xs - 2)));
            right = rw (l.right s) (side_exact (get_or xs (length xs - 1) (pos 0)) (h (length xs - 1)));
          };
    }
