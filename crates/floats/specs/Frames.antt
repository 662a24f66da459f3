-- Delivered frames, for a page of one side or two: a frame of a left and a right number as it is delivered, the numbers of each case, the numbers of
-- a list of frames, and the record of the last left and right.
-- Assumes nothing.
use Rattle.std.specs.Prelude.{Bool, cond, not, ◌&&◌, List, [], ◌∷◌, ◌++◌, ℕ, eqb, ℤ, nat_abs, ◌+ℤ◌, replicate, Float}
use Rattle.std.specs.Float.{binary32}
use Rattle.std.specs.Float.Ieee.{of_bits}
use Rattle.floats.specs.declared.Frame.{Frame}
use Rattle.floats.specs.declared.Pair.{Pair}
use Rattle.floats.specs.Exact.{exactly}

-- asked sides not 1 or 2
unfoldable pub unasked : ℕ → Bool
unasked sides = not (eqb sides 1) && not (eqb sides 2)

-- ---- a frame
-- left and right are the old numbers divided by 32,768, which is 2 ^ 15
abbrev pub side_number : ℤ → Float
side_number x = exactly x 15

-- mono is their sum divided by 65,536, which is 2 ^ 16
abbrev pub mono_number : ℤ → ℤ → Float
mono_number left right = exactly (left +ℤ right) 16

abbrev pub is_zero : ℤ → Bool
is_zero z = eqb (nat_abs z) 0

-- silence, one mono number, or a left and right number, as the page asks for one or two sides; silence exactly where both sides are 0
unfoldable pub delivered : ℕ → ℤ → ℤ → Frame
delivered sides left right =
    cond (is_zero left && is_zero right) Frame.Silence
    (cond (eqb sides 1) (Frame.Mono (mono_number left right)) (Frame.Stereo (side_number left) (side_number right)))

-- positive zero: all 32 bits are 0
abbrev pub positive_zero : Float
positive_zero = of_bits binary32 0

-- the numbers of a delivered frame: silence takes as many zeros as the page has sides
abbrev pub numbers_in : ℕ → Frame → List Float
numbers_in sides Frame.Silence = replicate sides positive_zero
numbers_in sides (Frame.Mono x) = x ∷ []
numbers_in sides (Frame.Stereo x y) = x ∷ y ∷ []

-- ---- a list of frames, each a left and a right number
-- its numbers
unfoldable pub floats_of : ℕ → List ℤ → List Float
floats_of sides [] = []
floats_of sides (x ∷ []) = []
floats_of sides (left ∷ right ∷ rest) = numbers_in sides (delivered sides left right) ++ floats_of sides rest

-- a frame's left and right together as two floats in one record with its tick
abbrev pub pair_of : ℕ → ℤ → ℤ → Pair
pair_of tick left right = record { left = side_number left; right = side_number right; tick = tick }

-- the last left and right; no frame keeps the old record
unfoldable pub last_of : ℕ → Pair → List ℤ → Pair
last_of tick old [] = old
last_of tick old (x ∷ []) = old
last_of tick old (left ∷ right ∷ rest) = last_of tick (pair_of tick left right) rest
