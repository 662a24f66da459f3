-- Laws for the proofs of a frame's record and of a tick's frames.
-- Assumes nothing.
use mathlib.Core.Path.{◌≡◌, refl, sym, ap, ap₂, ◌∙◌}
use mathlib.Core.List.{List, [], ◌∷◌}
use Prim.Native.Nat.{ℕ, zero, suc, ◌+◌, ◌-◌, ◌*◌, ◌/◌, ◌^◌, ◌≤◌, ◌<◌}
use native.Mathlib.Nat.{zero-add}
use native.Mathlib.Numerals.{add-one}
use native.Mathlib.Omega.{arith}
use lib.IntN.{ℤ, pos}
use lib.ListN.{length, get_or, take, drop, length-drop}
use Rattle.std.specs.Simd.{first_chunks}
use Rattle.std.proofs.Common.{drop-drop, Fits, w64}
use lib.Seq.{sets, sets-eq, length-sets, drop-cons}
use lib.Signed.{mag}
use lib.Ieee.{Float}
use mir.Syntax.{w16}
use mir.Val.{SFits, hbits}
use mir.ValLaws.{to_z-of_z}
use Rattle.laws.specs.Positions.{sets-append}
use Rattle.laws.specs.Signed.{back}
use Rattle.ticks.specs.Play.{over}
use Rattle.floats.specs.declared.Frame.{Frame}
use Rattle.floats.specs.declared.Pair.{Pair}
use Rattle.floats.specs.Exact.{exactly}
use Rattle.floats.specs.Frames.{delivered, numbers_in, floats_of, pair_of, last_of}
use Rattle.floats.specs.Lengths.{numbers_length, floats_more, last_more, floats_long, floats_none, last_none}

-- ---- one frame
module _ (left right : ℤ) (l : SFits w16 left) (r : SFits w16 right) where
  pub pair_is : (tick : ℕ) (x y : Float) → x ≡ exactly (back left) 15 → y ≡ exactly (back right) 15 → ◌≡◌ {A = Pair} (record { left = x; right = y; tick = tick }) (pair_of tick left right)
  pair_is tick x y h k = rw (h, k, to_z-of_z w16 left l, to_z-of_z w16 right r)

-- ---- the frames
-- the pair at i
pub pair_from : (n i : ℕ) (xs : List ℤ) → i < n → get_or (first_chunks 2 n xs) i [] ≡ take 2 (drop (2 * i) xs)
pair_from zero i xs h = absurd (omega arith)
pair_from (suc n) zero xs h = refl
pair_from (suc n) (suc i) xs h =
    let e : 2 + 2 * i ≡ 2 * suc i = omega arith in
    pair_from n i (drop 2 xs) (omega arith) ∙ ap (take 2) (drop-drop (2 * i) 2 xs ∙ ap (λ (k : ℕ). drop k xs) e)

module _ (xs : List ℤ) (pairs : List (List ℤ)) (front : pairs ≡ first_chunks 2 (length xs / 2) xs) (long : length pairs ≡ length xs / 2) (i : ℕ) where
  pub pair_more : i < length pairs → 1 < length xs - 2 * i
  pair_more h = omega arith

  pub pair_none : length pairs ≤ i → length xs - 2 * i ≤ 1
  pair_none h = omega arith

  pub pair_there : i < length pairs → get_or pairs i [] ≡ take 2 (drop (2 * i) xs)
  pair_there h = ap (λ (ps : List (List ℤ)). get_or ps i []) front ∙ pair_from (length xs / 2) i xs (omega arith)

-- ---- a loop over a tick's frames
pub record Going (sides tick : ℕ) (xs : List ℤ) (out₀ : List Float) (old : Pair) (out : List Float) (last : Pair) (at k : ℕ) : Type 0 where
  pub low : 1 ≤ sides
  pub high : sides ≤ 2
  pub count : k ≤ length xs
  pub long : length out₀ < 2 ^ 64
  pub same : length out ≡ length out₀
  pub room : at + length (floats_of sides (drop k xs)) ≤ length out
  pub done : sets out at (floats_of sides (drop k xs)) ≡ sets out₀ 0 (floats_of sides xs)
  pub kept : last_of tick last (drop k xs) ≡ last_of tick old xs

-- the frame at k
two : (xs : List ℤ) (k : ℕ) → 1 < length xs - k → drop k xs ≡ get_or xs k (pos 0) ∷ get_or xs (k + 1) (pos 0) ∷ drop (k + 2) xs
two xs k h =
    let e : k + 2 ≡ suc (suc k) = omega arith in
    rw (drop-cons xs k (pos 0) (omega arith), drop-cons xs (suc k) (pos 0) (omega arith), e, add-one)

module _ (sides tick : ℕ) (xs : List ℤ) (out₀ : List Float) (old : Pair) where
  pub going_begin : (1 ≤ sides) × (sides ≤ 2) → length (floats_of sides xs) ≤ length out₀ → length out₀ < 2 ^ 64 → Going sides tick xs out₀ old out₀ old 0 0
  going_begin s room l = record { low = s.0; high = s.1; count = omega arith; long = l; same = refl; room = omega arith; done = refl; kept = refl }

  module _ (out : List Float) (last : Pair) (at k : ℕ) (m : Going sides tick xs out₀ old out last at k) where
    long_rest : 1 < length xs - k → length (floats_of sides (drop k xs)) ≡ sides + length (floats_of sides (drop (k + 2) xs))
    long_rest h = ap (λ (ys : List ℤ). length (floats_of sides ys)) (two xs k h) ∙ floats_long sides (get_or xs k (pos 0)) (get_or xs (k + 1) (pos 0)) (drop (k + 2) xs) m.low m.high

    -- the pair there
    module _ (h : 1 < length xs - k) (p : List ℤ) (q : p ≡ take 2 (drop k xs)) (a : mag (get_or p 0 (pos 0)) < 2 ^ hbits w16) (b : mag (get_or p 1 (pos 0)) < 2 ^ hbits w16) where
      abbrev l : ℤ
      l = get_or p 0 (pos 0)

      abbrev r : ℤ
      r = get_or p 1 (pos 0)

      p-is : p ≡ get_or xs k (pos 0) ∷ get_or xs (k + 1) (pos 0) ∷ []
      p-is = q ∙ ap (take 2) (two xs k h)

      here : drop k xs ≡ l ∷ r ∷ drop (k + 2) xs
      here = two xs k h ∙ ap₂ (λ (x y : ℤ). x ∷ y ∷ drop (k + 2) xs) (sym (ap (λ (ys : List ℤ). get_or ys 0 (pos 0)) p-is)) (sym (ap (λ (ys : List ℤ). get_or ys 1 (pos 0)) p-is))

      l-is : back l ≡ l
      l-is = to_z-of_z w16 l (record { sfits = a })

      r-is : back r ≡ r
      r-is = to_z-of_z w16 r (record { sfits = b })

      module _ (frame : Frame) (f : frame ≡ delivered sides (back l) (back r)) where
        frame_is : frame ≡ delivered sides l r
        frame_is = f ∙ rw (l-is, r-is)

        frame_long : length (numbers_in sides frame) ≡ sides
        frame_long = rw frame_is (numbers_length sides l r m.low m.high)

        pub going_room : at + length (numbers_in sides frame) ≤ length out
        going_room = omega (arith, m.room, long_rest h, frame_long)

        pub going_next : Fits w64 (at + sides)
        going_next = record { fits = omega (arith, m.room, m.same, m.long, long_rest h) }

        pub going_again : (new : List Float) (pair : Pair) → new ≡ sets out at (numbers_in sides frame) → pair ≡ pair_of tick (back l) (back r) → (j : ℕ) → j ≡ k + 2 → Going sides tick xs out₀ old new pair (at + sides) j
        going_again new pair n p j e =
            let rest = drop (k + 2) xs in
            let xs-are = numbers_in sides (delivered sides l r) in
            let new_is : new ≡ sets out at xs-are = n ∙ rw frame_is in
            let pair_is : pair ≡ pair_of tick l r = p ∙ rw (l-is, r-is) in
            let long-new : length new ≡ length out = ap length new_is ∙ length-sets out at xs-are in
            rw e
            (record {
              low = m.low;
              high = m.high;
              count = omega arith;
              long = m.long;
              same = long-new ∙ m.same;
              room = omega (arith, m.room, long_rest h, long-new);
              done =
                  ap (λ (zs : List Float). sets zs (at + sides) (floats_of sides rest)) new_is
                  ∙ ap (λ (i : ℕ). sets (sets out at xs-are) (at + i) (floats_of sides rest)) (sym (numbers_length sides l r m.low m.high))
                  ∙ sym (sets-append out at xs-are (floats_of sides rest))
                  ∙ ap (sets out at) (sym (ap (floats_of sides) here ∙ floats_more sides l r rest))
                  ∙ m.done;
              kept = ap (λ (q : Pair). last_of tick q rest) pair_is ∙ sym (ap (last_of tick last) here ∙ last_more sides l r rest tick last) ∙ m.kept;
            })

    short : length xs - k ≤ 1 → length (drop k xs) ≤ 1
    short h = omega (arith, length-drop k xs)

    pub going_last : length xs - k ≤ 1 → last ≡ last_of tick old xs
    going_last h = sym (last_none tick last (drop k xs) (short h)) ∙ m.kept

    pub going_out : length xs - k ≤ 1 → length (floats_of sides xs) ≤ length out₀ → out ≡ over (floats_of sides xs) out₀
    going_out h room = sym (ap (sets out at) (floats_none sides (drop k xs) (short h))) ∙ m.done ∙ sets-eq (floats_of sides xs) out₀ 0 (omega arith) ∙ rw zero-add
