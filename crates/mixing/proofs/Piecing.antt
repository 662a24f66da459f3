-- Frames by pieces: both sides of a piece, and one piece after the other.
-- Assumes nothing.
use mathlib.Core.Path.{◌≡◌, refl, sym, ap, ap₂, subst, ◌∙◌}
use mathlib.Core.Bool.{Bool, true, false, cond}
use mathlib.Core.List.{List}
use Prim.Native.Nat.{ℕ, zero, suc, ◌+◌, ◌-◌, ◌*◌, ◌<◌, ◌≤◌}
use native.Mathlib.Nat.{add_comm}
use native.Mathlib.Omega.{arith}
use borrow.Author.Tests.{eqb-true, ne_eqb, eq-eqb}
use lib.Dec.{eqb}
use lib.ListN.{length, get_or, take, length-take}
use borrow.Rule.Slice.PartMut.{mid_of, put_mid}
use lib.IntN.{ℤ, pos, ◌+ℤ◌, ◌*ℤ◌}
use Rattle.std.specs.Prelude.{min}
use Rattle.std.specs.Int.{div_ceil}
use Rattle.std.proofs.Common.{get_or-take}
use Rattle.std.proofs.lemmas.Grind.{div_ceil_times}
use Rattle.std.proofs.lemmas.List.{places}
use Rattle.laws.specs.Choice.{either}
use Rattle.common.specs.Limits.{width}
use Rattle.common.specs.LimitFacts.{LegalPeriod}
use Rattle.runs.specs.Cells.{Woven, number_at, stride}
use Rattle.runs.specs.CellLaws.{woven_none, woven_as, woven_more}
use Rattle.reader.specs.declared.Extent.{Extent}
use Rattle.voice.specs.declared.Voice.{Voice}
use Rattle.voice.specs.Voice.{gives_of}
use Rattle.voice.specs.Frames.{steps_of, side_of, sum_of}
use Rattle.voice.specs.Kept.{steps_add, steps_period, sound_steps}
use Rattle.voice.specs.Range.{side_two}
use Rattle.voice_runs.specs.declared.line.Pace.{Pace}
use Rattle.voice_runs.specs.Runs.{piece, Paced}
use Rattle.mixing.specs.Sides.{cut_of, Voiced, extent_at, voice_in, Sounding, no_pace, Pacing, given_by, side_at, later_at, sided_at, sided_of, later_of}
use Rattle.mixing.proofs.Voices.{within_by, within_is, within_again}
use Rattle.mixing.proofs.Seeking.{voiced_loop}

-- sums of a side by its own channels
sum_side : (g h : ℕ → ℤ) (s c : ℕ) → ((i : ℕ) → i < c → side_of i ≡ s → g i ≡ h i) → sum_of g s c ≡ sum_of h s c
unfolding sum_of
sum_side g h s zero e = refl
sum_side g h s (suc c) e = ap₂ ◌+ℤ◌ (sum_side g h s c (λ i l. e i (omega arith))) (go (eqb (side_of c) s) refl)
  where
    go : (t : Bool) → eqb (side_of c) s ≡ t → cond t (g c) (pos 0) ≡ cond t (h c) (pos 0)
    go true q = e c (omega arith) (eqb-true (side_of c) s q)
    go false q = refl

-- ---- legal voices and their paces stay so
module _ (file : List ℕ) (xs : List Extent) (vs : List Voice) (n : ℕ) where
  later_voiced : (i : ℕ) → Voiced file (extent_at xs i) (voice_in vs i) → Voiced file (extent_at xs i) (later_at file xs vs n i)
  later_voiced i m = record { order = m.order; inside = m.inside; whole = m.whole; loop = m.loop; legal = sound_steps (cut_of file (extent_at xs i)) (voiced_loop _ _ _ m) n (voice_in vs i) m.legal }

  later_paced : (i : ℕ) (p : Pace) → Paced (voice_in vs i).period p → Paced (later_at file xs vs n i).period p
  later_paced i p = subst (λ (t : ℕ). Paced t p) (sym (steps_period (cut_of file (extent_at xs i)) (voice_in vs i) n))

  -- also where only one side has moved
  sided_voiced : (side i : ℕ) → Voiced file (extent_at xs i) (voice_in vs i) → Voiced file (extent_at xs i) (sided_at file xs vs n side i)
  unfolding sided_at
  sided_voiced side i m = either (Voiced file (extent_at xs i)) (eqb (side_of i) side) _ _ (λ _. later_voiced i m) (λ _. m)

  sided_paced : (side i : ℕ) (p : Pace) → Paced (voice_in vs i).period p → Paced (sided_at file xs vs n side i).period p
  unfolding sided_at
  sided_paced side i p m = either (λ (v : Voice). Paced v.period p) (eqb (side_of i) side) _ _ (λ _. later_paced i p m) (λ _. m)

  -- ---- which voices move on a side
  off_stays : (side i : ℕ) → (side_of i ≡ side → ⊥) → sided_at file xs vs n side i ≡ voice_in vs i
  unfolding sided_at
  off_stays side i h = rw (ne_eqb (side_of i) side h)

  on_moves : (side i : ℕ) → side_of i ≡ side → sided_at file xs vs n side i ≡ later_at file xs vs n i
  unfolding sided_at
  on_moves side i h = rw (eq-eqb (side_of i) side h)

-- a voice after both sides
twice : (file : List ℕ) (xs : List Extent) (vs w : List Voice) (n i : ℕ) → voice_in w i ≡ sided_at file xs vs n 0 i → sided_at file xs w n 1 i ≡ later_at file xs vs n i
twice file xs vs w n i e = go (side_of i) refl (side_two i)
  where
    go : (t : ℕ) → side_of i ≡ t → t < 2 → sided_at file xs w n 1 i ≡ later_at file xs vs n i
    go zero q l = off_stays file xs w n 1 i (λ z. omega arith) ∙ e ∙ on_moves file xs vs n 0 i q
    go (suc zero) q l = on_moves file xs w n 1 i q ∙ ap (steps_of (cut_of file (extent_at xs i)) n) (e ∙ off_stays file xs vs n 0 i (λ z. omega arith))
    go (suc (suc t)) q l = absurd (omega arith)

module _ (file : List ℕ) (xs : List Extent) (vs : List Voice) (c : ℕ) (s : Sounding file xs vs c) where
  pub sounding_period : (i : ℕ) → i < c → LegalPeriod (voice_in vs i).period
  sounding_period i h = (s.at i h).legal.period

  -- ---- a piece: w are the voices after its left side
  module _ (n : ℕ) (w : List Voice) (e : w ≡ sided_of file xs vs n 0 c) where
    left_is : (i : ℕ) → i < c → voice_in w i ≡ sided_at file xs vs n 0 i
    unfolding sided_of
    left_is = within_is (sided_at file xs vs n 0) c vs w e s.few

    pub left_sounding : Sounding file xs w c
    left_sounding = record { few = s.few; at = λ i h. rw (left_is i h) (sided_voiced file xs vs n 0 i (s.at i h)) }

    pub left_pacing : (ps : List Pace) → Pacing vs ps c → Pacing w ps c
    left_pacing ps m = record { at = λ i h. rw (left_is i h) (sided_paced file xs vs n 0 i (get_or ps i no_pace) (m.at i h)) }

    -- the right side has not moved yet
    right_same : (times k : ℕ) → side_at file xs w times 1 c k ≡ side_at file xs vs times 1 c k
    unfolding side_at given_by
    right_same times k =
        ap (λ (z : ℤ). z *ℤ pos times)
        (sum_side _ _ 1 c (λ i h on. ap (λ v. gives_of (cut_of file (extent_at xs i)).bytes (steps_of (cut_of file (extent_at xs i)) k v)) (left_is i h ∙ off_stays file xs vs n 0 i (λ z. omega arith))))

    pub piece_moved : (r : List Voice) → r ≡ sided_of file xs w n 1 c → r ≡ later_of file xs vs n c
    unfolding sided_of later_of
    piece_moved r q = within_again (sided_at file xs w n 1) (sided_at file xs vs n 0) (later_at file xs vs n) c vs w r s.few e (λ i h. twice file xs vs w n i (left_is i h)) q

    pub piece_woven : (times at : ℕ) (l r : ℕ → ℤ) (old new : List ℤ) → ((j : ℕ) → j < n → l j ≡ side_at file xs vs times 0 c j) → ((j : ℕ) → j < n → r j ≡ side_at file xs w times 1 c j) → Woven l r at n old new → Woven (side_at file xs vs times 0 c) (side_at file xs vs times 1 c) at n old new
    piece_woven times at l r old new p q m = woven_as _ _ _ _ at n old new p (λ j h. q j h ∙ right_same times j) m

  -- ---- one piece after the other: w are the voices after k frames
  module _ (k : ℕ) (w : List Voice) (e : w ≡ later_of file xs vs k c) where
    later_is : (i : ℕ) → i < c → voice_in w i ≡ later_at file xs vs k i
    unfolding later_of
    later_is = within_is (later_at file xs vs k) c vs w e s.few

    later_sounding : Sounding file xs w c
    later_sounding = record { few = s.few; at = λ i h. rw (later_is i h) (later_voiced file xs vs k i (s.at i h)) }

    later_pacing : (ps : List Pace) → Pacing vs ps c → Pacing w ps c
    later_pacing ps m = record { at = λ i h. rw (later_is i h) (later_paced file xs vs k i (get_or ps i no_pace) (m.at i h)) }

    further_on : (n i : ℕ) → i < c → later_at file xs w n i ≡ later_at file xs vs (k + n) i
    further_on n i h =
        ap (steps_of (cut_of file (extent_at xs i)) n) (later_is i h)
        ∙ sym (steps_add (cut_of file (extent_at xs i)) n k (voice_in vs i))
        ∙ ap (λ j. later_at file xs vs j i) (add_comm n k)

    later_moved : (n : ℕ) (r : List Voice) → r ≡ later_of file xs w n c → r ≡ later_of file xs vs (k + n) c
    unfolding later_of
    later_moved n r q = within_again (later_at file xs w n) (later_at file xs vs k) (later_at file xs vs (k + n)) c vs w r s.few e (further_on n) q

    later_side : (times side j : ℕ) → side_at file xs w times side c j ≡ side_at file xs vs times side c (k + j)
    unfolding side_at given_by
    later_side times side j = ap (λ (z : ℤ). z *ℤ pos times) (sum_side _ _ side c (λ i h _. ap (gives_of (cut_of file (extent_at xs i)).bytes) (further_on j i h)))

-- frames woven into a part of the cells, from frame `at` on
module _ (left right : List ℤ) (at n : ℕ) (old new : List ℤ) (l : n ≤ length left) (r : n ≤ length right) (fits : stride * (at + n) ≤ length old) (m : Woven (number_at (take n left)) (number_at (take n right)) 0 (length (take n left)) (mid_of (stride * at) (stride * (at + n) - stride * at) old) new) where
  front : (xs : List ℤ) (j : ℕ) → j < n → number_at (take n xs) j ≡ number_at xs j
  front xs j h = get_or-take n xs j (pos 0) h

  long : length new ≡ stride * n
  long = m.same ∙ grind (arith, places)

  pub woven_mid : Woven (number_at left) (number_at right) at n old (put_mid (stride * at) (stride * (at + n) - stride * at) old new)
  woven_mid =
      record {
        same = grind (arith, places, long);
        left = λ j h. grind (arith, places, long, m.left j (omega (arith, length-take n left)), front left j h);
        right = λ j h. grind (arith, places, long, m.right j (omega (arith, length-take n left)), front right j h);
        before = λ i h. grind (arith, places, long);
        after = λ i h. grind (arith, places, long);
      }

-- ---- the loop: k frames are mixed
pub record Piecing (file : List ℕ) (xs : List Extent) (vs : List Voice) (times c : ℕ) (out₀ out : List ℤ) (w : List Voice) (k : ℕ) : Type 0 where
  pub voices : w ≡ later_of file xs vs k c
  pub woven : Woven (side_at file xs vs times 0 c) (side_at file xs vs times 1 c) 0 k out₀ out

pub piecing_none : (file : List ℕ) (xs : List Extent) (vs : List Voice) (times c : ℕ) (out : List ℤ) (k : ℕ) → k ≡ 0 → length vs ≡ width → Piecing file xs vs times c out out vs k
unfolding later_of steps_of
piecing_none file xs vs times c out k q l = rw q record { voices = within_by _ c vs vs l (λ i h. refl) (λ i b h. refl); woven = woven_none _ _ 0 out }

module _ {file : List ℕ} {xs : List Extent} {vs : List Voice} {times c : ℕ} {out₀ out : List ℤ} {w : List Voice} {k : ℕ} (s : Sounding file xs vs c) (m : Piecing file xs vs times c out₀ out w k) where
  pub piecing_sounding : Sounding file xs w c
  piecing_sounding = later_sounding file xs vs c s k w m.voices

  pub piecing_pacing : (ps : List Pace) → Pacing vs ps c → Pacing w ps c
  piecing_pacing = later_pacing file xs vs c s k w m.voices

  -- r more, which begin at the k-th
  pub piecing_more : (r at later : ℕ) (new : List ℤ) (u : List Voice) → k ≡ at → at + r ≡ later → u ≡ later_of file xs w r c → Woven (side_at file xs w times 0 c) (side_at file xs w times 1 c) at r out new → Piecing file xs vs times c out₀ new u later
  piecing_more r at later new u p q e z =
      rw (← q, ← p)
      record {
        voices = later_moved file xs vs c s k w m.voices r u e;
        woven = woven_more _ _ _ _ k r out₀ out new (λ j _. later_side file xs vs c s k w m.voices times 0 j) (λ j _. later_side file xs vs c s k w m.voices times 1 j) m.woven (rw (← p) at z);
      }

-- ---- where pieces of n frames begin
module _ (n k : ℕ) (h : k < div_ceil n piece) where
  piece_begins : k * piece < n
  piece_begins = omega (arith, div_ceil_times n piece (omega arith))

  pub piece_at : min n (k * piece) ≡ k * piece
  piece_at = omega (arith, piece_begins)

  pub piece_next : k * piece + min piece (n - k * piece) ≡ min n ((k + 1) * piece)
  piece_next = omega (arith, piece_begins)
