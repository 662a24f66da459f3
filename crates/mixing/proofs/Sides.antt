-- A side of some frames: a channel that sounds on it adds to its numbers and moves, and any other changes nothing.
-- Assumes nothing.
use mathlib.Core.Path.{◌≡◌, refl, sym, ap, ap₂, subst, ◌∙◌}
use mathlib.Core.Bool.{Bool, true, false, cond}
use mathlib.Core.List.{List}
use Prim.Native.Nat.{ℕ, zero, suc, ◌+◌, ◌-◌, ◌*◌, ◌≤◌, ◌<◌}
use native.Mathlib.Nat.{zero-add, suc-add, le_refl}
use native.Mathlib.Numerals.{add-one}
use native.Mathlib.Omega.{arith}
use borrow.Author.Tests.{eqb-true, eq-eqb}
use lib.Dec.{T, eqb}
use lib.ListN.{length, set}
use lib.IntN.{ℤ, pos, ◌+ℤ◌, ◌*ℤ◌, +ℤ_idl, +ℤ_idr, zero-*ℤ}
use lib.Signed.{mag}
use Rattle.laws.specs.Signed.{mag-mul, times_sum}
use Rattle.laws.specs.Lists.{part_each}
use Rattle.laws.specs.Each.{Parting, within_begin, part_again, part_skip, part_end}
use Rattle.common.specs.ByteLaws.{Bytes}
use Rattle.common.specs.Limits.{width}
use Rattle.runs.specs.Cells.{Holds, Narrow, sum_at, Roomy}
use Rattle.reader.specs.declared.Extent.{Extent}
use Rattle.voice.specs.declared.Voice.{Voice}
use Rattle.voice.specs.Voice.{silent_of}
use Rattle.voice.specs.Range.{greatest_given, half16, gives_range, LegalSides, side_fits, room_before}
use Rattle.voice.specs.Frames.{steps_of, gives_at, side_of, sum_of, blank}
use Rattle.voice.specs.Kept.{silent_steps, silent_gives, steps_volume}
use Rattle.voice_runs.specs.Runs.{one_at}
use Rattle.mixing.specs.declared.side.Side.{Side}
use Rattle.mixing.specs.declared.side.Side.TheVariants.{Left, Right}
use Rattle.mixing.specs.Sides.{number_of, cut_of, extent_at, voice_in, Sounding, given_by, side_at, later_at, sided_at, sided_of, sounds_of, Next, Siding}

pub number_few : (a : Side) → number_of a < 2
number_few Left = omega arith
number_few Right = omega arith

-- ---- whether a channel sounds
module _ (side j : ℕ) (v : Voice) (e : sounds_of side j v ≡ true) where
  sounds_on : side_of j ≡ side
  unfolding sounds_of
  sounds_on = go (eqb (side_of j) side) refl e
    where
      go : (t : Bool) → eqb (side_of j) side ≡ t → cond t (cond (silent_of v) false true) false ≡ true → side_of j ≡ side
      go true q z = eqb-true (side_of j) side q
      go false q z = absurd (subst T (sym z) tt)

  pub sounds_loud : silent_of v ≡ false
  unfolding sounds_of
  sounds_loud = go (eqb (side_of j) side) (silent_of v) refl e
    where
      go : (t u : Bool) → silent_of v ≡ u → cond t (cond u false true) false ≡ true → u ≡ false
      go true true q z = absurd (subst T (sym z) tt)
      go true false q z = refl
      go false u q z = absurd (subst T (sym z) tt)

-- what is next past voices that have moved was next before
next_same : (vs w : List Voice) (f : ℕ → Voice) (side c i r : ℕ) → Parting f (voice_in vs) blank width w i → Next w side c i r → Next vs side c i r
next_same vs w f side c i r m k =
    record {
      from = k.from;
      most = k.most;
      idle = λ j l h. subst (λ v. sounds_of side j v ≡ false) (m.rest j l) (k.idle j l h);
      there = λ h. subst (λ v. sounds_of side r v ≡ true) (m.rest r k.from) (k.there h);
    }

module _ (file : List ℕ) (xs : List Extent) (vs : List Voice) (side : ℕ) where
  -- ---- a channel that does not
  module _ (j : ℕ) (e : sounds_of side j (voice_in vs j) ≡ false) where
    idle_adds : (k : ℕ) → cond (eqb (side_of j) side) (given_by file xs vs k j) (pos 0) ≡ pos 0
    unfolding sounds_of given_by
    idle_adds k = go (eqb (side_of j) side) (silent_of (voice_in vs j)) refl e
      where
        go : (t u : Bool) → silent_of (voice_in vs j) ≡ u → cond t (cond u false true) false ≡ false → cond t (gives_at (cut_of file (extent_at xs j)) (voice_in vs j) k) (pos 0) ≡ pos 0
        go true true q z = silent_gives (cut_of file (extent_at xs j)) (voice_in vs j) q k
        go true false q z = absurd (subst T z tt)
        go false u q z = refl

    idle_stays : (n : ℕ) → sided_at file xs vs n side j ≡ voice_in vs j
    unfolding sounds_of sided_at
    idle_stays n = go (eqb (side_of j) side) (silent_of (voice_in vs j)) refl e
      where
        go : (t u : Bool) → silent_of (voice_in vs j) ≡ u → cond t (cond u false true) false ≡ false → cond t (steps_of (cut_of file (extent_at xs j)) n (voice_in vs j)) (voice_in vs j) ≡ voice_in vs j
        go true true q z = silent_steps (cut_of file (extent_at xs j)) n (voice_in vs j) q
        go true false q z = absurd (subst T z tt)
        go false u q z = refl

  -- and none of several in a row
  sum_skip : (k i d : ℕ) → ((j : ℕ) → i ≤ j → j < d + i → sounds_of side j (voice_in vs j) ≡ false) → sum_of (given_by file xs vs k) side (d + i) ≡ sum_of (given_by file xs vs k) side i
  unfolding sum_of
  sum_skip k i zero h = ap (sum_of (given_by file xs vs k) side) (zero-add i)
  sum_skip k i (suc d) h =
      ap (sum_of (given_by file xs vs k) side) (suc-add d i)
      ∙ ap₂ ◌+ℤ◌ (sum_skip k i d (λ j l m. h j l (omega arith))) (idle_adds (d + i) (h (d + i) (omega arith) (omega arith)) k)
      ∙ +ℤ_idr (sum_of (given_by file xs vs k) side i)

  module _ (c i r : ℕ) (m : Next vs side c i r) where
    side_skip : (times k : ℕ) → side_at file xs vs times side r k ≡ side_at file xs vs times side i k
    unfolding side_at
    side_skip times k =
        let d : r ≡ (r - i) + i = omega (arith, m.from) in
        ap (λ (z : ℤ). z *ℤ pos times) (ap (sum_of (given_by file xs vs k) side) d ∙ sum_skip k i (r - i) (λ j l h. m.idle j l (omega (arith, m.from))))

    voices_skip : (n : ℕ) (w : List Voice) → Parting (sided_at file xs vs n side) (voice_in vs) blank width w i → Parting (sided_at file xs vs n side) (voice_in vs) blank width w r
    voices_skip n w p = part_skip (sided_at file xs vs n side) blank width w (voice_in vs) i r p m.from (λ j l h. idle_stays j (m.idle j l h) n)

  -- ---- a channel that sounds
  module _ (j : ℕ) (e : sounds_of side j (voice_in vs j) ≡ true) where
    side_more : (times k : ℕ) → side_at file xs vs times side (suc j) k ≡ side_at file xs vs times side j k +ℤ one_at times (cut_of file (extent_at xs j)) (voice_in vs j) k
    unfolding side_at sum_of one_at given_by
    side_more times k = rw (eq-eqb (side_of j) side (sounds_on side j (voice_in vs j) e)) (times_sum (sum_of (given_by file xs vs k) side j) (given_by file xs vs k j) times)

    sided_is : (n : ℕ) → steps_of (cut_of file (extent_at xs j)) n (voice_in vs j) ≡ sided_at file xs vs n side j
    unfolding sided_at
    sided_is n = rw (eq-eqb (side_of j) side (sounds_on side j (voice_in vs j) e))

  side_zero : (times k : ℕ) → side_at file xs vs times side 0 k ≡ pos 0
  unfolding side_at sum_of
  side_zero times k = zero-*ℤ (pos times)

  -- ---- a side, channel by channel
  module _ (times c n : ℕ) where
    -- no channel sounds
    pub siding_none : (a : ℕ) (cells : List ℤ) → length vs ≡ width → Next vs side c 0 a → c ≤ a → Holds (λ j. pos 0) n cells → Siding file xs vs times side c n vs cells c
    siding_none a cells l m h z =
        let q : a ≡ c = omega (arith, m.most) in
        subst (Siding file xs vs times side c n vs cells) q
        (record {
          few = m.most;
          there = m.there;
          voices = voices_skip c 0 a m n vs (within_begin _ blank width vs l);
          sums = λ j k. z j k ∙ sym (side_skip c 0 a m times j ∙ side_zero times j);
        })

    -- the first that does
    pub siding_first : (a b : ℕ) (v : Voice) (cells : List ℤ) → length vs ≡ width → c ≤ width → Next vs side c 0 a → a < c → Next (set vs a v) side c (a + 1) b → v ≡ later_at file xs vs n a → Holds (one_at times (cut_of file (extent_at xs a)) (voice_in vs a)) n cells → Siding file xs vs times side c n (set vs a v) cells b
    siding_first a b v cells l room m h k e z = record { few = p.most; there = p.there; voices = voices_skip c (a + 1) b p n _ voices; sums = λ j k. z j k ∙ sym (first_side j) }
      where
        voices : Parting (sided_at file xs vs n side) (voice_in vs) blank width (set vs a v) (a + 1)
        voices = part_again _ blank width vs (voice_in vs) a c v (voices_skip c 0 a m n vs (within_begin _ blank width vs l)) h room (e ∙ sided_is a (m.there h) n)

        p : Next vs side c (a + 1) b
        p = next_same vs _ _ side c (a + 1) b voices k

        first_side : (k : ℕ) → side_at file xs vs times side b k ≡ one_at times (cut_of file (extent_at xs a)) (voice_in vs a) k
        first_side k =
            side_skip c (a + 1) b p times k
            ∙ ap (λ i. side_at file xs vs times side i k) (add-one a)
            ∙ side_more a (m.there h) times k
            ∙ ap (λ z. z +ℤ one_at times (cut_of file (extent_at xs a)) (voice_in vs a) k) (side_skip c 0 a m times k ∙ side_zero times k)
            ∙ +ℤ_idl _

    module _ (w : List Voice) (cells : List ℤ) (i : ℕ) (m : Siding file xs vs times side c n w cells i) where
      -- one more
      pub siding_more : c ≤ width → i < c → (r : ℕ) (v : Voice) (further new : List ℤ) → Next (set w i v) side c (i + 1) r → v ≡ later_at file xs vs n i → Holds (one_at times (cut_of file (extent_at xs i)) (voice_in vs i)) n further → Holds (sum_at cells further) n new → Siding file xs vs times side c n (set w i v) new r
      unfolding sum_at
      siding_more room h r v further new k e z y = record { few = p.most; there = p.there; voices = voices_skip c (i + 1) r p n _ voices; sums = λ j k. y j k ∙ ap₂ ◌+ℤ◌ (m.sums j k) (z j k) ∙ sym (more_side j) }
        where
          voices : Parting (sided_at file xs vs n side) (voice_in vs) blank width (set w i v) (i + 1)
          voices = part_again _ blank width w (voice_in vs) i c v m.voices h room (e ∙ sided_is i (m.there h) n)

          p : Next vs side c (i + 1) r
          p = next_same vs _ _ side c (i + 1) r voices k

          more_side : (k : ℕ) → side_at file xs vs times side r k ≡ side_at file xs vs times side i k +ℤ one_at times (cut_of file (extent_at xs i)) (voice_in vs i) k
          more_side k = side_skip c (i + 1) r p times k ∙ ap (λ y. side_at file xs vs times side y k) (add-one i) ∙ side_more i (m.there h) times k

      module _ (h : c ≤ i) where
        pub siding_voices : w ≡ sided_of file xs vs n side c
        unfolding sided_of
        siding_voices = part_end _ blank width w (voice_in vs) i c m.voices h m.few

        pub siding_sums : Holds (side_at file xs vs times side c) n cells
        siding_sums j k = let q : i ≡ c = omega (arith, m.few) in m.sums j k ∙ ap (λ y. side_at file xs vs times side y j) q

      -- ---- ranges
      module _ (s : Sounding file xs vs c) (legal : LegalSides c times) (b : Bytes file) where
        given_range : (k j : ℕ) → j < c → mag (given_by file xs vs k j) < greatest_given
        unfolding given_by
        given_range k j z =
            let x = extent_at xs j in
            gives_range _ (part_each (λ (y : ℕ). y < 256) 0 (omega arith) x.from (x.to - x.from) file b) (later_at file xs vs k j)
            (rw (steps_volume (cut_of file x) (voice_in vs j) k) (s.at j z).legal.volume)

        -- the cells have room for channel i
        pub siding_roomy : i < c → (further : List ℤ) → Holds (one_at times (cut_of file (extent_at xs i)) (voice_in vs i)) n further → Roomy further cells n
        unfolding side_at one_at given_by
        siding_roomy h further z =
            let on : side_of i ≡ side = sounds_on side i (voice_in vs i) (m.there h) in
            record {
              bound = greatest_given * times;
              small = λ k l. subst (λ y. mag y < greatest_given * times) (sym (z k l)) (mag-mul (given_by file xs vs k i) times (given_range k i h) (le_refl times) legal.scale.0);
              room =
                  λ k l.
                  subst (λ y. mag y + greatest_given * times < half16) (sym (m.sums k l))
                  (subst (λ y. mag (sum_of (given_by file xs vs k) y i *ℤ pos times) + greatest_given * times < half16) on (room_before (given_by file xs vs k) c times legal i h (λ j q. given_range k j (omega arith))));
            }

        -- and nothing is clipped
        pub siding_narrow : side < 2 → c ≤ i → Narrow cells n
        unfolding side_at
        siding_narrow f h k l = subst (λ y. mag y < half16) (sym (siding_sums h k l)) (side_fits (given_by file xs vs k) c times legal side f (given_range k))
