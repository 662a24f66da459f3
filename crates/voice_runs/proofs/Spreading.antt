-- A voice's runs, written into cells one after the other. Assumes nothing.
use mathlib.Core.Path.{◌≡◌, refl, sym, ap, subst, ◌∙◌}
use mathlib.Core.Bool.{Bool, true, false}
use mathlib.Core.List.{List, []}
use Prim.Native.Nat.{ℕ, ◌+◌, ◌-◌, ◌*◌, ◌≤◌, ◌<◌}
use native.Mathlib.Nat.{zero-add, add_comm, le_refl}
use native.Mathlib.Omega.{arith}
use borrow.Rule.Slice.PartMut.{put_mid, mid_of}
use lib.ListN.{length, get_or, drop, replicate}
use lib.IntN.{ℤ, pos, ◌*ℤ◌, *ℤ-zero}
use Rattle.laws.specs.Tests.{or_parts}
use Rattle.runs.specs.Lines.{byte_of}
use Rattle.runs.specs.Written.{Written, written_none, written_as, written_part, written_fill, written_more}
use Rattle.reader.specs.declared.Extent.{Extent}
use Rattle.voice.specs.declared.Voice.{Voice}
use Rattle.voice.specs.Voice.{silent_of, signed_of, gives_of}
use Rattle.voice.specs.Modules.{sample_with}
use Rattle.voice.specs.Frames.{steps_of}
use Rattle.voice.specs.LegalFacts.{LegalSound, LoopInside}
use Rattle.voice.specs.Kept.{sound_steps, steps_volume, steps_period, steps_add, steps_bytes}
use Rattle.voice_runs.specs.declared.line.Pace.{Pace}
use Rattle.voice_runs.specs.Runs.{sound_at, weight_of, Follows, product_of, weighed_at, quiet_of, line_growth, Paced, one_at}
use Rattle.voice_runs.proofs.Weights.{times_times, weight_times}

-- ---- a run's numbers, by whether it is quiet
module _ (v : Voice) (p : Pace) (weight n : ℕ) (bytes : List ℕ) (old : List ℤ) where
  pub write_quiet : (part : List ℤ) → quiet_of v ≡ true → n ≤ length old → part ≡ replicate n (pos 0) → Written (weighed_at (weight_of (quiet_of v) weight) bytes v.fraction (line_growth v p)) 0 n old (put_mid 0 n old part)
  unfolding weighed_at weight_of product_of
  write_quiet part q h e =
      rw q (written_as _ _ 0 n n old _ (written_fill (pos 0) 0 n old part (omega arith) e) (le_refl n) (λ j _. sym (*ℤ-zero (signed_of (get_or bytes (byte_of v.fraction (line_growth v p) j) 0)))))

  module _ (q : quiet_of v ≡ false) where
    pub loud_from : silent_of v ≡ false
    unfolding quiet_of
    loud_from = (or_parts (silent_of v) _ q).0

    pub write_loud : (from : ℕ) (new : List ℤ) → from ≡ v.fraction → Written (weighed_at weight bytes from p.growth) 0 n old new → Written (weighed_at (weight_of (quiet_of v) weight) bytes v.fraction (line_growth v p)) 0 n old new
    unfolding weight_of line_growth
    write_loud from new e w = rw (q, loud_from) (subst (λ f. Written (weighed_at weight bytes f p.growth) 0 n old new) e w)

-- ---- the loop over the runs: k frames are written
-- what a run's line reads at a volume so many times is what the voice gives so many times
run_gives : (x : Extent) (v : Voice) (quiet : Bool) (growth count : ℕ) (m : Follows x v quiet growth count) (a : List ℕ) (times j : ℕ) → j < count → weighed_at (weight_of quiet (v.volume * times)) (drop v.index a) v.fraction growth j ≡ one_at times (sample_with a x) v j
unfolding weighed_at product_of one_at sound_at
run_gives x v quiet growth count m a times j h =
    let b = get_or (drop v.index a) (byte_of v.fraction growth j) 0 in
    ap (λ w. signed_of b *ℤ pos w) (sym (weight_times quiet v.volume times))
    ∙ sym (times_times (signed_of b) (weight_of quiet v.volume) times)
    ∙ ap (λ y. y *ℤ pos times) (sym (m.gives a j h))

-- a voice some frames on is legal, has the pace that it had, and goes on from there
module _ (bytes : List ℕ) (x y : Extent) (v₀ v : Voice) (k : ℕ) (e : y ≡ x) (m : v ≡ steps_of (sample_with bytes x) k v₀) where
  pub later_legal : LoopInside (sample_with [] x) → LegalSound x.end v₀ → LegalSound y.end v
  later_legal i l = rw (e, m) (sound_steps (sample_with bytes x) (record { loop = i.loop }) k v₀ l)

  pub later_paced : (p q : Pace) → q ≡ p → Paced v₀.period p → Paced v.period q
  later_paced p q z h = rw (z, m, steps_period (sample_with bytes x) v₀ k) h

  pub later_moved : (n : ℕ) (w : Voice) → w ≡ steps_of (sample_with [] y) n v → w ≡ steps_of (sample_with bytes x) (k + n) v₀
  later_moved n w z =
      let s = sample_with bytes x in
      rw e at z ∙ steps_bytes bytes x v n ∙ ap (steps_of s n) m ∙ sym (steps_add s n k v₀) ∙ ap (λ i. steps_of s i v₀) (add_comm n k)

pub later_looping : (x y : Extent) → y ≡ x → LoopInside (sample_with [] x) → LoopInside (sample_with [] y)
later_looping x y e i = rw e i

pub record Spreading (bytes : List ℕ) (x : Extent) (times : ℕ) (old : List ℤ) (v₀ : Voice) (cells : List ℤ) (v : Voice) (k : ℕ) : Type 0 where
  pub moved : v ≡ steps_of (sample_with bytes x) k v₀
  pub written : Written (one_at times (sample_with bytes x) v₀) 0 k old cells

module _ (bytes : List ℕ) (x : Extent) (times : ℕ) (old : List ℤ) (v₀ : Voice) where
  pub spreading_none : Spreading bytes x times old v₀ old v₀ 0
  unfolding steps_of
  spreading_none = record { moved = refl; written = written_none _ 0 old }

  module _ (cells : List ℤ) (v : Voice) (k : ℕ) (m : Spreading bytes x times old v₀ cells v k) where
    -- the next run's numbers, from the k-th on
    later : (quiet : Bool) (growth count weight j : ℕ) → Follows x v quiet growth count → weight ≡ v₀.volume * times → k ≤ j → j < k + count → weighed_at (weight_of quiet weight) (drop v.index bytes) v.fraction growth (j - k) ≡ one_at times (sample_with bytes x) v₀ j
    unfolding one_at
    later quiet growth count weight j f e h l =
        let s = sample_with bytes x in
        let i : j - k + k ≡ j = omega arith in
        let volume : v.volume ≡ v₀.volume = ap (λ (u : Voice). u.volume) m.moved ∙ steps_volume s v₀ k in
        ap (λ t. weighed_at (weight_of quiet t) (drop v.index bytes) v.fraction growth (j - k)) (e ∙ ap (λ y. y * times) (sym volume))
        ∙ run_gives x v quiet growth count f bytes times (j - k) (omega arith)
        ∙ ap (λ t. gives_of bytes t *ℤ pos times) (ap (steps_of s (j - k)) m.moved ∙ sym (steps_add s (j - k) k v₀) ∙ ap (λ n. steps_of s n v₀) i)

    pub spreading_more : (y : Extent) (quiet : Bool) (growth count weight : ℕ) (part : List ℤ) (w : Voice) → y ≡ x → Follows y v quiet growth count → weight ≡ v₀.volume * times → k + count ≤ length cells → Written (weighed_at (weight_of quiet weight) (drop v.index bytes) v.fraction growth) 0 count (mid_of k (length cells - k) cells) part → w ≡ steps_of (sample_with [] y) count v → Spreading bytes x times old v₀ (put_mid k (length cells - k) cells part) w (k + count)
    spreading_more y quiet growth count weight part w q f e room d z =
        record {
          moved = later_moved bytes x y v₀ v k q m.moved count w z;
          written =
              written_more _ 0 k old cells m.written (weighed_at (weight_of quiet weight) (drop v.index bytes) v.fraction growth) count (k + count) (put_mid k (length cells - k) cells part)
              (rw (zero-add k) (written_part _ k (length cells - k) count cells part (omega arith) (omega arith) d)) (omega arith) (λ j h l. later quiet growth count weight j (rw q at f) e h l);
        }
