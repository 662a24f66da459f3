-- A voice's next frames as a line through its sample's bytes. Assumes nothing.
use mathlib.Core.Path.{◌≡◌, refl, sym, ap, ap₂, subst, ◌∙◌}
use mathlib.Core.List.{[]}
use mathlib.Core.Bool.{Bool, true, false, cond}
use Prim.Native.Nat.{ℕ, zero, suc, min, ◌+◌, ◌-◌, ◌*◌, ◌/◌, ◌%◌, ◌≤◌, ◌<◌}
use native.Mathlib.Nat.{suc-mul, zero-mul, mul-zero, le-div_iff_mul-le, mul-le-mul_right, lt_of_mul-lt-mul_right}
use native.Mathlib.Omega.{arith}
use borrow.Author.Tests.{lt-ltb, le-ltb, ltb-true, ltb-false}
use lib.Dec.{T, ltb}
use lib.ListN.{get_or, drop}
use lib.Seq.{get_or-drop}
use lib.IntN.{pos, ◌*ℤ◌, zero-*ℤ, *ℤ-zero}
use mir.Syntax.{w32, w64}
use mir.Val.{Fits}
use Rattle.laws.specs.Tests.{or_parts}
use Rattle.laws.specs.Choice.{either}
use Rattle.common.specs.LimitFacts.{LegalPeriod}
use Rattle.common.specs.LimitFacts.LegalPeriod.{silent, sounding}
use Rattle.runs.specs.Lines.{parts, half64}
use Rattle.runs.specs.Inverses.{unit, dividends, most_frames, Inverse, inverse_is, quotient_low, quotient_high}
use Rattle.reader.specs.declared.Extent.{Extent}
use Rattle.reader.specs.Samples.{Sample}
use Rattle.voice.specs.declared.Voice.{Voice}
use Rattle.voice.specs.Voice.{placed_at, arrive_at, silent_of, signed_of, read_at, gives_of, growth_of, carried, step_of, pal_clock, fractions, rate_tenths}
use Rattle.voice.specs.Modules.{sample_with}
use Rattle.voice.specs.Frames.{steps_of, gives_at}
use Rattle.voice.specs.LegalFacts.{LegalSound}
use Rattle.voice.specs.Kept.{silent_steps, silent_gives, loud_has, loud_period, loud_index, loud_fraction, growth_small}
use Rattle.voice_runs.specs.declared.line.Pace.{Pace}
use Rattle.voice_runs.specs.Runs.{sound_at, Span, limit_of, longest, ahead_of, weight_of, land_of, Follows, quiet_of, line_growth, Paced}

-- ---- how far a run goes: n is the way to the limit, rounded up to whole frames
way_low : (from growth limit : ℕ) → growth < parts → limit ≤ longest * fractions → limit - from + growth - 1 < dividends
way_low from growth limit h k = omega arith

module _ (bytes fraction growth inverse left n : ℕ) (v : Inverse growth inverse) (h : fraction < bytes * fractions) (k : bytes ≤ longest) (q : n ≡ (bytes * fractions - fraction + growth - 1) * inverse / unit) where
  low : n * growth ≤ bytes * fractions - fraction + growth - 1
  low = rw q (quotient_low growth inverse _ v (way_low fraction growth (bytes * fractions) v.slow (omega arith)))

  high : bytes * fractions - fraction + growth - 1 < n * growth + growth
  high = rw q (quotient_high growth inverse _ v (way_low fraction growth (bytes * fractions) v.slow (omega arith)))

  some : 0 < n
  some = lt_of_mul-lt-mul_right growth (let l : 0 * growth < n * growth = omega (arith, high, zero-mul growth) in l)

  far : (j : ℕ) → j < n → fraction + j * growth < bytes * fractions
  far j l = omega (arith, low, mul-le-mul_right growth l, suc-mul j growth)

  pub span_is : 0 < left → Span fraction growth (bytes * fractions) left (min n left)
  span_is z = record { some = omega (arith, some); most = omega arith; below = λ j i. far j (omega arith) }

-- ---- where it ends
limit_above : (i end : ℕ) → i < end → i < limit_of i end
unfolding limit_of
limit_above i end h = either (λ x. i < x) (ltb i 2) _ end (λ t. either (λ x. i < x) (ltb end 2) end 2 (λ _. h) (λ _. ltb-true _ _ t)) (λ _. h)

limit_end : (i end : ℕ) → limit_of i end ≤ end
unfolding limit_of
limit_end i end = either (λ x. x ≤ end) (ltb i 2) _ end (λ _. either (λ x. x ≤ end) (ltb end 2) end 2 (λ _. omega arith) (λ t. ltb-false end 2 t)) (λ _. omega arith)

-- bytes 0 and 1 are a run of their own
limit_head : (i end : ℕ) → i < 2 → limit_of i end ≤ 2
unfolding limit_of
limit_head i end h = rw (lt-ltb i 2 h) (either (λ x. x ≤ 2) (ltb end 2) end 2 (λ t. omega (arith, ltb-true end 2 t)) (λ _. omega arith))

pub limit_past : (i end lim : ℕ) → i < end → lim ≡ limit_of i end → i ≤ lim
limit_past i end lim h e = omega (arith, limit_above i end h)

ahead_is : (i end : ℕ) → i < end → (0 < ahead_of i end) × (ahead_of i end ≤ longest) × (i + ahead_of i end ≤ limit_of i end)
unfolding ahead_of
ahead_is i end h = let k = limit_above i end h in (omega arith, omega arith, omega arith)

-- ---- a voice that sounds stays in a byte for sixteen frames at most
growth_brief : {p : ℕ} → LegalPeriod p → (p ≡ 0 → ⊥) → parts ≤ most_frames * growth_of p
unfolding growth_of
growth_brief silent n = absurd (n refl)
growth_brief {p} (sounding l h) n =
    let z : 0 < rate_tenths * p = omega arith in
    let m : 4096 * (rate_tenths * p) ≤ pal_clock * fractions = omega arith in
    omega (arith, (le-div_iff_mul-le z).1 m)

module _ (end : ℕ) (v : Voice) (l : LegalSound end v) (loud : silent_of v ≡ false) where
  pub pace_inverse : (p : Pace) → Paced v.period p → Inverse p.growth p.inverse
  pace_inverse p q = inverse_is p.growth p.inverse (rw q.growth (growth_brief l.period (loud_has v loud).1.1)) q.slow q.inverse

  pub ahead_above : (bytes : ℕ) → bytes ≡ ahead_of v.index end → v.fraction < bytes * fractions
  ahead_above bytes e = omega (arith, loud_fraction end v l loud, ahead_is v.index end (loud_index end v l loud))

  pub ahead_most : (bytes : ℕ) → bytes ≡ ahead_of v.index end → bytes ≤ longest
  ahead_most bytes e = omega (arith, ahead_is v.index end (loud_index end v l loud))

-- ---- a silent voice
-- its index is inside any bytes that are there
silent_inside : (end : ℕ) (v : Voice) → LegalSound end v → (n : ℕ) → end ≤ n → 0 < n → (v.index < n) × (v.fraction < fractions)
silent_inside end v l n h z = go v.stopped refl
  where
    go : (t : Bool) → v.stopped ≡ t → (v.index < n) × (v.fraction < fractions)
    go true e = omega (arith, l.stopped e)
    go false e = omega (arith, l.running e)

pub follows_silent : (x : Extent) (v : Voice) (left : ℕ) → LegalSound x.end v → silent_of v ≡ true → 0 < left → Follows x v true 0 left
unfolding land_of weight_of
follows_silent x v left l h z =
    record {
      some = z;
      slow = omega arith;
      low = omega (arith, mul-zero left, silent_inside x.end v l (suc x.end) (omega arith) (omega arith));
      part = (silent_inside x.end v l (suc x.end) (omega arith) (omega arith)).1;
      sounds = λ q. absurd (subst T q tt);
      inside = λ n e o j _. omega (arith, mul-zero j, silent_inside x.end v l n e o);
      before = λ j _ q. absurd (subst T (sym h ∙ q) tt);
      gives = λ bytes j _. silent_gives (sample_with bytes x) v h j ∙ sym (*ℤ-zero (sound_at (drop v.index bytes) v.fraction 0 j));
      after = λ bytes j _. silent_steps (sample_with bytes x) (suc j) v h ∙ rw h;
    }

-- ---- a voice that sounds
module _ (s : Sample) (v : Voice) (l : LegalSound s.end v) (loud : silent_of v ≡ false) (g : ℕ) (q : g ≡ growth_of v.period) where
  still_loud : (i f : ℕ) → silent_of (placed_at i f v) ≡ false
  unfolding silent_of
  still_loud i f = (or_parts v.stopped _ loud).1

  below_arrives : (i f : ℕ) → i < s.end → arrive_at s i f v ≡ placed_at i f v
  unfolding arrive_at
  below_arrives i f h = rw (lt-ltb i s.end h)

  itself : placed_at v.index v.fraction v ≡ v
  itself = ap (λ t. record { sample = v.sample; period = v.period; volume = v.volume; index = v.index; fraction = v.fraction; stopped = t }) (sym (loud_has v loud).0)

  -- the voice so far past its index
  abbrev past : ℕ → Voice
  past p = placed_at (v.index + p / fractions) (p % fractions) v

  -- one step from there that does not reach the end
  step_past : (p : ℕ) → v.index * fractions + (p + g) < s.end * fractions → step_of s (past p) ≡ past (p + g)
  unfolding step_of carried arrive_at
  step_past p h = rw (still_loud (v.index + p / fractions) (p % fractions), ← q) (go (ltb (p % fractions + g) fractions) refl)
    where
      go : (t : Bool) → ltb (p % fractions + g) fractions ≡ t → cond t (placed_at (v.index + p / fractions) (p % fractions + g) v) (arrive_at s (v.index + p / fractions + 1) (p % fractions + g - fractions) v) ≡ past (p + g)
      go true t =
          let k : p % fractions + g < fractions = ltb-true _ _ t in
          ap₂ (λ i f. placed_at i f v) (omega arith) (omega arith)
      go false t =
          let k : fractions ≤ p % fractions + g = ltb-false (p % fractions + g) fractions t in
          let small : g < fractions = rw q (growth_small v.period (loud_period s.end v l loud)) in
          below_arrives (v.index + p / fractions + 1) (p % fractions + g - fractions) (omega arith)
          ∙ ap₂ (λ i f. placed_at i f v) (omega arith) (omega arith)

  -- a run of r frames, each before the run's limit
  module _ (left r : ℕ) (m : Span v.fraction g (ahead_of v.index s.end * fractions) left r) where
    before_limit : (j : ℕ) → j < r → v.index * fractions + (v.fraction + j * g) < limit_of v.index s.end * fractions
    before_limit j h = omega (arith, m.below j h, ahead_is v.index s.end (loud_index s.end v l loud))

    before_end : (j : ℕ) → j < r → v.index * fractions + (v.fraction + j * g) < s.end * fractions
    before_end j h = omega (arith, before_limit j h, limit_end v.index s.end)

    run_at : (j : ℕ) → j < r → steps_of s j v ≡ past (v.fraction + j * g)
    unfolding steps_of
    run_at zero k =
        let f = loud_fraction s.end v l loud in
        let z : v.fraction + 0 * g ≡ v.fraction = omega (arith, zero-mul g) in
        rw z (sym (ap₂ (λ i t. placed_at i t v) (omega arith) (omega arith) ∙ itself))
    run_at (suc j) k =
        let next : v.fraction + suc j * g ≡ v.fraction + j * g + g = omega (arith, suc-mul j g) in
        ap (step_of s) (run_at j (omega arith)) ∙ step_past (v.fraction + j * g) (omega (arith, before_end (suc j) k)) ∙ ap past (sym next)

    -- the voice after it
    run_lands : (j : ℕ) → j < r → steps_of s (suc j) v ≡ land_of s (v.fraction + j * g) v
    unfolding steps_of land_of
    run_lands j h = ap (step_of s) (run_at j h) ∙ rw loud

    gives_placed : (i f : ℕ) → gives_of s.bytes (placed_at i f v) ≡ read_at s.bytes i *ℤ pos v.volume
    unfolding gives_of
    gives_placed i f = rw (still_loud i f)

    -- a byte's weight in the run that begins at the voice's index
    weighed : (i : ℕ) → v.index ≤ i → i < limit_of v.index s.end → read_at s.bytes i *ℤ pos v.volume ≡ signed_of (get_or s.bytes i 0) *ℤ pos (weight_of (ltb v.index 2) v.volume)
    unfolding read_at weight_of
    weighed i h k = go (ltb v.index 2) refl
      where
        go : (t : Bool) → ltb v.index 2 ≡ t → cond (ltb i 2) (pos 0) (signed_of (get_or s.bytes i 0)) *ℤ pos v.volume ≡ signed_of (get_or s.bytes i 0) *ℤ pos (cond t 0 v.volume)
        go true t =
            rw (lt-ltb i 2 (omega (arith, limit_head v.index s.end (ltb-true _ _ t)))) (zero-*ℤ (pos v.volume) ∙ sym (*ℤ-zero (signed_of (get_or s.bytes i 0))))
        go false t = rw (le-ltb i 2 (omega (arith, ltb-false v.index 2 t)))

    run_gives : (j : ℕ) → j < r → gives_at s v j ≡ sound_at (drop v.index s.bytes) v.fraction g j *ℤ pos (weight_of (ltb v.index 2) v.volume)
    unfolding sound_at
    run_gives j h =
        ap (gives_of s.bytes) (run_at j h)
        ∙ gives_placed _ _
        ∙ weighed (v.index + (v.fraction + j * g) / fractions) (omega arith) (omega (arith, before_limit j h))
        ∙ ap (λ b. signed_of b *ℤ pos (weight_of (ltb v.index 2) v.volume)) (sym (get_or-drop v.index s.bytes ((v.fraction + j * g) / fractions) 0))

pub follows_loud : (x : Extent) (v : Voice) (left growth count bytes : ℕ) → LegalSound x.end v → silent_of v ≡ false → growth ≡ growth_of v.period → growth < fractions → bytes ≡ ahead_of v.index x.end → Span v.fraction growth (bytes * fractions) left count → Follows x v (ltb v.index 2) growth count
follows_loud x v left growth count bytes l loud q slow e m =
    let n : Span v.fraction growth (ahead_of v.index x.end * fractions) left count = subst (λ z. Span v.fraction growth (z * fractions) left count) e m in
    let a = ahead_is v.index x.end (loud_index x.end v l loud) in
    let end = limit_end v.index x.end in
    record {
      some = m.some;
      slow = slow;
      low =
          let last : count ≡ suc (count - 1) = omega (arith, m.some) in
          omega (arith, n.below (count - 1) (omega (arith, m.some)), ap (λ z. z * growth) last, suc-mul (count - 1) growth);
      part = loud_fraction x.end v l loud;
      sounds = λ _. (loud, q);
      inside = λ k h _ j i. omega (arith, n.below j i);
      before = λ j i _. omega (arith, n.below j i);
      gives = λ b j i. run_gives (sample_with b x) v l loud growth q left count n j i;
      after = λ b j i. run_lands (sample_with b x) v l loud growth q left count n j i;
    }

-- ---- a voice's next run
module _ (x : Extent) (v : Voice) (p : Pace) (l : LegalSound x.end v) where
  pub run_silent : (left : ℕ) → silent_of v ≡ true → 0 < left → Follows x v (quiet_of v) (line_growth v p) left
  unfolding quiet_of line_growth
  run_silent left h z = rw h (follows_silent x v left l h z)

  pub run_sounds : (from left count bytes : ℕ) → silent_of v ≡ false → Paced v.period p → from ≡ v.fraction → bytes ≡ ahead_of v.index x.end → Span from p.growth (bytes * fractions) left count → Follows x v (quiet_of v) (line_growth v p) count
  unfolding quiet_of line_growth
  run_sounds from left count bytes loud q z e m = rw loud (follows_loud x v left p.growth count bytes l loud q.growth q.slow e (subst (λ f. Span f p.growth (bytes * fractions) left count) z m))

-- ---- after it: its last frame is before the end, and the voice takes its step from there
module _ (x : Extent) (v : Voice) (p : Pace) (n : ℕ) (m : Follows x v (quiet_of v) (line_growth v p) n) (loud : silent_of v ≡ false) (f : ℕ) (e : f ≡ v.fraction) where
  growth_is : line_growth v p ≡ p.growth
  unfolding line_growth
  growth_is = rw loud

  last_low : f + (n - 1) * p.growth < half64
  last_low = rw (e, ← growth_is) (let k : n - 1 ≤ n = omega arith in omega (arith, m.low, mul-le-mul_right (line_growth v p) k))

  pub last_product : Fits w64 ((n - 1) * p.growth)
  last_product = record { fits = omega (arith, last_low) }

  pub last_place : Fits w64 (f + (n - 1) * p.growth)
  last_place = record { fits = omega (arith, last_low) }

  pub last_past : Fits w32 (f + (n - 1) * p.growth)
  last_past = record { fits = last_low }

  last_before : v.index + (f + (n - 1) * p.growth) / fractions < x.end
  last_before = rw (e, ← growth_is) (m.before (n - 1) (omega (arith, m.some)) loud)

  pub last_fits : Fits w32 x.end → Fits w32 (v.index + (f + (n - 1) * p.growth) / fractions)
  last_fits i = record { fits = omega (arith, last_before, i.fits) }

  module _ (w : Voice) (q : w ≡ placed_at (v.index + (f + (n - 1) * p.growth) / fractions) ((f + (n - 1) * p.growth) % fractions) v) where
    pub last_legal : LegalSound x.end v → LegalSound x.end w
    last_legal l =
        rw q (record { volume = l.volume; period = l.period; stopped = λ q. absurd (subst T (sym q) tt); running = λ _. ((l.running (loud_has v loud).0).0, (last_before, omega arith)) })

    pub last_steps : (r : Voice) → r ≡ step_of (sample_with [] x) w → r ≡ steps_of (sample_with [] x) n v
    unfolding land_of
    last_steps r z =
        let one : suc (n - 1) ≡ n = omega (arith, m.some) in
        let lands : steps_of (sample_with [] x) (suc (n - 1)) v ≡ step_of (sample_with [] x) (placed_at (v.index + (f + (n - 1) * p.growth) / fractions) ((f + (n - 1) * p.growth) % fractions) v) = rw (e, ← growth_is) (rw loud at (m.after [] (n - 1) (omega (arith, m.some)))) in
        z ∙ ap (step_of (sample_with [] x)) q ∙ sym lands ∙ ap (λ i. steps_of (sample_with [] x) i v) one
