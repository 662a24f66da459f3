-- What a command and a frame's step keep: a voice's sample and volume, all of a silent voice, and legality; and that they read no byte.
-- Assumes nothing.
use Rattle.std.specs.Prelude.{◌≡◌, ℕ, zero, suc, ◌+◌, ◌-◌, ◌*◌, ◌<◌, ◌≤◌, true, false, ◌||◌, T, List, [], pos, ◌==◌, ◌≢◌, nat_lt}
use Rattle.std.proofs.Math.Path.{refl, ap}
use Rattle.std.proofs.Common.{sym, subst, ◌∙◌, arith, zero-add, suc-add, div-lt_iff_lt-mul}
use borrow.Author.Tests.{ltb-true, eqb-false}
use Rattle.laws.specs.Tests.{or_parts}
use Rattle.laws.specs.Choice.{either}
use Rattle.common.specs.Limits.{loudest, least_period}
use Rattle.common.specs.LimitFacts.{LegalPeriod}
use Rattle.common.specs.LimitFacts.LegalPeriod.{silent, sounding}
use Rattle.voice.specs.LegalFacts.{LegalSound, LegalVoice, LoopInside}
use Rattle.ticks.specs.declared.Command.{Command}
use Rattle.ticks.specs.Legal.{LegalCommand}
use Rattle.reader.specs.declared.Extent.{Extent}
use Rattle.reader.specs.Samples.{Sample}
use Rattle.voice.specs.declared.Voice.{Voice}
use Rattle.voice.specs.Voice.{fresh_voice, placed_at, stopped_of, arrive_at, started, silent_of, gives_of, growth_of, carried, step_of, registered, told_of, pal_clock, fractions, rate_tenths}
use Rattle.voice.specs.Modules.{sample_with}
use Rattle.voice.specs.Frames.{steps_of, gives_at}

-- ---- what holds of a voice sounding anywhere and of the voice stopped
module _ (P : Voice → Type 0) (s : Sample) (v : Voice) (placed : (i f : ℕ) → P (placed_at i f v)) (stopped : P (stopped_of v)) where
  arrive_keeps : (i f : ℕ) → P (arrive_at s i f v)
  unfolding arrive_at
  arrive_keeps i f = either P (nat_lt i s.end) _ _ (λ _. placed i f) (λ _. either P s.looped _ _ (λ _. placed s.first f) (λ _. stopped))

  start_keeps : (o : ℕ) → P (started s o v)
  unfolding started
  start_keeps o = either P (v.sample == 0) _ _ (λ _. stopped) (λ _. arrive_keeps o 0)

  step_keeps : P v → P (step_of s v)
  unfolding step_of carried
  step_keeps p = either P (silent_of v) _ _ (λ _. p) (λ _. either P (nat_lt (v.fraction + growth_of v.period) fractions) _ _ (λ _. placed v.index (v.fraction + growth_of v.period)) (λ _. arrive_keeps (v.index + 1) (v.fraction + growth_of v.period - fractions)))

-- ---- the sample and the volume
module _ (s : Sample) (c : Command) (v : Voice) where
  pub told_sample : (told_of s c v).sample ≡ c.sample
  unfolding told_of
  told_sample = either (λ (w : Voice). w.sample ≡ c.sample) c.start _ _ (λ _. start_keeps (λ (w : Voice). w.sample ≡ c.sample) s (registered c v) (λ i f. refl) refl (256 * c.offset)) (λ _. refl)

  pub told_volume : (told_of s c v).volume ≡ c.volume
  unfolding told_of
  told_volume = either (λ (w : Voice). w.volume ≡ c.volume) c.start _ _ (λ _. start_keeps (λ (w : Voice). w.volume ≡ c.volume) s (registered c v) (λ i f. refl) refl (256 * c.offset)) (λ _. refl)

module _ (s : Sample) (v : Voice) where
  pub steps_sample : (k : ℕ) → (steps_of s k v).sample ≡ v.sample
  unfolding steps_of
  steps_sample zero = refl
  steps_sample (suc k) = step_keeps (λ (w : Voice). w.sample ≡ v.sample) s (steps_of s k v) (λ i f. steps_sample k) (steps_sample k) (steps_sample k)

  pub steps_volume : (k : ℕ) → (steps_of s k v).volume ≡ v.volume
  unfolding steps_of
  steps_volume zero = refl
  steps_volume (suc k) = step_keeps (λ (w : Voice). w.volume ≡ v.volume) s (steps_of s k v) (λ i f. steps_volume k) (steps_volume k) (steps_volume k)

  pub steps_period : (k : ℕ) → (steps_of s k v).period ≡ v.period
  unfolding steps_of
  steps_period zero = refl
  steps_period (suc k) = step_keeps (λ (w : Voice). w.period ≡ v.period) s (steps_of s k v) (λ i f. steps_period k) (steps_period k) (steps_period k)

-- frames after frames
pub steps_add : (s : Sample) (m k : ℕ) (v : Voice) → steps_of s (m + k) v ≡ steps_of s m (steps_of s k v)
unfolding steps_of
steps_add s zero k v = rw (zero-add k)
steps_add s (suc m) k v = rw (suc-add m k) (ap (step_of s) (steps_add s m k v))

-- ---- a silent voice stays, and gives 0
pub silent_steps : (s : Sample) (k : ℕ) (v : Voice) → silent_of v ≡ true → steps_of s k v ≡ v
unfolding steps_of step_of
silent_steps s zero v h = refl
silent_steps s (suc k) v h = ap (step_of s) (silent_steps s k v h) ∙ rw h

pub silent_gives : (s : Sample) (v : Voice) → silent_of v ≡ true → (j : ℕ) → gives_at s v j ≡ pos 0
unfolding gives_of
silent_gives s v h j = ap (gives_of s.bytes) (silent_steps s j v h) ∙ rw h

-- ---- a voice that sounds
pub loud_has : (v : Voice) → silent_of v ≡ false → (v.stopped ≡ false) × ((v.sample ≢ 0) × (v.period ≢ 0))
unfolding silent_of
loud_has v e =
    let a = or_parts v.stopped (v.sample == 0 || v.period == 0) e in
    let b = or_parts (v.sample == 0) (v.period == 0) a.1 in
    (a.0, (eqb-false _ _ b.0, eqb-false _ _ b.1))

pub period_low : {p : ℕ} → LegalPeriod p → (p ≢ 0) → least_period ≤ p
period_low silent n = absurd (n refl)
period_low (sounding l h) n = l

module _ (end : ℕ) (v : Voice) (l : LegalSound end v) (e : silent_of v ≡ false) where
  pub loud_period : least_period ≤ v.period
  loud_period = period_low l.period (loud_has v e).1.1

  pub loud_index : v.index < end
  loud_index = (l.running (loud_has v e).0).1.0

  pub loud_fraction : v.fraction < fractions
  loud_fraction = (l.running (loud_has v e).0).1.1

-- from a period of 74 on, a step stays below one byte
pub step_below : (p : ℕ) → 74 ≤ p → growth_of p < fractions
unfolding growth_of
step_below p h =
    let n : 0 < rate_tenths * p = omega arith in
    let m : pal_clock * fractions < fractions * (rate_tenths * p) = omega arith in
    (div-lt_iff_lt-mul n).1 m

-- so it does at every legal period
pub growth_small : (p : ℕ) → least_period ≤ p → growth_of p < fractions
growth_small p h = step_below p (omega arith)

-- ---- legality
pub fresh_legal : (last end : ℕ) → LegalVoice last end fresh_voice
fresh_legal last end =
    record {
      sample = omega arith;
      sound = record { volume = omega arith; period = silent; stopped = λ _. (refl, refl); running = λ q. absurd (subst T q tt) };
    }

module _ (s : Sample) (looping : LoopInside s) where
  module _ (v : Voice) (volume : v.volume ≤ loudest) (period : LegalPeriod v.period) where
    sound_placed : (i f : ℕ) → 0 < v.sample → i < s.end → f < fractions → LegalSound s.end (placed_at i f v)
    sound_placed i f n h k = record { volume = volume; period = period; stopped = λ q. absurd (subst T (sym q) tt); running = λ _. (n, (h, k)) }

    sound_stopped : LegalSound s.end (stopped_of v)
    sound_stopped = record { volume = volume; period = period; stopped = λ _. (refl, refl); running = λ q. absurd (subst T q tt) }

    sound_arrive : (i f : ℕ) → 0 < v.sample → f < fractions → LegalSound s.end (arrive_at s i f v)
    unfolding arrive_at
    sound_arrive i f n k =
        either (LegalSound s.end) (nat_lt i s.end) _ _ (λ q. sound_placed i f n (ltb-true _ _ q) k)
        (λ _. either (LegalSound s.end) s.looped _ _ (λ q. sound_placed s.first f n (looping.loop q) k) (λ _. sound_stopped))

    sound_start : (o : ℕ) → LegalSound s.end (started s o v)
    unfolding started
    sound_start o =
        either (LegalSound s.end) (v.sample == 0) _ _ (λ _. sound_stopped)
        (λ q. let n : v.sample ≡ 0 → ⊥ = eqb-false v.sample 0 q in sound_arrive o 0 (omega (arith, n)) (omega arith))

    sound_carried : (f : ℕ) → 0 < v.sample → v.index < s.end → f < 2 * fractions → LegalSound s.end (carried s f v)
    unfolding carried
    sound_carried f n h k =
        either (LegalSound s.end) (nat_lt f fractions) _ _ (λ q. sound_placed v.index f n h (ltb-true f fractions q))
        (λ _. sound_arrive (v.index + 1) (f - fractions) n (omega arith))

  -- a command keeps a voice legal
  pub sound_told : (last end : ℕ) (c : Command) (v : Voice) → LegalSound end v → LegalCommand last v.sample c → (c.sample ≡ v.sample → end ≡ s.end) → LegalSound s.end (told_of s c v)
  unfolding told_of
  sound_told last end c v l k same =
      either (LegalSound s.end) c.start _ _ (λ _. sound_start (registered c v) k.volume k.period (256 * c.offset))
      (λ q. let e : c.sample ≡ v.sample = k.stays q in
      record {
        volume = k.volume;
        period = k.period;
        stopped = l.stopped;
        running = λ r. (rw e (l.running r).0, (rw (← same e) (l.running r).1.0, (l.running r).1.1));
      })

  -- and so does a step
  sound_step : (v : Voice) → LegalSound s.end v → LegalSound s.end (step_of s v)
  unfolding step_of
  sound_step v l =
      either (LegalSound s.end) (silent_of v) _ _ (λ _. l)
      (λ q. sound_carried v l.volume l.period (v.fraction + growth_of v.period) (l.running (loud_has v q).0).0 (loud_index s.end v l q) (omega (arith, loud_fraction s.end v l q, growth_small v.period (loud_period s.end v l q))))

  pub sound_steps : (k : ℕ) (v : Voice) → LegalSound s.end v → LegalSound s.end (steps_of s k v)
  unfolding steps_of
  sound_steps zero v l = l
  sound_steps (suc k) v l = sound_step (steps_of s k v) (sound_steps k v l)

-- ---- no byte is read
module _ (bytes : List ℕ) (x : Extent) (v : Voice) where
  pub told_bytes : (c : Command) → told_of (sample_with [] x) c v ≡ told_of (sample_with bytes x) c v
  unfolding told_of started arrive_at
  told_bytes c = refl

  pub steps_bytes : (n : ℕ) → steps_of (sample_with [] x) n v ≡ steps_of (sample_with bytes x) n v
  unfolding steps_of step_of carried arrive_at
  steps_bytes zero = refl
  steps_bytes (suc n) = ap (step_of (sample_with bytes x)) (steps_bytes n)
