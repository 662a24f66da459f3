-- Legal voices as facts, with both ways between them and the tests; and what mixing is ready for.
-- Assumes nothing.
use Rattle.std.specs.Prelude.{◌≡◌, ℕ, ◌<◌, ◌≤◌, Bool, true, false, not, ◌&&◌, ltb, List, length, get_or, ◌==◌, nat_eq, nat_lt, slice_index_or}
use Rattle.std.proofs.Common.{ap, arith, eqb-true, leb-true, ltb-true, ltb-false, eq-eqb, ne_eqb, le-leb, lt-ltb, le-ltb}
use Rattle.std.proofs.lemmas.Bool.{eqb-false, not-true}
use Rattle.laws.specs.Choice.{either}
use Rattle.laws.specs.Every.{both, first_of, second_of, all_at, all_by, Each, every_at, every_by}
use Rattle.common.specs.Limits.{width, loudest}
use Rattle.ticks.specs.declared.Command.{Command}
use Rattle.ticks.specs.Legal.{LegalCommand}
use Rattle.reader.specs.declared.Extent.{Extent}
use Rattle.reader.specs.declared.Layout.{Layout}
use Rattle.reader.specs.File.{Module, sample_count, channel_count}
use Rattle.reader.specs.Samples.{Sample, no_extent}
use Rattle.reader.specs.Accept.{Inside}
use Rattle.voice.specs.declared.Voice.{Voice}
use Rattle.voice.specs.Voice.{fresh_voice, fractions}
use Rattle.voice.specs.Frames.{blank}
use Rattle.voice.specs.Legal.{voice_end, legal_index, legal_voice, is_fresh_voice, legal_used_voice, legal_voice_at, legal_voices}
use Rattle.laws.specs.Ranges.{all, all_from}
use Rattle.common.specs.LimitFacts.{LegalPeriod, period_has, period_by}
use Rattle.ticks.specs.Commands.{nothing}

-- ---- as facts
-- beside a sample with this end: volumes to 64, periods 0 or 108 to 907; stopped with index and fraction 0, or with a sample, index below its end and fraction to 65,535
pub record LegalSound (end : ℕ) (v : Voice) : Type 0 where
  pub volume : v.volume ≤ loudest
  pub period : LegalPeriod v.period
  pub stopped : v.stopped ≡ true → (v.index ≡ 0) × (v.fraction ≡ 0)
  pub running : v.stopped ≡ false → (0 < v.sample) × ((v.index < end) × (v.fraction < fractions))

-- and samples to the last
pub record LegalVoice (last end : ℕ) (v : Voice) : Type 0 where
  pub sample : v.sample ≤ last
  pub sound : LegalSound end v

-- the voice of each channel legal with its sample's end; past the count, as fresh
pub record LegalVoices (l : Layout) (extents : List Extent) (vs : List Voice) : Type 0 where
  pub long : length vs ≡ width
  pub used : (i : ℕ) → i < l.channels → LegalVoice l.samples (voice_end extents (slice_index_or vs i blank)) (slice_index_or vs i blank)
  pub rest : (i : ℕ) → i < width → l.channels ≤ i → slice_index_or vs i blank ≡ fresh_voice

-- a loop begins before the end
pub record LoopInside (s : Sample) : Type 0 where
  pub loop : s.looped ≡ true → s.first < s.end

-- the samples' extents lie in the file, and voices and commands are legal
pub record Ready (m : Module) (extents : List Extent) (vs : List Voice) (cs : List Command) : Type 0 where
  pub inside : (k : ℕ) → k ≤ sample_count m → Inside m (slice_index_or extents k no_extent)
  pub voices : LegalVoices m.layout extents vs
  pub commands : (i : ℕ) → i < channel_count m → LegalCommand (sample_count m) (get_or vs i blank).sample (slice_index_or cs i nothing)

-- ---- both ways
index_stopped : (end : ℕ) (v : Voice) → legal_index end v ≡ true → v.stopped ≡ true → (v.index ≡ 0) × (v.fraction ≡ 0)
unfolding legal_index
index_stopped end v e h =
    let i = nat_eq v.index 0 in
    let f = nat_eq v.fraction 0 in
    let q : i && f ≡ true = rw h at e in
    (eqb-true v.index 0 (first_of i f q), eqb-true v.fraction 0 (second_of i f q))

index_running : (end : ℕ) (v : Voice) → legal_index end v ≡ true → v.stopped ≡ false → (0 < v.sample) × ((v.index < end) × (v.fraction < fractions))
unfolding legal_index
index_running end v e h =
    let s = not (v.sample == 0) in
    let i = ltb v.index end in
    let f = ltb v.fraction fractions in
    let q : s && (i && f) ≡ true = rw h at e in
    let n : v.sample ≡ 0 → ⊥ = eqb-false v.sample 0 (not-true (v.sample == 0) (first_of s (i && f) q)) in
    let r : i && f ≡ true = second_of s (i && f) q in
    (omega (arith, n), (ltb-true v.index end (first_of i f r), ltb-true v.fraction fractions (second_of i f r)))

index_by : (end : ℕ) (v : Voice) → LegalSound end v → legal_index end v ≡ true
unfolding legal_index
index_by end v l =
    either (λ (b : Bool). b ≡ true) v.stopped _ _ (λ e. both _ _ (eq-eqb v.index 0 (l.stopped e).0) (eq-eqb v.fraction 0 (l.stopped e).1))
    (λ e. let r = l.running e in both _ _ (ap not (ne_eqb v.sample 0 (λ z. omega (arith, r.0)))) (both _ _ (lt-ltb v.index end r.1.0) (lt-ltb v.fraction fractions r.1.1)))

pub voice_has : (last end : ℕ) (v : Voice) → legal_voice last end v ≡ true → LegalVoice last end v
unfolding legal_voice
voice_has last end v e =
    let h = all_at _ e in
    record {
      sample = leb-true v.sample last (h 0);
      sound =
          record {
            volume = leb-true v.volume loudest (h 1);
            period = period_has v.period (h 2);
            stopped = index_stopped end v (h 3);
            running = index_running end v (h 3);
          };
    }

pub voice_by : (last end : ℕ) (v : Voice) → LegalVoice last end v → legal_voice last end v ≡ true
unfolding legal_voice Each
voice_by last end v l = all_by _ (le-leb _ _ l.sample, (le-leb _ _ l.sound.volume, (period_by _ l.sound.period, (index_by end v l.sound, tt))))

fresh_has : (v : Voice) → is_fresh_voice v ≡ true → v ≡ fresh_voice
unfolding is_fresh_voice
fresh_has v e =
    let h = all_at _ e in
    let stopped : v.stopped ≡ true = h 5 in
    rw (eqb-true v.sample 0 (h 0), eqb-true v.period 0 (h 1), eqb-true v.volume 0 (h 2), eqb-true v.index 0 (h 3), eqb-true v.fraction 0 (h 4), stopped)

fresh_by : (v : Voice) → v ≡ fresh_voice → is_fresh_voice v ≡ true
unfolding is_fresh_voice all all_from
fresh_by v e = rw e

module _ (l : Layout) (extents : List Extent) (vs : List Voice) where
  pub used_has : l.channels ≤ width → legal_voices l extents vs ≡ true → (i : ℕ) → i < l.channels → LegalVoice l.samples (voice_end extents (slice_index_or vs i blank)) (slice_index_or vs i blank)
  unfolding legal_voices legal_used_voice
  used_has room e i h = voice_has l.samples (voice_end extents (slice_index_or vs i blank)) (slice_index_or vs i blank) (rw (lt-ltb i l.channels h) at (every_at (legal_voice_at l extents vs) i width e (omega arith)))

  pub voices_has : l.channels ≤ width → length vs ≡ width → legal_voices l extents vs ≡ true → LegalVoices l extents vs
  unfolding legal_voices legal_used_voice
  voices_has room long e =
      record {
        long = long;
        used = used_has room e;
        rest = λ i w h. fresh_has (slice_index_or vs i blank) (rw (le-ltb i l.channels h) at (every_at (legal_voice_at l extents vs) i width e w));
      }

  pub voices_by : LegalVoices l extents vs → legal_voices l extents vs ≡ true
  unfolding legal_voices legal_used_voice
  voices_by h =
      every_by (legal_voice_at l extents vs) width
      (λ i w. either (λ (b : Bool). b ≡ true) (nat_lt i l.channels) _ _ (λ t. voice_by l.samples (voice_end extents (slice_index_or vs i blank)) (slice_index_or vs i blank) (h.used i (ltb-true i l.channels t)))
      (λ t. fresh_by (slice_index_or vs i blank) (h.rest i w (ltb-false i l.channels t))))
