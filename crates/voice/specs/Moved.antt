-- What is known of a number of frames and of the voices after them: how many numbers, the voices' samples and legality; and that they depend on the samples
-- that the commands name, and on no other.
-- Assumes nothing.
use Rattle.std.specs.Prelude.{◌≡◌, ℕ, zero, suc, ◌*◌, ◌<◌, ◌≤◌, cond, List, ◌∷◌, length, get_or, ℤ, pos, ◌+ℤ◌, ◌*ℤ◌, ◌==◌, slice_index_or, refl}
use Rattle.std.proofs.Common.{sym, ap₂, subst, ◌∙◌, arith}
use Rattle.std.proofs.Math.Path.{ap}
use Rattle.laws.specs.Each.{length-partly, get_or-first, get_or-other, same_partly}
use Rattle.common.specs.Limits.{width}
use Rattle.ticks.specs.declared.Command.{Command}
use Rattle.ticks.specs.Commands.{nothing}
use Rattle.voice.specs.LegalFacts.{LegalSound, LegalVoice, LegalVoices, LoopInside, Ready}
use Rattle.reader.specs.declared.Extent.{Extent}
use Rattle.reader.specs.File.{Module, sample_count, channel_count}
use Rattle.reader.specs.Samples.{Sample, no_extent}
use Rattle.voice.specs.declared.Voice.{Voice}
use Rattle.voice.specs.Voice.{told_of}
use Rattle.voice.specs.Modules.{samples_in}
use Rattle.voice.specs.Frames.{steps_of, gives_at, side_of, sum_of, scale_of, frame_numbers, frames_from, blank, sounding_at, voice_at, heard, moved_at, mixed, moved}
use Rattle.voice.specs.Legal.{voice_end}
use Rattle.voice.specs.Kept.{told_sample, steps_sample, sound_told, sound_steps}

-- ---- how many numbers
length-frames : (times : ℕ) (g : ℕ → ℕ → ℤ) (c k n : ℕ) → length (frames_from times g c k n) ≡ frame_numbers * n
unfolding frames_from
length-frames times g c k zero = omega arith
length-frames times g c k (suc n) = omega (arith, length-frames times g c (suc k) n)

pub length-mixed : (c : ℕ) (samples : ℕ → Sample) (vs : List Voice) (cs : List Command) (n : ℕ) → length (mixed c samples vs cs n) ≡ frame_numbers * n
unfolding mixed
length-mixed c samples vs cs n = length-frames (scale_of c) (heard samples vs cs) c 0 n

-- ---- one by one
-- a voice's sounding sample is the command's
moved_at_sample : (samples : ℕ → Sample) (vs : List Voice) (cs : List Command) (n i : ℕ) → (moved_at samples vs cs n i).sample ≡ (get_or cs i nothing).sample
moved_at_sample samples vs cs n i =
    steps_sample (sounding_at samples cs i) (voice_at samples vs cs i) n ∙ told_sample (sounding_at samples cs i) (slice_index_or cs i nothing) (slice_index_or vs i blank)

module _ (c : ℕ) (samples : ℕ → Sample) (vs : List Voice) (cs : List Command) (n : ℕ) where
  pub moved_length : length (moved c samples vs cs n) ≡ width
  unfolding moved
  moved_length = length-partly (moved_at samples vs cs n) c (λ i. get_or vs i blank) width

  module _ (i : ℕ) where
    moved_at_lem : c ≤ width → i < c → slice_index_or (moved c samples vs cs n) i blank ≡ moved_at samples vs cs n i
    unfolding moved
    moved_at_lem = get_or-first (moved_at samples vs cs n) c (λ j. get_or vs j blank) width i blank

    -- past the count a voice stays as it was
    pub moved_rest : i < width → c ≤ i → slice_index_or (moved c samples vs cs n) i blank ≡ slice_index_or vs i blank
    unfolding moved
    moved_rest = get_or-other (moved_at samples vs cs n) c (λ j. get_or vs j blank) width i blank

    pub moved_sample : c ≤ width → i < c → (get_or (moved c samples vs cs n) i blank).sample ≡ (get_or cs i nothing).sample
    moved_sample room h = ap (λ (v : Voice). v.sample) (moved_at_lem room h) ∙ moved_at_sample samples vs cs n i

-- ---- legality
legal_as : (extents : List Extent) (v w : Voice) (k : ℕ) {last : ℕ} → v ≡ w → w.sample ≡ k → k ≤ last → LegalSound (get_or extents k no_extent).end w → LegalVoice last (voice_end extents v) v
legal_as extents v w k e q h l = rw e (record { sample = rw q h; sound = subst (λ (j : ℕ). LegalSound (get_or extents j no_extent).end w) (sym q) l })

module _ (m : Module) (extents : List Extent) (vs : List Voice) (cs : List Command) (r : Ready m extents vs cs) where
  abbrev samples : ℕ → Sample
  samples = samples_in m extents

  module _ (i : ℕ) (h : i < channel_count m) where
    pub looping_at : LoopInside (sounding_at samples cs i)
    looping_at = record { loop = (r.inside (get_or cs i nothing).sample (r.commands i h).sample).loop }

    pub sound_at_lem : LegalSound (sounding_at samples cs i).end (voice_at samples vs cs i)
    sound_at_lem = sound_told (sounding_at samples cs i) looping_at (sample_count m) (voice_end extents (slice_index_or vs i blank)) (slice_index_or cs i nothing) (slice_index_or vs i blank) (r.voices.used i h).sound (r.commands i h) (λ e. rw e)

  -- frames keep voices legal
  pub moved_legal : channel_count m ≤ width → (n : ℕ) → LegalVoices m.layout extents (moved (channel_count m) samples vs cs n)
  moved_legal room n =
      record {
        long = moved_length (channel_count m) samples vs cs n;
        used =
            λ i h.
            legal_as extents _ _ _ (moved_at_lem (channel_count m) samples vs cs n i room h) (moved_at_sample samples vs cs n i) (r.commands i h).sample
            (sound_steps (sounding_at samples cs i) (looping_at i h) n (voice_at samples vs cs i) (sound_at_lem i h));
        rest = λ i w h. moved_rest (channel_count m) samples vs cs n i w h ∙ r.voices.rest i w h;
      }

-- ---- frames depend on the samples that the commands name, and on no other
sum_same : (g h : ℕ → ℤ) (s c : ℕ) → ((i : ℕ) → i < c → g i ≡ h i) → sum_of g s c ≡ sum_of h s c
unfolding sum_of
sum_same g h s zero e = refl
sum_same g h s (suc c) e = ap₂ (λ (x y : ℤ). x +ℤ cond (side_of c == s) y (pos 0)) (sum_same g h s c (λ i l. e i (omega arith))) (e c (omega arith))

pub frames_from_lem : (times : ℕ) (g h : ℕ → ℕ → ℤ) (c : ℕ) → ((k i : ℕ) → i < c → g k i ≡ h k i) → (k n : ℕ) → frames_from times g c k n ≡ frames_from times h c k n
unfolding frames_from
frames_from_lem times g h c e k zero = refl
frames_from_lem times g h c e k (suc n) =
    ap₂ ◌∷◌ (ap (λ (x : ℤ). x *ℤ pos times) (sum_same (g k) (h k) 0 c (e k)))
    (ap₂ ◌∷◌ (ap (λ (x : ℤ). x *ℤ pos times) (sum_same (g k) (h k) 1 c (e k))) (frames_from_lem times g h c e (suc k) n))

module _ (c : ℕ) (samples others : ℕ → Sample) (vs : List Voice) (cs : List Command) (same : (i : ℕ) → i < c → sounding_at samples cs i ≡ sounding_at others cs i) (n : ℕ) where
  pub mixed_same : mixed c samples vs cs n ≡ mixed c others vs cs n
  unfolding mixed
  mixed_same =
      frames_from_lem (scale_of c) (heard samples vs cs) (heard others vs cs) c
      (λ k i h. ap (λ (s : Sample). gives_at s (told_of s (slice_index_or cs i nothing) (slice_index_or vs i blank)) k) (same i h)) 0 n

  pub moved_same : moved c samples vs cs n ≡ moved c others vs cs n
  unfolding moved
  moved_same =
      same_partly (moved_at samples vs cs n) (moved_at others vs cs n) c (λ i. get_or vs i blank) width
      (λ i h. ap (λ (s : Sample). steps_of s n (told_of s (slice_index_or cs i nothing) (slice_index_or vs i blank))) (same i h))
