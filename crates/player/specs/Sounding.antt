-- What holds of the call that says why a channel is quiet, for an accepted module, a legal state and a channel that is there: "it sounds", cause 6, is said exactly where
-- what the channel gives to the next frame is not 0 (`why_sounds`), and every cause is the first that holds (`why_first`).
-- Assumes nothing.
use Rattle.std.specs.Prelude.{◌≡◌, ℕ, suc, ◌-◌, ◌≤◌, true, T, List, ℤ, pos, ◌≢◌, nat_eq, slice_index_or, refl}
use Rattle.std.proofs.Math.Path.{ap}
use Rattle.std.proofs.Common.{subst, sym, ◌∙◌}
use borrow.Author.Tests.{lt-ltb, le-leb, eq-eqb}
use Rattle.laws.specs.Ranges.{first}
use Rattle.common.specs.Answers.{refusing}
use Rattle.common.specs.ByteLaws.{Bytes}
use Rattle.reader.specs.File.{module_of, channel_count}
use Rattle.reader.specs.Judge.{verdict}
use Rattle.reader.specs.Samples.{Sample, extents_of}
use Rattle.voice.specs.declared.quiet.Cause.{Cause}
use Rattle.voice.specs.declared.quiet.Cause.TheVariants.{NoSample, NoPeriod, Stopped, NoVolume, ZeroByte, Sounds}
use Rattle.voice.specs.declared.Voice.{Voice}
use Rattle.voice.specs.Voice.{samples_of}
use Rattle.voice.specs.Frames.{steps_of, gives_at, blank}
use Rattle.voice.specs.Modules.{samples_bytes}
use Rattle.voice.specs.Quiet.{cause_of, cause_number}
use Rattle.voice.specs.QuietLaws.{holds_at, first_cause, gives_sounds, sounds_gives}
use Rattle.player.specs.declared.State.{State}
use Rattle.player.specs.State.{legal_state}
use Rattle.player.specs.Quiet.{why_quiet_of, why_answer}

-- number 6 is that of "it sounds" alone
six_sounds : (c : Cause) → cause_number c ≡ 6 → c ≡ Sounds
six_sounds NoSample e = absurd (subst T (ap (nat_eq 1) e) tt)
six_sounds NoPeriod e = absurd (subst T (ap (nat_eq 2) e) tt)
six_sounds Stopped e = absurd (subst T (ap (nat_eq 3) e) tt)
six_sounds NoVolume e = absurd (subst T (ap (nat_eq 4) e) tt)
six_sounds ZeroByte e = absurd (subst T (ap (nat_eq 5) e) tt)
six_sounds Sounds e = refl

module _ (bytes : List ℕ) (s : State) (channel : ℕ) where
  -- the channel's voice, and its sample
  abbrev pub voice_in : Voice
  voice_in = slice_index_or s.voices (channel - 1) blank

  abbrev pub sample_in : Sample
  sample_in = samples_of (module_of bytes) voice_in.sample

  -- what it gives to the next frame, with no tick work done first
  abbrev pub contribution : ℤ
  contribution = gives_at sample_in voice_in 0

  module _ (e : (verdict (module_of bytes)).number ≡ 0) (l : legal_state (module_of bytes) s ≡ true) (low : 1 ≤ channel) (high : channel ≤ channel_count (module_of bytes)) where
    answered : (why_answer (why_quiet_of bytes s channel)).count ≡ cause_number (cause_of sample_in.bytes voice_in)
    unfolding why_quiet_of refusing
    answered = rw (eq-eqb (verdict (module_of bytes)).number 0 e, l, lt-ltb 0 channel low, le-leb channel (channel_count (module_of bytes)) high)

    -- the cause is the first that holds, and 6 where none does
    pub why_first : (why_answer (why_quiet_of bytes s channel)).count ≡ suc (first (holds_at sample_in.bytes voice_in) 5)
    why_first = answered ∙ first_cause sample_in.bytes voice_in

    -- it is 6 exactly where the contribution is not 0
    pub why_sounds : Bytes bytes → ((why_answer (why_quiet_of bytes s channel)).count ≡ 6 → contribution ≢ pos 0) × ((contribution ≢ pos 0) → (why_answer (why_quiet_of bytes s channel)).count ≡ 6)
    unfolding steps_of
    why_sounds b =
        let wide = samples_bytes (module_of bytes) (extents_of (module_of bytes)) b voice_in.sample in
        (λ six. sounds_gives sample_in.bytes wide voice_in (six_sounds _ (sym answered ∙ six)), λ h. answered ∙ ap cause_number (gives_sounds sample_in.bytes wide voice_in h))
