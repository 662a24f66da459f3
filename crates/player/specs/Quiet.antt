-- Why a channel is quiet: the cause that its voice has for the next frame, with no tick work done first.
-- Assumes nothing.
use Rattle.std.specs.Prelude.{ℕ, ◌-◌, not, ◌&&◌, List, [], ◌∷◌, nat_le, nat_lt, slice_index_or, Result, Ok, Err}
use Rattle.common.specs.Answers.{refused, accepted, Line, line, refusing, refusal}
use Rattle.common.specs.declared.Answer.{Answer}
use Rattle.common.specs.declared.refusals.Refusal.{Refusal}
use Rattle.reader.specs.File.{Module, module_of, channel_count}
use Rattle.voice.specs.declared.quiet.Cause.{Cause}
use Rattle.voice.specs.declared.Voice.{Voice}
use Rattle.voice.specs.Voice.{samples_of}
use Rattle.voice.specs.Frames.{blank}
use Rattle.voice.specs.Quiet.{cause_of, cause_number}
use Rattle.player.specs.declared.State.{State}
use Rattle.player.specs.State.{state_lines}

-- a voice's cause, by the bytes of its own sample
abbrev pub voice_cause : Module → Voice → Cause
voice_cause m v = cause_of (samples_of m v.sample).bytes v

-- 25: channel not 1 to the number of channels
abbrev pub channel_line : Module → ℕ → Line
channel_line m channel = line 25 (not (nat_lt 0 channel && nat_le channel (channel_count m))) 0

-- what the call gives: a cause, or a refusal's answer
abbrev pub Why : Type 0
Why = Result Cause Answer

abbrev pub Refused : Answer → Why
Refused answer = Err answer

abbrev pub Because : Cause → Why
Because cause = Ok cause

-- as it is returned
abbrev pub why : Result Cause Refusal → Why
why (Ok cause) = Because cause
why (Err e) = Refused (refusal e)

-- the call: nothing is written
unfoldable pub why_quiet_of : List ℕ → State → ℕ → Why
why_quiet_of bytes s channel =
    refusing (λ number place. Refused (refused number place)) (Because (voice_cause (module_of bytes) (slice_index_or s.voices (channel - 1) blank)))
    (state_lines (module_of bytes) s (channel_line (module_of bytes) channel ∷ []))

-- as an answer: the count is the cause's number
abbrev pub why_answer : Why → Answer
why_answer (Err answer) = answer
why_answer (Ok cause) = accepted (cause_number cause)
