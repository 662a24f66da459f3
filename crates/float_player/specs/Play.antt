-- Playing as floats: the ticks of the sequencer from a state, as many as fit, on the machine that plays floats.
-- Assumes nothing.
use Rattle.std.specs.Prelude.{ℕ, Result, Ok, Err, List, [], ◌∷◌, length, Float}
use Rattle.common.specs.Answers.{refused, accepted, Outcome, outcome, line, refusing, refusal}
use Rattle.common.specs.declared.refusals.Refusal.{Refusal}
use Rattle.ticks.specs.declared.Tick.{Tick}
use Rattle.ticks.specs.Play.{Mechanism, rendered, fit, after_fit, play_out}
use Rattle.reader.specs.File.{Module, module_of}
use Rattle.machine.specs.Machine.{mechanism_of}
use Rattle.floats.specs.declared.Pair.{Pair}
use Rattle.floats.specs.Frames.{unasked}
use Rattle.float_machine.specs.Machine.{FloatMachine}
use Rattle.float_machine.specs.Machine.{float_machine, floats_by}
use Rattle.player.specs.declared.State.{State}
use Rattle.player.specs.declared.Reply.{Reply}
use Rattle.player.specs.State.{state_lines, reply}
use Rattle.player.specs.Play.{ticks_of, machine_of, state_after}
use Rattle.float_player.specs.declared.FloatReply.{FloatReply}

-- answer and state, and the record after the call
abbrev pub float_reply : Reply → Pair → FloatReply
float_reply r pair = record { reply = r; pair = pair }

-- what a call came to: a refusal leaves state and record
abbrev pub floats_answered : State → Pair → Result FloatReply Refusal → FloatReply
floats_answered s pair (Ok r) = r
floats_answered s pair (Err e) = float_reply (reply (refusal e) s) pair

-- how a module's ticks are played as floats
abbrev pub floats_on : ℕ → Module → Mechanism Float FloatMachine Tick
floats_on sides m = floats_by sides (mechanism_of m)

-- a call begins with the state's machine and the record that it was given
abbrev pub start_of : State → Pair → FloatMachine
start_of s pair = float_machine (machine_of s) pair

-- the largest number of whole ticks, up to n, whose numbers fit
abbrev pub count_of : Module → ℕ → ℕ → State → Pair → List Float → ℕ
count_of m sides n s pair out = fit (floats_on sides m) (length out) (start_of s pair) (ticks_of m n s)

-- the machine after so many ticks
abbrev pub machine_after : Module → ℕ → ℕ → State → Pair → List Float → FloatMachine
machine_after m sides n s pair out = after_fit (floats_on sides m) (length out) (start_of s pair) (ticks_of m n s)

-- that count, the state after so many ticks, their last left and right with the tick in the call, and their numbers over the buffer, whose rest stays
unfoldable pub floats_from : Module → State → ℕ → ℕ → Pair → List Float → Outcome FloatReply Float
floats_from m s n sides pair out =
    outcome
    (float_reply (reply (accepted (count_of m sides n s pair out)) (state_after m (count_of m sides n s pair out) s (machine_after m sides n s pair out).machine)) (machine_after m sides n s pair out).last)
    (play_out (floats_on sides m) (start_of s pair) (ticks_of m n s) out)

-- the call: 24, asked sides not 1 or 2, comes after 14; a refusal leaves state, record and buffer
unfoldable pub play_floats_of : List ℕ → State → ℕ → ℕ → Pair → List Float → Outcome FloatReply Float
play_floats_of bytes s n sides pair out =
    refusing (λ number place. outcome (float_reply (reply (refused number place) s) pair) out) (floats_from (module_of bytes) s n sides pair out)
    (state_lines (module_of bytes) s (line 24 (unasked sides) 0 ∷ []))

-- ---- the sound
-- the numbers of k ticks from a state, for a page of so many sides
abbrev pub float_numbers_of : Module → ℕ → State → Pair → ℕ → List Float
float_numbers_of m sides s pair k = rendered (floats_on sides m) (start_of s pair) (ticks_of m k s)
