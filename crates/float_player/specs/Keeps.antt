-- What holds of a play as floats: on an accepted module, with a legal state and one side or two, it is accepted (`floats_accepted`); a refusal leaves state, record and
-- buffer; the state after it is that after as many ticks as the count, as 16-bit play has it (`floats_state`), so that it is legal (`floats_keep`); and its numbers are
-- those of the same frames, delivered (`floats_out`).
-- Assumes nothing.
use Rattle.std.specs.Prelude.{ℕ, ◌≤◌, ◌≡◌, true, false, length, Float}
use Rattle.std.proofs.Math.Path.{refl, ap}
use Rattle.std.proofs.Common.{◌∙◌}
use mathlib.Core.List.{List}
use Rattle.common.specs.Answers.{Outcome, refusing}
use Rattle.common.specs.AnswerLaws.{refusing_has, refused_keeps}
use Rattle.common.specs.ByteLaws.{Bytes}
use Rattle.common.specs.Limits.{width}
use Rattle.ticks.specs.Play.{over}
use Rattle.reader.specs.File.{Module, module_of, channel_count}
use Rattle.reader.specs.Judge.{verdict}
use Rattle.reader.specs.Layouts.{module_legal}
use Rattle.voice.specs.Voice.{samples_of}
use Rattle.machine.specs.Machine.{mechanism_of}
use Rattle.floats.specs.declared.Pair.{Pair}
use Rattle.floats.specs.Frames.{unasked, floats_of}
use Rattle.float_machine.specs.Machine.{FloatMachine}
use Rattle.float_machine.specs.Beside.{same_machine, same_numbers}
use Rattle.player.specs.declared.State.{State}
use Rattle.player.specs.State.{legal_state}
use Rattle.player.specs.Play.{ticks_of, state_after, numbers_of}
use Rattle.player.specs.Legal.{LegalState, state_has, state_by}
use Rattle.player.specs.Counts.{first_fits, first_most, first_machine, first_out, ticked}
use Rattle.player.specs.Keeps.{ticked_legal}
use Rattle.float_player.specs.declared.FloatReply.{FloatReply}
use Rattle.float_player.specs.Play.{floats_on, start_of, count_of, floats_from, play_floats_of, float_numbers_of}

-- ---- a refusal changes nothing
module _ (bytes : List ℕ) (s : State) (n sides : ℕ) (pair : Pair) (out : List Float) (h : (play_floats_of bytes s n sides pair out).reply.reply.answer.number ≡ 0 → ⊥) where
  -- a refused play leaves the state as it stood
  pub floats_refused_state : (play_floats_of bytes s n sides pair out).reply.reply.state ≡ s
  unfolding play_floats_of floats_from
  floats_refused_state = refused_keeps (λ (o : Outcome FloatReply Float). o.reply.reply.answer.number) (λ (o : Outcome FloatReply Float). o.reply.reply.state) s _ _ _ refl (λ number place. refl) h

  -- the record
  pub floats_refused_pair : (play_floats_of bytes s n sides pair out).reply.pair ≡ pair
  unfolding play_floats_of floats_from
  floats_refused_pair = refused_keeps (λ (o : Outcome FloatReply Float). o.reply.reply.answer.number) (λ (o : Outcome FloatReply Float). o.reply.pair) pair _ _ _ refl (λ number place. refl) h

  -- and the buffer
  pub floats_refused_out : (play_floats_of bytes s n sides pair out).out ≡ out
  unfolding play_floats_of floats_from
  floats_refused_out = refused_keeps (λ (o : Outcome FloatReply Float). o.reply.reply.answer.number) (λ (o : Outcome FloatReply Float). o.out) out _ _ _ refl (λ number place. refl) h

-- ---- an accepted module, a legal state, one side or two
pub floats_accepted : (bytes : List ℕ) (s : State) (n sides : ℕ) (pair : Pair) (out : List Float) → (verdict (module_of bytes)).number ≡ 0 → legal_state (module_of bytes) s ≡ true → unasked sides ≡ false
    → play_floats_of bytes s n sides pair out ≡ floats_from (module_of bytes) s n sides pair out
unfolding play_floats_of refusing
floats_accepted bytes s n sides pair out e l a = rw (e, l, a)

-- ---- beside 16-bit play
-- the numbers of k ticks are those of their frames, delivered
pub floats_numbers : (m : Module) (sides : ℕ) (s : State) (pair : Pair) (k : ℕ) → float_numbers_of m sides s pair k ≡ floats_of sides (numbers_of m k s)
floats_numbers m sides s pair k = same_numbers sides true (channel_count m) (samples_of m) (start_of s pair) (ticks_of m k s)

module _ (m : Module) (s : State) (n sides : ℕ) (pair : Pair) (out : List Float) where
  -- their count is the largest whose numbers fit
  pub floats_fit : length (floats_of sides (numbers_of m (count_of m sides n s pair out) s)) ≤ length out
  floats_fit = rw (← floats_numbers m sides s pair (count_of m sides n s pair out)) (first_fits (floats_on sides m) m s (start_of s pair) n out)

  pub floats_most : (k : ℕ) → k ≤ n → length (floats_of sides (numbers_of m k s)) ≤ length out → k ≤ count_of m sides n s pair out
  floats_most k h l = first_most (floats_on sides m) m s (start_of s pair) n out k h (rw (floats_numbers m sides s pair k) l)

  -- the buffer has them in front, the rest as it stood
  pub floats_out : (floats_from m s n sides pair out).out ≡ over (floats_of sides (numbers_of m (count_of m sides n s pair out) s)) out
  unfolding floats_from
  floats_out = first_out (floats_on sides m) m s (start_of s pair) n out ∙ ap (λ (xs : List Float). over xs out) (floats_numbers m sides s pair (count_of m sides n s pair out))

  -- the state is that after as many ticks
  pub floats_state : (floats_from m s n sides pair out).reply.reply.state ≡ ticked m (count_of m sides n s pair out) s
  unfolding floats_from
  floats_state =
      let k = count_of m sides n s pair out in
      ap (state_after m k s) (ap (λ (w : FloatMachine). w.machine) (first_machine (floats_on sides m) m s (start_of s pair) n out) ∙ same_machine sides (mechanism_of m) (start_of s pair) (ticks_of m k s))

-- a play keeps a state legal, whether it is accepted or refused
module _ (bytes : List ℕ) (e : (verdict (module_of bytes)).number ≡ 0) (b : Bytes bytes) (s : State) (long : length s.voices ≡ width) (l : legal_state (module_of bytes) s ≡ true) (n sides : ℕ) (pair : Pair) (out : List Float) where
  facts : LegalState (module_of bytes) s
  facts = state_has (module_of bytes) (module_legal bytes) s long l

  kept : LegalState (module_of bytes) (play_floats_of bytes s n sides pair out).reply.reply.state
  unfolding play_floats_of
  kept =
      refusing_has (λ (o : Outcome FloatReply Float). LegalState (module_of bytes) o.reply.reply.state) _ _ _ (λ number place. facts)
      (λ p. rw (floats_state (module_of bytes) s n sides pair out) (ticked_legal (module_of bytes) (module_legal bytes) e b s facts (count_of (module_of bytes) sides n s pair out)))

  pub floats_keep : legal_state (module_of bytes) (play_floats_of bytes s n sides pair out).reply.reply.state ≡ true
  floats_keep = state_by (module_of bytes) (module_legal bytes) _ kept
