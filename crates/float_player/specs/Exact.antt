-- Every float that the float call delivers, and both floats of its record, are exact for the numbers that the 16-bit call plays (`floats_exact`).
-- Assumes nothing.
use Rattle.std.specs.Prelude.{ℕ, ◌≤◌, ◌≡◌, true, false, List, ℤ, length, take, Float}
use Rattle.std.proofs.Common.{sym, ap, ◌∙◌}
use Rattle.common.specs.Answers.{Outcome}
use Rattle.common.specs.ByteLaws.{Bytes}
use Rattle.common.specs.Limits.{width}
use Rattle.reader.specs.File.{Module, module_of, channel_count}
use Rattle.reader.specs.Judge.{verdict}
use Rattle.reader.specs.Layouts.{module_legal}
use Rattle.voice.specs.Voice.{samples_of}
use Rattle.floats.specs.declared.Pair.{Pair}
use Rattle.floats.specs.Frames.{unasked}
use Rattle.floats.specs.Delivered.{In16, ExactPlay}
use Rattle.float_machine.specs.Exact.{exact_play}
use Rattle.player.specs.declared.State.{State}
use Rattle.player.specs.declared.Reply.{Reply}
use Rattle.player.specs.State.{legal_state}
use Rattle.player.specs.Play.{ticks_of, played_from, play_of, numbers_of}
use Rattle.player.specs.Counts.{room_of, first_machine, first_out, played_front}
use Rattle.player.specs.Keeps.{play_accepted}
use Rattle.player.specs.Parts.{numbers_in_16}
use Rattle.float_player.specs.declared.FloatReply.{FloatReply}
use Rattle.float_player.specs.Play.{floats_on, start_of, count_of, floats_from, play_floats_of}
use Rattle.float_player.specs.Keeps.{floats_accepted}

-- a play as floats, beside the numbers of as many ticks
played_exact : (m : Module) (s : State) (n sides : ℕ) (pair : Pair) (out : List Float) → unasked sides ≡ false → In16 (numbers_of m (count_of m sides n s pair out) s)
    → ExactPlay sides (numbers_of m (count_of m sides n s pair out) s) pair (floats_from m s n sides pair out).reply.pair (floats_from m s n sides pair out).out
unfolding floats_from
played_exact m s n sides pair out a h =
    rw (first_machine (floats_on sides m) m s (start_of s pair) n out, first_out (floats_on sides m) m s (start_of s pair) n out)
    (exact_play true (channel_count m) (samples_of m) sides a (start_of s pair) (ticks_of m (count_of m sides n s pair out) s) h out)

-- a call for floats that plays k ticks, on an accepted module with a legal state and one side or two, and any 16-bit call from that state that plays k ticks or more: the
-- floats are exact for the numbers of its first k ticks, and so are the record's two for their last left and right
pub floats_exact : (bytes : List ℕ) → (verdict (module_of bytes)).number ≡ 0 → Bytes bytes → (s : State) → length s.voices ≡ width → legal_state (module_of bytes) s ≡ true
    → (n sides : ℕ) (pair : Pair) (out : List Float) → unasked sides ≡ false → (k : ℕ) → (play_floats_of bytes s n sides pair out).reply.reply.answer.count ≡ k
    → (asked : ℕ) (wide : List ℤ) → k ≤ (play_of bytes s asked wide).reply.answer.count
    → ExactPlay sides (take (room_of (module_of bytes) k s) (play_of bytes s asked wide).out) pair (play_floats_of bytes s n sides pair out).reply.pair (play_floats_of bytes s n sides pair out).out
unfolding floats_from played_from
floats_exact bytes e b s long l n sides pair out a k q asked wide h =
    let m = module_of bytes in
    let floats = floats_accepted bytes s n sides pair out e l a in
    let plays = play_accepted bytes e s l asked wide in
    let count : count_of m sides n s pair out ≡ k = sym (ap (λ (o : Outcome FloatReply Float). o.reply.reply.answer.count) floats) ∙ q in
    let enough : k ≤ (played_from m s asked wide).reply.answer.count = rw plays at h in
    let front : take (room_of m k s) (play_of bytes s asked wide).out ≡ numbers_of m k s = ap (λ (o : Outcome Reply ℤ). take (room_of m k s) o.out) plays ∙ played_front m asked s wide k enough in
    rw (front, floats, ← count) (played_exact m s n sides pair out a (numbers_in_16 m (module_legal bytes) e b s long l (count_of m sides n s pair out)))
