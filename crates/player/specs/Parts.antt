-- Playing in two parts is playing at once (`play_add`), and no number leaves 16 bits (`numbers_in_16`).
-- Assumes nothing.
use Rattle.std.specs.Prelude.{◌≡◌, ℕ, ◌+◌, ◌<◌, ◌≤◌, true, List, ◌++◌, length, take, drop, ℤ, pos, slice_index_or}
use Rattle.std.proofs.Common.{sym, ◌∙◌, le_refl, length-drop}
use Rattle.std.proofs.Math.Path.{ap}
use Rattle.std.specs.Int.Signed.{mag}
use Rattle.common.specs.Answers.{accepted, Outcome, outcome}
use Rattle.common.specs.ByteLaws.{Bytes}
use Rattle.common.specs.Limits.{width}
use Rattle.reader.specs.File.{Module, module_of, sample_count, channel_count}
use Rattle.reader.specs.Accept.{accepted_has}
use Rattle.reader.specs.Judge.{verdict}
use Rattle.ticks.specs.PlayLaws.{after_append}
use Rattle.ticks.proofs.PlayParts.{fit_append, play_append}
use Rattle.reader.specs.Layouts.{LegalLayout, module_legal}
use Rattle.reader.specs.Samples.{extents_of}
use Rattle.sequencer.specs.RunLaws.{length-ticks, ticks_add, song_add, sounding_after, runs_ticks}
use Rattle.voice.specs.Voice.{samples_of}
use Rattle.voice.specs.Range.{half16}
use Rattle.voice.specs.Modules.{samples_bytes}
use Rattle.machine.specs.Machine.{mechanism_of}
use Rattle.machine.specs.Kept.{rendered_fit}
use Rattle.player.specs.declared.State.{State}
use Rattle.player.specs.declared.Reply.{Reply}
use Rattle.player.specs.State.{legal_state, reply}
use Rattle.player.specs.Play.{soundings, machine_of, ticks_of, count_of, played_from, play_of, numbers_of}
use Rattle.player.specs.Legal.{LegalState, state_has, state_by}
use Rattle.player.specs.Kept.{state_run}
use Rattle.player.specs.Counts.{ticked, machine_ticked, count_fits, played_state, played_front, room_of}
use Rattle.player.specs.Keeps.{ticks_soundings, ticked_legal, play_accepted}
use Rattle.machine.specs.Carries.{carries}

-- two plays as one: the counts added, the state of the second, and the first p cells of the first buffer followed by the second buffer
abbrev pub joined : ℕ → Outcome Reply ℤ → Outcome Reply ℤ → Outcome Reply ℤ
joined p o q = outcome (reply (accepted (o.reply.answer.count + q.reply.answer.count)) q.reply.state) (take p o.out ++ q.out)

outcome_is : (o : Outcome Reply ℤ) (k : ℕ) (s : State) (out : List ℤ) → o.reply.answer ≡ accepted k → o.reply.state ≡ s → o.out ≡ out → o ≡ outcome (reply (accepted k) s) out
outcome_is o k s out p q r = rw (← p, ← q, ← r)

module _ (bytes : List ℕ) (e : (verdict (module_of bytes)).number ≡ 0) (b : Bytes bytes) (s : State) (long : length s.voices ≡ width) (l : legal_state (module_of bytes) s ≡ true) where
  abbrev m : Module
  m = module_of bytes

  facts : LegalState m s
  facts = state_has m (module_legal bytes) s long l

  soundings_after : (a : ℕ) → soundings (ticked m a s).voices ≡ sounding_after m a s.song (soundings s.voices)
  soundings_after a = ticks_soundings (mechanism_of m) (λ w. w.voices) m (carries true m (module_legal bytes)) (module_legal bytes) e b a s.song (machine_of s) facts.voiced

  -- the ticks, the state after them, the count and the buffer of a + c ticks
  pub ticks_then : (a c : ℕ) → ticks_of m (a + c) s ≡ ticks_of m a s ++ ticks_of m c (ticked m a s)
  ticks_then a c = ticks_add m a c s.song (soundings s.voices) ∙ rw (soundings_after a)

  ticked_add : (a c : ℕ) → ticked m (a + c) s ≡ ticked m c (ticked m a s)
  ticked_add a c =
      rw (song_add m a c s.song (soundings s.voices), ticks_then a c, after_append (mechanism_of m) (machine_of s) (ticks_of m a s) (ticks_of m c (ticked m a s)), soundings_after a, machine_ticked m a s)

  module _ (a c : ℕ) (out : List ℤ) (all : count_of m a s out ≡ a) where
    all_fit : room_of m a s ≤ length out
    all_fit = rw all at (count_fits m a s out)

    count_add : count_of m (a + c) s out ≡ a + count_of m c (ticked m a s) (drop (room_of m a s) out)
    count_add =
        rw (ticks_then a c, machine_ticked m a s, length-drop (room_of m a s) out)
        (fit_append (mechanism_of m) (length out) (machine_of s) (ticks_of m a s) (ticks_of m c (ticked m a s)) all_fit
        ∙ rw (length-ticks m a s.song (soundings s.voices)))

    state_add : (played_from m s (a + c) out).reply.state ≡ (played_from m (ticked m a s) c (drop (room_of m a s) out)).reply.state
    state_add =
        played_state m (a + c) s out
        ∙ ap (λ (k : ℕ). ticked m k s) count_add
        ∙ ticked_add a (count_of m c (ticked m a s) (drop (room_of m a s) out))
        ∙ sym (played_state m c (ticked m a s) (drop (room_of m a s) out))

    out_add : (played_from m s (a + c) out).out ≡ take (room_of m a s) (played_from m s a out).out ++ (played_from m (ticked m a s) c (drop (room_of m a s) out)).out
    unfolding played_from
    out_add = rw (played_front m a s out a (rw all (le_refl a)), ticks_then a c, machine_ticked m a s) (play_append (mechanism_of m) (machine_of s) (ticks_of m a s) (ticks_of m c (ticked m a s)) out all_fit)

  -- a call that plays all of its a ticks, and then a call for c ticks on the state after it and the rest of the buffer, are one call for a + c ticks
  pub play_add : (a c : ℕ) (out : List ℤ) → (play_of bytes s a out).reply.answer.count ≡ a → play_of bytes s (a + c) out ≡ joined (room_of (module_of bytes) a s) (play_of bytes s a out) (play_of bytes (play_of bytes s a out).reply.state c (drop (room_of (module_of bytes) a s) out))
  unfolding played_from
  play_add a c out all =
      let first = play_accepted bytes e s l a out in
      let whole : count_of m a s out ≡ a = rw first at all in
      let next : (played_from m s a out).reply.state ≡ ticked m a s = played_state m a s out ∙ ap (λ (k : ℕ). ticked m k s) whole in
      let kept : legal_state m (ticked m a s) ≡ true = state_by m (module_legal bytes) _ (ticked_legal m (module_legal bytes) e b s facts a) in
      let rest = drop (room_of m a s) out in
      rw (first, play_accepted bytes e s l (a + c) out, next, play_accepted bytes e (ticked m a s) kept c rest)
      (outcome_is (played_from m s (a + c) out) _ _ _ (ap accepted (count_add a c out whole ∙ ap (λ (k : ℕ). k + count_of m c (ticked m a s) rest) (sym whole))) (state_add a c out whole) (out_add a c out whole))

-- ---- 16 bits
module _ (m : Module) (y : LegalLayout m.layout) (e : (verdict m).number ≡ 0) (b : Bytes m.bytes) where
  -- no number of any number of ticks leaves 16 bits signed
  pub numbers_in_16 : (s : State) → length s.voices ≡ width → legal_state m s ≡ true → (k j : ℕ) → mag (slice_index_or (numbers_of m k s) j (pos 0)) < half16
  numbers_in_16 s long l k =
      let run = state_run m y e b s.song s.voices (state_has m y s long l).voiced in
      rendered_fit true (sample_count m) (channel_count m) (samples_of m) y.channels (samples_bytes m (extents_of m) b) (machine_of s) (soundings s.voices) run.sounding.long (ticks_of m k s)
      (runs_ticks m (accepted_has m e) b y.channels k s.song (soundings s.voices) run)
