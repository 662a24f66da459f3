-- The count is the largest number of ticks that fit (`count_fits`, `count_most`), and state and buffer are those of so many ticks: on any machine, and for the player.
-- Ticks at one tempo have exactly the frames that their time says (`exact_room`).
-- Assumes nothing.
use Rattle.std.specs.Prelude.{◌≡◌, ℕ, zero, suc, ◌*◌, ◌/◌, ◌≤◌, List, ◌∷◌, length, take, ℤ, refl}
use Rattle.std.proofs.Common.{sym, ap, ◌∙◌, arith}
use Rattle.common.specs.Limits.{least_tempo, greatest_tempo}
use Rattle.common.specs.LimitFacts.{Between}
use Rattle.ticks.specs.declared.Tick.{Tick}
use Rattle.ticks.specs.Play.{over, Mechanism, after_all, rendered, fit, after_fit, play_out}
use Rattle.reader.specs.File.{Module, channel_count}
use Rattle.sequencer.specs.declared.Song.{Song}
use Rattle.sequencer.specs.Songs.{tick_of}
use Rattle.sequencer.specs.Runs.{ticks_from, song_after}
use Rattle.sequencer.specs.RunLaws.{tick_tempo, length-ticks}
use Rattle.player.specs.declared.State.{State}
use Rattle.player.specs.Play.{soundings, ticks_of, machine_of, state_after, count_of, played_from, numbers_of}
use Rattle.ticks.specs.PlayLaws.{fit_le, fit_fits, fit_most, play_front}
use Rattle.voice.specs.Voice.{samples_of}
use Rattle.voice.specs.Frames.{frame_numbers}
use Rattle.machine.specs.declared.Machine.{Machine}
use Rattle.machine.specs.Lengths.{tick_frames}
use Rattle.machine.specs.Machine.{after, mechanism_of}
use Rattle.machine.specs.Drift.{AtTempo, no_drift}

-- how many cells the numbers of k ticks take
abbrev pub room_of : Module → ℕ → State → ℕ
room_of m k s = length (numbers_of m k s)

take-ticks : (m : Module) (k n : ℕ) (song : Song) (sounding : List ℕ) → k ≤ n → take k (ticks_from m n song sounding) ≡ ticks_from m k song sounding
unfolding ticks_from
take-ticks m zero n song sounding h = refl
take-ticks m (suc k) zero song sounding h = absurd (omega arith)
take-ticks m (suc k) (suc n) song sounding h = ap (λ (ts : List Tick). (tick_of m song sounding).tick ∷ ts) (take-ticks m k n _ _ (omega arith))

-- ---- on any machine
module _ {A W : Type 0} (k : Mechanism A W Tick) (m : Module) (s : State) (w : W) (n : ℕ) (out : List A) where
  -- how many of n ticks fit
  abbrev count_by : ℕ
  count_by = fit k (length out) w (ticks_of m n s)

  pub fit_within : count_by ≤ n
  fit_within = rw (length-ticks m n s.song (soundings s.voices)) at (fit_le k (length out) w (ticks_of m n s))

  first_ticks : take count_by (ticks_of m n s) ≡ ticks_of m count_by s
  first_ticks = take-ticks m count_by n s.song (soundings s.voices) fit_within

  pub first_fits : length (rendered k w (ticks_of m count_by s)) ≤ length out
  first_fits = rw first_ticks at (fit_fits k (length out) w (ticks_of m n s))

  pub first_most : (j : ℕ) → j ≤ n → length (rendered k w (ticks_of m j s)) ≤ length out → j ≤ count_by
  first_most j h l =
      fit_most k (length out) w (ticks_of m n s) j (rw (length-ticks m n s.song (soundings s.voices)) h) (rw (take-ticks m j n s.song (soundings s.voices) h) l)

  pub first_machine : after_fit k (length out) w (ticks_of m n s) ≡ after_all k w (ticks_of m count_by s)
  first_machine = rw first_ticks

  pub first_out : play_out k w (ticks_of m n s) out ≡ over (rendered k w (ticks_of m count_by s)) out
  unfolding play_out
  first_out = rw first_ticks

  pub first_front : (j : ℕ) → j ≤ count_by → take (length (rendered k w (ticks_of m j s))) (play_out k w (ticks_of m n s) out) ≡ rendered k w (ticks_of m j s)
  first_front j h = rw (← take-ticks m j n s.song (soundings s.voices) (omega (arith, fit_within))) (play_front k w (ticks_of m n s) out j h)

-- ---- the player's
-- the state after k ticks
abbrev pub ticked : Module → ℕ → State → State
ticked m k s = state_after m k s (after_all (mechanism_of m) (machine_of s) (ticks_of m k s))

-- ticks leave the machine at the song's tempo
ticks_tempo : (m : Module) (j : ℕ) (song : Song) (sounding : List ℕ) (w : Machine) → w.tempo ≡ song.time.tempo → (after_all (mechanism_of m) w (ticks_from m j song sounding)).tempo ≡ (song_after m j song sounding).time.tempo
unfolding song_after after_all ticks_from after
ticks_tempo m zero song sounding w e = e
ticks_tempo m (suc j) song sounding w e =
    let t = tick_of m song sounding in
    ticks_tempo m j t.song _ ((mechanism_of m).after w t.tick) (sym (tick_tempo m song sounding))

-- so that it is the machine of the state after them
pub machine_ticked : (m : Module) (k : ℕ) (s : State) → machine_of (ticked m k s) ≡ after_all (mechanism_of m) (machine_of s) (ticks_of m k s)
machine_ticked m k s =
    let w = after_all (mechanism_of m) (machine_of s) (ticks_of m k s) in
    ap (λ (tempo : ℕ). record { voices = w.voices; tempo = tempo; remainder = w.remainder }) (sym (ticks_tempo m k s.song (soundings s.voices) (machine_of s) refl))

-- where k ticks from remainder 0 are all at one tempo, they have exactly (120,000 × k) div tempo frames
pub exact_room : (m : Module) (k tempo : ℕ) (s : State) → s.remainder ≡ 0 → Between least_tempo greatest_tempo tempo → AtTempo tempo (ticks_of m k s) → room_of m k s ≡ frame_numbers * ((tick_frames * k) / tempo)
exact_room m k tempo s z b all =
    no_drift (channel_count m) (samples_of m) tempo b (ticks_of m k s) all (machine_of s) z
    ∙ ap (λ (n : ℕ). frame_numbers * ((tick_frames * n) / tempo)) (length-ticks m k s.song (soundings s.voices))

module _ (m : Module) (n : ℕ) (s : State) (out : List ℤ) where
  -- no more than n ticks are played
  pub count_le : count_of m n s out ≤ n
  count_le = fit_within (mechanism_of m) m s (machine_of s) n out

  -- their numbers fit the buffer
  pub count_fits : room_of m (count_of m n s out) s ≤ length out
  count_fits = first_fits (mechanism_of m) m s (machine_of s) n out

  -- and it is the largest such number: every k up to n whose numbers fit is at most the count
  pub count_most : (k : ℕ) → k ≤ n → room_of m k s ≤ length out → k ≤ count_of m n s out
  count_most = first_most (mechanism_of m) m s (machine_of s) n out

  -- the state after a play is that after as many ticks as the count
  pub played_state : (played_from m s n out).reply.state ≡ ticked m (count_of m n s out) s
  unfolding played_from
  played_state = rw (first_machine (mechanism_of m) m s (machine_of s) n out)

  -- and its buffer has their numbers in front, the rest as it stood
  pub played_out : (played_from m s n out).out ≡ over (numbers_of m (count_of m n s out) s) out
  unfolding played_from
  played_out = first_out (mechanism_of m) m s (machine_of s) n out

  -- so that it begins with the numbers of the first k ticks, for every k up to the count
  pub played_front : (k : ℕ) → k ≤ count_of m n s out → take (room_of m k s) (played_from m s n out).out ≡ numbers_of m k s
  unfolding played_from
  played_front = first_front (mechanism_of m) m s (machine_of s) n out
