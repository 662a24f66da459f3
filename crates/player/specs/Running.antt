-- The loop that plays a song's ticks, on any machine that carries the voices: what is played, followed by what is left to play, is the whole.
-- Assumes nothing.
use Rattle.std.specs.Prelude.{◌≡◌, ℕ, suc, ◌+◌, ◌-◌, ◌<◌, ◌≤◌, true, false, List, [], ◌∷◌, length, take, drop}
use Rattle.std.proofs.Math.Path.{sym, ap}
use Rattle.std.proofs.Common.{◌∙◌, add-zero}
use native.Mathlib.Omega.{arith}
use borrow.Rule.Slice.PartMut.{put_mid}
use Rattle.common.specs.ByteLaws.{Bytes}
use Rattle.ticks.specs.declared.Tick.{Tick}
use Rattle.ticks.specs.Play.{Mechanism, fit, after_fit, play_out}
use Rattle.ticks.specs.Playing.{Playing, Played, playing_none, playing_all}
use Rattle.reader.specs.File.{Module}
use Rattle.reader.specs.Judge.{verdict}
use Rattle.sequencer.specs.declared.Song.{Song}
use Rattle.sequencer.specs.Songs.{tick_of}
use Rattle.sequencer.specs.Runs.{sounding_after_tick, ticks_from, song_after}
use Rattle.voice.specs.declared.Voice.{Voice}
use Rattle.machine.specs.Turn.{Turned, turn_of}
use Rattle.machine.specs.Turns.{turn_machine, stops_same, playing_stops, playing_turns}
use Rattle.player.specs.declared.State.{State}
use Rattle.player.specs.Play.{soundings, ticks_of}
use Rattle.player.specs.Legal.{LegalVoiced}
use Rattle.player.specs.Kept.{tick_kept, after_soundings}
use Rattle.reader.specs.Layouts.{LegalLayout}
use Rattle.machine.specs.Carries.{Carries}

-- ---- the ticks that are left
next_ticks : (m : Module) (n i : ℕ) (song : Song) (k : List ℕ) → i < n → ticks_from m (n - i) song k ≡ (tick_of m song k).tick ∷ ticks_from m (n - (i + 1)) (tick_of m song k).song (sounding_after_tick m song k)
unfolding ticks_from
next_ticks m n i song k l = let e : n - i ≡ suc (n - (i + 1)) = omega arith in rw e

no_ticks : (m : Module) (n i : ℕ) (song : Song) (k : List ℕ) → n ≤ i → ticks_from m (n - i) song k ≡ []
unfolding ticks_from
no_ticks m n i song k l = let e : n - i ≡ 0 = omega arith in rw e

module _ {A W : Type 0} (k : Mechanism A W Tick) (voices_of : W → List Voice) (m : Module) where
  -- i ticks of n are played from s₀, on w₀ and into out₀; the song, the machine and the buffer are these, and the next tick begins at `at`
  pub record Running (s₀ : State) (w₀ : W) (n : ℕ) (out₀ : List A) (song : Song) (w : W) (out : List A) (at i : ℕ) : Type 0 where
    pub layout : LegalLayout m.layout
    pub judge : (verdict m).number ≡ 0
    pub bytes : Bytes m.bytes
    pub carries : Carries k voices_of m
    pub legal : LegalVoiced m song (voices_of w)
    pub low : i ≤ n
    pub there : (j : ℕ) → song_after m (i + j) s₀.song (soundings s₀.voices) ≡ song_after m j song (soundings (voices_of w))
    pub playing : Playing k w₀ (ticks_of m n s₀) out₀ w (ticks_from m (n - i) song (soundings (voices_of w))) out at i

  -- the play is over: how many ticks were played, the song, the machine and the buffer after them
  pub record Over (s₀ : State) (w₀ : W) (n : ℕ) (out₀ : List A) (song : Song) (w : W) (out : List A) (i : ℕ) : Type 0 where
    pub count : i ≡ fit k (length out₀) w₀ (ticks_of m n s₀)
    pub tune : song ≡ song_after m i s₀.song (soundings s₀.voices)
    pub machine : w ≡ after_fit k (length out₀) w₀ (ticks_of m n s₀)
    pub cells : out ≡ play_out k w₀ (ticks_of m n s₀) out₀

  pub running_none : (s₀ : State) (w₀ : W) (n : ℕ) (out₀ : List A) → LegalLayout m.layout → (verdict m).number ≡ 0 → Bytes m.bytes → Carries k voices_of m → LegalVoiced m s₀.song (voices_of w₀) → voices_of w₀ ≡ s₀.voices
      → Running s₀ w₀ n out₀ s₀.song w₀ out₀ 0 0
  running_none s₀ w₀ n out₀ y e b c l v =
      let z : n - 0 ≡ n = omega arith in
      record {
        layout = y;
        judge = e;
        bytes = b;
        carries = c;
        legal = l;
        low = omega arith;
        there = λ j. let q : 0 + j ≡ j = omega arith in rw (q, v);
        playing = rw (z, v) (playing_none k w₀ (ticks_of m n s₀) out₀);
      }

  module _ {s₀ : State} {w₀ : W} {n : ℕ} {out₀ : List A} {song : Song} {w : W} {out : List A} {at i : ℕ} (g : Running s₀ w₀ n out₀ song w out at i) where
    over_by : (end : List A) → Played k w₀ (ticks_of m n s₀) out₀ w end i → Over s₀ w₀ n out₀ song w end i
    unfolding song_after
    over_by end p =
        record {
          count = p.count;
          tune = sym (g.there 0) ∙ ap (λ (j : ℕ). song_after m j s₀.song (soundings s₀.voices)) (add-zero i);
          machine = p.state;
          cells = p.cells;
        }

    -- all ticks are played
    pub over_all : n ≤ i → Over s₀ w₀ n out₀ song w out i
    over_all h = over_by out (playing_all k w₀ (ticks_of m n s₀) out₀ w _ out at i g.playing (no_ticks m n i song (soundings (voices_of w)) h))

    module _ (h : i < n) (r : Turned A W) (q : r ≡ turn_of k w (tick_of m song (soundings (voices_of w))).tick (take (length out - at) (drop at out))) where
      abbrev t : Tick
      t = (tick_of m song (soundings (voices_of w))).tick

      -- the next does not fit
      pub over_full : r.full ≡ true → Over s₀ w₀ n out₀ song w (put_mid at (length out - at) out r.out) i
      over_full f = over_by (put_mid at (length out - at) out r.out) (playing_stops k w₀ (ticks_of m n s₀) out₀ w _ out at i g.playing t _ (next_ticks m n i song (soundings (voices_of w)) h) r q f)

      pub full_long : r.full ≡ true → length (put_mid at (length out - at) out r.out) ≡ length out₀
      full_long f = ap length (stops_same k w₀ (ticks_of m n s₀) out₀ w _ out at i g.playing t _ (next_ticks m n i song (soundings (voices_of w)) h) r q f) ∙ g.playing.long

      -- it fits
      pub running_more : r.full ≡ false → Running s₀ w₀ n out₀ (tick_of m song (soundings (voices_of w))).song r.machine (put_mid at (length out - at) out r.out) (at + r.size) (i + 1)
      unfolding song_after
      running_more f =
          let next = next_ticks m n i song (soundings (voices_of w)) h in
          let v : r.machine ≡ k.after w t = turn_machine k w t (take (length out - at) (drop at out)) r q f in
          let heard = after_soundings k voices_of m g.carries g.layout g.judge g.bytes song w g.legal in
          let turns = playing_turns k w₀ (ticks_of m n s₀) out₀ w _ out at i g.playing t _ next r q f in
          rw v
          (record {
            layout = g.layout;
            judge = g.judge;
            bytes = g.bytes;
            carries = g.carries;
            legal = tick_kept k voices_of m g.carries g.layout g.judge g.bytes song w g.legal;
            low = omega arith;
            there = λ j. let e : i + 1 + j ≡ i + suc j = omega arith in rw (e, heard) (g.there (suc j));
            playing = rw heard (rw v at turns);
          })
