-- The loop that plays ticks on any way of sounding them: what is played, followed by what is left to play, is the whole.
-- Assumes nothing.
use Rattle.std.specs.Prelude.{ℕ, ◌+◌, ◌-◌, ◌^◌, ◌≤◌, ◌<◌, ◌≡◌, true, false, List, [], ◌∷◌, length, take, drop}
use Rattle.std.specs.Int.{w64}
use Rattle.std.proofs.Math.Path.{refl}
use Rattle.std.proofs.Common.{ap, ◌∙◌, arith, Fits}
use borrow.Rule.Slice.PartMut.{put_mid}
use Rattle.laws.specs.Lent.{tail_long}
use Rattle.ticks.specs.declared.Tick.{Tick}
use Rattle.ticks.specs.Playing.{Playing, Played, playing_none, playing_all}
use Rattle.reader.specs.Modules.{as_module}
use Rattle.voice.specs.Voice.{samples_of}
use Rattle.machine.specs.declared.Machine.{Machine}
use Rattle.machine.specs.Machine.{after}
use Rattle.machine.specs.Sounding.{Way, Due}
use Rattle.machine.specs.Turn.{turn, turn_of}
use Rattle.machine.specs.Turns.{turn_machine, turn_stays, turn_fits, playing_stops, playing_turns}
use Rattle.board.specs.Going.{Going, going_tempo, going_ready, going_more}

module _ {A W : Type 0} (y : Way A W) where
  -- i ticks of these are played on w₀ and into out₀, and ts are left
  pub record Turning (w₀ : W) (its : List Tick) (out₀ : List A) (w : W) (ts : List Tick) (out : List A) (at i : ℕ) : Type 0 where
    pub going : Going y.source (y.held w) ts
    pub few : i + length ts < 2 ^ 32
    pub play : Playing y.plays w₀ its out₀ w ts out at i

  pub turning_none : (w : W) (its : List Tick) (out : List A) → Going y.source (y.held w) its → length its < 2 ^ 32 → Turning w its out w its out 0 0
  turning_none w its out g f = record { going = g; few = omega arith; play = playing_none y.plays w its out }

  module _ {w₀ : W} {its : List Tick} {out₀ : List A} {w : W} {ts : List Tick} {out : List A} {at i : ℕ} (g : Turning w₀ its out₀ w ts out at i) where
    pub turning_within : at ≤ length out
    turning_within = omega (arith, g.play.long, g.play.low)

    -- no tick is left
    pub turned_all : ts ≡ [] → Played y.plays w₀ its out₀ w out i
    turned_all e = playing_all y.plays w₀ its out₀ w ts out at i g.play e

    module _ (t : Tick) (rest : List Tick) (e : ts ≡ t ∷ rest) where
      -- the next tick is due
      pub turning_due : Due y w t
      turning_due = record { ready = going_ready g.going t rest e; tempo = going_tempo g.going t rest e; below = g.going.below.0; slow = g.going.below.1 }

      pub turning_early : i < 4294967295
      turning_early = omega (arith, g.few, ap length e)

      -- it does not fit
      pub turned_full : (next : W) (part : List A) → turn true 0 next part ≡ turn_of y.plays w t (take (length out - at) (drop at out)) → Played y.plays w₀ its out₀ next (put_mid at (length out - at) out part) i
      turned_full next part q =
          rw (turn_stays y.plays w t (take (length out - at) (drop at out)) (turn true 0 next part) q refl)
          (playing_stops y.plays w₀ its out₀ w ts out at i g.play t rest e (turn true 0 next part) q refl)

      -- it fits
      module _ (size : ℕ) (next : W) (part : List A) (q : turn false size next part ≡ turn_of y.plays w t (take (length out - at) (drop at out))) where
        moved : y.held next ≡ after y.keeps y.source.layout.channels (samples_of (as_module y.source)) (y.held w) t
        moved = ap y.held (turn_machine y.plays w t (take (length out - at) (drop at out)) (turn false size next part) q refl) ∙ y.holds.moves w t

        -- the next tick's place is a number of the machine
        pub turning_next : length out₀ < 2 ^ 62 → Fits w64 (at + size)
        turning_next l =
            let f = turn_fits y.plays w t (take (length out - at) (drop at out)) (turn false size next part) q refl in
            record { fits = omega (arith, tail_long at out, turning_within, g.play.long, f.room, f.size) }

        pub turning_more : Turning w₀ its out₀ next rest (put_mid at (length out - at) out part) (at + size) (i + 1)
        turning_more =
            record {
              going = rw moved (going_more g.going t rest e y.keeps);
              few = omega (arith, g.few, ap length e);
              play = playing_turns y.plays w₀ its out₀ w ts out at i g.play t rest e (turn false size next part) q refl;
            }
