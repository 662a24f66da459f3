-- The board's rule beside the stream player's: from where each begins, the same ticks have the same frames (`same_heard`).
-- Assumes nothing.
use Rattle.std.specs.Prelude.{ℕ, ◌≡◌, Bool, eqb, ℤ}
use Rattle.std.proofs.Math.Path.{refl, ap, ap₂}
use Rattle.std.proofs.Common.{sym, ◌∙◌}
use Rattle.std.proofs.Math.Bool.{true, false, cond}
use mathlib.Core.List.{List, [], ◌∷◌, ◌++◌}
use Rattle.ticks.specs.declared.Tick.{Tick}
use Rattle.ticks.specs.Play.{rendered}
use Rattle.reader.specs.Samples.{Sample}
use Rattle.voice.specs.declared.Voice.{Voice}
use Rattle.voice.specs.Frames.{mixed, moved}
use Rattle.machine.specs.declared.Machine.{Machine}
use Rattle.machine.specs.Lengths.{carried_at, length_at, kept_at}
use Rattle.machine.specs.Machine.{fresh_machine, begins, tick_length, frames, after, mechanism}
use Rattle.feed.specs.Feed.{kept_under, begun, left, frames_under, after_under, under, fresh_board}

-- two machines whose voices are the same, and that begin every tick with the same remainder
pub record Same (keeps : Bool) (w x : Machine) : Type 0 where
  pub voices : (begun keeps w).voices ≡ x.voices
  pub begin : (t : Tick) → begins (begun keeps w) t ≡ begins x t

module _ (c : ℕ) (samples : ℕ → Sample) where
  -- a tick's frames, and the machine after it, go by the voices and the remainder that it begins with
  pub framed : (w x : Machine) (t : Tick) → w.voices ≡ x.voices → begins w t ≡ begins x t → frames c samples w t ≡ frames c samples x t
  unfolding frames tick_length
  framed w x t v b = ap₂ (λ (vs : List Voice) (r : ℕ). mixed c samples vs t.commands (length_at t.tempo r)) v b

  pub afterwards : (keeps : Bool) (w x : Machine) (t : Tick) → w.voices ≡ x.voices → begins w t ≡ begins x t → after keeps c samples w t ≡ after keeps c samples x t
  unfolding after tick_length
  afterwards keeps w x t v b = ap₂ (λ (vs : List Voice) (r : ℕ). record { voices = moved c samples vs t.commands (length_at t.tempo r); tempo = t.tempo; remainder = kept_at keeps t.tempo r }) v b

  same_after : (keeps : Bool) (w x : Machine) (t : Tick) → Same keeps w x → Same keeps (left keeps w (after keeps c samples (begun keeps w) t)) (after keeps c samples x t)
  unfolding left begun begins carried_at after kept_at
  same_after true w x t s =
      let e = afterwards true w x t s.voices (s.begin t) in
      record { voices = ap (λ (y : Machine). y.voices) e; begin = λ u. ap (λ (y : Machine). begins y u) e }
  same_after false w x t s =
      let e = afterwards false (record { voices = w.voices; tempo = w.tempo; remainder = 0 }) x t s.voices (s.begin t) in
      record { voices = ap (λ (y : Machine). y.voices) e; begin = λ u. none u }
    where
      pick : (b : Bool) → cond {A = ℕ} b 0 0 ≡ 0
      pick true = refl
      pick false = refl

      none : (u : Tick) → begins (record { voices = (after false c samples (record { voices = w.voices; tempo = w.tempo; remainder = 0 }) t).voices; tempo = w.tempo; remainder = 0 }) u ≡ begins (after false c samples x t) u
      none u = pick (eqb u.tempo w.tempo) ∙ sym (pick (eqb u.tempo t.tempo))

  pub same_ticks : (version : ℕ) (ts : List Tick) (w x : Machine) → Same (kept_under version) w x → rendered (under c samples version) w ts ≡ rendered (mechanism (kept_under version) c samples) x ts
  unfolding rendered frames_under after_under
  same_ticks version [] w x s = refl
  same_ticks version (t ∷ ts) w x s =
      ap₂ (λ (a b : List ℤ). a ++ b) (framed (begun (kept_under version) w) x t s.voices (s.begin t)) (same_ticks version ts _ _ (same_after (kept_under version) w x t s))

-- where the board begins, and where the stream player does
same_fresh : (keeps : Bool) → Same keeps fresh_board.machine fresh_machine
unfolding begun fresh_board fresh_machine begins carried_at
same_fresh keeps = go keeps
  where
    pick : (a b : Bool) → cond {A = ℕ} a 0 0 ≡ cond {A = ℕ} b 0 0
    pick true true = refl
    pick true false = refl
    pick false true = refl
    pick false false = refl

    go : (b : Bool) → Same b fresh_board.machine fresh_machine
    go true = record { voices = refl; begin = λ t. pick (eqb t.tempo 0) (eqb t.tempo 125) }
    go false = record { voices = refl; begin = λ t. pick (eqb t.tempo 0) (eqb t.tempo 125) }

pub same_heard : (c : ℕ) (samples : ℕ → Sample) (version : ℕ) (ts : List Tick) → rendered (under c samples version) fresh_board.machine ts ≡ rendered (mechanism (kept_under version) c samples) fresh_machine ts
same_heard c samples version ts = same_ticks c samples version ts fresh_board.machine fresh_machine (same_fresh (kept_under version))
