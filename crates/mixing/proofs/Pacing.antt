-- The paces of the voices so far, and one more.
-- Assumes nothing.
use mathlib.Core.Path.{sym, subst}
use mathlib.Core.List.{List}
use Prim.Native.Nat.{ℕ, ◌+◌, ◌<◌}
use native.Mathlib.Omega.{arith}
use borrow.Author.Count.{below_more}
use lib.ListN.{length, set}
use lib.Seq.{get_or-set_same, get_or-set_other}
use Rattle.voice.specs.declared.Voice.{Voice}
use Rattle.voice_runs.specs.declared.line.Pace.{Pace}
use Rattle.voice_runs.specs.Runs.{Paced}
use Rattle.mixing.specs.Sides.{voice_in, no_pace, Pacing}

pub pacing_more : (vs : List Voice) (ps : List Pace) (i : ℕ) (p : Pace) → Pacing vs ps i → i < length ps → Paced (voice_in vs i).period p → Pacing vs (set ps i p) (i + 1)
pacing_more vs ps i p m h e =
    record {
      at =
          below_more _ _ (λ j l. subst (Paced (voice_in vs j).period) (sym (get_or-set_other ps i j p no_pace (omega arith))) (m.at j l))
          (subst (Paced (voice_in vs i).period) (sym (get_or-set_same ps i p no_pace h)) e);
    }
