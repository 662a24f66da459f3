-- The voices told their commands, and whether all of them are silent.
-- Assumes nothing.
use mathlib.Core.Path.{◌≡◌, refl, sym, ap, subst, ◌∙◌}
use mathlib.Core.Bool.{Bool, true, false}
use mathlib.Core.List.{List, []}
use Prim.Native.Nat.{ℕ, ◌+◌, ◌≤◌, ◌<◌}
use native.Mathlib.Nat.{le_refl}
use native.Mathlib.Omega.{arith}
use lib.ListN.{length, get_or, set, take}
use Rattle.std.specs.Bool.{MatchBool}
use Rattle.std.specs.List.{AllWithin, HoldsAt}
use Rattle.std.proofs.Common.{get_or-take, length-take-le}
use Rattle.laws.specs.Ranges.{every}
use Rattle.laws.specs.Every.{every_by, every_at}
use Rattle.laws.specs.Each.{Parting, part_again}
use Rattle.common.specs.Limits.{width}
use Rattle.ticks.specs.declared.Command.{Command}
use Rattle.ticks.specs.Commands.{nothing}
use Rattle.reader.specs.declared.Extent.{Extent}
use Rattle.voice.specs.declared.Voice.{Voice}
use Rattle.voice.specs.Voice.{told_of, silent_of}
use Rattle.voice.specs.Modules.{sample_with}
use Rattle.voice.specs.Frames.{blank}
use Rattle.mixing.specs.Sides.{extent_at, voice_in, told_at, silent_at}

-- ---- telling: channel i's voice is still as it was
pub told_more : (xs : List Extent) (vs : List Voice) (cs : List Command) (c : ℕ) (w : List Voice) (i : ℕ) (v : Voice) → Parting (told_at xs vs cs) (voice_in vs) blank width w i → i < c → c ≤ width → v ≡ told_of (sample_with [] (extent_at xs i)) (get_or cs i nothing) (voice_in w i) → Parting (told_at xs vs cs) (voice_in vs) blank width (set w i v) (i + 1)
unfolding told_at
told_more xs vs cs c w i v m h few e = part_again _ blank width w (voice_in vs) i c v m h few (e ∙ ap (told_of (sample_with [] (extent_at xs i)) (get_or cs i nothing)) (m.rest i (le_refl i)))

-- ---- quiet: each of the first c voices is silent, or one is not
pub quiet_by : (vs : List Voice) (c : ℕ) (r : Bool) → c ≤ length vs → MatchBool r (AllWithin (λ v. silent_of v ≡ true) (take c vs) 0 (length (take c vs))) ((k : ℕ) × (k < length (take c vs)) × HoldsAt (λ v. silent_of v ≡ false) (take c vs) k) → r ≡ every (silent_at vs) c
quiet_by vs c true h m =
    sym (every_by (silent_at vs) c (λ i l. subst (λ v. silent_of v ≡ true) (get_or-take c vs i blank l) (m i blank (omega arith) (rw (length-take-le c vs h) l))))
quiet_by vs c false h m = go (every (silent_at vs) c) refl
  where
    few : m.0 < c
    few = rw (length-take-le c vs h) at m.1

    loud : silent_at vs m.0 ≡ false
    loud = subst (λ v. silent_of v ≡ false) (get_or-take c vs m.0 blank few) (m.2 blank)

    go : (t : Bool) → every (silent_at vs) c ≡ t → false ≡ t
    go true e = sym loud ∙ every_at (silent_at vs) m.0 c e few
    go false e = refl
