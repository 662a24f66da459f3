-- A channel on a side whose voices before it have moved: its voice is still as it was.
-- Assumes nothing.
use mathlib.Core.Path.{◌≡◌, ap, ◌∙◌}
use mathlib.Core.List.{List}
use Prim.Native.Nat.{ℕ, ◌+◌, ◌≤◌, ◌<◌}
use native.Mathlib.Nat.{le_refl}
use native.Mathlib.Omega.{arith}
use Rattle.std.proofs.Common.{◌++◌, take, length, length-take, get_or-take}
use Rattle.std.proofs.lemmas.List.{places}
use lib.ListN.{set}
use lib.IntN.{ℤ, pos}
use Rattle.common.specs.ByteLaws.{Bytes}
use Rattle.runs.specs.Cells.{Holds, sum_at, Roomy}
use Rattle.reader.specs.declared.Extent.{Extent}
use Rattle.voice.specs.declared.Voice.{Voice}
use Rattle.voice.specs.Frames.{steps_of}
use Rattle.voice.specs.Range.{LegalSides}
use Rattle.voice_runs.specs.Runs.{one_at}
use Rattle.mixing.specs.Sides.{cut_of, Voiced, extent_at, voice_in, Sounding, Next, Siding}
use Rattle.mixing.proofs.Sides.{siding_more, siding_roomy}
use Rattle.mixing.proofs.Seeking.{voiced_there}

-- what has room among all cells has it among the first n
pub front_roomy : (from to : List ℤ) (n : ℕ) → Roomy from to n → Roomy from (take n to) (length (take n to))
front_roomy from to n r =
    record {
      bound = r.bound;
      small = λ j h. r.small j (omega (arith, length-take n to));
      room = λ j h. let l : j < n = omega (arith, length-take n to) in rw (get_or-take n to j (pos 0) l) (r.room j l);
    }

-- numbers added to the first n cells are so to all
pub front_sums : (to from new rest : List ℤ) (n : ℕ) → n ≤ length to → length new ≡ length (take n to) → Holds (sum_at (take n to) from) (length (take n to)) new → Holds (sum_at to from) n (new ++ rest)
unfolding sum_at
front_sums to from new rest n h e z j l = let k : j < length (take n to) = omega (arith, length-take n to) in grind (arith, places, e, z j k)

module _ {file : List ℕ} {xs : List Extent} {vs : List Voice} {times side c n : ℕ} {w : List Voice} {cells : List ℤ} {i : ℕ} (m : Siding file xs vs times side c n w cells i) (s : Sounding file xs vs c) (h : i < c) where
  same : voice_in w i ≡ voice_in vs i
  same = m.voices.rest i (le_refl i)

  pub further_voiced : Voiced file (extent_at xs i) (voice_in w i) × (0 < (extent_at xs i).end)
  further_voiced = rw same (voiced_there file xs vs c side i s h (m.there h))

  module _ (new : List ℤ) (z : Holds (one_at times (cut_of file (extent_at xs i)) (voice_in w i)) n new) where
    numbers : Holds (one_at times (cut_of file (extent_at xs i)) (voice_in vs i)) n new
    numbers = rw same at z

    pub further_roomy : LegalSides c times → Bytes file → Roomy new cells n
    further_roomy legal bytes = siding_roomy file xs vs side times c n w cells i m s legal bytes h new numbers

    pub further_more : (r : ℕ) (v : Voice) (sums : List ℤ) → Next (set w i v) side c (i + 1) r → v ≡ steps_of (cut_of file (extent_at xs i)) n (voice_in w i) → Holds (sum_at cells new) n sums → Siding file xs vs times side c n (set w i v) sums r
    further_more r v sums next e y = siding_more file xs vs side times c n w cells i m s.few h r v new sums next (e ∙ ap (steps_of (cut_of file (extent_at xs i)) n) same) numbers y
