-- The search for the next channel that sounds on a side, and what the channel has that was found.
-- Assumes nothing.
use mathlib.Core.Path.{◌≡◌}
use mathlib.Core.Bool.{true, false}
use mathlib.Core.List.{List}
use Prim.Native.Nat.{ℕ, ◌≤◌, ◌<◌}
use native.Mathlib.Nat.{le_refl}
use native.Mathlib.Omega.{arith}
use Rattle.std.specs.Prelude.{Option, None, Some, unwrap_or}
use Rattle.std.specs.Option.{MatchOption}
use Rattle.reader.specs.declared.Extent.{Extent}
use Rattle.voice.specs.declared.Voice.{Voice}
use Rattle.voice.specs.LegalFacts.{LoopInside}
use Rattle.voice.specs.Kept.{loud_index}
use Rattle.mixing.specs.Sides.{cut_of, Voiced, extent_at, voice_in, Sounding, sounds_of, Next}
use Rattle.mixing.proofs.Sides.{sounds_loud}

-- ---- a search for the next channel that sounds
pub seek_next : (vs : List Voice) (on c from : ℕ) (r : Option ℕ) → from ≤ c → MatchOption r ((k : ℕ) → from ≤ k → k < c → sounds_of on k (voice_in vs k) ≡ false) (λ i. (from ≤ i) × (i < c) × (sounds_of on i (voice_in vs i) ≡ true) × ((k : ℕ) → from ≤ k → k < i → sounds_of on k (voice_in vs k) ≡ false)) → Next vs on c from (unwrap_or r c)
seek_next vs on c from None h m = record { from = h; most = le_refl c; idle = m; there = λ k. absurd (omega arith) }
seek_next vs on c from (Some i) h m = record { from = m.0; most = omega (arith, m.1); idle = m.3; there = λ _. m.2 }

pub voiced_loop : (file : List ℕ) (x : Extent) (v : Voice) → Voiced file x v → LoopInside (cut_of file x)
voiced_loop file x v m = record { loop = m.loop }

-- a channel that sounds
pub voiced_there : (file : List ℕ) (xs : List Extent) (vs : List Voice) (c side i : ℕ) → Sounding file xs vs c → i < c → sounds_of side i (voice_in vs i) ≡ true → Voiced file (extent_at xs i) (voice_in vs i) × (0 < (extent_at xs i).end)
voiced_there file xs vs c side i s h e = (s.at i h, omega (arith, loud_index (extent_at xs i).end (voice_in vs i) (s.at i h).legal (sounds_loud side i (voice_in vs i) e)))
