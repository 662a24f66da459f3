-- A loop that plays a list of ticks, one by one, on any machine: the next tick fits and is played, or ends the play.
-- Assumes nothing.
use Rattle.std.specs.Prelude.{ℕ, ◌+◌, ◌-◌, ◌≤◌, ◌<◌, ◌≡◌, List, ◌∷◌, ◌++◌, take}
use Rattle.std.proofs.Math.Path.{sym, ap}
use Rattle.std.proofs.Common.{◌∙◌, append_assoc, add-zero}
use native.Mathlib.Omega.{arith}
use Rattle.std.proofs.Math.ListN.{length, drop, length-drop, length-append, take-append-drop}
use Rattle.std.proofs.Math.Seq.{take_at, drop_at, length-take-le}
use Rattle.ticks.specs.Play.{over, Mechanism, after_all, after_fit}
use Rattle.ticks.specs.PlayLaws.{fit_more, fit_full, play_more, play_full}
use Rattle.ticks.specs.Playing.{Played, Playing}

module _ {A W T : Type 0} (m : Mechanism A W T) where
  module _ (w₀ : W) (ts₀ : List T) (out₀ : List A) where
    module _ (w : W) (ts : List T) (out : List A) (at i : ℕ) (p : Playing m w₀ ts₀ out₀ w ts out at i) where
      module _ (t : T) (rest : List T) (e : ts ≡ t ∷ rest) where
        -- the next tick, of n numbers, fits: they go to the cells from `at` on
        pub playing_more : (n : ℕ) (w' : W) (out' : List A) → n ≡ length (m.frames w t) → n ≤ length out - at → w' ≡ m.after w t → out' ≡ take at out ++ over (m.frames w t) (drop at out) → Playing m w₀ ts₀ out₀ w' rest out' (at + n) (i + 1)
        unfolding after_all
        playing_more n w' out' q h a o =
            let f = m.frames w t in
            let d = drop at out in
            let dl : length d ≡ length out - at = length-drop at out in
            let tl : length (take at out) ≡ at = length-take-le at out (omega (arith, p.low, p.long)) in
            let o' : out' ≡ (take at out ++ f) ++ drop n d = o ∙ rw (← q) (sym (append_assoc (take at out) f (drop n d))) in
            let pl : length (take at out ++ f) ≡ at + n = length-append (take at out) f ∙ omega arith in
            let s : length f ≤ length out₀ - at = omega (arith, p.long) in
            let r : length out₀ - at - length f ≡ length out₀ - (at + n) = omega arith in
            record {
              long = ap length o' ∙ length-append (take at out ++ f) (drop n d) ∙ omega (arith, length-drop n d, p.long, p.low);
              low = omega (arith, p.low, p.long);
              count = p.count ∙ rw (e, fit_more m (length out₀ - at) w t rest s, r, ← a) (omega arith);
              state = p.state ∙ rw (e, fit_more m (length out₀ - at) w t rest s, r) (ap (λ (x : W). after_fit m (length out₀ - (at + n)) x rest) (sym a));
              cells = p.cells ∙ rw (e, play_more m w t rest d (omega (arith, p.long)), ← q, ← a, o', take_at (take at out ++ f) (drop n d) (at + n) pl, drop_at (take at out ++ f) (drop n d) (at + n) pl, append_assoc);
            }

        -- the next tick, of n numbers, does not fit
        pub playing_full : (n : ℕ) → n ≡ length (m.frames w t) → length out - at < n → Played m w₀ ts₀ out₀ w out i
        unfolding after_all
        playing_full n q h =
            let dl : length (drop at out) ≡ length out - at = length-drop at out in
            let s : length out₀ - at < length (m.frames w t) = omega (arith, p.long) in
            record {
              count = sym (p.count ∙ rw (e, fit_full m (length out₀ - at) w t rest s, add-zero));
              state = sym (p.state ∙ rw (e, fit_full m (length out₀ - at) w t rest s));
              cells = sym (p.cells ∙ rw (e, play_full m w t rest (drop at out) (omega arith), take-append-drop at out));
            }
