-- Playing on any machine: the ticks that are played fit (`fit_fits`), no larger number does (`fit_most`), and the buffer begins with their
-- numbers (`play_front`). What follows of them stands in proofs/: two lists one after the other (`PlayParts`), and the next tick of a loop.
-- Assumes nothing.
use Prim.Native.Nat.{ℕ, zero, suc, ◌+◌, ◌-◌, ◌≤◌, ◌<◌, zero-le, suc-le-suc}
use Rattle.std.specs.Prelude.{◌≡◌, take, leb}
use Rattle.std.proofs.Math.Path.{refl, sym, ap}
use Rattle.std.proofs.Common.{◌∙◌, drop-drop, take-add}
use mathlib.Core.List.{List, [], ◌∷◌, ◌++◌, append_assoc}
use native.Mathlib.Omega.{arith}
use Rattle.std.proofs.Math.ListN.{length, drop, length-drop, length-append}
use Rattle.std.proofs.Math.Seq.{take-append_seam}
use borrow.Author.Tests.{le-leb, lt-leb, leb-true}
use Rattle.laws.specs.Choice.{either}
use Rattle.ticks.specs.Play.{Mechanism, after_all, rendered, fit, play_out}

module _ {A W T : Type 0} (m : Mechanism A W T) where
  -- the ticks that are played fit
  pub fit_fits : (room : ℕ) (w : W) (ts : List T) → length (rendered m w (take (fit m room w ts) ts)) ≤ room
  unfolding rendered fit
  fit_fits room w [] = zero-le
  fit_fits room w (t ∷ ts) =
      let k = fit m (room - length (m.frames w t)) (m.after w t) ts in
      let rest = rendered m (m.after w t) (take k ts) in
      either (λ (n : ℕ). length (rendered m w (take n (t ∷ ts))) ≤ room) (leb (length (m.frames w t)) room) (suc k) 0
      (λ e. omega (arith, leb-true (length (m.frames w t)) room e, fit_fits (room - length (m.frames w t)) (m.after w t) ts, length-append (m.frames w t) rest)) (λ _. zero-le)

  -- and no larger number of the first ticks does
  pub fit_most : (room : ℕ) (w : W) (ts : List T) (k : ℕ) → k ≤ length ts → length (rendered m w (take k ts)) ≤ room → k ≤ fit m room w ts
  unfolding rendered fit
  fit_most room w ts zero h p = zero-le
  fit_most room w [] (suc k) h p = omega arith
  fit_most room w (t ∷ ts) (suc k) h p =
      let l : length (rendered m w (take (suc k) (t ∷ ts))) ≡ length (m.frames w t) + length (rendered m (m.after w t) (take k ts)) = length-append (m.frames w t) (rendered m (m.after w t) (take k ts)) in
      rw (le-leb (length (m.frames w t)) room (omega arith)) (suc-le-suc (fit_most (room - length (m.frames w t)) (m.after w t) ts k (omega arith) (omega arith)))

  pub fit_le : (room : ℕ) (w : W) (ts : List T) → fit m room w ts ≤ length ts
  unfolding fit
  fit_le room w [] = zero-le
  fit_le room w (t ∷ ts) = either (λ (k : ℕ). k ≤ suc (length ts)) (leb (length (m.frames w t)) room) _ _ (λ _. suc-le-suc (fit_le (room - length (m.frames w t)) (m.after w t) ts)) (λ _. zero-le)

  pub fit_none : (room : ℕ) (w : W) → fit m room w [] ≡ 0
  unfolding fit
  fit_none room w = refl

  pub fit_more : (room : ℕ) (w : W) (t : T) (ts : List T) → length (m.frames w t) ≤ room → fit m room w (t ∷ ts) ≡ suc (fit m (room - length (m.frames w t)) (m.after w t) ts)
  unfolding fit
  fit_more room w t ts h = rw (le-leb (length (m.frames w t)) room h)

  pub fit_full : (room : ℕ) (w : W) (t : T) (ts : List T) → room < length (m.frames w t) → fit m room w (t ∷ ts) ≡ 0
  unfolding fit
  fit_full room w t ts h = rw (lt-leb (length (m.frames w t)) room h)

  -- a list of ticks, and then another
  pub after_append : (w : W) (ss ts : List T) → after_all m w (ss ++ ts) ≡ after_all m (after_all m w ss) ts
  unfolding after_all
  after_append w [] ts = refl
  after_append w (s ∷ ss) ts = after_append (m.after w s) ss ts

  pub rendered_append : (w : W) (ss ts : List T) → rendered m w (ss ++ ts) ≡ rendered m w ss ++ rendered m (after_all m w ss) ts
  unfolding rendered after_all
  rendered_append w [] ts = refl
  rendered_append w (s ∷ ss) ts = ap (λ (xs : List A). m.frames w s ++ xs) (rendered_append (m.after w s) ss ts) ∙ sym (append_assoc (m.frames w s) (rendered m (m.after w s) ss) (rendered m (after_all m (m.after w s) ss) ts))

  -- the buffer begins with the numbers of the first j ticks, where at least so many fit
  pub play_front : (w : W) (ts : List T) (buffer : List A) (j : ℕ) → j ≤ fit m (length buffer) w ts → take (length (rendered m w (take j ts))) (play_out m w ts buffer) ≡ rendered m w (take j ts)
  unfolding play_out
  play_front w ts buffer j h =
      let n = fit m (length buffer) w ts in
      let q : n ≡ j + (n - j) = omega arith in
      let xs = rendered m w (take j ts) in
      let ys = rendered m (after_all m w (take j ts)) (take (n - j) (drop j ts)) in
      let r : rendered m w (take n ts) ≡ xs ++ ys = ap (λ (i : ℕ). rendered m w (take i ts)) q ∙ (ap (rendered m w) (take-add j (n - j) ts) ∙ rendered_append w (take j ts) (take (n - j) (drop j ts))) in
      rw (r, append_assoc) (take-append_seam xs _)

  pub play_none : (w : W) (buffer : List A) → play_out m w [] buffer ≡ buffer
  unfolding play_out rendered fit
  play_none w buffer = refl

  -- a tick that fits is played, and the next go into the rest
  pub play_more : (w : W) (t : T) (ts : List T) (buffer : List A) → length (m.frames w t) ≤ length buffer → play_out m w (t ∷ ts) buffer ≡ m.frames w t ++ play_out m (m.after w t) ts (drop (length (m.frames w t)) buffer)
  unfolding play_out rendered fit
  play_more w t ts buffer h =
      let n : length (drop (length (m.frames w t)) buffer) ≡ length buffer - length (m.frames w t) = length-drop (length (m.frames w t)) buffer in
      let rest = rendered m (m.after w t) (take (fit m (length buffer - length (m.frames w t)) (m.after w t) ts) ts) in
      let d : drop (length (m.frames w t ++ rest)) buffer ≡ drop (length rest) (drop (length (m.frames w t)) buffer) =
      ap (λ (k : ℕ). drop k buffer) (length-append (m.frames w t) rest) ∙ sym (drop-drop (length rest) (length (m.frames w t)) buffer) in
      rw (le-leb (length (m.frames w t)) (length buffer) h, n, d, append_assoc)

  -- one that does not ends the play
  pub play_full : (w : W) (t : T) (ts : List T) (buffer : List A) → length buffer < length (m.frames w t) → play_out m w (t ∷ ts) buffer ≡ buffer
  unfolding play_out rendered fit
  play_full w t ts buffer h = rw (lt-leb (length (m.frames w t)) (length buffer) h)
