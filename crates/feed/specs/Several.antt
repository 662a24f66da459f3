-- Several ticks as one, on any machine: a loop may take them at once (`playing_several`), and what writes nothing and changes nothing may be left out
-- (`playing_idle`).
-- Assumes nothing.
use Rattle.std.specs.Prelude.{ℕ, ◌+◌, ◌-◌, ◌≤◌, ◌≡◌, refl, false, List, [], ◌∷◌, ◌++◌, length, take, drop}
use Rattle.std.proofs.Common.{sym, ap, ◌∙◌, append-nil, append_assoc, arith, length-drop, length-append, take-append-drop, take_at, drop_at, length-take-le}
use Rattle.std.proofs.Math.Seq.{take-append-add}
use borrow.Rule.Slice.PartMut.{put_mid}
use Rattle.laws.specs.Lent.{tail_long, tail_back}
use Rattle.ticks.specs.Play.{Mechanism, over, after_all, rendered, fit}
use Rattle.ticks.specs.PlayLaws.{after_append}
use Rattle.ticks.proofs.PlayParts.{fit_append, play_append}
use Rattle.ticks.specs.Playing.{Playing, Played, playing_all}
use Rattle.machine.specs.Turn.{Turned, turn_of}
use Rattle.machine.specs.Turns.{turn_fits}

module _ {A W T : Type 0} (m : Mechanism A W T) where
  -- the machine whose ticks are lists of ticks
  abbrev pub several : Mechanism A W (List T)
  several = record { frames = rendered m; after = after_all m }

  -- a tick alone
  pub several_one : (w : W) (t : T) (out : List A) → turn_of several w (t ∷ []) out ≡ turn_of m w t out
  unfolding turn_of rendered after_all
  several_one w t out = rw (append-nil (m.frames w t))

  module _ (w₀ : W) (ts₀ : List T) (out₀ : List A) (w : W) (ts : List T) (out : List A) (at i : ℕ) (p : Playing m w₀ ts₀ out₀ w ts out at i) where
    module _ (ss rest : List T) (e : ts ≡ ss ++ rest) where
      -- the next ticks, of n numbers, fit: they go to the cells from `at` on
      playing_lot : (n : ℕ) (w' : W) (out' : List A) → n ≡ length (rendered m w ss) → n ≤ length out - at → w' ≡ after_all m w ss → out' ≡ take at out ++ over (rendered m w ss) (drop at out)
          → Playing m w₀ ts₀ out₀ w' rest out' (at + n) (i + length ss)
      playing_lot n w' out' q h a o =
          let f = rendered m w ss in
          let d = drop at out in
          let dl : length d ≡ length out - at = length-drop at out in
          let tl : length (take at out) ≡ at = length-take-le at out (omega (arith, p.low, p.long)) in
          let o' : out' ≡ (take at out ++ f) ++ drop n d = o ∙ rw (← q) (sym (append_assoc (take at out) f (drop n d))) in
          let pl : length (take at out ++ f) ≡ at + n = length-append (take at out) f ∙ omega arith in
          let s : length f ≤ length out₀ - at = omega (arith, p.long) in
          let r : length out₀ - at - length f ≡ length out₀ - (at + n) = omega arith in
          let k : ℕ = fit m (length out₀ - (at + n)) (after_all m w ss) rest in
          let c : fit m (length out₀ - at) w ts ≡ length ss + k = rw (e, fit_append m (length out₀ - at) w ss rest s, r) in
          record {
            long = ap length o' ∙ length-append (take at out ++ f) (drop n d) ∙ omega (arith, length-drop n d, p.long, p.low);
            low = omega (arith, p.low, p.long);
            count = p.count ∙ rw (a) (omega (arith, c));
            state =
                p.state ∙ ap (λ (j : ℕ). after_all m w (take j ts)) c
                ∙ rw (e, take-append-add ss rest k, after_append m w ss (take k rest), a);
            cells =
                p.cells
                ∙ rw (e, play_append m w ss rest d (omega (arith, p.long)), ← q, ← a, o', take_at (take at out ++ f) (drop n d) (at + n) pl, drop_at (take at out ++ f) (drop n d) (at + n) pl, append_assoc);
          }

      -- a turn of the loop that takes them
      pub playing_several : (r : Turned A W) → r ≡ turn_of several w ss (take (length out - at) (drop at out)) → r.full ≡ false → Playing m w₀ ts₀ out₀ r.machine rest (put_mid at (length out - at) out r.out) (at + r.size) (i + length ss)
      playing_several r q h =
          let f = turn_fits several w ss (take (length out - at) (drop at out)) r q h in
          playing_lot r.size r.machine (put_mid at (length out - at) out r.out) f.size (rw f.size (rw (tail_long at out) at f.room)) f.machine
          (tail_back (over (rendered m w ss)) at out r.out f.cells)

    -- what is left writes nothing and changes nothing
    pub playing_idle : after_all m w ts ≡ w → rendered m w ts ≡ [] → Played m w₀ ts₀ out₀ w out (i + length ts)
    playing_idle a f =
        playing_all m w₀ ts₀ out₀ w [] out (at + 0) (i + length ts)
        (playing_lot ts [] (sym (append-nil ts)) 0 w out (sym (ap length f)) (omega arith) (sym a) (sym (take-append-drop at out) ∙ rw f)) refl
