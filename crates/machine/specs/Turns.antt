-- A loop that plays ticks one by one, each into the part of the buffer from `at` on, on any machine and from any source of ticks:
-- what is played, followed by what is left to play, is the whole.
-- Assumes nothing.
use Rattle.std.specs.Prelude.{ℕ, ◌+◌, ◌-◌, ◌≤◌, ◌<◌, ◌≡◌, Bool, List, ◌∷◌, length, take, drop}
use Rattle.std.proofs.Math.Path.{refl, ap}
use Rattle.std.proofs.Common.{sym, subst, ◌∙◌, take-append-drop}
use Rattle.std.proofs.Math.Bool.{true, false, cond}
use Rattle.std.proofs.Math.Dec.{T, ltb}
use borrow.Author.Tests.{ltb-true, ltb-false, le-ltb}
use borrow.Rule.Slice.PartMut.{put_mid}
use Rattle.laws.specs.Lent.{tail_long, tail_back}
use Rattle.ticks.specs.Play.{Mechanism, over}
use Rattle.ticks.specs.Playing.{Playing, Played}
use Rattle.ticks.proofs.PlayingOn.{playing_more, playing_full}
use Rattle.machine.specs.Turn.{Turned, turn, turn_of}

-- ---- what a turn says
-- with room for the tick it is played
pub turn_room : {A W S : Type 0} (m : Mechanism A W S) (w : W) (t : S) (out : List A) → length (m.frames w t) ≤ length out → turn_of m w t out ≡ turn false (length (m.frames w t)) (m.after w t) (over (m.frames w t) out)
unfolding turn_of
turn_room m w t out h = rw (le-ltb (length out) (length (m.frames w t)) h)

pub record Full {A W S : Type 0} (m : Mechanism A W S) (w : W) (t : S) (out : List A) (r : Turned A W) : Type 0 where
  pub small : length out < length (m.frames w t)
  pub cells : r.out ≡ out

pub record Fits {A W S : Type 0} (m : Mechanism A W S) (w : W) (t : S) (out : List A) (r : Turned A W) : Type 0 where
  pub room : length (m.frames w t) ≤ length out
  pub size : r.size ≡ length (m.frames w t)
  pub machine : r.machine ≡ m.after w t
  pub cells : r.out ≡ over (m.frames w t) out

module _ {A W S : Type 0} (m : Mechanism A W S) (w : W) (t : S) (out : List A) (r : Turned A W) (e : r ≡ turn_of m w t out) where
  pub turn_full : r.full ≡ true → Full m w t out r
  unfolding turn_of
  turn_full h = go (ltb (length out) (length (m.frames w t))) refl e
    where
      go : (b : Bool) → ltb (length out) (length (m.frames w t)) ≡ b → r ≡ cond b (turn true 0 w out) (turn false (length (m.frames w t)) (m.after w t) (over (m.frames w t) out)) → Full m w t out r
      go true l q = record { small = ltb-true (length out) (length (m.frames w t)) l; cells = ap (λ (x : Turned A W). x.out) q }
      go false l q = absurd (subst T (sym h ∙ ap (λ (x : Turned A W). x.full) q) tt)

  pub turn_fits : r.full ≡ false → Fits m w t out r
  unfolding turn_of
  turn_fits h = go (ltb (length out) (length (m.frames w t))) refl e
    where
      go : (b : Bool) → ltb (length out) (length (m.frames w t)) ≡ b → r ≡ cond b (turn true 0 w out) (turn false (length (m.frames w t)) (m.after w t) (over (m.frames w t) out)) → Fits m w t out r
      go true l q = absurd (subst T (sym (ap (λ (x : Turned A W). x.full) q) ∙ h) tt)
      go false l q =
          record {
            room = ltb-false (length out) (length (m.frames w t)) l;
            size = ap (λ (x : Turned A W). x.size) q;
            machine = ap (λ (x : Turned A W). x.machine) q;
            cells = ap (λ (x : Turned A W). x.out) q;
          }

  -- the machine after a turn that fits
  pub turn_machine : r.full ≡ false → r.machine ≡ m.after w t
  turn_machine h = (turn_fits h).machine

-- the machine after a turn that does not
pub turn_stays : {A W S : Type 0} (m : Mechanism A W S) (w : W) (t : S) (out : List A) (r : Turned A W) → r ≡ turn_of m w t out → r.full ≡ true → r.machine ≡ w
unfolding turn_of
turn_stays {A = A} {W = W} m w t out r e h = go (ltb (length out) (length (m.frames w t))) e
  where
    go : (b : Bool) → r ≡ cond b (turn true 0 w out) (turn false (length (m.frames w t)) (m.after w t) (over (m.frames w t) out)) → r.machine ≡ w
    go true q = ap (λ (x : Turned A W). x.machine) q
    go false q = absurd (subst T (sym h ∙ ap (λ (x : Turned A W). x.full) q) tt)

-- ---- a turn of the loop
module _ {A W S : Type 0} (m : Mechanism A W S) (w₀ : W) (ts₀ : List S) (out₀ : List A) (w : W) (ts : List S) (out : List A) (at i : ℕ) (p : Playing m w₀ ts₀ out₀ w ts out at i) (t : S) (rest : List S) (e : ts ≡ t ∷ rest) (r : Turned A W) (q : r ≡ turn_of m w t (take (length out - at) (drop at out))) where
  -- the next tick does not fit: the buffer stays
  pub stops_same : r.full ≡ true → put_mid at (length out - at) out r.out ≡ out
  stops_same h = tail_back (λ (xs : List A). xs) at out r.out (turn_full m w t (take (length out - at) (drop at out)) r q h).cells ∙ take-append-drop at out

  pub playing_stops : r.full ≡ true → Played m w₀ ts₀ out₀ w (put_mid at (length out - at) out r.out) i
  playing_stops h =
      let f = turn_full m w t (take (length out - at) (drop at out)) r q h in
      rw (stops_same h) (playing_full m w₀ ts₀ out₀ w ts out at i p t rest e (length (m.frames w t)) refl (rw (tail_long at out) at f.small))

  -- it fits
  pub playing_turns : r.full ≡ false → Playing m w₀ ts₀ out₀ r.machine rest (put_mid at (length out - at) out r.out) (at + r.size) (i + 1)
  playing_turns h =
      let f = turn_fits m w t (take (length out - at) (drop at out)) r q h in
      playing_more m w₀ ts₀ out₀ w ts out at i p t rest e r.size r.machine (put_mid at (length out - at) out r.out) f.size (rw f.size (rw (tail_long at out) at f.room)) f.machine
      (tail_back (over (m.frames w t)) at out r.out f.cells)
