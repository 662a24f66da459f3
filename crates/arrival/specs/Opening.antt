-- How far a stream has arrived, in facts: the bytes of a header or record that is open (`Opening`), and what is left after the header (`Rest`); what a
-- byte of a record does there, and what shows at the declared end.
-- Assumes nothing.
use Rattle.std.specs.Prelude.{ℕ, zero, suc, ◌+◌, ◌≤◌, ◌<◌, ◌≡◌, Bool, ◌&&◌, List, [], ◌∷◌, ◌++◌, length, get_or, drop, ltb}
use Rattle.std.proofs.Math.Path.{refl}
use Rattle.std.proofs.Common.{sym, ap, ◌∙◌, arith, length-set, length-append, length-drop, take-suc-set, get_or-drop}
use Rattle.std.proofs.Math.Bool.{true, false, not, cond}
use Rattle.std.proofs.Math.Dec.{leb, eqb}
use borrow.Author.Tests.{eq-eqb, ne_eqb, le-leb, lt-leb, lt-ltb, ltb-true}
use Rattle.common.specs.Answers.{refusing}
use Rattle.ticks.specs.declared.Command.{Command}
use Rattle.records.specs.Format.{version_place, counted_version, shift, read_record}
use Rattle.records.specs.Prefixes.{Part}
use Rattle.arrival.specs.declared.Arrival.{Arrival}
use Rattle.arrival.specs.Arrive.{kept_bytes, bytes_of, taken, total, ended, faulty, keep, end_shows, open_shows, holds, record_step, step}

-- ---- how far the stream s has arrived
-- xs of the header or record at a place are kept
pub record Opening (at : ℕ) (xs : List ℕ) (p : Arrival) : Type 0 where
  pub place : p.place ≡ at
  pub kept : p.kept ≡ length xs
  pub bytes : bytes_of p ≡ xs
  pub long : length p.bytes ≡ kept_bytes
  pub good : p.number ≡ 0

-- after the header n records are left of a stream so long, of this version
pub record Rest (size v at n : ℕ) (p : Arrival) : Type 0 where
  pub after : 0 < at
  pub follow : version_place + p.follow ≡ size
  pub count : p.records + n ≡ p.count
  pub version : p.version ≡ v

pub open_more : (at : ℕ) (xs : List ℕ) (p : Arrival) (y : ℕ) → length xs < kept_bytes → Opening at xs p → Opening at (xs ++ y ∷ []) (keep p y)
open_more at xs p y h o =
    record {
      place = o.place;
      kept = omega (arith, o.kept, length-append xs (y ∷ []));
      bytes = let z : p.kept + 1 ≡ suc p.kept = omega arith in rw z (take-suc-set p.bytes p.kept y (omega (arith, o.kept, o.long)) ∙ ap (λ (l : List ℕ). l ++ y ∷ []) o.bytes);
      long = length-set p.bytes p.kept y ∙ o.long;
      good = o.good;
    }

-- the bytes from a place on are a part of the stream
pub part_of : (s : List ℕ) (at : ℕ) (xs ys : List ℕ) → drop at s ≡ xs ++ ys → at ≤ length s → Part xs s at
part_of s at xs ys e h =
    record {
      inside = omega (arith, ap length e, length-append xs ys, length-drop at s);
      same = λ i l. front xs ys i l ∙ sym (ap (λ (z : List ℕ). get_or z i 0) e) ∙ get_or-drop at s i 0;
    }
  where
    front : (xs ys : List ℕ) (i : ℕ) → i < length xs → get_or xs i 0 ≡ get_or (xs ++ ys) i 0
    front [] ys i l = absurd (omega arith)
    front (x ∷ xs) ys zero l = refl
    front (x ∷ xs) ys (suc i) l = front xs ys i (omega arith)

-- ---- the header's length
pub shift_most : (v : ℕ) → shift v ≤ 1
unfolding shift
shift_most v = go (ltb v counted_version)
  where
    go : (b : Bool) → cond b 0 1 ≤ 1
    go true = omega arith
    go false = omega arith

-- ---- at the end or not
pub not-ended : (p : Arrival) → taken p < total p → ended p ≡ false
unfolding ended
not-ended p h = rw (ne_eqb (taken p) (total p) (λ q. omega arith)) (off (leb version_place (taken p)))
  where
    off : (b : Bool) → b && false ≡ false
    off true = refl
    off false = refl

pub is_ended : (p : Arrival) → version_place ≤ taken p → taken p ≡ total p → ended p ≡ true
unfolding ended
is_ended p h e = rw (le-leb version_place (taken p) h, eq-eqb (taken p) (total p) e)

-- after the header the declared length is the stream's
pub total_is : (size v at n : ℕ) (xs : List ℕ) (p : Arrival) → Opening at xs p → Rest size v at n p → total p ≡ size
unfolding total
total_is size v at n xs p o l =
    let z : eqb p.place 0 ≡ false = ne_eqb p.place 0 (λ q. omega (arith, o.place, l.after)) in
    rw z l.follow

module _ (last c : ℕ) (rs : List Command) (size v at n : ℕ) (xs : List ℕ) (p : Arrival) (o : Opening at xs p) (l : Rest size v at n p) where
  -- a byte of a record
  pub record_byte : (b : ℕ) → 0 < n → at + length xs < size → step last c rs p b ≡ record_step (keep p b) (read_record last c (bytes_of (keep p b)) 0 rs)
  unfolding step
  record_byte b m h =
      let a : not (eqb p.number 0) ≡ false = rw (eq-eqb p.number 0 o.good) in
      let e : ended p ≡ false = not-ended p (omega (arith, o.place, o.kept, total_is size v at n xs p o l)) in
      let d : eqb p.place 0 ≡ false = ne_eqb p.place 0 (λ q. omega (arith, o.place, l.after)) in
      let f : leb p.count p.records ≡ false = lt-leb p.count p.records (omega (arith, l.count)) in
      rw (a, e, d, f)

  -- a byte left over
  pub over_byte : (b : ℕ) → n ≡ 0 → at + length xs < size → step last c rs p b ≡ holds (faulty 23 p.place (keep p b))
  unfolding step
  over_byte b m h =
      let a : not (eqb p.number 0) ≡ false = rw (eq-eqb p.number 0 o.good) in
      let e : ended p ≡ false = not-ended p (omega (arith, o.place, o.kept, total_is size v at n xs p o l)) in
      let d : eqb p.place 0 ≡ false = ne_eqb p.place 0 (λ q. omega (arith, o.place, l.after)) in
      let f : leb p.count p.records ≡ true = le-leb p.count p.records (omega (arith, l.count)) in
      rw (a, e, d, f)

  pub open_quiet : at + length xs < size → open_shows p ≡ p
  unfolding open_shows refusing
  open_quiet h = rw (not-ended p (omega (arith, o.place, o.kept, total_is size v at n xs p o l)))

  pub open_over : version_place ≤ at → at + length xs ≡ size → open_shows p ≡ faulty 23 p.place p
  unfolding open_shows refusing
  open_over a h = rw (is_ended p (omega (arith, o.place)) (omega (arith, o.place, o.kept, total_is size v at n xs p o l)))

  pub end_quiet : (0 < n → at + length xs < size) → end_shows p ≡ p
  unfolding end_shows refusing
  end_quiet h = go (ltb p.records p.count) refl
    where
      off : (b : Bool) → cond (b && false) (faulty 23 p.place p) p ≡ p
      off true = refl
      off false = refl

      go : (b : Bool) → ltb p.records p.count ≡ b → cond (ended p && b) (faulty 23 p.place p) p ≡ p
      go true q =
          let m = ltb-true p.records p.count q in
          rw (not-ended p (omega (arith, o.place, o.kept, total_is size v at n xs p o l, h (omega (arith, l.count)))))
      go false q = off (ended p)

  pub end_missing : 0 < n → version_place ≤ at → at + length xs ≡ size → end_shows p ≡ faulty 23 p.place p
  unfolding end_shows refusing
  end_missing m a h =
      rw (is_ended p (omega (arith, o.place)) (omega (arith, o.place, o.kept, total_is size v at n xs p o l)), lt-ltb p.records p.count (omega (arith, l.count)))
