-- Laws of the definitions, in the form in which the code's tests leave their facts.
-- Assumes nothing.
use Prim.Native.Nat.{ℕ, min, ◌+◌, ◌-◌, ◌^◌, ◌≤◌, ◌<◌}
use mathlib.Core.Path.{◌≡◌, refl, sym, ap, ◌∙◌}
use mathlib.Core.Bool.{Bool, true, false, ◌&&◌}
use mathlib.Core.List.{List}
use native.Mathlib.Omega.{arith}
use lib.ListN.{length}
use lib.Dec.{leb, eqb}
use Rattle.std.proofs.lemmas.List.Edits.{sets, sets-eq}
use borrow.Rule.Slice.PartMut.{put_mid, Post-is}
use mathlib.Core.List.{append_assoc}
use borrow.Author.Tests.{le-leb, leb-true, eq-eqb, ne_eqb, eqb-true, eqb-false}
use Rattle.std.specs.Prelude.{Option, Some, Result}
use Rattle.std.specs.Result.{result_ok}
use Rattle.ticks.specs.declared.Command.{Command}
use Rattle.ticks.specs.declared.Tick.{Tick}
use Rattle.records.specs.Format.{version_place, version_of, first_record, Read, bad, short, read, read_record}
use Rattle.records.specs.Prefixes.{record_least, record_most, record_end}
use Rattle.arrival.specs.declared.Arrival.{Arrival}
use Rattle.arrival.specs.Arrive.{kept_bytes, taken, total, ended, keep}
use Rattle.arrival.specs.Ahead.{awaits, awaits_has, Found, laid}
use Rattle.decoder.specs.Results.{as_result, as_record}
use Rattle.decoder.specs.declared.reading.Record.{Record}
use Rattle.decoder.specs.declared.reading.Unread.{Unread}
use Rattle.arrival.specs.Opening.{shift_most}
use Rattle.arrival.specs.Ready.{Ready}

-- ---- the declared length
total_least : (p : Arrival) → version_place ≤ total p
unfolding total
total_least p = omega arith

pub ended_is : (p : Arrival) (m n : ℕ) → m ≡ min (taken p) (2 ^ 64 - 1) → n ≡ total p → n < 2 ^ 40 → eqb m n ≡ ended p
unfolding ended
ended_is p m n e q l = go (eqb m n) refl
  where
    off : (b : Bool) → false ≡ (b && false)
    off true = refl
    off false = refl

    go : (b : Bool) → eqb m n ≡ b → b ≡ (leb version_place (taken p) && eqb (taken p) (total p))
    go true t =
        let k = eqb-true m n t in
        let same : taken p ≡ total p = omega arith in
        rw (le-leb version_place (taken p) (omega (arith, total_least p)), eq-eqb (taken p) (total p) same)
    go false t =
        let k = eqb-false m n t in
        rw (ne_eqb (taken p) (total p) (λ s. k (omega arith))) (off (leb version_place (taken p)))

pub taken_all : (p : Arrival) → ended p ≡ true → total p ≡ p.place + p.kept
unfolding ended
taken_all p = go (leb version_place (taken p)) (eqb (taken p) (total p)) refl
  where
    go : (a b : Bool) → eqb (taken p) (total p) ≡ b → (a && b) ≡ true → total p ≡ taken p
    go true true q e = sym (eqb-true (taken p) (total p) q)
    go true false q e = cc
    go false b q e = cc

pub step_few : (p q : Arrival) (b : ℕ) → q ≡ keep p b → (p.number ≡ 0 → Ready p) → p.number ≡ 0 → total p < 2 ^ 40 → taken q < 2 ^ 41
step_few p q b e r n f = rw e (omega (arith, (r n).most))

-- ---- the kept bytes
pub count_room : (bytes : List ℕ) → length bytes ≡ kept_bytes → first_record bytes ≤ length bytes
count_room bytes e = omega (arith, shift_most (version_of bytes))

-- ---- a record that lies ahead
read_is : (r : Record) (y : Read Tick) → Some r ≡ result_ok (as_record y) → y ≡ read r.tick r.next
unfolding as_result
read_is r bad q = cc
read_is r short q = cc
read_is r (read t n) q = cc

module _ (last c : ℕ) (registers : List Command) (p : Arrival) (bs : List ℕ) (i : ℕ) where
  module _ (x : Result Record Unread) (e : x ≡ as_record (read_record last c bs i registers)) (o : Option Record) (f : o ≡ result_ok x) (r : Record) (g : o ≡ Some r) where
    its : read_record last c bs i registers ≡ read r.tick r.next
    its = read_is r (read_record last c bs i registers) (sym g ∙ f ∙ ap result_ok e)

    pub found_past : i ≤ r.next
    found_past = omega (arith, record_least last c bs i registers r.tick r.next its)

    pub found_ahead : awaits p ≡ true → leb (p.place + (r.next - i)) (total p) ≡ true → p.place + (r.next - i) < 2 ^ 40 → Found last c registers p bs i (Some r)
    found_ahead a t few =
        record {
          lies = record {
            awaited = a;
            is = its;
            low = omega (arith, record_least last c bs i registers r.tick r.next its);
            high = record_end last c bs i registers r.tick r.next its;
            short = omega (arith, record_most last c bs i registers r.tick r.next its);
            within = leb-true (p.place + (r.next - i)) (total p) t;
            few = few;
          };
        }

-- the record is whole then
pub awaited_more : (p : Arrival) → awaits p ≡ true → p.count < 2 ^ 32 → p.records + 1 < 2 ^ 32
awaited_more p a h = omega (arith, (awaits_has p a).more)

pub awaited_first : (p : Arrival) (n : ℕ) → awaits p ≡ true → n ≤ kept_bytes → p.kept + n ≤ kept_bytes
awaited_first p n a h = omega (arith, (awaits_has p a).first)

pub awaited_few : (p q : Arrival) (run : List ℕ) → awaits p ≡ true → p.place + length run < 2 ^ 41 → q ≡ laid p run → taken q < 2 ^ 41
awaited_few p q run a h e = rw e (omega (arith, (awaits_has p a).first))

pub run_kept : (k : ℕ) (xs run part : List ℕ) → part ≡ run → k + length run ≤ length xs → put_mid k (k + length run - k) xs part ≡ sets xs k run
run_kept k xs run part e h = rw (e, Post-is k (k + length run) xs (omega arith), ← append_assoc) (sym (sets-eq run xs k h))
