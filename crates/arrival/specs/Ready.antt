-- What is known of an arrival without a fault: its lengths (`Ready`). A legal one has them, and a byte that shows no fault keeps them.
-- Assumes nothing.
use Rattle.std.specs.Prelude.{ℕ, ◌+◌, ◌≤◌, ◌<◌, ◌≡◌, Bool, not, cond, ◌&&◌, ◌||◌, List, get_or, set, ltb}
use Rattle.std.proofs.Math.Path.{refl}
use Rattle.std.proofs.Common.{sym, ap, ◌∙◌, arith, get_or-set_other}
use Rattle.std.proofs.Math.Bool.{true, false}
use Rattle.std.proofs.Math.ListN.{length, length-set, length-take}
use Rattle.std.proofs.Math.Seq.{length-take-le}
use Rattle.std.proofs.Math.Dec.{leb, eqb}
use borrow.Author.Tests.{eq-eqb, ne_eqb, le-leb, eqb-true, eqb-false, leb-true, leb-false}
use Rattle.laws.specs.Every.{first_of, second_of}
use Rattle.common.specs.Limits.{width}
use Rattle.common.specs.Bytes.{four_at}
use Rattle.common.specs.Answers.{refusing}
use Rattle.ticks.specs.declared.Command.{Command}
use Rattle.ticks.specs.declared.Tick.{Tick}
use Rattle.records.specs.Format.{version_place, least_place, known_version, version_of, first_record, Read, bad, short, read, read_record}
use Rattle.records.specs.Prefixes.{short_most}
use Rattle.arrival.specs.declared.Arrival.{Arrival}
use Rattle.arrival.specs.Arrive.{kept_bytes, bytes_of, taken, heading, total, ended, shown, faulty, keep, headed, played, unknown, other, header_shows, end_shows, open_shows, holds, plays, header_step, record_step, step, stated_channels, no_state, record_shows, rest_shows, shows, keeps, kept_fault, most_records, legal_arrival}
use Rattle.arrival.specs.Opening.{shift_most}
use Rattle.arrival.specs.Cuts.{arrival_of, step_takes, end_unshown, open_unshown, header_unshown}

pub record Ready (p : Arrival) : Type 0 where
  pub room : p.kept < kept_bytes
  pub head : p.place ≡ 0 → p.kept < first_record p.bytes
  pub most : taken p ≤ total p

-- ---- the header
-- a byte more that does not close it
pub head_more : (p : Arrival) (b : ℕ) → p.kept < first_record p.bytes → (p.kept + 1 ≡ first_record (keep p b).bytes → ⊥) → p.kept + 1 < first_record (keep p b).bytes
head_more p b h n = go (eqb p.kept version_place) refl
  where
    go : (x : Bool) → eqb p.kept version_place ≡ x → p.kept + 1 < first_record (keep p b).bytes
    go true e = omega (arith, eqb-true p.kept version_place e)
    go false e =
        let k = eqb-false p.kept version_place e in
        let same : first_record (keep p b).bytes ≡ first_record p.bytes = rw (get_or-set_other p.bytes p.kept version_place b 0 (λ q. k (sym q))) in
        omega (arith, n, same)

-- ---- the declared length
-- a byte more, past the first number
total_keep : (p : Arrival) (b : ℕ) → version_place ≤ p.kept → total (keep p b) ≡ total p
unfolding total four_at
total_keep p b h =
    let g : (i : ℕ) → i < version_place → get_or (set p.bytes p.kept b) i 0 ≡ get_or p.bytes i 0 = λ i l. get_or-set_other p.bytes p.kept i b 0 (λ q. omega arith) in
    rw (g 0 (omega arith), g (0 + 1) (omega arith), g (0 + 2) (omega arith), g (0 + 3) (omega arith))

pub total_past : (p : Arrival) (b : ℕ) → (p.place ≡ 0 → ⊥) → total (keep p b) ≡ total p
unfolding total
total_past p b h = let z = ne_eqb p.place 0 h in rw z

not_end : (p : Arrival) → ended p ≡ false → version_place ≤ taken p → taken p ≡ total p → ⊥
unfolding ended
not_end p e h q = absurd (eqb-false (taken p) (total p) (rw (le-leb version_place (taken p) h) at e) q)

total_least : (p : Arrival) → version_place ≤ total p
unfolding total
total_least p = omega arith

-- a byte more, before the end: the bytes are no more than declared
pub keep_most : (p : Arrival) (b : ℕ) → taken p ≤ total p → ended p ≡ false → taken (keep p b) ≤ total (keep p b)
keep_most p b m e = go (eqb p.place 0) refl (leb version_place (taken p)) refl
  where
    go : (z : Bool) → eqb p.place 0 ≡ z → (y : Bool) → leb version_place (taken p) ≡ y → taken (keep p b) ≤ total (keep p b)
    go z x false y = omega (arith, leb-false version_place (taken p) y, total_least (keep p b))
    go true x true y =
        let l = leb-true version_place (taken p) y in
        let n : taken p ≡ total p → ⊥ = not_end p e l in
        omega (arith, eqb-true p.place 0 x, total_keep p b (omega (arith, eqb-true p.place 0 x)), n)
    go false x true y =
        let l = leb-true version_place (taken p) y in
        let n : taken p ≡ total p → ⊥ = not_end p e l in
        omega (arith, total_past p b (eqb-false p.place 0 x), n)

pub headed_most : (p : Arrival) → p.place ≡ 0 → 0 < p.kept → taken p ≤ total p → taken (headed p) ≤ total (headed p)
unfolding total
headed_most p z k m =
    let h : eqb p.place 0 ≡ true = eq-eqb p.place 0 z in
    let n : taken p ≤ version_place + four_at p.bytes 0 = rw h at m in
    let y : eqb (taken p) 0 ≡ false = ne_eqb (taken p) 0 (λ q. omega arith) in
    rw y (omega arith)

pub played_most : (p : Arrival) → (p.place ≡ 0 → ⊥) → taken p ≤ total p → taken (played p) ≤ total (played p)
unfolding total
played_most p z m =
    let h : eqb p.place 0 ≡ false = ne_eqb p.place 0 z in
    let y : eqb (taken p) 0 ≡ false = ne_eqb (taken p) 0 (λ q. z (omega arith)) in
    let n : taken p ≤ version_place + p.follow = rw h at m in
    rw y (omega arith)

-- ---- a byte that shows no fault
module _ (last c : ℕ) (few : c ≤ width) (rs : List Command) (p : Arrival) (b : ℕ) (long : length p.bytes ≡ kept_bytes) (r : Ready p) where
  header_ready : p.place ≡ 0 → ended p ≡ false → (header_step c (keep p b)).number ≡ 0 → Ready (header_step c (keep p b))
  unfolding header_step
  header_ready z e q = go (eqb (p.kept + 1) (first_record (keep p b).bytes)) refl q
    where
      go : (k : Bool) → eqb (p.kept + 1) (first_record (keep p b).bytes) ≡ k → (cond k (end_shows (headed (keep p b))) (header_shows c (keep p b))).number ≡ 0 → Ready (cond k (end_shows (headed (keep p b))) (header_shows c (keep p b)))
      go true k x =
          rw (end_unshown (headed (keep p b)) x)
          (record { room = omega arith; head = λ n. absurd (omega arith); most = headed_most (keep p b) z (omega arith) (keep_most p b r.most e) })
      go false k x =
          let m = head_more p b (r.head z) (eqb-false (p.kept + 1) (first_record (keep p b).bytes) k) in
          rw (header_unshown c (keep p b) x) (record { room = omega (arith, m, shift_most (version_of (keep p b).bytes)); head = λ _. m; most = keep_most p b r.most e })

  record_ready : (p.place ≡ 0 → ⊥) → ended p ≡ false → (x : Read Tick) → read_record last c (bytes_of (keep p b)) 0 rs ≡ x → (arrival_of (record_step (keep p b) x)).number ≡ 0 → Ready (arrival_of (record_step (keep p b) x))
  unfolding record_step
  record_ready z e bad y q = absurd (omega arith)
  record_ready z e short y q =
      let l : length (bytes_of (keep p b)) ≡ p.kept + 1 = length-take-le (p.kept + 1) (set p.bytes p.kept b) (omega (arith, length-set p.bytes p.kept b, r.room)) in
      rw (open_unshown (keep p b) q) (record { room = omega (arith, short_most last c (bytes_of (keep p b)) rs y); head = λ n. absurd (z n); most = keep_most p b r.most e })
  record_ready z e (read t n) y q =
      rw (end_unshown (played (keep p b)) q) (record { room = omega arith; head = λ h. absurd (omega arith); most = played_most (keep p b) z (keep_most p b r.most e) })

  pub step_ready : p.number ≡ 0 → (arrival_of (step last c rs p b)).number ≡ 0 → Ready (arrival_of (step last c rs p b))
  unfolding step
  step_ready n q = go (eqb p.number 0) refl (ended p) refl (eqb p.place 0) refl (leb p.count p.records) q
    where
      go : (f : Bool) → eqb p.number 0 ≡ f → (d : Bool) → ended p ≡ d → (h : Bool) → eqb p.place 0 ≡ h → (o : Bool)
          → (arrival_of (cond (not f) (holds p) (cond d (holds (faulty 21 (taken p + 1) p)) (cond h (holds (header_step c (keep p b))) (cond o (holds (faulty 23 p.place (keep p b))) (record_step (keep p b) (read_record last c (bytes_of (keep p b)) 0 rs))))))).number ≡ 0
          → Ready (arrival_of (cond (not f) (holds p) (cond d (holds (faulty 21 (taken p + 1) p)) (cond h (holds (header_step c (keep p b))) (cond o (holds (faulty 23 p.place (keep p b))) (record_step (keep p b) (read_record last c (bytes_of (keep p b)) 0 rs)))))))
      go false a d e h z o x = absurd (eqb-false p.number 0 a n)
      go true a true e h z o x = absurd (omega arith)
      go true a false e true z o x = header_ready (eqb-true p.place 0 z) e x
      go true a false e false z true x = absurd (omega arith)
      go true a false e false z false x = record_ready (eqb-false p.place 0 z) e (read_record last c (bytes_of (keep p b)) 0 rs) refl x

-- ---- a legal arrival without a fault
-- shows none
pub keeps_none : (p q : Arrival) → keeps p q ≡ true → p.number ≡ 0 → q.number ≡ 0
unfolding keeps
keeps_none p q k n = go (eqb q.number 0) refl k
  where
    go : (b : Bool) → eqb q.number 0 ≡ b → b || (eqb q.number p.number && eqb q.fault p.fault) ≡ true → q.number ≡ 0
    go true e x = eqb-true q.number 0 e
    go false e x = eqb-true q.number p.number (first_of (eqb q.number p.number) _ x) ∙ n

module _ (last c : ℕ) (few : c ≤ width) (rs : List Command) (p : Arrival) (long : length p.bytes ≡ kept_bytes) where
  record_room : (x : Read Tick) → read_record last c (bytes_of p) 0 rs ≡ x → (record_shows p x).number ≡ 0 → p.kept < kept_bytes
  unfolding record_shows
  record_room bad e q = absurd (omega arith)
  record_room short e q = omega (arith, short_most last c (bytes_of p) rs e, length-take p.kept p.bytes)
  record_room (read t n) e q = absurd (omega arith)

  rest_room : (rest_shows last c rs p).number ≡ 0 → p.kept < kept_bytes
  unfolding rest_shows
  rest_room q = go (eqb p.kept 0) refl (ltb kept_bytes p.kept) (leb p.count p.records) q
    where
      go : (k : Bool) → eqb p.kept 0 ≡ k → (f o : Bool) → (cond k (end_shows p) (cond f (faulty no_state 0 p) (cond o (faulty 23 p.place p) (record_shows p (read_record last c (bytes_of p) 0 rs))))).number ≡ 0 → p.kept < kept_bytes
      go true e f o x = omega (arith, eqb-true p.kept 0 e)
      go false e true o x = absurd (omega arith)
      go false e false true x = absurd (omega arith)
      go false e false false x = record_room (read_record last c (bytes_of p) 0 rs) refl x

  pub quiet_room : (shows last c rs p).number ≡ 0 → (p.kept < kept_bytes) × (p.place ≡ 0 → p.kept < first_record p.bytes)
  unfolding shows
  quiet_room e = go (eqb p.place 0) refl (leb (first_record p.bytes) p.kept) refl (known_version p.version) (eqb (stated_channels p) c) e
    where
      go : (h : Bool) → eqb p.place 0 ≡ h → (f : Bool) → leb (first_record p.bytes) p.kept ≡ f → (u o : Bool)
          → (cond h (cond f (faulty no_state 0 p) (header_shows c p)) (cond (not u) (faulty 22 version_place p) (cond (not o) (faulty 28 version_place p) (rest_shows last c rs p)))).number ≡ 0
          → (p.kept < kept_bytes) × (p.place ≡ 0 → p.kept < first_record p.bytes)
      go true h true f u o q = absurd (omega arith)
      go true h false f u o q =
          let l = leb-false (first_record p.bytes) p.kept f in
          (omega (arith, l, shift_most (version_of p.bytes)), λ _. l)
      go false h f g false o q = absurd (omega arith)
      go false h f g true false q = absurd (omega arith)
      go false h f g true true q = (rest_room q, λ n. absurd (eqb-false p.place 0 h n))

-- what legality says
pub record Has (last c : ℕ) (rs : List Command) (p : Arrival) : Type 0 where
  pub few : p.records ≤ most_records p
  pub most : taken p ≤ total p
  pub fault : kept_fault p.number ≡ true
  pub kept : keeps p (shows last c rs (faulty 0 0 p)) ≡ true

pub legal_has : (last c : ℕ) (rs : List Command) (p : Arrival) → legal_arrival last c rs p ≡ true → Has last c rs p
unfolding legal_arrival
legal_has last c rs p l =
    let m = second_of (leb p.records (most_records p)) _ l in
    let k = second_of (leb (taken p) (total p)) _ m in
    record {
      few = leb-true p.records (most_records p) (first_of _ _ l);
      most = leb-true (taken p) (total p) (first_of _ _ m);
      fault = first_of (kept_fault p.number) _ k;
      kept = second_of (kept_fault p.number) _ k;
    }

pub legal_ready : (last c : ℕ) → c ≤ width → (rs : List Command) (p : Arrival) → length p.bytes ≡ kept_bytes → legal_arrival last c rs p ≡ true → p.number ≡ 0 → Ready p
legal_ready last c few rs p long l n =
    let h = legal_has last c rs p l in
    let q = quiet_room last c few rs (faulty 0 0 p) long (keeps_none p (shows last c rs (faulty 0 0 p)) h.kept n) in
    record { room = q.0; head = q.1; most = h.most }

-- ---- a byte that completes a record
-- the record that it completes
pub record Completes (last c : ℕ) (rs : List Command) (p : Arrival) (b : ℕ) (t : Tick) : Type 0 where
  pub next : ℕ
  pub is : read_record last c (bytes_of (keep p b)) 0 rs ≡ read t next

not-plays : (p q : Arrival) (t : Tick) → holds p ≡ plays t q → ⊥
not-plays p q t e = let z : ◌≡◌ {A = ℕ} 0 1 = cc in omega arith

pub plays_read : (last c : ℕ) (rs : List Command) (p : Arrival) (b : ℕ) (t : Tick) (q : Arrival) → step last c rs p b ≡ plays t q → Completes last c rs p b t
unfolding step record_step
plays_read last c rs p b t q = go (shown p) (ended p) (heading p) (leb p.count p.records) (read_record last c (bytes_of (keep p b)) 0 rs) refl
  where
    go : (f d h o : Bool) (x : Read Tick) → read_record last c (bytes_of (keep p b)) 0 rs ≡ x
        → cond f (holds p) (cond d (holds (faulty 21 (taken p + 1) p)) (cond h (holds (header_step c (keep p b))) (cond o (holds (faulty 23 p.place (keep p b))) (record_step (keep p b) x)))) ≡ plays t q → Completes last c rs p b t
    go true d h o x z e = absurd (not-plays p q t e)
    go false true h o x z e = absurd (not-plays _ q t e)
    go false false true o x z e = absurd (not-plays _ q t e)
    go false false false true x z e = absurd (not-plays _ q t e)
    go false false false false bad z e = absurd (not-plays _ q t e)
    go false false false false short z e = absurd (not-plays _ q t e)
    go false false false false (read u n) z e = let same : u ≡ t = cc in record { next = n; is = rw same at z }

-- ---- what a byte leaves
-- without a fault there was none before
pub step_before : (last c : ℕ) (rs : List Command) (p : Arrival) (b : ℕ) → (arrival_of (step last c rs p b)).number ≡ 0 → p.number ≡ 0
step_before last c rs p b e = (step_takes last c rs p b e).good

-- a table of faults leaves the bytes
kept_bytes_lem : (x : Bool) (number place : ℕ) (p q : Arrival) → q.bytes ≡ p.bytes → (cond x (faulty number place p) q).bytes ≡ p.bytes
kept_bytes_lem true number place p q e = refl
kept_bytes_lem false number place p q e = e

header_bytes : (c : ℕ) (p : Arrival) → (header_step c p).bytes ≡ p.bytes
unfolding header_step header_shows end_shows refusing
header_bytes c p = go (eqb p.kept (first_record p.bytes)) (unknown p.bytes p.kept (ended p)) (other c p.bytes p.kept (ended p)) (ended p) (ltb p.kept least_place)
  where
    go : (x u o d l : Bool) → (cond x (end_shows (headed p)) (cond u (faulty 22 version_place p) (cond o (faulty 28 version_place p) (cond (d && l) (faulty 21 (taken p) p) (cond d (faulty 28 version_place p) p))))).bytes ≡ p.bytes
    go true u o d l = kept_bytes_lem (ended (headed p) && ltb (headed p).records (headed p).count) 23 (headed p).place (headed p) (headed p) refl
    go false true o d l = refl
    go false false true d l = refl
    go false false false true true = refl
    go false false false true false = refl
    go false false false false l = refl

record_bytes_lem : (p : Arrival) (x : Read Tick) → (arrival_of (record_step p x)).bytes ≡ p.bytes
unfolding record_step open_shows end_shows refusing
record_bytes_lem p bad = refl
record_bytes_lem p short = kept_bytes_lem (ended p) 23 p.place p p refl
record_bytes_lem p (read t n) = kept_bytes_lem (ended (played p) && ltb (played p).records (played p).count) 23 (played p).place (played p) (played p) refl

-- their room stays as long
pub step_long : (last c : ℕ) (rs : List Command) (p : Arrival) (b : ℕ) → length (arrival_of (step last c rs p b)).bytes ≡ length p.bytes
unfolding step
step_long last c rs p b = go (shown p) (ended p) (heading p) (leb p.count p.records) (read_record last c (bytes_of (keep p b)) 0 rs)
  where
    more : length (set p.bytes p.kept b) ≡ length p.bytes
    more = length-set p.bytes p.kept b

    go : (f d h o : Bool) (x : Read Tick)
        → length (arrival_of (cond f (holds p) (cond d (holds (faulty 21 (taken p + 1) p)) (cond h (holds (header_step c (keep p b))) (cond o (holds (faulty 23 p.place (keep p b))) (record_step (keep p b) x)))))).bytes ≡ length p.bytes
    go true d h o x = refl
    go false true h o x = refl
    go false false true o x = ap length (header_bytes c (keep p b)) ∙ more
    go false false false true x = more
    go false false false false x = ap length (record_bytes_lem (keep p b) x) ∙ more

-- no byte takes more than itself
kept_taken : (x : Bool) (number place : ℕ) (p q : Arrival) → taken q ≡ taken p → taken (cond x (faulty number place p) q) ≡ taken p
kept_taken true number place p q e = refl
kept_taken false number place p q e = e

header_taken : (c : ℕ) (p : Arrival) → taken (header_step c p) ≡ taken p
unfolding header_step header_shows end_shows refusing
header_taken c p = go (eqb p.kept (first_record p.bytes)) (unknown p.bytes p.kept (ended p)) (other c p.bytes p.kept (ended p)) (ended p) (ltb p.kept least_place)
  where
    go : (x u o d l : Bool) → taken (cond x (end_shows (headed p)) (cond u (faulty 22 version_place p) (cond o (faulty 28 version_place p) (cond (d && l) (faulty 21 (taken p) p) (cond d (faulty 28 version_place p) p))))) ≡ taken p
    go true u o d l = kept_taken (ended (headed p) && ltb (headed p).records (headed p).count) 23 (headed p).place (headed p) (headed p) refl ∙ omega arith
    go false true o d l = refl
    go false false true d l = refl
    go false false false true true = refl
    go false false false true false = refl
    go false false false false l = refl

record_taken : (p : Arrival) (x : Read Tick) → taken (arrival_of (record_step p x)) ≡ taken p
unfolding record_step open_shows end_shows refusing
record_taken p bad = refl
record_taken p short = kept_taken (ended p) 23 p.place p p refl
record_taken p (read t n) = kept_taken (ended (played p) && ltb (played p).records (played p).count) 23 (played p).place (played p) (played p) refl ∙ omega arith

pub step_most : (last c : ℕ) (rs : List Command) (p : Arrival) (b : ℕ) → taken (arrival_of (step last c rs p b)) ≤ taken p + 1
unfolding step
step_most last c rs p b = go (shown p) (ended p) (heading p) (leb p.count p.records) (read_record last c (bytes_of (keep p b)) 0 rs)
  where
    go : (f d h o : Bool) (x : Read Tick)
        → taken (arrival_of (cond f (holds p) (cond d (holds (faulty 21 (taken p + 1) p)) (cond h (holds (header_step c (keep p b))) (cond o (holds (faulty 23 p.place (keep p b))) (record_step (keep p b) x)))))) ≤ taken p + 1
    go true d h o x = omega arith
    go false true h o x = omega arith
    go false false true o x = omega (arith, header_taken c (keep p b))
    go false false false true x = omega arith
    go false false false false x = omega (arith, record_taken (keep p b) x)
