-- Bytes that are fed to their declared end without a fault are a stream that is accepted (`ends_accepted`): nothing is left to be judged then.
-- Assumes nothing.
use Rattle.std.specs.Prelude.{ℕ, ◌+◌, ◌*◌, ◌≤◌, ◌<◌, ◌≡◌, Bool, true, false, not, cond, ◌&&◌, get_or, leb, ltb, eqb}
use Rattle.std.proofs.Math.Path.{refl, sym, ap}
use Rattle.std.proofs.Common.{◌∙◌, true≢false, get_or-take}
use mathlib.Core.List.{List, [], ◌∷◌, ◌++◌, append-nil, append_assoc}
use native.Mathlib.Omega.{arith}
use Rattle.std.proofs.Math.ListN.{length, length-append, length-replicate, get_or-append}
use borrow.Author.Tests.{eq-eqb, ne_eqb, eqb-true, eqb-false}
use Rattle.laws.specs.Every.{second_of}
use Rattle.common.specs.Bytes.{four_at}
use Rattle.common.specs.Answers.{refusing}
use Rattle.ticks.specs.declared.Command.{Command}
use Rattle.ticks.specs.declared.Tick.{Tick}
use Rattle.ticks.specs.Play.{Mechanism, after_all}
use Rattle.records.specs.Format.{version_place, least_place, head_bytes, body_bytes, version_of, first_record, at_first, Read, bad, short, read, read_record, Decoded, refusal, ticks, decode}
use Rattle.records.specs.Prefixes.{Alike}
use Rattle.decoder.specs.Answers.{answer_of}
use Rattle.decoder.specs.Remaining.{Good, checked_good}
use Rattle.arrival.specs.declared.Arrival.{Arrival}
use Rattle.arrival.specs.Arrive.{kept_bytes, at_start, bytes_of, taken, heading, total, ended, faulty, keep, headed, played, unknown, other, header_shows, end_shows, holds, header_step, record_step, step}
use Rattle.arrival.specs.Feed.{Fed, fed, step_of, step_after, feeding}
use Rattle.arrival.specs.Opening.{Opening, open_more, shift_most}
use Rattle.arrival.specs.Comes.{Says}
use Rattle.arrival.specs.Whole.{stream_comes}
use Rattle.arrival.specs.Cuts.{Sized, arrival_of, end_unshown, open_unshown, header_unshown, step_takes, byte_arrival, bytes_counted}
use Rattle.arrival.specs.Ready.{head_more}

-- ---- after the bytes xs, without a fault: the header is open, and its end is not reached; or it is closed, and says what the first bytes do
data Sofar (xs : List ℕ) (p : Arrival) : Type 0 where
  opening : Opening 0 xs p → p.kept < first_record p.bytes → ended p ≡ false → Sofar xs p
  closed : least_place ≤ length xs → 0 < p.place → p.follow ≡ four_at xs 0 → Sofar xs p

-- an open header that shows nothing has not ended
header_quiet : (c : ℕ) (p : Arrival) → (header_shows c p).number ≡ 0 → ended p ≡ false
unfolding header_shows refusing
header_quiet c p e = go (unknown p.bytes p.kept (ended p)) (other c p.bytes p.kept (ended p)) (ended p) (ltb p.kept least_place) e
  where
    go : (u o d l : Bool) → (cond u (faulty 22 version_place p) (cond o (faulty 28 version_place p) (cond (d && l) (faulty 21 (taken p) p) (cond d (faulty 28 version_place p) p)))).number ≡ 0 → d ≡ false
    go true o d l q = absurd (omega arith)
    go false true d l q = absurd (omega arith)
    go false false true true q = absurd (omega arith)
    go false false true false q = absurd (omega arith)
    go false false false l q = refl

-- the first four of the bytes that are in
four_in : (xs : List ℕ) (p : Arrival) → Opening 0 xs p → version_place ≤ length xs → four_at p.bytes 0 ≡ four_at xs 0
unfolding four_at
four_in xs p o h = rw (in_it 0 (omega arith), in_it (0 + 1) (omega arith), in_it (0 + 2) (omega arith), in_it (0 + 3) (omega arith))
  where
    in_it : (i : ℕ) → i < length xs → get_or p.bytes i 0 ≡ get_or xs i 0
    in_it i l = sym (get_or-take p.kept p.bytes i 0 (omega (arith, o.kept))) ∙ ap (λ (l : List ℕ). get_or l i 0) o.bytes

four_more : (xs : List ℕ) (y : ℕ) → version_place ≤ length xs → four_at (xs ++ y ∷ []) 0 ≡ four_at xs 0
unfolding four_at
four_more xs y h =
    rw (get_or-append xs (y ∷ []) 0 0 (omega arith), get_or-append xs (y ∷ []) 0 (0 + 1) (omega arith), get_or-append xs (y ∷ []) 0 (0 + 2) (omega arith), get_or-append xs (y ∷ []) 0 (0 + 3) (omega arith))

module _ (last c : ℕ) (rs : List Command) (xs : List ℕ) (p : Arrival) (y : ℕ) where
  -- a byte of the header
  header_sofar : Opening 0 xs p → p.kept < first_record p.bytes → ended p ≡ false → (arrival_of (step last c rs p y)).number ≡ 0 → Sofar (xs ++ y ∷ []) (arrival_of (step last c rs p y))
  unfolding step header_step
  header_sofar o m e = rw (eq-eqb p.number 0 o.good, e, eq-eqb p.place 0 o.place) (go (eqb (p.kept + 1) (first_record (keep p y).bytes)) refl)
    where
      len : length (xs ++ y ∷ []) ≡ length xs + 1
      len = length-append xs (y ∷ [])

      opened : Opening 0 (xs ++ y ∷ []) (keep p y)
      opened = open_more 0 xs p y (omega (arith, m, o.kept, shift_most (version_of p.bytes))) o

      go : (b : Bool) → eqb (p.kept + 1) (first_record (keep p y).bytes) ≡ b → (cond b (end_shows (headed (keep p y))) (header_shows c (keep p y))).number ≡ 0 → Sofar (xs ++ y ∷ []) (cond b (end_shows (headed (keep p y))) (header_shows c (keep p y)))
      go true b n =
          let k = eqb-true (p.kept + 1) (first_record (keep p y).bytes) b in
          rw (end_unshown (headed (keep p y)) n) (closed (omega (arith, k, len, o.kept)) (omega arith) (four_in (xs ++ y ∷ []) (keep p y) opened (omega (arith, k, len, o.kept))))
      go false b n =
          rw (header_unshown c (keep p y) n) (opening opened (head_more p y m (eqb-false (p.kept + 1) (first_record (keep p y).bytes) b)) (header_quiet c (keep p y) n))

  -- a byte after it
  rest_sofar : least_place ≤ length xs → 0 < p.place → p.follow ≡ four_at xs 0 → (arrival_of (step last c rs p y)).number ≡ 0 → Sofar (xs ++ y ∷ []) (arrival_of (step last c rs p y))
  unfolding step record_step
  rest_sofar l h f n =
      let z : p.number ≡ 0 = (step_takes last c rs p y n).good in
      go (eqb p.number 0) (eq-eqb p.number 0 z) (ended p) (heading p) (ne_eqb p.place 0 (λ q. omega arith)) (leb p.count p.records) (read_record last c (bytes_of (keep p y)) 0 rs) n
    where
      more : least_place ≤ length (xs ++ y ∷ [])
      more = omega (arith, length-append xs (y ∷ []))

      same : p.follow ≡ four_at (xs ++ y ∷ []) 0
      same = f ∙ sym (four_more xs y (omega arith))

      go : (g : Bool) → g ≡ true → (d a : Bool) → a ≡ false → (o : Bool) (x : Read Tick)
          → (arrival_of (cond (not g) (holds p) (cond d (holds (faulty 21 (taken p + 1) p)) (cond a (holds (header_step c (keep p y))) (cond o (holds (faulty 23 p.place (keep p y))) (record_step (keep p y) x)))))).number ≡ 0
          → Sofar (xs ++ y ∷ []) (arrival_of (cond (not g) (holds p) (cond d (holds (faulty 21 (taken p + 1) p)) (cond a (holds (header_step c (keep p y))) (cond o (holds (faulty 23 p.place (keep p y))) (record_step (keep p y) x))))))
      go false g d a e o x q = absurd (true≢false (sym g))
      go true g true a e o x q = absurd (omega arith)
      go true g false true e o x q = absurd (true≢false e)
      go true g false false e true x q = absurd (omega arith)
      go true g false false e false bad q = absurd (omega arith)
      go true g false false e false short q = rw (open_unshown (keep p y) q) (closed more h same)
      go true g false false e false (read t k) q = rw (end_unshown (played (keep p y)) q) (closed more (omega arith) same)

  sofar_more : Sofar xs p → (arrival_of (step last c rs p y)).number ≡ 0 → Sofar (xs ++ y ∷ []) (arrival_of (step last c rs p y))
  sofar_more (opening o m e) n = header_sofar o m e n
  sofar_more (closed l h f) n = rest_sofar l h f n

module _ {A W : Type 0} (last c : ℕ) (registers_of : W → List Command) (k : ℕ → Mechanism A W Tick) where
  abbrev bytes : Mechanism A (Fed W) ℕ
  bytes = feeding last c registers_of k

  sofar_all : (ys xs : List ℕ) (w : Fed W) → Sofar xs w.arrival → (after_all bytes w ys).arrival.number ≡ 0 → Sofar (xs ++ ys) (after_all bytes w ys).arrival
  unfolding after_all
  sofar_all [] xs w s n = rw (append-nil xs) s
  sofar_all (y ∷ ys) xs w s n =
      let x = step_of last c registers_of k w y in
      let a = byte_arrival last c registers_of k w x in
      let z : (arrival_of x).number ≡ 0 = ap (λ (p : Arrival). p.number) (sym a) ∙ (bytes_counted last c registers_of k ys (step_after last c registers_of k w x) n).good in
      rw (← append_assoc xs (y ∷ []) ys) (sofar_all ys (xs ++ y ∷ []) (step_after last c registers_of k w x) (rw a (sofar_more last c (registers_of w.machine) xs w.arrival y s z)) n)

  module _ (s : List ℕ) (w : W) (good : (after_all bytes (fed at_start w) s).arrival.number ≡ 0) (end : ended (after_all bytes (fed at_start w) s).arrival ≡ true) where
    abbrev p : Arrival
    p = (after_all bytes (fed at_start w) s).arrival

    -- the bytes are as many as they declare
    pub ends_sized : Sized s
    unfolding at_start ended total
    ends_sized = go (sofar_all s [] (fed at_start w) (opening (record { place = refl; kept = refl; bytes = refl; long = length-replicate {A = ℕ} kept_bytes 0; good = refl }) (omega arith) refl) good)
      where
        count : taken p ≡ length s
        count = (bytes_counted last c registers_of k s (fed at_start w) good).more ∙ omega arith

        go : Sofar s p → Sized s
        go (opening o m e) = absurd (true≢false (sym end ∙ e))
        go (closed l h f) =
            let q : taken p ≡ version_place + cond (heading p) (four_at p.bytes 0) p.follow = eqb-true _ _ (second_of (leb version_place (taken p)) _ end) in
            let z : heading p ≡ false = ne_eqb p.place 0 (λ x. omega arith) in
            let r : taken p ≡ version_place + p.follow = rw z at q in
            record { long = l; sized = omega (arith, count, r, f) }

    pub ends_accepted : head_bytes + body_bytes * c ≤ kept_bytes
        → ((v : ℕ) (w : W) (registers : List Command) (s : List ℕ) (at e : ℕ) (t : Tick) → Alike c (registers_of w) registers → read_record last c s at registers ≡ read t e → Alike c (registers_of ((k v).after w t)) t.commands)
        → Alike c (registers_of w) at_first → Good last c s
    unfolding answer_of
    ends_accepted few keeps fresh =
        let z = ends_sized in
        let d = stream_comes last c registers_of k few keeps s z.long z.sized w fresh in
        checked_good last c s (answer_of (decode last c s)) refl (by d.ts (decode last c s) d.says)
      where
        by : (ts : List Tick) (d : Decoded) → Says p ts d → (answer_of d).number ≡ 0
        by ts (ticks us) h = refl
        by ts (refusal number place) h = sym h.0 ∙ good
