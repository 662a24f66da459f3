-- However an accepted stream is cut (`cut_anywhere`): frames and final state are those of the whole. The fault of a stream that is refused with another
-- number than 21 is the whole's (`fault_shown`), wherever it is cut. And a call without a fault takes a byte for each that it counts (`bytes_counted`).
-- Assumes nothing.
use Rattle.std.specs.Prelude.{ℕ, ◌+◌, ◌*◌, ◌≤◌, ◌<◌, ◌≡◌, Bool, true, false, not, cond, ◌&&◌, ◌||◌, length, leb, ltb, eqb}
use Rattle.std.proofs.Math.Path.{refl, sym, ap}
use Rattle.std.proofs.Common.{◌∙◌, add-zero, arith, eqb-true, ltb-false, eq-eqb}
use mathlib.Core.List.{List, [], ◌∷◌}
use Rattle.std.proofs.lemmas.Bool.{eqb-false}
use Rattle.common.specs.Bytes.{byte_at, four_at}
use Rattle.common.specs.Answers.{refusing}
use Rattle.ticks.specs.declared.Command.{Command}
use Rattle.ticks.specs.declared.Tick.{Tick}
use Rattle.ticks.specs.Play.{Mechanism, after_all, rendered}
use Rattle.records.specs.Format.{version_place, least_place, head_bytes, body_bytes, known_version, version_of, stream_channels, tick_count, first_record, at_first, Read, bad, short, read, read_record, Decoded, refusal, ticks, decode_records, decode_after, decode}
use Rattle.records.specs.Reads.{not-ticks}
use Rattle.records.specs.Prefixes.{Alike}
use Rattle.arrival.specs.declared.Arrival.{Arrival}
use Rattle.arrival.specs.Arrive.{kept_bytes, at_start, bytes_of, taken, heading, ended, faulty, keep, headed, played, unknown, other, header_shows, end_shows, open_shows, Step, holds, plays, header_step, record_step, step, closed}
use Rattle.arrival.specs.Feed.{Fed, fed, step_of, step_after, feeding}
use Rattle.arrival.specs.Calls.{Call, takings, writings, after_calls, calls_after, calls_write}
use Rattle.arrival.specs.Whole.{stream_comes}

-- ---- a stream of its declared length
pub record Sized (s : List ℕ) : Type 0 where
  pub long : least_place ≤ length s
  pub sized : length s ≡ version_place + four_at s 0

-- one that is not refused with 21
pub not-21 : (last c : ℕ) (s : List ℕ) (d : Decoded) → decode last c s ≡ d → ((place : ℕ) → d ≡ refusal 21 place → ⊥) → Sized s
unfolding decode_after refusing
not-21 last c s d e n = go (ltb (length s) least_place) refl (eqb (length s) (version_place + four_at s 0)) refl e
  where
    go : (a : Bool) → ltb (length s) least_place ≡ a → (b : Bool) → eqb (length s) (version_place + four_at s 0) ≡ b
        → cond (a || not b) (refusal 21 (length s)) (cond (not (known_version (version_of s))) (refusal 22 version_place) (cond (ltb (length s) (first_record s) || not (eqb (stream_channels s) c)) (refusal 28 version_place) (decode_records last c s (tick_count s) (first_record s) at_first))) ≡ d → Sized s
    go true x b y q = absurd (n (length s) (sym q))
    go false x false y q = absurd (n (length s) (sym q))
    go false x true y q = record { long = ltb-false (length s) least_place x; sized = eqb-true _ _ y }

-- ---- the cut law
module _ {A W : Type 0} (last c : ℕ) (registers_of : W → List Command) (k : ℕ → Mechanism A W Tick) (few : head_bytes + body_bytes * c ≤ kept_bytes) (keeps : (v : ℕ) (w : W) (registers : List Command) (s : List ℕ) (at e : ℕ) (t : Tick) → Alike c (registers_of w) registers → read_record last c s at registers ≡ read t e → Alike c (registers_of ((k v).after w t)) t.commands) where
  abbrev bytes : Mechanism A (Fed W) ℕ
  bytes = feeding last c registers_of k

  module _ (s : List ℕ) (w : W) (fresh : Alike c (registers_of w) at_first) (calls : List (Call ℕ)) (all : takings bytes (fed at_start w) calls ≡ s) where
    after_calls_lem : after_calls bytes (fed at_start w) calls ≡ after_all bytes (fed at_start w) s
    after_calls_lem = calls_after bytes (fed at_start w) calls ∙ ap (after_all bytes (fed at_start w)) all

    written : writings bytes (fed at_start w) calls ≡ rendered bytes (fed at_start w) s
    written = calls_write bytes (fed at_start w) calls ∙ ap (rendered bytes (fed at_start w)) all

    -- the calls took the stream's bytes, in order: the state is the whole's, the machine and the frames are those of the stream's ticks, no fault is
    -- kept, and the end is reached
    pub record Taken (ts : List Tick) : Type 0 where
      pub state : after_calls bytes (fed at_start w) calls ≡ after_all bytes (fed at_start w) s
      pub machine : (after_calls bytes (fed at_start w) calls).machine ≡ after_all (k (byte_at s version_place)) w ts
      pub heard : writings bytes (fed at_start w) calls ≡ rendered (k (byte_at s version_place)) w ts
      pub good : (after_calls bytes (fed at_start w) calls).arrival.number ≡ 0
      pub end : ended (after_calls bytes (fed at_start w) calls).arrival ≡ true

    pub cut_anywhere : (ts : List Tick) → decode last c s ≡ ticks ts → Taken ts
    cut_anywhere ts e =
        let z = not-21 last c s (ticks ts) e (λ place q. not-ticks 21 place ts (sym q)) in
        let d = rw e at (stream_comes last c registers_of k few keeps s z.long z.sized w fresh) in
        let m : (after_all bytes (fed at_start w) s).machine ≡ after_all (k (byte_at s version_place)) w ts = d.machine ∙ ap (after_all (k (byte_at s version_place)) w) d.says.0 in
        record {
          state = after_calls_lem;
          machine = ap (λ (x : Fed W). x.machine) after_calls_lem ∙ m;
          heard = written ∙ d.heard ∙ ap (rendered (k (byte_at s version_place)) w) d.says.0;
          good = ap (λ (x : Fed W). x.arrival.number) after_calls_lem ∙ d.says.1;
          end = ap (λ (x : Fed W). ended x.arrival) after_calls_lem ∙ d.says.2;
        }

    -- a stream that is refused with another number than 21: that number and its place, and the frames of the ticks before it
    pub record Refused (n at : ℕ) : Type 0 where
      pub ts : List Tick
      pub machine : (after_calls bytes (fed at_start w) calls).machine ≡ after_all (k (byte_at s version_place)) w ts
      pub heard : writings bytes (fed at_start w) calls ≡ rendered (k (byte_at s version_place)) w ts
      pub number : (after_calls bytes (fed at_start w) calls).arrival.number ≡ n
      pub place : (after_calls bytes (fed at_start w) calls).arrival.fault ≡ at

    pub fault_shown : (number place : ℕ) → decode last c s ≡ refusal number place → (number ≡ 21 → ⊥) → Refused number place
    fault_shown number place e n =
        let z = not-21 last c s (refusal number place) e (λ at q. n (let y : number ≡ 21 = cc in y)) in
        let d = rw e at (stream_comes last c registers_of k few keeps s z.long z.sized w fresh) in
        record {
          ts = d.ts;
          machine = ap (λ (x : Fed W). x.machine) after_calls_lem ∙ d.machine;
          heard = written ∙ d.heard;
          number = ap (λ (x : Fed W). x.arrival.number) after_calls_lem ∙ d.says.0;
          place = ap (λ (x : Fed W). x.arrival.fault) after_calls_lem ∙ d.says.1;
        }

-- ---- a byte that leaves no fault is taken
abbrev pub arrival_of : Step → Arrival
arrival_of (holds p) = p
arrival_of (plays t p) = p

-- a table of faults that gives none
unshown : (b : Bool) (number place : ℕ) (p x : Arrival) → 0 < number → (cond b (faulty number place p) x).number ≡ 0 → cond b (faulty number place p) x ≡ x
unshown true number place p x h e = absurd (omega arith)
unshown false number place p x h e = refl

pub end_unshown : (p : Arrival) → (end_shows p).number ≡ 0 → end_shows p ≡ p
unfolding end_shows refusing
end_unshown p e = unshown (ended p && ltb p.records p.count) 23 p.place p p (omega arith) e

pub open_unshown : (p : Arrival) → (open_shows p).number ≡ 0 → open_shows p ≡ p
unfolding open_shows refusing
open_unshown p e = unshown (ended p) 23 p.place p p (omega arith) e

pub header_unshown : (c : ℕ) (p : Arrival) → (header_shows c p).number ≡ 0 → header_shows c p ≡ p
unfolding header_shows refusing
header_unshown c p e = go (unknown p.bytes p.kept (ended p)) (other c p.bytes p.kept (ended p)) (ended p) (ltb p.kept least_place) e
  where
    go : (u o d l : Bool) → (cond u (faulty 22 version_place p) (cond o (faulty 28 version_place p) (cond (d && l) (faulty 21 (taken p) p) (cond d (faulty 28 version_place p) p)))).number ≡ 0
        → cond u (faulty 22 version_place p) (cond o (faulty 28 version_place p) (cond (d && l) (faulty 21 (taken p) p) (cond d (faulty 28 version_place p) p))) ≡ p
    go true o d l q = absurd (omega arith)
    go false true d l q = absurd (omega arith)
    go false false true true q = absurd (omega arith)
    go false false true false q = absurd (omega arith)
    go false false false l q = refl

pub record Takes (p : Arrival) (x : Step) : Type 0 where
  pub good : p.number ≡ 0
  pub more : taken (arrival_of x) ≡ taken p + 1

header_takes : (c : ℕ) (p : Arrival) → (header_step c p).number ≡ 0 → taken (header_step c p) ≡ taken p
unfolding header_step
header_takes c p e = go (eqb p.kept (first_record p.bytes)) e
  where
    go : (b : Bool) → (cond b (end_shows (headed p)) (header_shows c p)).number ≡ 0 → taken (cond b (end_shows (headed p)) (header_shows c p)) ≡ taken p
    go true q = ap taken (end_unshown (headed p) q) ∙ add-zero (taken p)
    go false q = ap taken (header_unshown c p q)

record_takes : (p : Arrival) (x : Read Tick) → (arrival_of (record_step p x)).number ≡ 0 → taken (arrival_of (record_step p x)) ≡ taken p
unfolding record_step
record_takes p bad q = absurd (omega arith)
record_takes p short q = ap taken (open_unshown p q)
record_takes p (read t n) q = ap taken (end_unshown (played p) q) ∙ add-zero (taken p)

pub step_takes : (last c : ℕ) (rs : List Command) (p : Arrival) (b : ℕ) → (arrival_of (step last c rs p b)).number ≡ 0 → Takes p (step last c rs p b)
unfolding step
step_takes last c rs p b e = go (eqb p.number 0) refl (ended p) (heading p) (leb p.count p.records) e
  where
    more : taken (keep p b) ≡ taken p + 1
    more = omega arith

    go : (f : Bool) → eqb p.number 0 ≡ f → (d h o : Bool)
        → (arrival_of (cond (not f) (holds p) (cond d (holds (faulty 21 (taken p + 1) p)) (cond h (holds (header_step c (keep p b))) (cond o (holds (faulty 23 p.place (keep p b))) (record_step (keep p b) (read_record last c (bytes_of (keep p b)) 0 rs))))))).number ≡ 0
        → Takes p (cond (not f) (holds p) (cond d (holds (faulty 21 (taken p + 1) p)) (cond h (holds (header_step c (keep p b))) (cond o (holds (faulty 23 p.place (keep p b))) (record_step (keep p b) (read_record last c (bytes_of (keep p b)) 0 rs))))))
    go false z d h o q = absurd (eqb-false p.number 0 z q)
    go true z true h o q = absurd (omega arith)
    go true z false false true q = absurd (omega arith)
    go true z false true o q = record { good = eqb-true p.number 0 z; more = header_takes c (keep p b) q ∙ more }
    go true z false false false q = record { good = eqb-true p.number 0 z; more = record_takes (keep p b) (read_record last c (bytes_of (keep p b)) 0 rs) q ∙ more }

module _ {A W : Type 0} (last c : ℕ) (registers_of : W → List Command) (k : ℕ → Mechanism A W Tick) where
  pub byte_arrival : (w : Fed W) (x : Step) → (step_after last c registers_of k w x).arrival ≡ arrival_of x
  unfolding step_after
  byte_arrival w (holds p) = refl
  byte_arrival w (plays t p) = refl

  -- where no fault is kept after them, so many bytes more are taken
  pub record Counted (w : Fed W) (bs : List ℕ) : Type 0 where
    pub good : w.arrival.number ≡ 0
    pub more : taken (after_all (feeding last c registers_of k) w bs).arrival ≡ taken w.arrival + length bs

  pub bytes_counted : (bs : List ℕ) (w : Fed W) → (after_all (feeding last c registers_of k) w bs).arrival.number ≡ 0 → Counted w bs
  unfolding after_all
  bytes_counted [] w e = record { good = e; more = sym (add-zero (taken w.arrival)) }
  bytes_counted (b ∷ bs) w e =
      let x = step_of last c registers_of k w b in
      let ih = bytes_counted bs (step_after last c registers_of k w x) e in
      let a = byte_arrival w x in
      let y = step_takes last c (registers_of w.machine) w.arrival b (ap (λ (p : Arrival). p.number) (sym a) ∙ ih.good) in
      record { good = y.good; more = ih.more ∙ omega (arith, ap taken a, y.more) }

-- ---- closing
-- after the end it changes nothing
pub closed_end : (p : Arrival) → ended p ≡ true → closed p ≡ p
unfolding closed
closed_end p e = go (eqb p.number 0)
  where
    go : (b : Bool) → cond (not b) p (cond (ended p) p (faulty 21 (taken p) p)) ≡ p
    go true = rw e
    go false = refl

-- short of it, it keeps 21 with the bytes that were taken as its place; and a kept fault stays
pub closed_short : (p : Arrival) → p.number ≡ 0 → ended p ≡ false → closed p ≡ faulty 21 (taken p) p
unfolding closed
closed_short p e h = rw (eq-eqb p.number 0 e, h)
