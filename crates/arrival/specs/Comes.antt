-- The records of a stream, byte by byte (`records_come`): the ticks that are played are those that they decode to, and no fault shows; or the
-- refusal shows, with its place, and the ticks that are played are those before it.
-- Assumes nothing.
use Prim.Native.Nat.{ℕ, zero, suc, ◌+◌, ◌*◌, ◌≤◌, ◌<◌}
use Rattle.std.specs.Prelude.{◌≡◌, Bool, cond}
use Rattle.std.proofs.Math.Path.{refl, ap, subst}
use Rattle.std.proofs.Common.{sym, ◌∙◌, arith, length-append, drop-drop, drop_at}
use Rattle.std.proofs.Math.Bool.{true, false}
use mathlib.Core.List.{List, [], ◌∷◌, ◌++◌, append_assoc}
use Rattle.std.proofs.Math.ListN.{length, drop, length-drop}
use Rattle.std.proofs.Math.Dec.{ltb, eqb}
use borrow.Author.Tests.{eq-eqb, ne_eqb, ltb-true, ltb-false}
use Rattle.ticks.specs.declared.Command.{Command}
use Rattle.ticks.specs.declared.Tick.{Tick}
use Rattle.ticks.specs.Play.{Mechanism, after_all, rendered}
use Rattle.records.specs.Format.{version_place, head_bytes, body_bytes, Read, bad, short, read, read_by, read_record, Decoded, refusal, ticks, with_tick, decode_records}
use Rattle.records.specs.Reads.{not-read}
use Rattle.records.specs.Prefixes.{Agrees, record_agrees, record_end, record_none, short_most, Alike, record_alike}
use Rattle.arrival.specs.declared.Arrival.{Arrival}
use Rattle.arrival.specs.Arrive.{kept_bytes, ended, faulty, keep, played, end_shows, open_shows, Step, holds, plays, record_step, step}
use Rattle.arrival.specs.Feed.{Fed, fed, step_of, step_frames, step_after, feeding}
use Rattle.arrival.specs.Opening.{Opening, Rest, open_more, part_of, is_ended, total_is, record_byte, over_byte, open_quiet, open_over, end_quiet, end_missing}

-- ---- on a machine that holds a tick's commands as its registers
-- what an arrival says, after the ticks ts, of a stream that decodes so
abbrev pub Says : Arrival → List Tick → Decoded → Type 0
Says p ts (ticks us) = (ts ≡ us) × (p.number ≡ 0) × (ended p ≡ true)
Says p ts (refusal number place) = (p.number ≡ number) × (p.fault ≡ place)

module _ {A W : Type 0} (last c : ℕ) (registers_of : W → List Command) (k : ℕ → Mechanism A W Tick) where
  abbrev bytes : Mechanism A (Fed W) ℕ
  bytes = feeding last c registers_of k

  -- bytes are fed to w: the ticks ts are played on it, by the rule of a version, and the arrival says what the decoder does
  pub record Comes (v : ℕ) (w : Fed W) (bs : List ℕ) (d : Decoded) : Type 0 where
    pub ts : List Tick
    pub machine : (after_all bytes w bs).machine ≡ after_all (k v) w.machine ts
    pub heard : rendered bytes w bs ≡ rendered (k v) w.machine ts
    pub says : Says (after_all bytes w bs).arrival ts d

  -- after a fault no byte does anything
  pub fault_stays : (bs : List ℕ) (w : Fed W) → (w.arrival.number ≡ 0 → ⊥) → (after_all bytes w bs ≡ w) × (rendered bytes w bs ≡ [])
  unfolding after_all rendered step_after step_frames step
  fault_stays [] w h = (refl, refl)
  fault_stays (b ∷ bs) w h =
      let n : eqb w.arrival.number 0 ≡ false = ne_eqb w.arrival.number 0 h in
      let ih = fault_stays bs w h in
      (rw n ih.0, rw n ih.1)

  pub comes_fault : (v : ℕ) (w : Fed W) (bs : List ℕ) (number place : ℕ) → 0 < number → w.arrival.number ≡ number → w.arrival.fault ≡ place → Comes v w bs (refusal number place)
  unfolding after_all rendered
  comes_fault v w bs number place h e f =
      let x = fault_stays bs w (λ z. omega arith) in
      record {
        ts = [];
        machine = ap (λ (y : Fed W). y.machine) x.0;
        heard = x.1;
        says = (ap (λ (y : Fed W). y.arrival.number) x.0 ∙ e, ap (λ (y : Fed W). y.arrival.fault) x.0 ∙ f);
      }

  module _ (v : ℕ) (w : Fed W) (b : ℕ) (bs : List ℕ) where
    -- a byte first
    byte_after : (x : Step) → step_of last c registers_of k w b ≡ x → after_all bytes w (b ∷ bs) ≡ after_all bytes (step_after last c registers_of k w x) bs
    unfolding after_all
    byte_after x e = ap (λ (y : Step). after_all bytes (step_after last c registers_of k w y) bs) e

    byte_heard : (x : Step) → step_of last c registers_of k w b ≡ x → rendered bytes w (b ∷ bs) ≡ step_frames last c registers_of k w x ++ rendered bytes (step_after last c registers_of k w x) bs
    unfolding rendered
    byte_heard x e = ap (λ (y : Step). step_frames last c registers_of k w y ++ rendered bytes (step_after last c registers_of k w y) bs) e

    pub comes_held : (d : Decoded) (p : Arrival) → step_of last c registers_of k w b ≡ holds p → Comes v (fed p w.machine) bs d → Comes v w (b ∷ bs) d
    unfolding step_after step_frames
    comes_held d p e g =
        let a = byte_after (holds p) e in
        record { ts = g.ts; machine = rw a g.machine; heard = byte_heard (holds p) e ∙ g.heard; says = rw a g.says }

    says_tick : (p : Arrival) (t : Tick) (ts : List Tick) (d : Decoded) → Says p ts d → Says p (t ∷ ts) (with_tick t d)
    unfolding with_tick
    says_tick p t ts (ticks us) h = (ap (λ (xs : List Tick). t ∷ xs) h.0, h.1, h.2)
    says_tick p t ts (refusal number place) h = h

    comes_tick : (d : Decoded) (t : Tick) (p : Arrival) → w.arrival.version ≡ v → step_of last c registers_of k w b ≡ plays t p → Comes v (fed p ((k v).after w.machine t)) bs d → Comes v w (b ∷ bs) (with_tick t d)
    unfolding step_after step_frames after_all rendered
    comes_tick d t p q e g =
        let a : after_all bytes w (b ∷ bs) ≡ after_all bytes (fed p ((k v).after w.machine t)) bs = byte_after (plays t p) e ∙ ap (λ (i : ℕ). after_all bytes (fed p ((k i).after w.machine t)) bs) q in
        record {
          ts = t ∷ g.ts;
          machine = ap (λ (x : Fed W). x.machine) a ∙ g.machine;
          heard = byte_heard (plays t p) e ∙ ap (λ (i : ℕ). (k i).frames w.machine t ++ rendered bytes (fed p ((k i).after w.machine t)) bs) q ∙ ap (λ (xs : List A). (k v).frames w.machine t ++ xs) g.heard;
          says = subst (λ (x : Fed W). Says x.arrival (t ∷ g.ts) (with_tick t d)) (sym a) (says_tick _ t g.ts d g.says);
        }

  module _ (few : head_bytes + body_bytes * c ≤ kept_bytes) (keeps : (v : ℕ) (w : W) (registers : List Command) (s : List ℕ) (at e : ℕ) (t : Tick) → Alike c (registers_of w) registers → read_record last c s at registers ≡ read t e → Alike c (registers_of ((k v).after w t)) t.commands) (s : List ℕ) (v : ℕ) where
    -- where a record ended and others may be left
    abbrev Onward : ℕ → Type 0
    Onward n = (at : ℕ) (registers : List Command) (w : W) (p : Arrival) → version_place ≤ at → at ≤ length s → Alike c (registers_of w) registers → Opening at [] p → Rest (length s) v at n p
        → Comes v (fed (end_shows p) w) (drop at s) (decode_records last c s n at registers)

    -- the bytes ys of a record that is open with xs
    rest_comes : (n : ℕ) → Onward n → (at : ℕ) (registers : List Command) (w : W) → version_place ≤ at → at ≤ length s → Alike c (registers_of w) registers
        → (ys xs : List ℕ) (p : Arrival) → drop at s ≡ xs ++ ys → 0 < length ys → read_record last c xs 0 (registers_of w) ≡ short → Opening at xs p → Rest (length s) v at (suc n) p
        → Comes v (fed p w) ys (decode_records last c s (suc n) at registers)
    unfolding decode_records read_by record_step
    rest_comes n on at registers w low inside alike [] xs p e h q o l = absurd (omega arith)
    rest_comes n on at registers w low inside alike (y ∷ ys) xs p e h q o l =
        go (read_record last c (xs ++ y ∷ []) 0 (registers_of w)) refl (λ m z. rest_comes n on at registers w low inside alike ys (xs ++ y ∷ []) (keep p y) cut m z opened rested)
      where
        rs : List Command
        rs = registers_of w

        len : length (xs ++ y ∷ []) ≡ length xs + 1
        len = length-append xs (y ∷ [])

        room : length xs < kept_bytes
        room = omega (arith, short_most last c xs rs q)

        opened : Opening at (xs ++ y ∷ []) (keep p y)
        opened = open_more at xs p y room o

        rested : Rest (length s) v at (suc n) (keep p y)
        rested = record { after = l.after; follow = l.follow; count = l.count; version = l.version }

        cut : drop at s ≡ (xs ++ y ∷ []) ++ ys
        cut = e ∙ sym (append_assoc xs (y ∷ []) ys)

        whole : at + length xs + 1 + length ys ≡ length s
        whole = omega (arith, ap length cut, length-append (xs ++ y ∷ []) ys, len, length-drop at s)

        same : read_record last c s at rs ≡ read_record last c s at registers
        same = record_alike last c s at rs registers alike

        byte : step last c rs p y ≡ record_step (keep p y) (read_record last c (xs ++ y ∷ []) 0 rs)
        byte = record_byte last c rs (length s) v at (suc n) xs p o l y (omega arith) (omega (arith, whole)) ∙ rw opened.bytes

        after_all_lem : drop (at + (length xs + 1)) s ≡ ys
        after_all_lem = sym (drop-drop (length xs + 1) at s) ∙ ap (drop (length xs + 1)) cut ∙ drop_at (xs ++ y ∷ []) ys (length xs + 1) len

        agree : Agrees (at + length (xs ++ y ∷ [])) at (read_record last c (xs ++ y ∷ []) 0 rs) (read_record last c s at rs)
        agree = record_agrees (xs ++ y ∷ []) s at (part_of s at (xs ++ y ∷ []) ys cut inside) last c rs

        before : Agrees (at + length xs) at (read_record last c xs 0 rs) (read_record last c s at rs)
        before = record_agrees xs s at (part_of s at xs (y ∷ ys) e inside) last c rs

        -- nothing good is read of the stream
        refused : (Y : Read Tick) → read_record last c s at registers ≡ Y → ((t : Tick) (f : ℕ) → Y ≡ read t f → ⊥)
            → read_by (refusal 23 at) (refusal 23 at) Y (λ t f. with_tick t (decode_records last c s n f t.commands)) ≡ refusal 23 at
        refused bad z g = refl
        refused short z g = refl
        refused (read t f) z g = absurd (g t f refl)

        stops : ((t : Tick) (f : ℕ) → read_record last c s at registers ≡ read t f → ⊥) → record_step (keep p y) (read_record last c (xs ++ y ∷ []) 0 rs) ≡ holds (faulty 23 p.place (keep p y))
            → Comes v (fed p w) (y ∷ ys) (read_by (refusal 23 at) (refusal 23 at) (read_record last c s at registers) (λ t f. with_tick t (decode_records last c s n f t.commands)))
        stops g z = rw (refused (read_record last c s at registers) refl g) (comes_held v (fed p w) y ys (refusal 23 at) (faulty 23 p.place (keep p y)) (byte ∙ z) (comes_fault v (fed (faulty 23 p.place (keep p y)) w) ys 23 at (omega arith) refl o.place))

        go : (x : Read Tick) → read_record last c (xs ++ y ∷ []) 0 rs ≡ x
            → (0 < length ys → read_record last c (xs ++ y ∷ []) 0 rs ≡ short → Comes v (fed (keep p y) w) ys (read_by (refusal 23 at) (refusal 23 at) (read_record last c s at registers) (λ t f. with_tick t (decode_records last c s n f t.commands))))
            → Comes v (fed p w) (y ∷ ys) (read_by (refusal 23 at) (refusal 23 at) (read_record last c s at registers) (λ t f. with_tick t (decode_records last c s n f t.commands)))
        go bad z ih =
            let a : read_record last c s at rs ≡ bad = rw z at agree in
            stops (λ t f u. not-read t f (sym a ∙ same ∙ u)) (rw z)
        go short z ih =
            let a : (t : Tick) (f : ℕ) → read_record last c s at rs ≡ read t f → at + length (xs ++ y ∷ []) < f = rw z at agree in
            more (ltb 0 (length ys)) refl a
          where
            more : (b : Bool) → ltb 0 (length ys) ≡ b → ((t : Tick) (f : ℕ) → read_record last c s at rs ≡ read t f → at + length (xs ++ y ∷ []) < f)
                → Comes v (fed p w) (y ∷ ys) (read_by (refusal 23 at) (refusal 23 at) (read_record last c s at registers) (λ t f. with_tick t (decode_records last c s n f t.commands)))
            more true b a =
                let m = ltb-true 0 (length ys) b in
                let quiet : open_shows (keep p y) ≡ keep p y = open_quiet last c rs (length s) v at (suc n) (xs ++ y ∷ []) (keep p y) opened rested (omega (arith, whole, len)) in
                comes_held v (fed p w) y ys _ (keep p y) (byte ∙ rw (z, quiet)) (ih m z)
            more false b a =
                let m = ltb-false 0 (length ys) b in
                let over : open_shows (keep p y) ≡ faulty 23 p.place (keep p y) = open_over last c rs (length s) v at (suc n) (xs ++ y ∷ []) (keep p y) opened rested low (omega (arith, whole, len)) in
                stops (λ t f u. omega (arith, whole, len, a t f (same ∙ u), record_end last c s at registers t f u)) (rw (z, over))
        go (read t f) z ih =
            let a : (read_record last c s at rs ≡ read t (at + f)) × (at + f ≤ at + length (xs ++ y ∷ [])) = rw z at agree in
            let b : (u : Tick) (g : ℕ) → read_record last c s at rs ≡ read u g → at + length xs < g = rw q at before in
            let m : f ≡ length xs + 1 = omega (arith, len, a.1, b t (at + f) a.0) in
            let r : read_record last c s at registers ≡ read t (at + f) = sym same ∙ a.0 in
            let d : drop (at + f) s ≡ ys = ap (λ (i : ℕ). drop (at + i) s) m ∙ after_all_lem in
            let p' : Arrival = played (keep p y) in
            let o' : Opening (at + f) [] p' = record { place = omega (arith, o.place, o.kept); kept = refl; bytes = refl; long = opened.long; good = o.good } in
            let l' : Rest (length s) v (at + f) n p' = record { after = omega (arith, l.after); follow = l.follow; count = omega (arith, l.count); version = l.version } in
            let next = on (at + f) t.commands ((k v).after w t) p' (omega arith) (omega (arith, whole)) (keeps v w registers s at (at + f) t alike r) o' l' in
            rw r (comes_tick v (fed p w) y ys (decode_records last c s n (at + f) t.commands) t (end_shows p') l.version (byte ∙ rw z) (rw d at next))

    -- between records: none is left, or more bytes are, or one is missing
    pub records_come : (n : ℕ) → Onward n
    unfolding decode_records read_by after_all rendered
    records_come zero at registers w p low inside alike o l = rw (end_quiet last c (registers_of w) (length s) v at 0 [] p o l (λ m. absurd (omega arith))) (go (drop at s) refl)
      where
        go : (ys : List ℕ) → drop at s ≡ ys → Comes v (fed p w) ys (cond (eqb at (length s)) (ticks []) (refusal 23 at))
        go [] e =
            let z : at ≡ length s = omega (arith, ap length e, length-drop at s) in
            rw (eq-eqb at (length s) z) (record { ts = []; machine = refl; heard = refl; says = (refl, o.good, is_ended p (omega (arith, o.place)) (omega (arith, o.place, o.kept, total_is (length s) v at 0 [] p o l))) })
        go (y ∷ ys) e =
            let z : at < length s = omega (arith, ap length e, length-drop at s) in
            rw (ne_eqb at (length s) (λ q. omega arith))
            (comes_held v (fed p w) y ys (refusal 23 at) (faulty 23 p.place (keep p y)) (over_byte last c (registers_of w) (length s) v at 0 [] p o l y refl (omega arith)) (comes_fault v (fed (faulty 23 p.place (keep p y)) w) ys 23 at (omega arith) refl o.place))
    records_come (suc n) at registers w p low inside alike o l = go (ltb at (length s)) refl (records_come n)
      where
        go : (b : Bool) → ltb at (length s) ≡ b → Onward n → Comes v (fed (end_shows p) w) (drop at s) (read_by (refusal 23 at) (refusal 23 at) (read_record last c s at registers) (λ t f. with_tick t (decode_records last c s n f t.commands)))
        go true b on =
            let m = ltb-true at (length s) b in
            rw (end_quiet last c (registers_of w) (length s) v at (suc n) [] p o l (λ h. omega arith))
            (rest_comes n on at registers w low inside alike (drop at s) [] p refl (omega (arith, length-drop at s)) (record_none last c [] 0 (registers_of w) (omega arith)) o l)
        go false b on =
            let m = ltb-false at (length s) b in
            let none : read_record last c s at registers ≡ short = record_none last c s at registers m in
            rw (none, end_missing last c (registers_of w) (length s) v at (suc n) [] p o l (omega arith) low (omega arith)) (comes_fault v (fed (faulty 23 p.place p) w) (drop at s) 23 at (omega arith) refl o.place)
