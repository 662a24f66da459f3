-- A record that lies ahead whole (`awaited_plays`): fed byte by byte, its bytes play its tick and nothing else. So a board may take it at once.
-- Assumes nothing.
use Rattle.std.specs.Prelude.{ℕ, suc, ◌+◌, ◌-◌, ◌*◌, ◌^◌, ◌≤◌, ◌<◌, ◌≡◌, Bool, true, false, not, length, take, drop, eqb, ltb, Option, IfSome}
use Rattle.std.proofs.Math.Path.{refl, ap}
use Rattle.std.proofs.Common.{sym, subst, ◌∙◌, true≢false, add-one, arith, length-append, length-drop, take-append-drop, length-take-le, eqb-true, ltb-true}
use mathlib.Core.List.{List, [], ◌∷◌, ◌++◌, append-nil, append_assoc}
use Rattle.std.proofs.lemmas.List.Edits.{sets}
use Rattle.std.proofs.lemmas.Bool.{eqb-false}
use Rattle.laws.specs.Ranges.{all}
use Rattle.laws.specs.Every.{all_at}
use Rattle.ticks.specs.declared.Command.{Command}
use Rattle.ticks.specs.declared.Tick.{Tick}
use Rattle.ticks.specs.Play.{Mechanism, after_all, rendered}
use Rattle.records.specs.Format.{version_place, head_bytes, body_bytes, Read, bad, short, read, read_record}
use Rattle.records.specs.Reads.{not-read}
use Rattle.records.specs.Prefixes.{Agrees, record_agrees, record_least, record_end, record_none, short_most}
use Rattle.decoder.specs.declared.reading.Record.{Record}
use Rattle.arrival.specs.declared.Arrival.{Arrival}
use Rattle.arrival.specs.Arrive.{kept_bytes, total, keep, played, end_shows, open_shows, Step, holds, plays, record_step, step}
use Rattle.arrival.specs.Feed.{Fed, fed, step_frames, step_after, feeding}
use Rattle.arrival.specs.Opening.{Opening, Rest, open_more, part_of, total_is, record_byte, open_quiet}

-- a record may begin: no fault is kept, the header is closed, no byte of a record is in, and records are missing
unfoldable pub awaits : Arrival → Bool
awaits p = all (eqb p.number 0 ∷ not (eqb p.place 0) ∷ eqb p.kept 0 ∷ ltb p.records p.count ∷ [])

pub record Awaits (p : Arrival) : Type 0 where
  pub quiet : p.number ≡ 0
  pub after : 0 < p.place
  pub first : p.kept ≡ 0
  pub more : p.records < p.count

pub awaits_has : (p : Arrival) → awaits p ≡ true → Awaits p
unfolding awaits
awaits_has p e =
    let h = all_at _ e in
    record {
      quiet = eqb-true p.number 0 (h 0);
      after = past (eqb p.place 0) refl (h 1);
      first = eqb-true p.kept 0 (h 2);
      more = ltb-true p.records p.count (h 3);
    }
  where
    past : (b : Bool) → eqb p.place 0 ≡ b → not b ≡ true → 0 < p.place
    past true q n = absurd (true≢false (sym n))
    past false q n = let z = eqb-false p.place 0 q in omega arith

-- the record r begins at place i of the bytes to come, is awaited, and all of it is there and within the declared length
pub record Lies (last c : ℕ) (registers : List Command) (p : Arrival) (bs : List ℕ) (i : ℕ) (r : Record) : Type 0 where
  pub awaited : awaits p ≡ true
  pub is : read_record last c bs i registers ≡ read r.tick r.next
  pub low : i < r.next
  pub high : r.next ≤ length bs
  pub short : r.next - i ≤ head_bytes + body_bytes * c
  pub within : p.place + (r.next - i) ≤ total p
  pub few : p.place + (r.next - i) < 2 ^ 40

-- what was found there is such a record, if it is one
pub record Found (last c : ℕ) (registers : List Command) (p : Arrival) (bs : List ℕ) (i : ℕ) (r : Option Record) : Type 0 where
  pub lies : IfSome r (λ x. Lies last c registers p bs i x)

-- bytes more are kept
abbrev pub laid : Arrival → List ℕ → Arrival
laid p run =
    record {
      place = p.place;
      kept = p.kept + length run;
      bytes = sets p.bytes p.kept run;
      follow = p.follow;
      version = p.version;
      channels = p.channels;
      count = p.count;
      records = p.records;
      number = p.number;
      fault = p.fault;
    }

-- one, and then the others
laid_more : (p : Arrival) (y : ℕ) (ys : List ℕ) → laid (keep p y) ys ≡ laid p (y ∷ ys)
laid_more p y ys =
    let n : p.kept + 1 + length ys ≡ p.kept + suc (length ys) = omega arith in
    rw (n, add-one p.kept)

module _ {A W : Type 0} (last c : ℕ) (registers_of : W → List Command) (k : ℕ → Mechanism A W Tick) where
  abbrev bytes : Mechanism A (Fed W) ℕ
  bytes = feeding last c registers_of k

  -- the run of bytes plays t, by the rule of a version
  pub record Plays (v : ℕ) (p : Arrival) (w : W) (run : List ℕ) (t : Tick) : Type 0 where
    pub after : after_all bytes (fed p w) run ≡ fed (end_shows (played (laid p run))) ((k v).after w t)
    pub heard : rendered bytes (fed p w) run ≡ (k v).frames w t

  -- a byte that holds, and then bytes that play
  holds_plays : (v : ℕ) (p : Arrival) (w : W) (y : ℕ) (ys : List ℕ) (t : Tick) → step last c (registers_of w) p y ≡ holds (keep p y) → Plays v (keep p y) w ys t → Plays v p w (y ∷ ys) t
  unfolding after_all rendered step_after step_frames
  holds_plays v p w y ys t e g =
      record {
        after = ap (λ (x : Step). after_all bytes (step_after last c registers_of k (fed p w) x) ys) e ∙ g.after ∙ ap (λ (q : Arrival). fed (end_shows (played q)) ((k v).after w t)) (laid_more p y ys);
        heard = ap (λ (x : Step). step_frames last c registers_of k (fed p w) x ++ rendered bytes (step_after last c registers_of k (fed p w) x) ys) e ∙ g.heard;
      }

  -- the byte that plays
  plays_last : (v : ℕ) (p : Arrival) (w : W) (y : ℕ) (t : Tick) → p.version ≡ v → step last c (registers_of w) p y ≡ plays t (end_shows (played (keep p y))) → Plays v p w (y ∷ []) t
  unfolding after_all rendered step_after step_frames
  plays_last v p w y t q e =
      record {
        after = ap (step_after last c registers_of k (fed p w)) e ∙ ap (λ (i : ℕ). fed (end_shows (played (keep p y))) ((k i).after w t)) q;
        heard = append-nil (step_frames last c registers_of k (fed p w) (step last c (registers_of w) p y)) ∙ ap (step_frames last c registers_of k (fed p w)) e ∙ ap (λ (i : ℕ). (k i).frames w t) q;
      }

  module _ (few : head_bytes + body_bytes * c ≤ kept_bytes) (s : List ℕ) (i : ℕ) (inside : i ≤ length s) (w : W) (t : Tick) (e : ℕ) (is : read_record last c s i (registers_of w) ≡ read t e) (size v at n : ℕ) where
    -- the bytes ys of the record, of which xs are kept
    rest_ahead : (ys xs rest : List ℕ) (p : Arrival) → drop i s ≡ (xs ++ ys) ++ rest → i + length (xs ++ ys) ≡ e → 0 < length ys → read_record last c xs 0 (registers_of w) ≡ short → Opening at xs p → Rest size v at (suc n) p → at + length (xs ++ ys) ≤ size
        → Plays v p w ys t
    unfolding record_step
    rest_ahead [] xs rest p d l h q o r room = absurd (omega arith)
    rest_ahead (y ∷ ys) xs rest p d l h q o r room =
        go ys refl (read_record last c (xs ++ y ∷ []) 0 rs) refl (λ m z. rest_ahead ys (xs ++ y ∷ []) rest (keep p y) (d ∙ ap (λ (zs : List ℕ). zs ++ rest) joint) (rw (← joint) l) m z opened rested (rw (← joint) room))
      where
        rs : List Command
        rs = registers_of w

        len : length (xs ++ y ∷ []) ≡ length xs + 1
        len = length-append xs (y ∷ [])

        joint : xs ++ y ∷ ys ≡ (xs ++ y ∷ []) ++ ys
        joint = sym (append_assoc xs (y ∷ []) ys)

        all : length (xs ++ y ∷ ys) ≡ length xs + 1 + length ys
        all = length-append xs (y ∷ ys) ∙ omega arith

        opened : Opening at (xs ++ y ∷ []) (keep p y)
        opened = open_more at xs p y (omega (arith, short_most last c xs rs q)) o

        rested : Rest size v at (suc n) (keep p y)
        rested = record { after = r.after; follow = r.follow; count = r.count; version = r.version }

        byte : step last c rs p y ≡ record_step (keep p y) (read_record last c (xs ++ y ∷ []) 0 rs)
        byte = record_byte last c rs size v at (suc n) xs p o r y (omega arith) (omega (arith, all)) ∙ rw opened.bytes

        cut : drop i s ≡ (xs ++ y ∷ []) ++ (ys ++ rest)
        cut = d ∙ ap (λ (zs : List ℕ). zs ++ rest) joint ∙ append_assoc (xs ++ y ∷ []) ys rest

        agree : Agrees (i + length (xs ++ y ∷ [])) i (read_record last c (xs ++ y ∷ []) 0 rs) (read t e)
        agree = rw is at (record_agrees (xs ++ y ∷ []) s i (part_of s i (xs ++ y ∷ []) (ys ++ rest) cut inside) last c rs)

        go : (zs : List ℕ) → ys ≡ zs → (x : Read Tick) → read_record last c (xs ++ y ∷ []) 0 rs ≡ x → (0 < length ys → read_record last c (xs ++ y ∷ []) 0 rs ≡ short → Plays v (keep p y) w ys t) → Plays v p w (y ∷ ys) t
        go zs m bad z ih = let a : read t e ≡ bad = rw z at agree in absurd (not-read t e (sym a))
        go [] m short z ih =
            let a : (u : Tick) (f : ℕ) → read t e ≡ read u f → i + length (xs ++ y ∷ []) < f = rw z at agree in
            absurd (omega (arith, a t e refl, l, all, len, ap length m))
        go (b ∷ zs) m short z ih =
            let quiet : open_shows (keep p y) ≡ keep p y = open_quiet last c rs size v at (suc n) (xs ++ y ∷ []) (keep p y) opened rested (omega (arith, all, len, ap length m)) in
            holds_plays v p w y ys t (byte ∙ rw (z, quiet)) (ih (omega (arith, ap length m)) z)
        go (b ∷ zs) m (read u f) z ih =
            let a : (read t e ≡ read u (i + f)) × (i + f ≤ i + length (xs ++ y ∷ [])) = rw z at agree in
            let g : e ≡ i + f = cc in
            absurd (omega (arith, a.1, l, all, len, ap length m))
        go [] m (read u f) z ih =
            let a : (read t e ≡ read u (i + f)) × (i + f ≤ i + length (xs ++ y ∷ [])) = rw z at agree in
            let same : u ≡ t = cc in
            subst (λ (bs : List ℕ). Plays v p w (y ∷ bs) t) (sym m) (plays_last v p w y t r.version (byte ∙ rw (z, same)))

  -- awaited, and with all of the record's bytes within the declared length
  pub awaited_plays : head_bytes + body_bytes * c ≤ kept_bytes → (s : List ℕ) (i : ℕ) → i ≤ length s → (w : W) (t : Tick) (e : ℕ) → read_record last c s i (registers_of w) ≡ read t e → (p : Arrival) → awaits p ≡ true → length p.bytes ≡ kept_bytes → p.place + (e - i) ≤ total p
      → Plays p.version p w (take (e - i) (drop i s)) t
  awaited_plays few s i inside w t e is p a long room =
      let h = awaits_has p a in
      let size : ℕ = version_place + p.follow in
      let run : List ℕ = take (e - i) (drop i s) in
      let n : ℕ = p.count - p.records - 1 in
      let least = record_least last c s i (registers_of w) t e is in
      let lr : length run ≡ e - i = length-take-le (e - i) (drop i s) (omega (arith, record_end last c s i (registers_of w) t e is, length-drop i s)) in
      let o : Opening p.place [] p = record { place = refl; kept = h.first; bytes = rw h.first; long = long; good = h.quiet } in
      let r : Rest size p.version p.place (suc n) p = record { after = h.after; follow = refl; count = omega (arith, h.more); version = refl } in
      rest_ahead few s i inside w t e is size p.version p.place n run [] (drop (e - i) (drop i s)) p (sym (take-append-drop (e - i) (drop i s))) (omega (arith, lr, least)) (omega (arith, lr, least))
      (record_none last c [] 0 (registers_of w) (omega arith)) o r (omega (arith, lr, total_is size p.version p.place (suc n) [] p o r, room))
