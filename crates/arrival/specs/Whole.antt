-- A whole stream, byte by byte (`stream_comes`): where it is accepted, the ticks that are played are those that it decodes to, and no fault shows;
-- where it is refused with another number than 21, that number shows, with its place, and the ticks that are played are those before it.
-- Assumes nothing.
use Rattle.std.specs.Prelude.{ℕ, ◌+◌, ◌*◌, ◌≤◌, ◌<◌, ◌≡◌, Bool, ◌&&◌, ◌||◌, get_or, drop, leb}
use Rattle.std.proofs.Math.Path.{refl, ap}
use Rattle.std.proofs.Common.{sym, ◌∙◌, true≢false, zero-add, arith, get_or-take, drop_at}
use Rattle.std.proofs.Math.Bool.{true, false, not, cond}
use mathlib.Core.List.{List, [], ◌∷◌, ◌++◌, append_assoc}
use Rattle.std.proofs.Math.ListN.{length, length-append, length-replicate}
use Rattle.std.proofs.Math.Dec.{ltb, eqb}
use borrow.Author.Tests.{eq-eqb, ne_eqb, le-ltb, lt-ltb, leb-true, leb-false, ltb-true, ltb-false, eqb-true, eqb-false}
use Rattle.common.specs.Bytes.{byte_at, four_at}
use Rattle.common.specs.Answers.{refusing}
use Rattle.ticks.specs.declared.Command.{Command}
use Rattle.ticks.specs.declared.Tick.{Tick}
use Rattle.ticks.specs.Play.{Mechanism}
use Rattle.records.specs.Format.{version_place, channels_place, count_place, least_place, head_bytes, body_bytes, known_version, version_of, shift, stream_channels, tick_count, first_record, at_first, read, read_record, Decoded, refusal, decode_records, decode_after, decode}
use Rattle.records.specs.Prefixes.{Alike}
use Rattle.arrival.specs.declared.Arrival.{Arrival}
use Rattle.arrival.specs.Arrive.{kept_bytes, at_start, bytes_of, taken, total, ended, faulty, keep, headed, shows_by, unknown, other, header_shows, end_shows, holds, header_step, step}
use Rattle.arrival.specs.Feed.{fed}
use Rattle.arrival.specs.Opening.{Opening, Rest, open_more, part_of, shift_most}
use Rattle.arrival.specs.Comes.{Comes, comes_fault, comes_held, records_come}

module _ {A W : Type 0} (last c : ℕ) (registers_of : W → List Command) (k : ℕ → Mechanism A W Tick) where
  -- ---- the header
  module _ (few : head_bytes + body_bytes * c ≤ kept_bytes) (keeps : (v : ℕ) (w : W) (registers : List Command) (s : List ℕ) (at e : ℕ) (t : Tick) → Alike c (registers_of w) registers → read_record last c s at registers ≡ read t e → Alike c (registers_of ((k v).after w t)) t.commands) (s : List ℕ) (long : least_place ≤ length s) (sized : length s ≡ version_place + four_at s 0) (w : W) (fresh : Alike c (registers_of w) at_first) where
    abbrev v : ℕ
    v = version_of s

    -- where the number of channels is said
    abbrev said_at : ℕ
    said_at = version_place + shift v

    abbrev said : Decoded
    said =
        cond (not (known_version v)) (refusal 22 version_place)
        (cond (ltb (length s) (first_record s) || not (eqb (stream_channels s) c)) (refusal 28 version_place) (decode_records last c s (tick_count s) (first_record s) at_first))

    -- xs are the first bytes of s: what they say
    module _ (xs ys : List ℕ) (p : Arrival) (e : s ≡ xs ++ ys) (o : Opening 0 xs p) where
      head_at : (i : ℕ) → i < length xs → byte_at p.bytes i ≡ byte_at s i
      head_at i h =
          let a : byte_at (bytes_of p) i ≡ byte_at p.bytes i = get_or-take p.kept p.bytes i 0 (omega (arith, o.kept)) in
          sym a ∙ ap (λ (l : List ℕ). get_or l i 0) o.bytes ∙ rw (zero-add i) at ((part_of s 0 xs ys e (omega arith)).same i h)

      head_four : (at : ℕ) → at + 4 ≤ length xs → four_at p.bytes at ≡ four_at s at
      unfolding four_at
      head_four at h = rw (head_at at (omega arith), head_at (at + 1) (omega arith), head_at (at + 2) (omega arith), head_at (at + 3) (omega arith))

      head_within : length xs ≤ length s
      head_within = omega (arith, ap length e, length-append xs ys)

      -- the declared end is the stream's
      head_ended : (d : Bool) → eqb (length xs) (length s) ≡ d → (length xs < version_place → d ≡ false) → ended p ≡ d
      unfolding ended total
      head_ended d q small = go (leb version_place (taken p)) refl
        where
          z : eqb p.place 0 ≡ true
          z = eq-eqb p.place 0 o.place

          n : taken p ≡ length xs
          n = omega (arith, o.place, o.kept)

          go : (b : Bool) → leb version_place (taken p) ≡ b → b && eqb (taken p) (version_place + cond (eqb p.place 0) (four_at p.bytes 0) p.follow) ≡ d
          go true y =
              let f : four_at p.bytes 0 ≡ four_at s 0 = head_four 0 (omega (arith, leb-true version_place (taken p) y, n)) in
              rw (z, f, ← sized, n) q
          go false y = sym (small (omega (arith, leb-false version_place (taken p) y, n)))

      head_open : length xs < length s → ended p ≡ false
      head_open h = head_ended false (ne_eqb (length xs) (length s) (λ q. omega arith)) (λ l. refl)

      head_byte : (b : ℕ) → length xs < length s → step last c (registers_of w) p b ≡ holds (header_step c (keep p b))
      unfolding step
      head_byte b h =
          let a : not (eqb p.number 0) ≡ false = rw (eq-eqb p.number 0 o.good) in
          let d : eqb p.place 0 ≡ true = eq-eqb p.place 0 o.place in
          rw (a, head_open h, d)

      -- before the version is in nothing shows
      head_early : length xs ≤ version_place → header_shows c p ≡ p
      unfolding header_shows unknown other shows_by refusing
      head_early h =
          rw (head_open (omega arith), le-ltb version_place p.kept (omega (arith, o.kept)), le-ltb (version_place + shift (version_of p.bytes)) p.kept (omega (arith, o.kept)))
          (off (known_version (version_of p.bytes)) (eqb (stream_channels p.bytes) c))
        where
          off : (u x : Bool) → cond (not u && false) (faulty 22 version_place p) (cond (not x && false) (faulty 28 version_place p) p) ≡ p
          off true true = refl
          off true false = refl
          off false true = refl
          off false false = refl

      module _ (in_it : version_place < length xs) where
        head_version : version_of p.bytes ≡ v
        head_version = head_at version_place in_it

        head_unknown : length xs < length s → known_version v ≡ false → header_shows c p ≡ faulty 22 version_place p
        unfolding header_shows unknown shows_by refusing
        head_unknown h u = rw (head_open h, lt-ltb version_place p.kept (omega (arith, o.kept)), head_version, u)

        module _ (u : known_version v ≡ true) where
          -- the number of channels is not in yet
          head_unsaid : length xs < length s → length xs ≤ said_at → header_shows c p ≡ p
          unfolding header_shows unknown other shows_by refusing
          head_unsaid h l =
              rw (head_open h, head_version, u, le-ltb said_at p.kept (omega (arith, o.kept))) (off (eqb (stream_channels p.bytes) c))
            where
              off : (x : Bool) → cond (not x && false) (faulty 28 version_place p) p ≡ p
              off true = refl
              off false = refl

          module _ (m : said_at < length xs) where
            head_channels : stream_channels p.bytes ≡ stream_channels s
            unfolding stream_channels shift
            head_channels = rw head_version (go (ltb v 3) refl)
              where
                go : (b : Bool) → ltb v 3 ≡ b → cond b 4 (byte_at p.bytes channels_place) ≡ cond b 4 (byte_at s channels_place)
                go true q = refl
                go false q = head_at channels_place (let n : version_place + cond (ltb v 3) 0 1 < length xs = m in let y : version_place + 1 < length xs = rw q at n in omega arith)

            head_other : length xs < length s → eqb (stream_channels s) c ≡ false → header_shows c p ≡ faulty 28 version_place p
            unfolding header_shows unknown other shows_by refusing
            head_other h x = rw (head_open h, head_version, u, head_channels, x, lt-ltb said_at p.kept (omega (arith, o.kept)))

            head_quiet : length xs < length s → eqb (stream_channels s) c ≡ true → header_shows c p ≡ p
            unfolding header_shows unknown other refusing
            head_quiet h x = rw (head_open h, head_version, u, head_channels, x)

            -- at the end of a stream of nine bytes
            head_nine : length xs ≡ length s → eqb (stream_channels s) c ≡ true → header_shows c p ≡ faulty 28 version_place p
            unfolding header_shows unknown other refusing
            head_nine h x =
                rw (head_ended true (eq-eqb (length xs) (length s) h) (λ l. absurd (omega arith)), head_version, u, head_channels, x, le-ltb p.kept least_place (omega (arith, o.kept)))

    -- what is known of the bytes that are in
    pub record Heard (xs : List ℕ) : Type 0 where
      pub before : length xs < first_record s
      pub known : version_place < length xs → known_version v ≡ true
      pub counted : said_at < length xs → eqb (stream_channels s) c ≡ true

    head_comes : (ys xs : List ℕ) (p : Arrival) → s ≡ xs ++ ys → length xs < length s → Heard xs → Opening 0 xs p → p.records ≡ 0 → Comes last c registers_of k v (fed p w) ys said
    unfolding header_step
    head_comes [] xs p e h g o r = absurd (omega (arith, ap length e, length-append xs []))
    head_comes (y ∷ ys) xs p e h g o r = go (ltb version_place (length (xs ++ y ∷ []))) refl (λ m f. head_comes ys (xs ++ y ∷ []) (keep p y) cut m f opened r)
      where
        len : length (xs ++ y ∷ []) ≡ length xs + 1
        len = length-append xs (y ∷ [])

        cut : s ≡ (xs ++ y ∷ []) ++ ys
        cut = e ∙ sym (append_assoc xs (y ∷ []) ys)

        opened : Opening 0 (xs ++ y ∷ []) (keep p y)
        opened = open_more 0 xs p y (omega (arith, g.before, shift_most v)) o

        byte : step last c (registers_of w) p y ≡ holds (header_step c (keep p y))
        byte = head_byte xs (y ∷ ys) p e o y h

        -- a byte that does not close the header
        not-closed : (p.kept + 1 ≡ first_record (keep p y).bytes → ⊥) → step last c (registers_of w) p y ≡ holds (header_shows c (keep p y))
        not-closed n = byte ∙ rw (ne_eqb (p.kept + 1) (first_record (keep p y).bytes) n)

        faults : (number : ℕ) → 0 < number → header_shows c (keep p y) ≡ faulty number version_place (keep p y) → (p.kept + 1 ≡ first_record (keep p y).bytes → ⊥) → said ≡ refusal number version_place → Comes last c registers_of k v (fed p w) (y ∷ ys) said
        faults number pos x n q = rw q (comes_held last c registers_of k v (fed p w) y ys (refusal number version_place) (faulty number version_place (keep p y)) (not-closed n ∙ rw x) (comes_fault last c registers_of k v (fed (faulty number version_place (keep p y)) w) ys number version_place pos refl refl))

        goes_on : header_shows c (keep p y) ≡ keep p y → (p.kept + 1 ≡ first_record (keep p y).bytes → ⊥) → Comes last c registers_of k v (fed (keep p y) w) ys said → Comes last c registers_of k v (fed p w) (y ∷ ys) said
        goes_on x n rest = comes_held last c registers_of k v (fed p w) y ys said (keep p y) (not-closed n ∙ rw x) rest

        -- the header closes: its numbers are the stream's
        closes : version_place < length (xs ++ y ∷ []) → known_version v ≡ true → length (xs ++ y ∷ []) ≡ first_record s → Comes last c registers_of k v (fed p w) (y ∷ ys) said
        closes in_it u n =
            let f₀ : version_of (keep p y).bytes ≡ v = head_version (xs ++ y ∷ []) ys (keep p y) cut opened in_it in
            let q : Arrival = headed (keep p y) in
            let b : eqb (p.kept + 1) (first_record (keep p y).bytes) ≡ true = rw f₀ (eq-eqb (p.kept + 1) (first_record s) (omega (arith, n, len, o.kept))) in
            let f : q.follow ≡ four_at s 0 = head_four (xs ++ y ∷ []) ys (keep p y) cut opened 0 (omega (arith, n)) in
            let i : q.count ≡ tick_count s = rw f₀ (head_four (xs ++ y ∷ []) ys (keep p y) cut opened (count_place + shift v) (omega (arith, n))) in
            let a : Opening (first_record s) [] q = record { place = omega (arith, o.place, o.kept, n, len); kept = refl; bytes = refl; long = opened.long; good = o.good } in
            let l : Rest (length s) v (first_record s) (tick_count s) q = record { after = omega arith; follow = omega arith; count = omega arith; version = f₀ } in
            let d : drop (first_record s) s ≡ ys = ap (drop (first_record s)) cut ∙ drop_at (xs ++ y ∷ []) ys (first_record s) n in
            let inside : first_record s ≤ length s = omega (arith, n, head_within (xs ++ y ∷ []) ys (keep p y) cut opened) in
            let next = records_come last c registers_of k few keeps s v (tick_count s) (first_record s) at_first w q (omega arith) inside fresh a l in
            rw (u, le-ltb (length s) (first_record s) inside, g.counted (omega (arith, n, len))) (comes_held last c registers_of k v (fed p w) y ys _ (end_shows q) (byte ∙ rw b) (rw d at next))

        -- the version is in, and known, and the header is open
        stays : version_place < length (xs ++ y ∷ []) → known_version v ≡ true → length (xs ++ y ∷ []) < first_record s → (length (xs ++ y ∷ []) < length s → Heard (xs ++ y ∷ []) → Comes last c registers_of k v (fed (keep p y) w) ys said) → Comes last c registers_of k v (fed p w) (y ∷ ys) said
        stays in_it u m ih = by (ltb said_at (length (xs ++ y ∷ []))) refl (eqb (stream_channels s) c) refl (eqb (length (xs ++ y ∷ [])) (length s)) refl
          where
            f₀ : version_of (keep p y).bytes ≡ v
            f₀ = head_version (xs ++ y ∷ []) ys (keep p y) cut opened in_it

            unclosed : p.kept + 1 ≡ first_record (keep p y).bytes → ⊥
            unclosed q = let z : p.kept + 1 ≡ first_record s = rw f₀ at q in omega (arith, o.kept, len)

            in_all : length (xs ++ y ∷ []) ≤ length s
            in_all = head_within (xs ++ y ∷ []) ys (keep p y) cut opened

            by : (a : Bool) → ltb said_at (length (xs ++ y ∷ [])) ≡ a → (x : Bool) → eqb (stream_channels s) c ≡ x → (d : Bool) → eqb (length (xs ++ y ∷ [])) (length s) ≡ d → Comes last c registers_of k v (fed p w) (y ∷ ys) said
            by false a x z d t =
                let l = ltb-false said_at (length (xs ++ y ∷ [])) a in
                goes_on (head_unsaid (xs ++ y ∷ []) ys (keep p y) cut opened in_it u (omega (arith, shift_most v)) l) unclosed (ih (omega (arith, shift_most v)) (record { before = m; known = λ i. u; counted = λ i. absurd (omega arith) }))
            by true a false z d t =
                let l = ltb-true said_at (length (xs ++ y ∷ [])) a in
                let first : length xs ≤ said_at = not-counted (ltb said_at (length xs)) refl in
                faults 28 (omega arith) (head_other (xs ++ y ∷ []) ys (keep p y) cut opened in_it u l (omega (arith, len, shift_most v)) z) unclosed (rw (u, z) (off (ltb (length s) (first_record s))))
              where
                not-counted : (k : Bool) → ltb said_at (length xs) ≡ k → length xs ≤ said_at
                not-counted true q = absurd (true≢false (sym (g.counted (ltb-true said_at (length xs) q)) ∙ z))
                not-counted false q = ltb-false said_at (length xs) q

                off : (k : Bool) → cond (k || true) (refusal 28 version_place) (decode_records last c s (tick_count s) (first_record s) at_first) ≡ refusal 28 version_place
                off true = refl
                off false = refl
            by true a true z true t =
                let l = ltb-true said_at (length (xs ++ y ∷ [])) a in
                let n = eqb-true (length (xs ++ y ∷ [])) (length s) t in
                faults 28 (omega arith) (head_nine (xs ++ y ∷ []) ys (keep p y) cut opened in_it u l n z) unclosed (rw (u, lt-ltb (length s) (first_record s) (omega arith)))
            by true a true z false t =
                let l = ltb-true said_at (length (xs ++ y ∷ [])) a in
                let n : length (xs ++ y ∷ []) < length s = omega (arith, in_all, eqb-false (length (xs ++ y ∷ [])) (length s) t) in
                goes_on (head_quiet (xs ++ y ∷ []) ys (keep p y) cut opened in_it u l n z) unclosed (ih n (record { before = m; known = λ i. u; counted = λ i. z }))

        go : (b : Bool) → ltb version_place (length (xs ++ y ∷ [])) ≡ b → (length (xs ++ y ∷ []) < length s → Heard (xs ++ y ∷ []) → Comes last c registers_of k v (fed (keep p y) w) ys said) → Comes last c registers_of k v (fed p w) (y ∷ ys) said
        go false b ih =
            let l = ltb-false version_place (length (xs ++ y ∷ [])) b in
            goes_on (head_early (xs ++ y ∷ []) ys (keep p y) cut opened l) (λ q. omega (arith, o.kept, len))
            (ih (omega arith) (record { before = omega arith; known = λ i. absurd (omega arith); counted = λ i. absurd (omega arith) }))
        go true b ih = known (known_version v) refl (eqb (length (xs ++ y ∷ [])) (first_record s)) refl
          where
            in_it : version_place < length (xs ++ y ∷ [])
            in_it = ltb-true version_place (length (xs ++ y ∷ [])) b

            known : (u : Bool) → known_version v ≡ u → (f : Bool) → eqb (length (xs ++ y ∷ [])) (first_record s) ≡ f → Comes last c registers_of k v (fed p w) (y ∷ ys) said
            known true u true f = closes in_it u (eqb-true (length (xs ++ y ∷ [])) (first_record s) f)
            known true u false f = stays in_it u (omega (arith, len, g.before, eqb-false (length (xs ++ y ∷ [])) (first_record s) f)) ih
            known false u f x =
                let first : length xs ≤ version_place = not_known (ltb version_place (length xs)) refl in
                faults 22 (omega arith) (head_unknown (xs ++ y ∷ []) ys (keep p y) cut opened in_it (omega (arith, len)) u) (λ q. omega (arith, o.kept, len)) (rw u)
              where
                not_known : (k : Bool) → ltb version_place (length xs) ≡ k → length xs ≤ version_place
                not_known true q = absurd (true≢false (sym (g.known (ltb-true version_place (length xs) q)) ∙ u))
                not_known false q = ltb-false version_place (length xs) q

    -- a stream of its declared length, fed byte by byte to a board that begins
    pub stream_comes : Comes last c registers_of k v (fed at_start w) s (decode last c s)
    unfolding decode_after refusing at_start
    stream_comes =
        rw (le-ltb (length s) least_place long, eq-eqb (length s) (version_place + four_at s 0) sized)
        (head_comes s [] at_start refl (omega arith) (record { before = omega arith; known = λ i. absurd (omega arith); counted = λ i. absurd (omega arith) }) (record { place = refl; kept = refl; bytes = refl; long = length-replicate {A = ℕ} kept_bytes 0; good = refl }) refl)
