-- Every byte keeps an arrival legal (`step_legal`), and so does closing (`closed_legal`).
-- Assumes nothing.
use Rattle.std.specs.Prelude.{ℕ, ◌+◌, ◌≤◌, ◌<◌, ◌≡◌, Bool, not, ◌&&◌, ◌||◌, List, length}
use Rattle.std.proofs.Math.Path.{refl, ap}
use Rattle.std.proofs.Common.{◌∙◌, get_or-set_other}
use Rattle.std.proofs.Math.Bool.{true, false, cond}
use native.Mathlib.Omega.{arith}
use Rattle.std.proofs.Math.Dec.{leb, ltb, eqb}
use borrow.Author.Tests.{eq-eqb, ne_eqb, le-leb, lt-leb, lt-ltb, le-ltb, eqb-true, eqb-false, leb-false}
use Rattle.laws.specs.Every.{both}
use Rattle.common.specs.Limits.{width}
use Rattle.common.specs.Bytes.{byte_at, four_at}
use Rattle.common.specs.Answers.{refusing}
use Rattle.ticks.specs.declared.Command.{Command}
use Rattle.ticks.specs.declared.Tick.{Tick}
use Rattle.records.specs.Format.{version_place, channels_place, least_place, old_channels, known_version, version_of, shift, stream_channels, first_record, Read, bad, short, read, read_record}
use Rattle.arrival.specs.declared.Arrival.{Arrival}
use Rattle.arrival.specs.Arrive.{kept_bytes, at_start, bytes_of, taken, total, ended, faulty, keep, headed, played, shows_by, unknown, other, header_shows, end_shows, open_shows, Step, holds, plays, header_step, record_step, step, closed, stated_channels, no_state, record_shows, rest_shows, shows, keeps, kept_fault, most_records, legal_arrival}
use Rattle.arrival.specs.Opening.{shift_most}
use Rattle.arrival.specs.Ready.{Has, legal_has, legal_ready, keeps_none, head_more, keep_most, headed_most, played_most}

legal_by : (last c : ℕ) (rs : List Command) (p : Arrival) → Has last c rs p → legal_arrival last c rs p ≡ true
unfolding legal_arrival
legal_by last c rs p h =
    both _ _ (le-leb p.records (most_records p) h.few) (both _ _ (le-leb (taken p) (total p) h.most) (both _ _ h.fault h.kept))

-- ---- with a fault that shows, with one where none shows, and without
module _ (last c : ℕ) (rs : List Command) (p : Arrival) (f : p.records ≤ most_records p) (m : taken p ≤ total p) where
  shown_legal : (number place : ℕ) → kept_fault number ≡ true → shows last c rs (faulty 0 0 p) ≡ faulty number place p → legal_arrival last c rs (faulty number place p) ≡ true
  unfolding keeps most_records total
  shown_legal number place k e =
      legal_by last c rs (faulty number place p)
      (record { few = f; most = m; fault = k; kept = rw (e, eq-eqb number number refl, eq-eqb place place refl) (off (eqb number 0)) })
    where
      off : (b : Bool) → b || true ≡ true
      off true = refl
      off false = refl

  hidden_legal : (number place : ℕ) → kept_fault number ≡ true → (shows last c rs (faulty 0 0 p)).number ≡ 0 → legal_arrival last c rs (faulty number place p) ≡ true
  unfolding keeps most_records total
  hidden_legal number place k e = legal_by last c rs (faulty number place p) (record { few = f; most = m; fault = k; kept = rw e })

  quiet_legal : p.number ≡ 0 → (shows last c rs (faulty 0 0 p)).number ≡ 0 → legal_arrival last c rs p ≡ true
  unfolding keeps kept_fault
  quiet_legal n e = legal_by last c rs p (record { few = f; most = m; fault = rw n; kept = rw e })

  -- ---- a table of faults: one of these, or none
  module _ (n : p.number ≡ 0) where
    end_legal : shows last c rs (faulty 0 0 p) ≡ end_shows (faulty 0 0 p) → legal_arrival last c rs (end_shows p) ≡ true
    unfolding end_shows refusing ended total kept_fault
    end_legal s = go (ended p && ltb p.records p.count) s
      where
        go : (b : Bool) → shows last c rs (faulty 0 0 p) ≡ cond b (faulty 23 p.place p) (faulty 0 0 p) → legal_arrival last c rs (cond b (faulty 23 p.place p) p) ≡ true
        go true e = shown_legal 23 p.place refl e
        go false e = quiet_legal n (ap (λ (q : Arrival). q.number) e)

    open_legal : shows last c rs (faulty 0 0 p) ≡ open_shows (faulty 0 0 p) → legal_arrival last c rs (open_shows p) ≡ true
    unfolding open_shows refusing ended total kept_fault
    open_legal s = go (ended p) s
      where
        go : (b : Bool) → shows last c rs (faulty 0 0 p) ≡ cond b (faulty 23 p.place p) (faulty 0 0 p) → legal_arrival last c rs (cond b (faulty 23 p.place p) p) ≡ true
        go true e = shown_legal 23 p.place refl e
        go false e = quiet_legal n (ap (λ (q : Arrival). q.number) e)

    header_legal : shows last c rs (faulty 0 0 p) ≡ header_shows c (faulty 0 0 p) → legal_arrival last c rs (header_shows c p) ≡ true
    unfolding header_shows refusing ended total kept_fault
    header_legal s = go (unknown p.bytes p.kept (ended p)) (other c p.bytes p.kept (ended p)) (ended p) (ltb p.kept least_place) s
      where
        go : (u o d l : Bool)
            → shows last c rs (faulty 0 0 p) ≡ cond u (faulty 22 version_place p) (cond o (faulty 28 version_place p) (cond (d && l) (faulty 21 (taken p) p) (cond d (faulty 28 version_place p) (faulty 0 0 p))))
            → legal_arrival last c rs (cond u (faulty 22 version_place p) (cond o (faulty 28 version_place p) (cond (d && l) (faulty 21 (taken p) p) (cond d (faulty 28 version_place p) p)))) ≡ true
        go true o d l e = shown_legal 22 version_place refl e
        go false true d l e = shown_legal 28 version_place refl e
        go false false true true e = shown_legal 21 (taken p) refl e
        go false false true false e = shown_legal 28 version_place refl e
        go false false false l e = quiet_legal n (ap (λ (q : Arrival). q.number) e)

-- ---- what an arrival that shows no fault says
module _ (last c : ℕ) (rs : List Command) (p : Arrival) (e : (shows last c rs p).number ≡ 0) where
  module _ (z : p.place ≡ 0 → ⊥) where
    known_past : (known_version p.version ≡ true) × (eqb (stated_channels p) c ≡ true)
    unfolding shows
    known_past = go (known_version p.version) refl (eqb (stated_channels p) c) refl (rw (ne_eqb p.place 0 z) at e)
      where
        go : (u : Bool) → known_version p.version ≡ u → (o : Bool) → eqb (stated_channels p) c ≡ o
            → (cond (not u) (faulty 22 version_place p) (cond (not o) (faulty 28 version_place p) (rest_shows last c rs p))).number ≡ 0 → (u ≡ true) × (o ≡ true)
        go false x o y q = absurd (omega arith)
        go true x false y q = absurd (omega arith)
        go true x true y q = (refl, refl)

  module _ (z : p.place ≡ 0) where
    header_quiet : (p.kept < first_record p.bytes) × ((header_shows c p).number ≡ 0)
    unfolding shows
    header_quiet = go (leb (first_record p.bytes) p.kept) refl (rw (eq-eqb p.place 0 z) at e)
      where
        go : (b : Bool) → leb (first_record p.bytes) p.kept ≡ b → (cond b (faulty no_state 0 p) (header_shows c p)).number ≡ 0 → (p.kept < first_record p.bytes) × ((header_shows c p).number ≡ 0)
        go true x q = absurd (omega arith)
        go false x q = (leb-false (first_record p.bytes) p.kept x, q)

-- past the byte that would have shown it
shows_past : (at kept : ℕ) (d : Bool) → at + 1 < kept → shows_by at kept d ≡ true
unfolding shows_by
shows_past at kept d h = rw (lt-ltb at kept (omega arith), ne_eqb kept (at + 1) (λ q. omega arith)) (off d)
  where
    off : (d : Bool) → not (d && false) ≡ true
    off true = refl
    off false = refl

header_known : (c : ℕ) (p : Arrival) → version_place + shift (version_of p.bytes) + 1 < p.kept → (header_shows c p).number ≡ 0 → (known_version (version_of p.bytes) ≡ true) × (eqb (stream_channels p.bytes) c ≡ true)
unfolding header_shows refusing unknown other
header_known c p h e =
    go (known_version (version_of p.bytes)) (eqb (stream_channels p.bytes) c) (ended p) (ltb p.kept least_place)
    (rw (shows_past version_place p.kept (ended p) (omega arith), shows_past (version_place + shift (version_of p.bytes)) p.kept (ended p) h) at e)
  where
    go : (u o d l : Bool) → (cond (not u && true) (faulty 22 version_place p) (cond (not o && true) (faulty 28 version_place p) (cond (d && l) (faulty 21 (taken p) p) (cond d (faulty 28 version_place p) p)))).number ≡ 0 → (u ≡ true) × (o ≡ true)
    go false o d l q = absurd (omega arith)
    go true false d l q = absurd (omega arith)
    go true true d l q = (refl, refl)

-- ---- a byte
module _ (last c : ℕ) (rs : List Command) (p : Arrival) (b : ℕ) (h : Has last c rs p) (n : p.number ≡ 0) (e : ended p ≡ false) where
  quiet : (shows last c rs (faulty 0 0 p)).number ≡ 0
  quiet = keeps_none p (shows last c rs (faulty 0 0 p)) h.kept n

  most : taken (keep p b) ≤ total (keep p b)
  most = keep_most p b h.most e

  few : (keep p b).records ≤ most_records (keep p b)
  unfolding most_records
  few = h.few

  module _ (z : p.place ≡ 0) where
    zero : eqb p.place 0 ≡ true
    zero = eq-eqb p.place 0 z

    parts : (p.kept < first_record p.bytes) × ((header_shows c (faulty 0 0 p)).number ≡ 0)
    parts = header_quiet last c rs (faulty 0 0 p) quiet z

    none : p.records ≡ 0
    unfolding most_records
    none = let f : p.records ≤ 0 = rw zero at h.few in omega arith

    -- the header's numbers are those that were in before
    same : (i : ℕ) → i < p.kept → byte_at (keep p b).bytes i ≡ byte_at p.bytes i
    same i l = get_or-set_other p.bytes p.kept i b 0 (λ w. omega arith)

    past_zero : eqb (p.place + (p.kept + 1)) 0 ≡ false
    past_zero = ne_eqb (p.place + (p.kept + 1)) 0 (λ w. omega arith)

    headed_shows : p.kept + 1 ≡ first_record (keep p b).bytes → shows last c rs (faulty 0 0 (headed (keep p b))) ≡ end_shows (faulty 0 0 (headed (keep p b)))
    unfolding shows rest_shows stated_channels stream_channels
    headed_shows x =
        let v : version_of (keep p b).bytes ≡ version_of p.bytes = same version_place (omega (arith, x)) in
        let o : byte_at (keep p b).bytes channels_place ≡ byte_at p.bytes channels_place = same channels_place (omega (arith, x)) in
        let k = header_known c (faulty 0 0 p) (omega (arith, x, ap shift v, shift_most (version_of p.bytes))) parts.1 in
        rw (past_zero, v, o, k.0, k.1)

    open_shows_lem : p.kept + 1 < first_record (keep p b).bytes → shows last c rs (faulty 0 0 (keep p b)) ≡ header_shows c (faulty 0 0 (keep p b))
    unfolding shows
    open_shows_lem x = rw (zero, lt-leb (first_record (keep p b).bytes) (p.kept + 1) x)

    heading_legal : legal_arrival last c rs (header_step c (keep p b)) ≡ true
    unfolding header_step most_records
    heading_legal = go (eqb (p.kept + 1) (first_record (keep p b).bytes)) refl
      where
        go : (k : Bool) → eqb (p.kept + 1) (first_record (keep p b).bytes) ≡ k → legal_arrival last c rs (cond k (end_shows (headed (keep p b))) (header_shows c (keep p b))) ≡ true
        go true k =
            end_legal last c rs (headed (keep p b)) (rw past_zero (omega (arith, none))) (headed_most (keep p b) z (omega arith) most) n (headed_shows (eqb-true (p.kept + 1) (first_record (keep p b).bytes) k))
        go false k = header_legal last c rs (keep p b) few most n (open_shows_lem (head_more p b parts.0 (eqb-false (p.kept + 1) (first_record (keep p b).bytes) k)))

  module _ (z : p.place ≡ 0 → ⊥) (room : p.kept < kept_bytes) where
    past : eqb p.place 0 ≡ false
    past = ne_eqb p.place 0 z

    rest_shows_lem : (o : Bool) → leb p.count p.records ≡ o → shows last c rs (faulty 0 0 (keep p b)) ≡ cond o (faulty 23 p.place (keep p b)) (record_shows (faulty 0 0 (keep p b)) (read_record last c (bytes_of (keep p b)) 0 rs))
    unfolding shows rest_shows stated_channels
    rest_shows_lem o x =
        let k = known_past last c rs (faulty 0 0 p) quiet z in
        rw (past, k.0, k.1, ne_eqb (p.kept + 1) 0 (λ w. omega arith), le-ltb kept_bytes (p.kept + 1) (omega arith), x)

    left_over : leb p.count p.records ≡ true → legal_arrival last c rs (faulty 23 p.place (keep p b)) ≡ true
    unfolding kept_fault
    left_over x = shown_legal last c rs (keep p b) few most 23 p.place refl (rest_shows_lem true x)

    module _ (more : p.records < p.count) where
      some : leb p.count p.records ≡ false
      some = lt-leb p.count p.records more

      bad_record : read_record last c (bytes_of (keep p b)) 0 rs ≡ bad → legal_arrival last c rs (faulty 23 p.place (keep p b)) ≡ true
      unfolding kept_fault record_shows
      bad_record r = shown_legal last c rs (keep p b) few most 23 p.place refl (rest_shows_lem false some ∙ rw r)

      open_record : read_record last c (bytes_of (keep p b)) 0 rs ≡ short → legal_arrival last c rs (open_shows (keep p b)) ≡ true
      unfolding record_shows
      open_record r = open_legal last c rs (keep p b) few most n (rest_shows_lem false some ∙ rw r)

      played_shows : (others : List Command) → shows last c others (faulty 0 0 (played (keep p b))) ≡ end_shows (faulty 0 0 (played (keep p b)))
      unfolding shows rest_shows stated_channels
      played_shows others =
          let y : eqb (p.place + (p.kept + 1)) 0 ≡ false = ne_eqb (p.place + (p.kept + 1)) 0 (λ w. omega arith) in
          let k = known_past last c rs (faulty 0 0 p) quiet z in
          rw (y, k.0, k.1)

      played_record : (others : List Command) → legal_arrival last c others (end_shows (played (keep p b))) ≡ true
      unfolding most_records
      played_record others =
          let y : eqb (p.place + (p.kept + 1)) 0 ≡ false = ne_eqb (p.place + (p.kept + 1)) 0 (λ w. omega arith) in
          end_legal last c others (played (keep p b)) (rw y (omega arith)) (played_most (keep p b) z most) n (played_shows others)

-- what holds of a step: a byte that plays nothing leaves it legal beside the same registers, and one that plays beside any
abbrev pub Kept : ℕ → ℕ → List Command → Step → Type 0
Kept last c rs (holds p) = legal_arrival last c rs p ≡ true
Kept last c rs (plays t p) = (others : List Command) → legal_arrival last c others p ≡ true

pub step_legal : (last c : ℕ) → c ≤ width → (rs : List Command) (p : Arrival) (b : ℕ) → length p.bytes ≡ kept_bytes → legal_arrival last c rs p ≡ true → Kept last c rs (step last c rs p b)
unfolding step record_step kept_fault
step_legal last c narrow rs p b long l = go (eqb p.number 0) refl (ended p) refl (eqb p.place 0) refl (leb p.count p.records) refl (read_record last c (bytes_of (keep p b)) 0 rs) refl
  where
    h : Has last c rs p
    h = legal_has last c rs p l

    room : eqb p.number 0 ≡ true → p.kept < kept_bytes
    room f = (legal_ready last c narrow rs p long l (eqb-true p.number 0 f)).room

    over_end : eqb p.number 0 ≡ true → legal_arrival last c rs (faulty 21 (taken p + 1) p) ≡ true
    over_end f = hidden_legal last c rs p h.few h.most 21 (taken p + 1) refl (keeps_none p (shows last c rs (faulty 0 0 p)) h.kept (eqb-true p.number 0 f))

    go : (f : Bool) → eqb p.number 0 ≡ f → (d : Bool) → ended p ≡ d → (z : Bool) → eqb p.place 0 ≡ z → (o : Bool) → leb p.count p.records ≡ o → (x : Read Tick) → read_record last c (bytes_of (keep p b)) 0 rs ≡ x
        → Kept last c rs (cond (not f) (holds p) (cond d (holds (faulty 21 (taken p + 1) p)) (cond z (holds (header_step c (keep p b))) (cond o (holds (faulty 23 p.place (keep p b))) (record_step (keep p b) x)))))
    go false f d e z i o j x r = l
    go true f true e z i o j x r = over_end f
    go true f false e true i o j x r = heading_legal last c rs p b h (eqb-true p.number 0 f) e (eqb-true p.place 0 i)
    go true f false e false i true j x r = left_over last c rs p b h (eqb-true p.number 0 f) e (eqb-false p.place 0 i) (room f) j
    go true f false e false i false j bad r = bad_record last c rs p b h (eqb-true p.number 0 f) e (eqb-false p.place 0 i) (room f) (leb-false p.count p.records j) r
    go true f false e false i false j short r = open_record last c rs p b h (eqb-true p.number 0 f) e (eqb-false p.place 0 i) (room f) (leb-false p.count p.records j) r
    go true f false e false i false j (read t k) r = λ others. played_record last c rs p b h (eqb-true p.number 0 f) e (eqb-false p.place 0 i) (room f) (leb-false p.count p.records j) others

-- ---- closing
pub closed_legal : (last c : ℕ) (rs : List Command) (p : Arrival) → legal_arrival last c rs p ≡ true → legal_arrival last c rs (closed p) ≡ true
unfolding closed kept_fault
closed_legal last c rs p l = go (eqb p.number 0) refl (ended p)
  where
    h : Has last c rs p
    h = legal_has last c rs p l

    go : (x : Bool) → eqb p.number 0 ≡ x → (y : Bool) → legal_arrival last c rs (cond (not x) p (cond y p (faulty 21 (taken p) p))) ≡ true
    go false x y = l
    go true x true = l
    go true x false = hidden_legal last c rs p h.few h.most 21 (taken p) refl (keeps_none p (shows last c rs (faulty 0 0 p)) h.kept (eqb-true p.number 0 x))

-- ---- where it begins
pub start_legal : (last c : ℕ) (rs : List Command) → legal_arrival last c rs at_start ≡ true
unfolding legal_arrival most_records total shows keeps kept_fault shows_by header_shows refusing ended unknown other at_start four_at known_version shift stream_channels
start_legal last c rs = rw (off (not (eqb old_channels c)))
  where
    off : (b : Bool) → b && false ≡ false
    off true = refl
    off false = refl
