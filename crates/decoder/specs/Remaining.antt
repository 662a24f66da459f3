-- A stream that is decoded record by record: what is left of it (`Left`), by the registers, the place and the number of records left.
-- Assumes nothing.
use Rattle.std.specs.Prelude.{ℕ, zero, suc, ◌+◌, ◌-◌, ◌≤◌, ◌<◌, ◌≡◌, true, not, cond, ◌||◌, Ok, List, [], ◌∷◌, length, ltb, eqb, IsOk}
use Rattle.std.proofs.Math.Path.{refl, ap}
use Rattle.std.proofs.Common.{sym, ◌∙◌, true≢false}
use native.Mathlib.Omega.{arith}
use Rattle.laws.specs.Choice.{either}
use Rattle.common.specs.declared.Answer.{Answer}
use Rattle.common.specs.Bytes.{four_at}
use Rattle.common.specs.Answers.{accepted, refusing}
use Rattle.ticks.specs.declared.Command.{Command}
use Rattle.ticks.specs.declared.Tick.{Tick}
use Rattle.ticks.specs.Legal.{LegalTick, LegalTicks, more}
use Rattle.records.specs.Format.{version_place, least_place, known_version, version_of, stream_channels, tick_count, first_record, at_first, read, read_record, Decoded, refusal, ticks, with_tick, decode_records, decode_after, decode, read_by}
use Rattle.records.specs.Reads.{on_either, on_good, passed, not-ticks, with_ticks}
use Rattle.records.specs.Decoded.{stream_of_lem}
use Rattle.decoder.specs.declared.reading.Record.{Record}
use Rattle.decoder.specs.Answers.{answer_of}
use Rattle.decoder.specs.Results.{as_result, as_record, was_read}
use Rattle.ticks.specs.Commands.{sounding_of}
use Rattle.decoder.specs.Whole.{has_ticks, ticks_in, Whole}

-- ---- the next record
pub next_record : (last c : ℕ) (s : List ℕ) (n at : ℕ) (registers : List Command) → 0 < n
    → decode_records last c s n at registers ≡ read_by (refusal 23 at) (refusal 23 at) (read_record last c s at registers) (λ t p. with_tick t (decode_records last c s (n - 1) p t.commands))
unfolding decode_records
next_record last c s zero at registers h = absurd (omega arith)
next_record last c s (suc n) at registers h =
    let e : suc n - 1 ≡ n = omega arith in
    rw e

-- ---- a stream that is not refused
-- its ticks
pub record Good (last c : ℕ) (s : List ℕ) : Type 0 where
  pub its : List Tick
  pub is : decode last c s ≡ ticks its

-- a refusal has a number
abbrev Numbered : Decoded → Type 0
Numbered (refusal number place) = 0 < number
Numbered (ticks ts) = Unit

with_numbered : (t : Tick) (d : Decoded) → Numbered d → Numbered (with_tick t d)
unfolding with_tick
with_numbered t (refusal number place) h = h
with_numbered t (ticks ts) h = tt

records_numbered : (last c : ℕ) (s : List ℕ) (n at : ℕ) (registers : List Command) → Numbered (decode_records last c s n at registers)
unfolding decode_records
records_numbered last c s zero at registers = either Numbered (eqb at (length s)) _ _ (λ e. tt) (λ e. omega arith)
records_numbered last c s (suc n) at registers =
    on_either Numbered (refusal 23 at) (read_record last c s at registers) _ (omega arith) (λ t p e. with_numbered t (decode_records last c s n p t.commands) (records_numbered last c s n p t.commands))

decode_numbered : (last c : ℕ) (s : List ℕ) → Numbered (decode last c s)
unfolding decode_after refusing
decode_numbered last c s =
    let rest = decode_records last c s (tick_count s) (first_record s) at_first in
    let unknown = not (known_version (version_of s)) in
    let other = ltb (length s) (first_record s) || not (eqb (stream_channels s) c) in
    either Numbered (ltb (length s) least_place || not (eqb (length s) (version_place + four_at s 0))) (refusal 21 (length s)) (cond unknown (refusal 22 version_place) (cond other (refusal 28 version_place) rest)) (λ e. omega arith)
    (λ e.
    either Numbered unknown (refusal 22 version_place) (cond other (refusal 28 version_place) rest) (λ q. omega arith)
    (λ q. either Numbered other (refusal 28 version_place) rest (λ o. omega arith) (λ o. records_numbered last c s (tick_count s) (first_record s) at_first)))

pub checked_good : (last c : ℕ) (s : List ℕ) (a : Answer) → a ≡ answer_of (decode last c s) → a.number ≡ 0 → Good last c s
unfolding answer_of
checked_good last c s a e z = go (decode last c s) refl (decode_numbered last c s) e
  where
    go : (d : Decoded) → decode last c s ≡ d → Numbered d → a ≡ answer_of d → Good last c s
    go (refusal k p) q h y = absurd (omega (arith, ap (λ (b : Answer). b.number) y))
    go (ticks ts) q h y = record { its = ts; is = q }

-- it is whole
pub whole_by : (last c : ℕ) (s : List ℕ) → accepted 0 ≡ answer_of (decode last c s) → Whole last c s
unfolding has_ticks
whole_by last c s e = let g = checked_good last c s (accepted 0) e refl in rw g.is

pub whole_good : (last c : ℕ) (s : List ℕ) → Whole last c s → Good last c s
unfolding has_ticks
whole_good last c s h = go (decode last c s) refl h
  where
    go : (d : Decoded) → decode last c s ≡ d → has_ticks d ≡ true → Good last c s
    go (refusal number place) e t = absurd (true≢false (sym t))
    go (ticks ts) e t = record { its = ts; is = e }

-- and its ticks are legal
pub whole_ticks : (last c : ℕ) (s : List ℕ) → Whole last c s → decode last c s ≡ ticks (ticks_in (decode last c s))
unfolding ticks_in
whole_ticks last c s h = let g = whole_good last c s h in rw g.is

pub whole_legal : (last c : ℕ) (s : List ℕ) → Whole last c s → LegalTicks last (sounding_of at_first) (ticks_in (decode last c s))
whole_legal last c s h = (stream_of_lem last c s _ (whole_ticks last c s h)).legal

-- ---- what is left of it
-- n records from a place on, after the registers: their ticks are ts
pub record Left (last c : ℕ) (s : List ℕ) (n at : ℕ) (registers : List Command) (ts : List Tick) : Type 0 where
  pub reads : decode_records last c s n at registers ≡ ticks ts
  pub legal : LegalTicks last (sounding_of registers) ts

-- at first all records are left
pub left_begin : (last c : ℕ) (s : List ℕ) (ts : List Tick) → decode last c s ≡ ticks ts → Left last c s (tick_count s) (first_record s) at_first ts
left_begin last c s ts e =
    let a = stream_of_lem last c s ts e in
    record { reads = a.reads; legal = a.legal }

-- the record r that was read of ts: it is the first tick, legal after the registers, and n records are left after it
pub record Next (last c : ℕ) (s : List ℕ) (n : ℕ) (registers : List Command) (ts : List Tick) (r : Record) : Type 0 where
  pub rest : List Tick
  pub is : ts ≡ r.tick ∷ rest
  pub legal : LegalTick last (sounding_of registers) r.tick
  pub left : Left last c s n r.next r.tick.commands rest

read_same : (r : Record) (t : Tick) (n : ℕ) → read r.tick r.next ≡ read t n → r ≡ record { tick = t; next = n }
read_same r t n e =
    let p : r.tick ≡ t = cc in
    let q : r.next ≡ n = cc in
    λ i. record { tick = p i; next = q i }

first_legal : (last : ℕ) (soundings : List ℕ) (t : Tick) (ts : List Tick) → LegalTicks last soundings (t ∷ ts) → LegalTick last soundings t × LegalTicks last (sounding_of t.commands) ts
first_legal last soundings t ts (more l ls) = (l, ls)

module _ (last c : ℕ) (s : List ℕ) (n i at : ℕ) (registers : List Command) (ts : List Tick) (w : Left last c s (n - i) at registers ts) where
  -- the next record is there
  pub left_there : i < n → IsOk (as_record (read_record last c s at registers))
  unfolding as_result
  left_there h =
      let a = on_good (refusal 23 at) (read_record last c s at registers) (λ t p. with_tick t (decode_records last c s (n - i - 1) p t.commands)) (ticks ts) (not-ticks 23 at ts)
      (sym (next_record last c s (n - i) at registers (omega arith)) ∙ w.reads) in
      rw a.is

  pub left_next : (r : Record) → i < n → Ok r ≡ as_record (read_record last c s at registers) → Next last c s (n - (i + 1)) registers ts r
  left_next r h e =
      let a = on_good (refusal 23 at) (read_record last c s at registers) (λ t p. with_tick t (decode_records last c s (n - i - 1) p t.commands)) (ticks ts) (not-ticks 23 at ts)
      (sym (next_record last c s (n - i) at registers (omega arith)) ∙ w.reads) in
      let f = with_ticks a.got (decode_records last c s (n - i - 1) a.next a.got.commands) ts a.on in
      let l = first_legal last (sounding_of registers) a.got f.others (rw f.all at w.legal) in
      let y : r ≡ record { tick = a.got; next = a.next } = read_same r a.got a.next (sym (was_read (read_record last c s at registers) r e) ∙ a.is) in
      let k : n - i - 1 ≡ n - (i + 1) = omega arith in
      record { rest = f.others; is = rw y f.all; legal = rw y l.0; left = rw y (record { reads = rw (← k) f.is; legal = l.1 }) }

  -- none are left, and no ticks
  pub left_end : n ≤ i → ts ≡ []
  unfolding decode_records
  left_end h =
      let z : n - i ≡ 0 = omega arith in
      let q = (passed (eqb at (length s)) (ticks []) (refusal 23 at) (ticks ts) (not-ticks 23 at ts) (rw z at w.reads)).1 in
      cc

-- what is left is known by where it begins
pub left_same : (last c : ℕ) (s : List ℕ) (n at : ℕ) (registers : List Command) (ts ts' : List Tick) → Left last c s n at registers ts → Left last c s n at registers ts' → ts ≡ ts'
unfolding ticks_in
left_same last c s n at registers ts ts' w w' = ap ticks_in (sym w.reads ∙ w'.reads)
