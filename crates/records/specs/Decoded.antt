-- What is known of the ticks that a stream decodes to (`stream_of_lem`): its records read to them, and each is legal after the one before; and of a
-- single record that is read (`record_legal`). Assumes nothing.
use Rattle.std.specs.Prelude.{ℕ, zero, suc, ◌+◌, ◌-◌, ◌/◌, ◌%◌, ◌≤◌, ◌<◌, ◌≡◌, refl, Bool, true, false, not, cond, ◌&&◌, List, [], ◌∷◌, ◌++◌, length, get_or, take, drop, leb, ltb, eqb}
use Rattle.std.proofs.Common.{sym, ap, ◌∙◌, arith, length-take, get_or-take, get_or-drop, get_or-append-add, ltb-true, ltb-false, eqb-true}
use Rattle.std.proofs.Math.ListN.{get_or-append}
use Rattle.std.proofs.Math.Seq.{length_front}
use Rattle.std.proofs.lemmas.Bool.{not-false}
use Rattle.laws.specs.Tests.{or_parts}
use Rattle.laws.specs.Choice.{either}
use Rattle.laws.specs.Every.{second_of}
use Rattle.common.specs.Limits.{least_tempo, greatest_tempo, between}
use Rattle.common.specs.Bytes.{byte_at}
use Rattle.common.specs.LimitFacts.{between_has}
use Rattle.common.specs.AnswerLaws.{refusing_has}
use Rattle.ticks.specs.Commands.{nothing, sounding_of}
use Rattle.ticks.specs.declared.Command.{Command}
use Rattle.ticks.specs.declared.Tick.{Tick}
use Rattle.ticks.specs.Legal.{LegalCommand, LegalTick, length-sounding, get_or-sounding, LegalTicks, none, more}
use Rattle.records.specs.Legal.{legal_beside}
use Rattle.records.specs.LegalLaws.{beside_has, Unused}
use Rattle.records.specs.Registers.{Beside, nothing_legal, Holding, first_at, first_holding, take-holding, tick_holding}
use Rattle.records.specs.Reads.{on_good, not-read, passed, not-ticks, with_ticks, then_good, short_not_read, missed}
use Rattle.records.specs.Format.{stream_channels, tick_count, first_record, head_bytes, tempo_place, body_bytes, start_place, at_first, Read, bad, read, held, spelled, read_body, read_channel, read_channels, read_tick, read_record, Decoded, refusal, ticks, with_tick, decode_records, decode_after, decode, short, and_then, good_body, unused_bits, read_bodies}

-- ---- what is read is legal
body_legal : (last : ℕ) (s : List ℕ) (at : ℕ) (r c : Command) (n : ℕ) → read_body last s at r ≡ read c n → LegalCommand last r.sample c
unfolding read_body good_body
body_legal last s at r c n e =
    let start : Bool = leb (byte_at s (at + start_place)) 1 in
    let beside : Bool = legal_beside last r.sample (spelled s at) in
    let p = passed (start && beside) (cond (ltb (length s) (at + body_bytes)) short (read (spelled s at) (at + body_bytes))) bad (read c n) (not-read c n) e in
    let q = (missed (ltb (length s) (at + body_bytes)) short (read (spelled s at) (at + body_bytes)) (read c n) (short_not_read c n) p.1).1 in
    let same : spelled s at ≡ c = cc in
    rw same at (beside_has last r.sample (spelled s at) (second_of start beside p.0))

channel_legal : (last : ℕ) (s : List ℕ) (at : ℕ) (r c : Command) (m n : ℕ) → LegalCommand last r.sample (held r) → read_channel last s at r m ≡ read c n → LegalCommand last r.sample c
unfolding read_channel
channel_legal last s at r c m n l =
    either (λ (x : Read Command). x ≡ read c n → LegalCommand last r.sample c) (eqb (m % 2) 0) (read (held r) at) (read_body last s at r)
    (λ z e.
    let same : held r ≡ c = cc in
    rw same at l)
    (λ z e. body_legal last s at r c n e)

-- as many commands as registers, each legal beside its own
record Channels (last : ℕ) (rs cs : List Command) : Type 0 where
  pub long : length cs ≡ length rs
  pub beside : Beside last rs cs

channels_none : (last : ℕ) (cs : List Command) → cs ≡ [] → Channels last [] cs
channels_none last cs e = record { long = rw e; beside = λ i h. absurd (omega arith) }

channels_more : (last : ℕ) (r : Command) (rs cs : List Command) (c : Command) (ds : List Command) → cs ≡ c ∷ ds → LegalCommand last r.sample c → Channels last rs ds → Channels last (r ∷ rs) cs
channels_more last r rs cs c ds e l b = record { long = rw e (ap suc b.long); beside = λ i h. rw e (go i h) }
  where
    go : (i : ℕ) → i < suc (length rs) → LegalCommand last (get_or (r ∷ rs) i nothing).sample (get_or (c ∷ ds) i nothing)
    go zero h = l
    go (suc i) h = b.beside i (omega arith)

channels_legal : (last : ℕ) (s : List ℕ) (rs cs : List Command) (at m n : ℕ) → Holding last rs → read_channels last s at rs m ≡ read cs n → Channels last rs cs
unfolding read_channels
channels_legal last s [] cs at m n l e =
    let same : cs ≡ [] = cc in
    channels_none last cs same
channels_legal last s (r ∷ rs) cs at m n l e =
    let a = then_good (read_channel last s at r m) (λ c p. and_then (read_channels last s p rs (m / 2)) (λ ds k. read (c ∷ ds) k)) cs n e in
    let b = then_good (read_channels last s a.next rs (m / 2)) (λ ds k. read (a.got ∷ ds) k) cs n a.on in
    let q : read (a.got ∷ b.got) b.next ≡ read cs n = b.on in
    let same : cs ≡ a.got ∷ b.got = cc in
    channels_more last r rs cs a.got b.got same (channel_legal last s at r a.got m a.next (l 0) a.is) (channels_legal last s rs b.got a.next (m / 2) b.next (λ i. l (suc i)) b.is)

-- ---- a record, of which the first c channels are read
module _ (last c : ℕ) (rs cs : List Command) (b : Channels last (take c rs) cs) (u : Unused c rs) where
  others_unused : Unused c (cs ++ drop c rs)
  others_unused i h =
      let k : ℕ = i - length cs in
      let e : i ≡ length cs + k = omega (arith, b.long, length-take c rs) in
      rw (e, get_or-append-add cs (drop c rs) k nothing, get_or-drop c rs k nothing) (u (c + k) (omega arith))

  all_legal : (i : ℕ) → i < length rs → LegalCommand last (get_or rs i nothing).sample (get_or (cs ++ drop c rs) i nothing)
  all_legal i h = go (ltb i c) refl
    where
      go : (t : Bool) → ltb i c ≡ t → LegalCommand last (get_or rs i nothing).sample (get_or (cs ++ drop c rs) i nothing)
      go true e =
          let k : i < c = ltb-true i c e in
          let l : i < length (take c rs) = omega (arith, length-take c rs) in
          rw (get_or-append cs (drop c rs) nothing i (omega (arith, b.long)), ← get_or-take c rs i nothing k) (b.beside i l)
      go false e = rw (u i (ltb-false i c e), others_unused i (ltb-false i c e)) (nothing_legal last)

-- a good record's tick: legal after the registers, and nothing is told the channels that are not in use
pub record GoodTick (last c : ℕ) (registers : List Command) (t : Tick) : Type 0 where
  pub legal : LegalTick last (sounding_of registers) t
  pub unused : Unused c t.commands

pub record_legal : (last c : ℕ) (s : List ℕ) (at : ℕ) (registers : List Command) (t : Tick) (n : ℕ) → Holding last registers → Unused c registers → read_record last c s at registers ≡ read t n → GoodTick last c registers t
unfolding read_record read_bodies
record_legal last c s at registers t n l u e =
    let tempo : ℕ = byte_at s (at + tempo_place) in
    let x : Read (List Command) = read_channels last s (at + head_bytes) (take c registers) (byte_at s at) in
    let y : Read Tick = cond (between least_tempo greatest_tempo tempo) (and_then x (read_tick c registers tempo)) bad in
    let z = passed (eqb (unused_bits c (byte_at s at)) 0) (cond (ltb (length s) (at + head_bytes)) short y) bad (read t n) (not-read t n) e in
    let w = missed (ltb (length s) (at + head_bytes)) short y (read t n) (short_not_read t n) z.1 in
    let p = passed (between least_tempo greatest_tempo tempo) (and_then x (read_tick c registers tempo)) bad (read t n) (not-read t n) w.1 in
    let a = then_good x (read_tick c registers tempo) t n p.1 in
    let b = channels_legal last s (take c registers) a.got (at + head_bytes) (byte_at s at) a.next (take-holding last c registers l) a.is in
    let q : read_tick c registers tempo a.got a.next ≡ read t n = a.on in
    let same : t ≡ record { tempo = tempo; commands = a.got ++ drop c registers } = cc in
    rw same
    (record {
      legal =
          record {
            tempo = between_has least_tempo greatest_tempo tempo p.0;
            long = length_front registers a.got c b.long ∙ sym (length-sounding registers);
            commands = λ i h. rw (get_or-sounding registers i) (all_legal last c registers a.got b u i (rw (length-sounding registers) at h));
          };
      unused = others_unused last c registers a.got b u;
    })

-- ---- the records
records_legal : (last c : ℕ) (s : List ℕ) (n at : ℕ) (registers : List Command) (ts : List Tick) → Holding last registers → Unused c registers → decode_records last c s n at registers ≡ ticks ts → LegalTicks last (sounding_of registers) ts
unfolding decode_records
records_legal last c s zero at registers ts l u e =
    let q = (passed (eqb at (length s)) (ticks []) (refusal 23 at) (ticks ts) (not-ticks 23 at ts) e).1 in
    let same : ts ≡ [] = cc in
    rw same none
records_legal last c s (suc n) at registers ts l u e =
    let a = on_good (refusal 23 at) (read_record last c s at registers) (λ t p. with_tick t (decode_records last c s n p t.commands)) (ticks ts) (not-ticks 23 at ts) e in
    let t : Tick = a.got in
    let f = with_ticks t (decode_records last c s n a.next t.commands) ts a.on in
    let g = record_legal last c s at registers t a.next l u a.is in
    rw f.all (more g.legal (records_legal last c s n a.next t.commands f.others (tick_holding last (sounding_of registers) t g.legal) g.unused f.is))

-- ---- the whole stream
-- a stream of ticks ts: it has a header, it is for so many channels, its records read to ts, and these are legal
pub record StreamOf (last c : ℕ) (s : List ℕ) (ts : List Tick) : Type 0 where
  pub long : first_record s ≤ length s
  pub channels : stream_channels s ≡ c
  pub reads : decode_records last c s (tick_count s) (first_record s) at_first ≡ ticks ts
  pub legal : LegalTicks last (sounding_of at_first) ts

pub stream_of_lem : (last c : ℕ) (s : List ℕ) (ts : List Tick) → decode last c s ≡ ticks ts → StreamOf last c s ts
unfolding decode_after
stream_of_lem last c s ts =
    refusing_has (λ (d : Decoded). d ≡ ticks ts → StreamOf last c s ts) refusal (decode_records last c s (tick_count s) (first_record s) at_first) _
    (λ number place e. absurd (not-ticks number place ts e))
    (λ p e.
    let q = or_parts (ltb (length s) (first_record s)) (not (eqb (stream_channels s) c)) (p 2) in
    record {
      long = ltb-false (length s) (first_record s) q.0;
      channels = eqb-true (stream_channels s) c (not-false (eqb (stream_channels s) c) q.1);
      reads = e;
      legal = records_legal last c s (tick_count s) (first_record s) at_first ts (first_holding last) (λ i h. first_at i) e;
    })
