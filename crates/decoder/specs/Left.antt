-- The ticks that are left of a stream that is read one by one: they are no more than a stream can say that it has (`left_few`), and those of the
-- records from a place on (`left_of`).
-- Assumes nothing.
use Rattle.std.specs.Prelude.{ℕ, zero, suc, ◌^◌, ◌≤◌, ◌<◌, ◌≡◌, refl, true, List, length, eqb}
use Rattle.std.proofs.Common.{sym, arith, true≢false}
use Rattle.laws.specs.Choice.{either}
use Rattle.ticks.specs.declared.Command.{Command}
use Rattle.ticks.specs.declared.Tick.{Tick}
use Rattle.ticks.specs.Commands.{sounding_of}
use Rattle.ticks.specs.Legal.{LegalTicks}
use Rattle.records.specs.Format.{read_record, Decoded, refusal, ticks, with_tick, decode_records}
use Rattle.records.specs.Reads.{on_either}
use Rattle.decoder.specs.declared.stream.Ticks.{Ticks}
use Rattle.decoder.specs.Remaining.{Left}
use Rattle.decoder.specs.Whole.{has_ticks, ticks_in}

abbrev pub ticks_left : Ticks → List Tick
ticks_left t = ticks_in (decode_records t.stream.scope.last t.stream.scope.channels t.stream.header.bytes.now t.left t.next t.registers)

with_few : (t : Tick) (d : Decoded) (n : ℕ) → length (ticks_in d) ≤ n → length (ticks_in (with_tick t d)) ≤ suc n
unfolding ticks_in with_tick
with_few t (refusal number place) n h = omega arith
with_few t (ticks ts) n h = omega arith

records_few : (last c : ℕ) (s : List ℕ) (n at : ℕ) (registers : List Command) → length (ticks_in (decode_records last c s n at registers)) ≤ n
unfolding decode_records ticks_in
records_few last c s zero at registers = either (λ (d : Decoded). length (ticks_in d) ≤ 0) (eqb at (length s)) _ _ (λ e. omega arith) (λ e. omega arith)
records_few last c s (suc n) at registers =
    on_either (λ (d : Decoded). length (ticks_in d) ≤ suc n) (refusal 23 at) (read_record last c s at registers) _ (omega arith) (λ t p e. with_few t (decode_records last c s n p t.commands) n (records_few last c s n p t.commands))

pub left_few : (t : Ticks) → length (ticks_left t) < 2 ^ 32
left_few t = omega (arith, t.few, records_few t.stream.scope.last t.stream.scope.channels t.stream.header.bytes.now t.left t.next t.registers)

ticks_there : (d : Decoded) → has_ticks d ≡ true → d ≡ ticks (ticks_in d)
unfolding has_ticks ticks_in
ticks_there (refusal number place) h = absurd (true≢false (sym h))
ticks_there (ticks ts) h = refl

pub left_of : (t : Ticks) (last c : ℕ) (s : List ℕ) → t.stream.scope.last ≡ last → t.stream.scope.channels ≡ c → t.stream.header.bytes.now ≡ s → LegalTicks last (sounding_of t.registers) (ticks_left t) → Left last c s t.left t.next t.registers (ticks_left t)
left_of t last c s p q r l = record { reads = rw (← p, ← q, ← r) (ticks_there _ t.all); legal = l }
