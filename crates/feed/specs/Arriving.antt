-- The board that takes its stream as it arrives, beside the stream player that is lent it whole (`arrives_whole`): however an accepted stream is cut,
-- once all is taken frames and final state are those of the whole with room for every tick. The fault of a refused one (`arrives_refused`). And what
-- arrives to its declared end without a fault is accepted (`arrives_accepted`).
-- Assumes nothing.
use Rattle.std.specs.Prelude.{ℕ, ◌+◌, ◌*◌, ◌-◌, ◌≤◌, ◌≡◌, refl, true, List, [], ℤ}
use Rattle.std.proofs.Common.{sym, ◌∙◌, append-nil, add-zero, arith, eq-eqb}
use Rattle.std.proofs.Math.Path.{ap}
use Rattle.std.proofs.Math.ListN.{length}
use Rattle.std.proofs.Math.Seq.{take-length}
use Rattle.laws.specs.Ranges.{each}
use Rattle.common.specs.Bytes.{byte_at}
use Rattle.common.specs.Answers.{accepted, outcome, refusing}
use Rattle.ticks.specs.declared.Command.{Command}
use Rattle.ticks.specs.declared.Tick.{Tick}
use Rattle.ticks.specs.Play.{Mechanism, over, after_all, rendered, fit, play_out}
use Rattle.ticks.specs.PlayLaws.{fit_none}
use Rattle.ticks.proofs.PlayParts.{fit_append}
use Rattle.reader.specs.File.{Module, module_of, sample_count, channel_count}
use Rattle.reader.specs.Layouts.{module_legal}
use Rattle.reader.specs.Judge.{verdict}
use Rattle.voice.specs.Voice.{samples_of}
use Rattle.machine.specs.declared.Machine.{Machine}
use Rattle.machine.specs.Machine.{fresh_machine, mechanism}
use Rattle.records.specs.Format.{version_place, head_bytes, body_bytes, keeps, at_first, read, read_record, refusal, ticks, decode}
use Rattle.records.specs.Prefixes.{Alike}
use Rattle.arrival.specs.Arrive.{kept_bytes, at_start, ended}
use Rattle.arrival.specs.Feed.{Fed, fed}
use Rattle.arrival.specs.Calls.{Call, takings, writings, after_calls, calls_after}
use Rattle.arrival.specs.Cuts.{cut_anywhere, fault_shown}
use Rattle.arrival.specs.Ends.{ends_accepted}
use Rattle.board.specs.Board.{led_to, played_ticks, played_by, play_stream_from_of, play_stream_of}
use Rattle.feed.specs.Feed.{register_of, registers_of, kept_under, under, takes, fresh_board}
use Rattle.feed.specs.Registers.{registers_keep}
use Rattle.feed.specs.Rule.{same_heard}

-- ---- where it begins
fresh_registers : registers_of fresh_board.machine ≡ at_first
unfolding each registers_of register_of fresh_board fresh_machine at_first
fresh_registers = refl

fresh_alike : (c : ℕ) → Alike c (registers_of fresh_board.machine) at_first
fresh_alike c = rw fresh_registers (record { long = refl; each = λ i. refl; rest = refl })

-- with room for every tick all are played
all_fit : {A W T : Type 0} (m : Mechanism A W T) (room : ℕ) (w : W) (ts : List T) → length (rendered m w ts) ≤ room → fit m room w ts ≡ length ts
all_fit m room w ts h =
    ap (fit m room w) (sym (append-nil ts)) ∙ fit_append m room w ts [] h ∙ rw (fit_none m (room - length (rendered m w ts)) (after_all m w ts)) (add-zero (length ts))

-- how a module's board takes bytes, and where it begins
abbrev pub bytes_for : List ℕ → Mechanism ℤ (Fed Machine) ℕ
bytes_for file = takes (sample_count (module_of file)) (channel_count (module_of file)) (samples_of (module_of file))

abbrev pub begin : Fed Machine
begin = fed fresh_board.arrival fresh_board.machine

-- its ticks, by the rule of the stream's version
abbrev pub rule_of : List ℕ → List ℕ → Mechanism ℤ Machine Tick
rule_of file s = under (channel_count (module_of file)) (samples_of (module_of file)) (byte_at s version_place)

-- the calls took the stream's bytes, in order
pub record Arrived (file s : List ℕ) (ts : List Tick) (calls : List (Call ℕ)) : Type 0 where
  -- the board is the one that takes the stream whole, its machine the one after all ticks; no fault is kept, and the end is reached
  pub state : after_calls (bytes_for file) begin calls ≡ after_all (bytes_for file) begin s
  pub machine : (after_calls (bytes_for file) begin calls).machine ≡ after_all (rule_of file s) fresh_board.machine ts
  pub good : (after_calls (bytes_for file) begin calls).arrival.number ≡ 0
  pub end : ended (after_calls (bytes_for file) begin calls).arrival ≡ true
  -- what was written is what the whole stream's play writes with room for every tick
  pub heard : (out : List ℤ) → length (writings (bytes_for file) begin calls) ≤ length out → play_stream_of file s out ≡ outcome (accepted (length ts)) (over (writings (bytes_for file) begin calls) out)

-- the fault of a stream that is refused, with the frames of the ticks before it
pub record Shown (file s : List ℕ) (n at : ℕ) (calls : List (Call ℕ)) : Type 0 where
  pub ts : List Tick
  pub number : (after_calls (bytes_for file) begin calls).arrival.number ≡ n
  pub place : (after_calls (bytes_for file) begin calls).arrival.fault ≡ at
  pub machine : (after_calls (bytes_for file) begin calls).machine ≡ after_all (rule_of file s) fresh_board.machine ts
  pub heard : writings (bytes_for file) begin calls ≡ rendered (rule_of file s) fresh_board.machine ts

module _ (file : List ℕ) (s : List ℕ) (calls : List (Call ℕ)) (all : takings (bytes_for file) begin calls ≡ s) where
  abbrev m : Module
  m = module_of file

  room : head_bytes + body_bytes * channel_count m ≤ kept_bytes
  room = omega (arith, (module_legal file).channels)

  held_on : (v : ℕ) (w : Machine) (registers : List Command) (s : List ℕ) (at e : ℕ) (t : Tick) → Alike (channel_count m) (registers_of w) registers → read_record (sample_count m) (channel_count m) s at registers ≡ read t e
      → Alike (channel_count m) (registers_of ((under (channel_count m) (samples_of m) v).after w t)) t.commands
  held_on v w registers s at e t a q = registers_keep (channel_count m) (module_legal file).channels (samples_of m) v w t (sample_count m) registers s at e a q

  begins : takings (bytes_for file) (fed at_start fresh_board.machine) calls ≡ s
  unfolding fresh_board
  begins = all

  pub arrives_whole : (verdict m).number ≡ 0 → (ts : List Tick) → decode (sample_count m) (channel_count m) s ≡ ticks ts → Arrived file s ts calls
  unfolding fresh_board play_stream_from_of refusing played_by played_ticks led_to after_all keeps kept_under play_out
  arrives_whole accepted ts e =
      let x = cut_anywhere (sample_count m) (channel_count m) registers_of (under (channel_count m) (samples_of m)) room held_on s fresh_board.machine (fresh_alike (channel_count m)) calls begins ts e in
      let h : writings (bytes_for file) begin calls ≡ rendered (mechanism (keeps s) (channel_count m) (samples_of m)) fresh_machine ts = x.heard ∙ same_heard (channel_count m) (samples_of m) (byte_at s version_place) ts in
      record {
        state = x.state;
        machine = x.machine;
        good = x.good;
        end = x.end;
        heard =
            λ out l.
            let f : fit (mechanism (keeps s) (channel_count m) (samples_of m)) (length out) fresh_machine ts ≡ length ts = all_fit (mechanism (keeps s) (channel_count m) (samples_of m)) (length out) fresh_machine ts (rw h at l) in
            rw (eq-eqb (verdict m).number 0 accepted, e, f, h, take-length ts);
      }

  pub arrives_refused : (number place : ℕ) → decode (sample_count m) (channel_count m) s ≡ refusal number place → (number ≡ 21 → ⊥) → Shown file s number place calls
  unfolding fresh_board
  arrives_refused number place e n =
      let x = fault_shown (sample_count m) (channel_count m) registers_of (under (channel_count m) (samples_of m)) room held_on s fresh_board.machine (fresh_alike (channel_count m)) calls begins number place e n in
      record { ts = x.ts; number = x.number; place = x.place; machine = x.machine; heard = x.heard }

  -- fed to the declared end without a fault: the stream is accepted, and what was written is its play
  pub record Accepted : Type 0 where
    pub ts : List Tick
    pub is : decode (sample_count m) (channel_count m) s ≡ ticks ts
    pub whole : Arrived file s ts calls

  pub arrives_accepted : (verdict m).number ≡ 0 → (after_calls (bytes_for file) begin calls).arrival.number ≡ 0 → ended (after_calls (bytes_for file) begin calls).arrival ≡ true → Accepted
  unfolding fresh_board
  arrives_accepted accepted good end =
      let e : after_calls (bytes_for file) begin calls ≡ after_all (bytes_for file) begin s = calls_after (bytes_for file) begin calls ∙ ap (after_all (bytes_for file) begin) all in
      let x = ends_accepted (sample_count m) (channel_count m) registers_of (under (channel_count m) (samples_of m)) s fresh_board.machine (rw e at good) (rw e at end) room held_on (fresh_alike (channel_count m)) in
      record { ts = x.its; is = x.is; whole = arrives_whole accepted x.its x.is }
