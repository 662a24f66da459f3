-- What the call goes by: 1 to 9, then 24, then 21, 22, 28 and 23, then the play. Laws over plain variables.
-- Assumes nothing.
use Rattle.std.proofs.Common.{◌≡◌, ℕ, List, [], refl, ap, subst}
use lib.Ieee.{Float}
use Rattle.std.specs.Prelude.{Ok, Err}
use Rattle.common.specs.Answers.{accepted, outcome, refusal}
use Rattle.common.specs.AnswerLaws.{no_line, line_given, line_passed}
use Rattle.common.specs.RefusalLaws.{refused_by_a_rule}
use Rattle.common.specs.declared.Answer.{Answer}
use Rattle.common.specs.declared.refusals.Refusal.{Refusal}
use Rattle.ticks.specs.declared.Tick.{Tick}
use Rattle.ticks.specs.Playing.{Played}
use Rattle.reader.specs.File.{Module as FileModule, module_of, sample_count, channel_count}
use Rattle.reader.specs.Judge.{judge_of}
use Rattle.reader.specs.Modules.{as_module, read_refused, read_passed}
use Rattle.reader.specs.declared.module.Module.{Module}
use Rattle.voice.specs.Voice.{samples_of}
use Rattle.machine.specs.declared.Machine.{Machine}
use Rattle.float_machine.specs.Machine.{FloatMachine, float_machine}
use Rattle.float_machine.specs.Sounding.{floats}
use Rattle.floats.specs.declared.Pair.{Pair}
use Rattle.floats.specs.declared.Sides.{Sides}
use Rattle.floats.specs.Asked.{count_of, Asked, sides_asked}
use Rattle.records.specs.Format.{keeps, Decoded, ticks, decode}
use Rattle.records.specs.Format.Decoded.{refusal as refused_at}
use Rattle.decoder.specs.Answers.{answer_of}
use Rattle.decoder.specs.Whole.{Whole, ticks_in}
use Rattle.decoder.specs.Remaining.{whole_ticks}
use Rattle.float_board.specs.Board.{float_answer, floats_answered, played_floats, floats_board_by, play_stream_floats_from_of}
use Rattle.board.specs.Leading.{Leading}

module _ (bytes s : List ℕ) (first : ℕ) (sides : ℕ) (pair : Pair) (out : List Float) where
  pub stream_unread : (e : Refusal) → judge_of bytes ≡ refusal e → outcome (floats_answered pair (Err e)) out ≡ play_stream_floats_from_of bytes s first sides pair out
  unfolding play_stream_floats_from_of
  stream_unread e j = read_refused _ _ bytes _ _ e j refl

  module _ (m : Module) (own : as_module m ≡ module_of bytes) where
    pub stream_unasked : (e : Refusal) → Asked sides (Err e) → outcome (floats_answered pair (Err e)) out ≡ play_stream_floats_from_of bytes s first sides pair out
    unfolding play_stream_floats_from_of
    stream_unasked e a = read_passed _ _ bytes _ _ m own (line_given _ _ 24 0 _ [] _ a.0 (rw a.1))

    pub stream_refused : (asked : Sides) → Asked sides (Ok asked) → (last c : ℕ) → last ≡ m.layout.samples → c ≡ m.layout.channels → (e : Refusal) → refusal e ≡ answer_of (decode last c s) → outcome (floats_answered pair (Err e)) out ≡ play_stream_floats_from_of bytes s first sides pair out
    unfolding play_stream_floats_from_of floats_board_by answer_of
    stream_refused asked a last c p q e x =
        let P : FileModule → Type 0 = λ v. outcome (float_answer (refusal e) pair) out ≡ floats_board_by (keeps s) (channel_count v) (samples_of v) first (decode (sample_count v) (channel_count v) s) sides pair out in
        read_passed _ _ bytes _ _ m own (line_passed _ _ 24 0 _ [] _ (rw a (sides_asked asked)) (no_line _ _ _ (subst P own (go (decode m.layout.samples m.layout.channels s) (rw (p, q) at x)))))
      where
        go : (d : Decoded) → refusal e ≡ answer_of d → outcome (float_answer (refusal e) pair) out ≡ floats_board_by (keeps s) m.layout.channels (samples_of (as_module m)) first d sides pair out
        go (refused_at number place) y = rw y
        go (ticks ts) y = absurd (refused_by_a_rule e.rule (ap (λ (a : Answer). a.number) y))

    pub stream_played : (asked : Sides) → Asked sides (Ok asked) → Whole m.layout.samples m.layout.channels s → (w : Machine) (w' : FloatMachine) (ts : List Tick) (out' : List Float) (n : ℕ) → Leading m (keeps s) (ticks_in (decode m.layout.samples m.layout.channels s)) w ts first → Played (floats (count_of asked) m (keeps s)).plays (float_machine w pair) ts out w' out' n → outcome (float_answer (accepted n) w'.last) out' ≡ play_stream_floats_from_of bytes s first sides pair out
    unfolding play_stream_floats_from_of floats_board_by played_floats
    stream_played asked a h w w' ts out' n l p =
        let P : FileModule → Type 0 = λ v. outcome (float_answer (accepted n) w'.last) out' ≡ floats_board_by (keeps s) (channel_count v) (samples_of v) first (decode (sample_count v) (channel_count v) s) sides pair out in
        read_passed _ _ bytes _ _ m own (line_passed _ _ 24 0 _ [] _ (rw a (sides_asked asked)) (no_line _ _ _ (subst P own (rw (whole_ticks m.layout.samples m.layout.channels s h, a, p.count, ap (λ (x : FloatMachine). x.last) p.state, p.cells, l.left, l.machine)))))
