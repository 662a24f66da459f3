-- What the call goes by: 1 to 9, then 21, 22, 28 and 23, then the play. Laws over plain variables.
-- Assumes nothing.
use Rattle.std.proofs.Common.{◌≡◌, ℕ, List, ℤ, refl, ap, subst}
use Rattle.std.specs.Prelude.{Err}
use Rattle.common.specs.Answers.{accepted, outcome, refusal, answered}
use Rattle.common.specs.AnswerLaws.{no_line}
use Rattle.common.specs.RefusalLaws.{refused_by_a_rule}
use Rattle.common.specs.declared.Answer.{Answer}
use Rattle.common.specs.declared.refusals.Refusal.{Refusal}
use Rattle.ticks.specs.declared.Tick.{Tick}
use Rattle.ticks.specs.Playing.{Played}
use Rattle.reader.specs.File.{Module as FileModule, module_of, sample_count, channel_count}
use Rattle.reader.specs.Judge.{judge_of}
use Rattle.reader.specs.Modules.{as_module, read_refused, read_passed}
use Rattle.reader.specs.declared.module.Module.{Module}
use Rattle.voice.specs.Voice.{samples_of}
use Rattle.machine.specs.declared.Machine.{Machine}
use Rattle.machine.specs.Sounding.{integers}
use Rattle.records.specs.Format.{keeps, Decoded, ticks, decode}
use Rattle.records.specs.Format.Decoded.{refusal as refused_at}
use Rattle.decoder.specs.Answers.{answer_of}
use Rattle.decoder.specs.Whole.{Whole, ticks_in}
use Rattle.decoder.specs.Remaining.{whole_ticks}
use Rattle.board.specs.Board.{played_ticks, played_by, play_stream_from_of}
use Rattle.board.specs.Leading.{Leading}

module _ (bytes s : List ℕ) (first : ℕ) (out : List ℤ) where
  pub stream_unread : (e : Refusal) → judge_of bytes ≡ refusal e → outcome (answered (Err e)) out ≡ play_stream_from_of bytes s first out
  unfolding play_stream_from_of
  stream_unread e j = read_refused _ _ bytes _ _ e j refl

  module _ (m : Module) (own : as_module m ≡ module_of bytes) where
    pub stream_refused : (last c : ℕ) → last ≡ m.layout.samples → c ≡ m.layout.channels → (e : Refusal) → refusal e ≡ answer_of (decode last c s) → outcome (answered (Err e)) out ≡ play_stream_from_of bytes s first out
    unfolding play_stream_from_of played_by answer_of
    stream_refused last c p q e x =
        let P : FileModule → Type 0 = λ v. outcome (refusal e) out ≡ played_by (keeps s) (channel_count v) (samples_of v) first (decode (sample_count v) (channel_count v) s) out in
        read_passed _ _ bytes _ _ m own (no_line _ _ _ (subst P own (go (decode m.layout.samples m.layout.channels s) (rw (p, q) at x))))
      where
        go : (d : Decoded) → refusal e ≡ answer_of d → outcome (refusal e) out ≡ played_by (keeps s) m.layout.channels (samples_of (as_module m)) first d out
        go (refused_at number place) y = rw y
        go (ticks ts) y = absurd (refused_by_a_rule e.rule (ap (λ (a : Answer). a.number) y))

    pub stream_played : Whole m.layout.samples m.layout.channels s → (w w' : Machine) (ts : List Tick) (out' : List ℤ) (n : ℕ) → Leading m (keeps s) (ticks_in (decode m.layout.samples m.layout.channels s)) w ts first → Played (integers m (keeps s)).plays w ts out w' out' n → outcome (accepted n) out' ≡ play_stream_from_of bytes s first out
    unfolding play_stream_from_of played_by played_ticks
    stream_played h w w' ts out' n l p =
        let P : FileModule → Type 0 = λ v. outcome (accepted n) out' ≡ played_by (keeps s) (channel_count v) (samples_of v) first (decode (sample_count v) (channel_count v) s) out in
        read_passed _ _ bytes _ _ m own (no_line _ _ _ (subst P own (rw (whole_ticks m.layout.samples m.layout.channels s h, p.count, p.cells, l.left, l.machine))))
