-- Float frames are a kind of which demand 3 holds: the stream's play is the module's (`board_as_player`), and both are one play of one list of ticks (`one_play`).
-- Assumes nothing.
use Rattle.std.specs.Prelude.{ℕ, ◌≤◌, ◌≡◌, true, false, List, length, take, Float}
use Rattle.std.proofs.Math.Path.{refl}
use Rattle.std.proofs.Common.{sym, ap, ◌∙◌, eq-eqb}
use Rattle.common.specs.Answers.{accepted, Outcome, outcome, refusing}
use Rattle.common.specs.ByteLaws.{Bytes}
use Rattle.common.specs.declared.Answer.{Answer}
use Rattle.ticks.specs.Play.{after_all, fit, after_fit, play_out}
use Rattle.reader.specs.File.{Module, module_of, channel_count}
use Rattle.reader.specs.Layouts.{module_legal}
use Rattle.reader.specs.Judge.{verdict}
use Rattle.sequencer.specs.Songs.{fresh_song}
use Rattle.voice.specs.Voice.{samples_of}
use Rattle.machine.specs.Machine.{fresh_machine, mechanism_of}
use Rattle.floats.specs.declared.Pair.{Pair}
use Rattle.floats.specs.Frames.{unasked}
use Rattle.float_machine.specs.Beside.{same_fit}
use Rattle.player.specs.State.{fresh_state}
use Rattle.player.specs.Play.{ticks_of}
use Rattle.player.specs.Kept.{fresh_state_lem}
use Rattle.float_player.specs.declared.FloatReply.{FloatReply}
use Rattle.float_player.specs.Play.{floats_on, start_of, count_of, floats_from, play_floats_of}
use Rattle.float_player.specs.Keeps.{floats_accepted, floats_numbers, floats_out}
use Rattle.translator.specs.Translate.{most_ticks, stream_of}
use Rattle.translator.specs.Streams.{stream_keeps, decode_stream, translated}
use Rattle.float_board.specs.declared.FloatAnswer.{FloatAnswer}
use Rattle.board.specs.Board.{led_to}
use Rattle.float_board.specs.Board.{float_answer, played_floats, floats_board_by, play_stream_floats_from_of, play_stream_floats_of}
use Rattle.agreement.specs.Demand.{Agreement}
use Rattle.agreement.specs.Agreement.{fresh_ticks_lem, OnePlay, agreement}
use Rattle.float_agreement.specs.declared.FloatBoth.{FloatBoth}
use Rattle.float_agreement.specs.Demand.{FloatCalls, float_kind, FloatAgreement}

-- what a play leaves beside its state
abbrev pub heard : Outcome FloatReply Float → Outcome FloatAnswer Float
heard o = outcome (float_answer o.reply.reply.answer o.reply.pair) o.out

abbrev answered : Outcome FloatAnswer Float → Outcome Answer Float
answered o = outcome o.reply.answer o.out

module _ (bytes : List ℕ) (n sides : ℕ) (e : (verdict (module_of bytes)).number ≡ 0) (b : Bytes bytes) (few : n ≤ most_ticks) (a : unasked sides ≡ false) where
  abbrev m : Module
  m = module_of bytes

  -- an accepted module with a fresh state and these sides is not refused
  player_accepts : (pair : Pair) (out : List Float) → play_floats_of bytes fresh_state n sides pair out ≡ floats_from m fresh_state n sides pair out
  player_accepts pair out = floats_accepted bytes fresh_state n sides pair out e (fresh_state_lem m (module_legal bytes) e) a

  -- the board answers and leaves what the player does where its stream keeps a remainder
  streamed_as_played : (pair : Pair) (out : List Float) → played_floats true (channel_count m) (samples_of m) 0 (ticks_of m n fresh_state) sides pair out ≡ heard (floats_from m fresh_state n sides pair out)
  unfolding played_floats led_to after_all floats_from fresh_state fresh_song fresh_machine
  streamed_as_played pair out = refl

  board_as_player : (pair : Pair) (out : List Float) → play_stream_floats_of bytes (stream_of m n) sides pair out ≡ heard (play_floats_of bytes fresh_state n sides pair out)
  unfolding play_stream_floats_from_of refusing floats_board_by
  board_as_player pair out =
      rw (eq-eqb (verdict m).number 0 e, a, stream_keeps m n, decode_stream m (record { layout = module_legal bytes; judged = e; bytes = b }) n few, ← fresh_ticks_lem m n, player_accepts pair out) (streamed_as_played pair out)

  played_is : (pair : Pair) (out : List Float) → (float_kind bytes n sides pair).plays out ≡ outcome (accepted (fit (floats_on sides m) (length out) (start_of fresh_state pair) (ticks_of m n fresh_state))) (play_out (floats_on sides m) (start_of fresh_state pair) (ticks_of m n fresh_state) out)
  unfolding floats_from
  played_is pair out = rw (player_accepts pair out)

  one_play : (pair : Pair) → OnePlay (float_kind bytes n sides pair) (stream_of m n) n (floats_on sides m) m fresh_state (start_of fresh_state pair)
  one_play pair =
      record {
        sounds = λ j. sym (floats_numbers m sides fresh_state pair j);
        played = played_is pair;
        alike = λ out. ap answered (board_as_player pair out);
      }

  -- answer and numbers do not depend on the record before
  any_pair : (mine its : Pair) (out : List Float) → (float_kind bytes n sides mine).plays out ≡ (float_kind bytes n sides its).plays out
  unfolding floats_from
  any_pair mine its out =
      let f : count_of m sides n fresh_state mine out ≡ count_of m sides n fresh_state its out = same_fit sides (mechanism_of m) (length out) (start_of fresh_state mine) (start_of fresh_state its) (ticks_of m n fresh_state) refl in
      rw (player_accepts mine out, player_accepts its out, floats_out m fresh_state n sides mine out, floats_out m fresh_state n sides its out, f)

  -- with outputs of one length the record after is one
  one_pair : (pair : Pair) (panel board : List Float) → length panel ≡ length board → (play_floats_of bytes fresh_state n sides pair panel).reply.pair ≡ (play_floats_of bytes fresh_state n sides pair board).reply.pair
  unfolding floats_from
  one_pair pair panel board same =
      rw (player_accepts pair panel, player_accepts pair board) (ap (λ (cells : ℕ). (after_fit (floats_on sides m) cells (start_of fresh_state pair) (ticks_of m n fresh_state)).last) same)

  module _ (mine its : Pair) (r : FloatBoth) (room room' : List ℕ) (panel panel' board board' : List Float) (l : length (stream_of (module_of bytes) n) ≤ length room) (c : FloatCalls bytes n sides mine its r room room' panel panel' board board') where
    frames_agree : Agreement (float_kind bytes n sides its) (stream_of (module_of bytes) n) n r.translated r.played.reply.answer r.streamed.answer room room' panel panel' board board'
    frames_agree =
        agreement (one_play its) r.translated r.played.reply.answer r.streamed.answer room room' panel panel' board board' (c.translated ∙ translated bytes n room e few l)
        (ap (λ (o : Outcome FloatReply Float). outcome o.reply.reply.answer o.out) c.played ∙ any_pair mine its panel)
        (ap answered c.streamed)

    pub floats_agree : FloatAgreement bytes n sides mine its r room room' panel panel' board board'
    floats_agree =
        let lent : take r.translated.count room' ≡ stream_of m n = ap (λ (x : Answer). take x.count room') frames_agree.translates ∙ frames_agree.writes in
        let its-pair : r.streamed.pair ≡ (play_floats_of bytes fresh_state n sides its board).reply.pair =
        ap (λ (o : Outcome FloatAnswer Float). o.reply.pair) (c.streamed ∙ ap (λ (xs : List ℕ). play_stream_floats_of bytes xs sides its board) lent ∙ board_as_player its board) in
        record {
          frames = frames_agree;
          board_pair = its-pair;
          same_pair =
              λ same long.
              ap (λ (o : Outcome FloatReply Float). o.reply.pair) c.played
              ∙ (ap (λ (p : Pair). (play_floats_of bytes fresh_state n sides p panel).reply.pair) same ∙ (one_pair its panel board long ∙ sym its-pair));
        }
