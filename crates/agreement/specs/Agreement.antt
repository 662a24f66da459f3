-- The theorem, for any kind of frames: where player and stream player give one play of one list of ticks on one machine, what the three calls leave is what the demand
-- asks (`agreement`). And 16-bit frames are such a kind (`sixteen_bits_lem`): the decoder gives back the ticks that were encoded, and both play them by one definition.
-- Assumes nothing.
use Rattle.std.specs.Prelude.{ℕ, ◌≤◌, ◌≡◌, true, List, ℤ, length, take, drop}
use Rattle.std.proofs.Math.Path.{refl}
use Rattle.std.proofs.Common.{sym, ap, ◌∙◌, arith, take_at, drop_at, eq-eqb}
use Rattle.common.specs.Answers.{accepted, Outcome, outcome, refusing}
use Rattle.common.specs.ByteLaws.{Bytes}
use Rattle.common.specs.declared.Answer.{Answer}
use Rattle.ticks.specs.declared.Tick.{Tick}
use Rattle.ticks.specs.Play.{over, Mechanism, after_all, rendered, fit, play_out}
use Rattle.reader.specs.File.{Module, module_of, channel_count}
use Rattle.reader.specs.Layouts.{module_legal}
use Rattle.reader.specs.Judge.{verdict}
use Rattle.sequencer.specs.Songs.{fresh_song}
use Rattle.sequencer.specs.Runs.{ticks_from}
use Rattle.voice.specs.Voice.{samples_of}
use Rattle.machine.specs.Machine.{fresh_machine, mechanism_of}
use Rattle.player.specs.declared.State.{State}
use Rattle.player.specs.declared.Reply.{Reply}
use Rattle.player.specs.State.{fresh_state}
use Rattle.player.specs.Play.{machine_of, ticks_of, played_from, play_of}
use Rattle.player.specs.Kept.{fresh_state_lem, fresh_soundings}
use Rattle.player.specs.Keeps.{play_accepted}
use Rattle.translator.specs.Translate.{most_ticks, fresh_ticks, stream_of}
use Rattle.translator.specs.Streams.{stream_keeps, decode_stream, translated}
use Rattle.board.specs.Board.{led_to, played_ticks, played_by, play_stream_from_of, play_stream_of}
use Rattle.agreement.specs.Demand.{Calls, Sounds, Kind, sixteen_bits, Agreement}
use Rattle.agreement.specs.Plays.{plays_sounds}
use Rattle.agreement.specs.declared.Both.{Both}

-- ---- any kind of frames
-- player and stream player give one play: n ticks from a state, on a machine
pub record OnePlay {A W : Type 0} (kind : Kind A) (stream : List ℕ) (n : ℕ) (k : Mechanism A W Tick) (m : Module) (s : State) (w : W) : Type 0 where
  pub sounds : (j : ℕ) → kind.sound j ≡ rendered k w (ticks_of m j s)
  pub played : (out : List A) → kind.plays out ≡ outcome (accepted (fit k (length out) w (ticks_of m n s))) (play_out k w (ticks_of m n s) out)
  pub alike : (out : List A) → kind.streams stream out ≡ kind.plays out

module _ {A W : Type 0} {kind : Kind A} {stream : List ℕ} {n : ℕ} {k : Mechanism A W Tick} {m : Module} {s : State} {w : W} (o : OnePlay kind stream n k m s w) where
  -- what is left by an answer and an output that are the player's
  sounds_by : (answer : Answer) (out out' : List A) → outcome answer out' ≡ kind.plays out → Sounds kind.sound n answer.number answer.place answer.count out out'
  sounds_by answer out out' f =
      let g : outcome answer out' ≡ outcome (accepted (fit k (length out) w (ticks_of m n s))) (play_out k w (ticks_of m n s) out) = f ∙ o.played out in
      let p = plays_sounds k m s w n answer out out' (ap (λ (x : Outcome Answer A). x.reply) g) (ap (λ (x : Outcome Answer A). x.out) g) in
      record {
        accepts = p.accepts;
        most = record { within = p.most.within; fits = rw (o.sounds answer.count) p.most.fits; largest = λ j h l. p.most.largest j h (rw (o.sounds j) at l) };
        numbers = λ j h. rw (o.sounds j) (p.numbers j h);
        stays = rw (o.sounds answer.count) p.stays;
      }

  -- with outputs of one length the answers are one
  one_answer : (panel board : List A) → length panel ≡ length board → (kind.plays panel).reply ≡ (kind.plays board).reply
  one_answer panel board same =
      ap (λ (x : Outcome Answer A). x.reply) (o.played panel)
      ∙ (ap (λ (cells : ℕ). accepted (fit k cells w (ticks_of m n s))) same ∙ sym (ap (λ (x : Outcome Answer A). x.reply) (o.played board)))

  module _ (translated played streamed : Answer) (room room' : List ℕ) (panel panel' board board' : List A) where
    -- demand 3
    pub agreement : outcome translated room' ≡ outcome (accepted (length stream)) (over stream room) → outcome played panel' ≡ kind.plays panel → outcome streamed board' ≡ kind.streams (take translated.count room') board
        → Agreement kind stream n translated played streamed room room' panel panel' board board'
    agreement t c d =
        let count : translated ≡ accepted (length stream) = ap (λ (x : Outcome Answer ℕ). x.reply) t in
        let left : room' ≡ over stream room = ap (λ (x : Outcome Answer ℕ). x.out) t in
        let front : take (length stream) room' ≡ stream = ap (take (length stream)) left ∙ take_at stream (drop (length stream) room) (length stream) refl in
        let lent : outcome streamed board' ≡ kind.streams stream board = d ∙ ap (λ (xs : List ℕ). kind.streams xs board) (ap (λ (a : Answer). take a.count room') count ∙ front) in
        let alike : outcome streamed board' ≡ kind.plays board = lent ∙ o.alike board in
        let p = sounds_by played panel panel' c in
        let q = sounds_by streamed board board' alike in
        let answers : length panel ≡ length board → played ≡ streamed =
        λ same. ap (λ (x : Outcome Answer A). x.reply) c ∙ (one_answer panel board same ∙ sym (ap (λ (x : Outcome Answer A). x.reply) alike)) in
        let numbers : (j : ℕ) → j ≤ played.count → j ≤ streamed.count → take (length (kind.sound j)) panel' ≡ take (length (kind.sound j)) board' =
        λ j u v. p.numbers j u ∙ sym (q.numbers j v) in
        record {
          translates = count;
          writes = front;
          room_stays = ap (drop (length stream)) left ∙ drop_at stream (drop (length stream) room) (length stream) refl;
          lent = lent;
          panel_sounds = p;
          board_sounds = q;
          board_plays = alike;
          same_numbers = numbers;
          demand = λ same. (answers same, numbers streamed.count (at_most (ap (λ (a : Answer). a.count) (answers same))) (at_most refl));
        }
      where
        at_most : {a c : ℕ} → a ≡ c → c ≤ a
        at_most h = omega (arith, h)

-- ---- one list of ticks
pub fresh_ticks_lem : (m : Module) (n : ℕ) → ticks_of m n fresh_state ≡ fresh_ticks m n
unfolding fresh_state
fresh_ticks_lem m n = ap (ticks_from m n fresh_song) fresh_soundings

-- ---- 16-bit frames
module _ (bytes : List ℕ) (n : ℕ) (e : (verdict (module_of bytes)).number ≡ 0) (b : Bytes bytes) (few : n ≤ most_ticks) where
  abbrev m : Module
  m = module_of bytes

  -- an accepted module with a fresh state is not refused
  player_accepts : (out : List ℤ) → play_of bytes fresh_state n out ≡ played_from m fresh_state n out
  player_accepts out = play_accepted bytes e fresh_state (fresh_state_lem m (module_legal bytes) e) n out

  played_is : (out : List ℤ) → (sixteen_bits bytes n).plays out ≡ outcome (accepted (fit (mechanism_of m) (length out) (machine_of fresh_state) (ticks_of m n fresh_state))) (play_out (mechanism_of m) (machine_of fresh_state) (ticks_of m n fresh_state) out)
  unfolding played_from
  played_is out = rw (player_accepts out)

  -- the board answers and leaves what the player does where its stream keeps a remainder
  streamed_as_played : (out : List ℤ) → played_ticks true (channel_count m) (samples_of m) 0 (ticks_of m n fresh_state) out ≡ outcome (played_from m fresh_state n out).reply.answer (played_from m fresh_state n out).out
  unfolding played_ticks led_to after_all played_from fresh_state fresh_song fresh_machine
  streamed_as_played out = refl

  board_as_player : (out : List ℤ) → play_stream_of bytes (stream_of m n) out ≡ (sixteen_bits bytes n).plays out
  unfolding play_stream_from_of refusing played_by
  board_as_player out =
      rw (eq-eqb (verdict m).number 0 e, stream_keeps m n, decode_stream m (record { layout = module_legal bytes; judged = e; bytes = b }) n few, ← fresh_ticks_lem m n, player_accepts out) (streamed_as_played out)

  one_play : OnePlay (sixteen_bits bytes n) (stream_of m n) n (mechanism_of m) m fresh_state (machine_of fresh_state)
  one_play = record { sounds = λ j. refl; played = played_is; alike = board_as_player }

  pub sixteen_bits_lem : (r : Both) (room room' : List ℕ) (panel panel' board board' : List ℤ) → length (stream_of (module_of bytes) n) ≤ length room → Calls bytes n r room room' panel panel' board board'
      → Agreement (sixteen_bits bytes n) (stream_of (module_of bytes) n) n r.translated r.played.answer r.streamed room room' panel panel' board board'
  sixteen_bits_lem r room room' panel panel' board board' l c =
      agreement one_play r.translated r.played.answer r.streamed room room' panel panel' board board' (c.translated ∙ translated bytes n room e few l)
      (ap (λ (o : Outcome Reply ℤ). outcome o.reply.answer o.out) c.played)
      c.streamed
