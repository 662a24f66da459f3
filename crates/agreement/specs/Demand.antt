-- Demand 3, clause by clause: a module that is played by itself and one that is played by its stream sound the same.
-- It speaks of an accepted module, N to 65,535 ticks and a room that is not shorter than the stream; the two outputs may have any lengths.
-- It is said once for every kind of frames; that of 16-bit frames is here.
-- Assumes nothing.
use Rattle.std.specs.Prelude.{ℕ, ◌≤◌, ◌≡◌, List, ℤ, length, take, drop}
use Rattle.common.specs.Answers.{accepted, Outcome, outcome}
use Rattle.common.specs.declared.Answer.{Answer}
use Rattle.reader.specs.File.{module_of}
use Rattle.player.specs.State.{fresh_state}
use Rattle.player.specs.Play.{play_of, numbers_of}
use Rattle.translator.specs.Translate.{translate_of}
use Rattle.board.specs.Board.{play_stream_of}
use Rattle.agreement.specs.declared.Both.{Both}

-- ---- the three calls
-- for every input: what each call returned and left is what its definition gives
pub record Calls (bytes : List ℕ) (n : ℕ) (r : Both) (room room' : List ℕ) (panel panel' board board' : List ℤ) : Type 0 where
  -- the translator, with the room
  pub translated : outcome r.translated room' ≡ translate_of bytes n room
  -- the player, from a fresh state, with the panel's output
  pub played : outcome r.played panel' ≡ play_of bytes fresh_state n panel
  -- the stream player, with the bytes of the room that the translator counted, and the board's output
  pub streamed : outcome r.streamed board' ≡ play_stream_of bytes (take r.translated.count room') board

-- ---- the sound
-- demand 2's numbers: those of the first k ticks from a fresh state, each tick's where the last tick's ended
abbrev pub sound_of : List ℕ → ℕ → List ℤ
sound_of bytes k = numbers_of (module_of bytes) k fresh_state

-- the largest number of whole ticks, up to n, whose numbers fit an output of so many cells
pub record Largest {A : Type 0} (sound : ℕ → List A) (n cells count : ℕ) : Type 0 where
  pub within : count ≤ n
  pub fits : length (sound count) ≤ cells
  pub largest : (k : ℕ) → k ≤ n → length (sound k) ≤ cells → k ≤ count

-- one player: it accepts, its count is the largest, up to there its output holds the sound, and past there it is as it was
pub record Sounds {A : Type 0} (sound : ℕ → List A) (n : ℕ) (number place count : ℕ) (out out' : List A) : Type 0 where
  pub accepts : (number ≡ 0) × (place ≡ 0)
  pub most : Largest sound n (length out) count
  pub numbers : (k : ℕ) → k ≤ count → take (length (sound k)) out' ≡ sound k
  pub stays : drop (length (sound count)) out' ≡ drop (length (sound count)) out

-- ---- a kind of frames
-- what the player answers and leaves in an output, what the stream player does with a stream, and the numbers of the first k ticks
pub record Kind (A : Type 0) : Type 0 where
  pub plays : List A → Outcome Answer A
  pub streams : List ℕ → List A → Outcome Answer A
  pub sound : ℕ → List A

-- 16-bit frames: n ticks of a module from a fresh state
abbrev pub sixteen_bits : List ℕ → ℕ → Kind ℤ
sixteen_bits bytes n =
    record {
      plays = λ out. outcome (play_of bytes fresh_state n out).reply.answer (play_of bytes fresh_state n out).out;
      streams = play_stream_of bytes;
      sound = sound_of bytes;
    }

-- ---- the demand
-- of what translator, player and stream player answered, with the stream that n ticks have, the room and the two outputs before and after
pub record Agreement {A : Type 0} (kind : Kind A) (stream : List ℕ) (n : ℕ) (translated played streamed : Answer) (room room' : List ℕ) (panel panel' board board' : List A) : Type 0 where
  -- the translator accepts and reports the stream's length; it writes the stream, and the room past it is as it was
  pub translates : translated ≡ accepted (length stream)
  pub writes : take (length stream) room' ≡ stream
  pub room_stays : drop (length stream) room' ≡ drop (length stream) room
  -- the stream player is lent exactly the stream's bytes
  pub lent : outcome streamed board' ≡ kind.streams stream board
  -- player and stream player sound what the player's definition gives for each output: demand 2's numbers
  pub panel_sounds : Sounds kind.sound n played.number played.place played.count panel panel'
  pub board_sounds : Sounds kind.sound n streamed.number streamed.place streamed.count board board'
  pub board_plays : outcome streamed board' ≡ kind.plays board
  -- up to where both have played, both outputs hold the same numbers
  pub same_numbers : (k : ℕ) → k ≤ played.count → k ≤ streamed.count → take (length (kind.sound k)) panel' ≡ take (length (kind.sound k)) board'
  -- the demand's sentence: with outputs of one length both answer alike, and up to their count both hold the same numbers
  pub demand : length panel ≡ length board → (played ≡ streamed) × (take (length (kind.sound streamed.count)) panel' ≡ take (length (kind.sound streamed.count)) board')
