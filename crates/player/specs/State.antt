-- The state: a song, its voices and the remainder; which are fresh and which are legal for a module. What a call that is given a state refuses first.
-- Assumes nothing.
use Rattle.std.specs.Prelude.{Bool, not, List, [], ◌∷◌, nat_lt}
use Rattle.laws.specs.Ranges.{each, all}
use Rattle.common.specs.Answers.{Line, line}
use Rattle.common.specs.declared.Answer.{Answer}
use Rattle.common.specs.Limits.{width}
use Rattle.reader.specs.File.{Module, song_length}
use Rattle.reader.specs.Judge.{module_line}
use Rattle.reader.specs.Samples.{extents_of}
use Rattle.sequencer.specs.Songs.{fresh_song}
use Rattle.sequencer.specs.Legal.{legal_song}
use Rattle.voice.specs.Voice.{fresh_voice}
use Rattle.voice.specs.Legal.{legal_voices}
use Rattle.player.specs.declared.State.{State}
use Rattle.player.specs.declared.Reply.{Reply}

-- fresh: the song fresh, each voice stopped, its numbers 0, remainder 0
unfoldable pub fresh_state : State
fresh_state = record { song = fresh_song; voices = each (λ i. fresh_voice) width; remainder = 0 }

-- legal: the song, each voice with its sample's end, and the remainder below tempo
unfoldable pub legal_state : Module → State → Bool
legal_state m s =
    all
    (legal_song (song_length m) m.layout s.song
    ∷ legal_voices m.layout (extents_of m) s.voices
    ∷ nat_lt s.remainder s.song.time.tempo
    ∷ [])

-- 1 to 9 come first; where a state is given, 14 is next
abbrev pub state_lines : Module → State → List Line → List Line
state_lines m s more = module_line m ∷ line 14 (not (legal_state m s)) 0 ∷ more

-- an answer, and the state after the call
abbrev pub reply : Answer → State → Reply
reply answer state = record { answer = answer; state = state }
