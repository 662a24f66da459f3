-- Legal states: as facts, with both ways between them and the test of refusal 14; and what the calls go by.
-- Assumes nothing.
use Rattle.std.specs.Prelude.{◌≡◌, ◌<◌, true, List, [], length, Result, Ok, Err}
use borrow.Author.Tests.{ltb-true, lt-ltb}
use Rattle.laws.specs.Every.{all_at, all_by, Each}
use Rattle.common.specs.Answers.{refused, accepted, refusing, refusal}
use Rattle.common.specs.ByteLaws.{Bytes}
use Rattle.common.specs.Limits.{width}
use Rattle.common.specs.declared.Answer.{Answer}
use Rattle.common.specs.declared.refusals.Refusal.{Refusal}
use Rattle.reader.specs.File.{Module, song_length}
use Rattle.reader.specs.Judge.{verdict}
use Rattle.reader.specs.Samples.{extents_of}
use Rattle.reader.specs.declared.module.Module.{Module as ReadModule}
use Rattle.sequencer.specs.declared.Song.{Song}
use Rattle.reader.specs.Layouts.{LegalLayout}
use Rattle.voice.specs.LegalFacts.{LegalVoices, voices_has, voices_by}
use Rattle.voice.specs.declared.Voice.{Voice}
use Rattle.player.specs.declared.State.{State}
use Rattle.player.specs.State.{legal_state, state_lines}
use Rattle.sequencer.specs.LegalFacts.{song_has, song_by_lem, LegalSong}

-- a legal song with legal voices
pub record LegalVoiced (m : Module) (s : Song) (vs : List Voice) : Type 0 where
  pub song : LegalSong (song_length m) m.layout s
  pub voices : LegalVoices m.layout (extents_of m) vs

-- and a remainder below the tempo
pub record LegalState (m : Module) (s : State) : Type 0 where
  pub voiced : LegalVoiced m s.song s.voices
  pub remainder : s.remainder < s.song.time.tempo

module _ (m : Module) (y : LegalLayout m.layout) (s : State) where
  pub state_has : length s.voices ≡ width → legal_state m s ≡ true → LegalState m s
  unfolding legal_state
  state_has l e =
      let h = all_at _ e in
      record {
        voiced =
            record {
              song = song_has (song_length m) m.layout y.channels s.song (h 0);
              voices = voices_has m.layout (extents_of m) s.voices y.channels l (h 1);
            };
        remainder = ltb-true s.remainder s.song.time.tempo (h 2);
      }

  pub state_by : LegalState m s → legal_state m s ≡ true
  unfolding legal_state Each
  state_by l =
      all_by _
      (song_by_lem (song_length m) m.layout y.channels s.song l.voiced.song, (voices_by m.layout (extents_of m) s.voices l.voiced.voices, (lt-ltb s.remainder s.song.time.tempo l.remainder, tt)))

-- ---- what the calls go by
-- an accepted module of a legal layout, whose elements are bytes, with a legal state
pub record Playable (m : Module) (s : State) : Type 0 where
  pub layout : LegalLayout m.layout
  pub judged : (verdict m).number ≡ 0
  pub bytes : Bytes m.bytes
  pub legal : legal_state m s ≡ true

-- the verdict of 1 to 9 and 14
abbrev pub state_verdict : Module → State → Answer
state_verdict m s = refusing refused (accepted 0) (state_lines m s [])

pub record Judged (m : Module) (s : State) (v : Answer) : Type 0 where
  pub is : v ≡ state_verdict m s
  pub playable : v.number ≡ 0 → Playable m s

-- as an answer: the module that goes on, or the refusal
abbrev pub admitted : Result ReadModule Refusal → Answer
admitted (Ok _) = accepted 0
admitted (Err e) = refusal e
