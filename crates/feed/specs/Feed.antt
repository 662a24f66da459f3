-- The board that takes its stream as it arrives: how it plays a tick under each version, when it is legal, and its calls.
-- It takes the samples with their lengths and loops, and never the module: that is judged, and lends its samples.
-- Assumes nothing.
use Rattle.std.specs.Prelude.{ℕ, ◌-◌, Bool, false, not, cond, ◌||◌, List, [], ◌∷◌, ℤ, length, get_or, ltb, eqb}
use Rattle.laws.specs.Ranges.{all, each}
use Rattle.common.specs.Limits.{width}
use Rattle.common.specs.Answers.{refused, Outcome, outcome, Line, line, refusing}
use Rattle.common.specs.declared.Answer.{Answer}
use Rattle.ticks.specs.declared.Command.{Command}
use Rattle.ticks.specs.declared.Tick.{Tick}
use Rattle.ticks.specs.Play.{Mechanism, after_fit, play_out}
use Rattle.reader.specs.File.{Module, module_of, sample_count, channel_count}
use Rattle.reader.specs.Judge.{module_line}
use Rattle.reader.specs.Samples.{Sample, extents_of}
use Rattle.voice.specs.declared.Voice.{Voice}
use Rattle.voice.specs.Voice.{samples_of}
use Rattle.voice.specs.Frames.{blank}
use Rattle.voice.specs.Legal.{legal_voices}
use Rattle.machine.specs.declared.Machine.{Machine}
use Rattle.machine.specs.Machine.{fresh_machine, frames, after}
use Rattle.records.specs.Format.{first_version}
use Rattle.arrival.specs.declared.Arrival.{Arrival}
use Rattle.arrival.specs.Arrive.{taken, at_start, closed, legal_arrival}
use Rattle.arrival.specs.Feed.{Fed, fed, feeding}
use Rattle.feed.specs.declared.Board.{Board}
use Rattle.feed.specs.declared.Reply.{Reply}

-- ---- the machine
-- a voice holds the numbers of a tick as its register
unfoldable pub register_of : Voice → Command
register_of v = record { sample = v.sample; volume = v.volume; period = v.period; start = false; offset = 0 }

unfoldable pub registers_of : Machine → List Command
registers_of w = each (λ i. register_of (get_or w.voices i blank)) width

-- whether a version's ticks keep a remainder: version 1 streams play by the old rule
unfoldable pub kept_under : ℕ → Bool
kept_under version = not (eqb version first_version)

-- by the old rule a tick begins with no remainder
unfoldable pub begun : Bool → Machine → Machine
begun keeps w = cond keeps w (record { voices = w.voices; tempo = w.tempo; remainder = 0 })

-- and leaves tempo and remainder alone
unfoldable pub left : Bool → Machine → Machine → Machine
left keeps w x = cond keeps x (record { voices = x.voices; tempo = w.tempo; remainder = w.remainder })

-- how the board plays ticks under a version
unfoldable pub frames_under : ℕ → (ℕ → Sample) → ℕ → Machine → Tick → List ℤ
frames_under channels samples version w t = frames channels samples (begun (kept_under version) w) t

unfoldable pub after_under : ℕ → (ℕ → Sample) → ℕ → Machine → Tick → Machine
after_under channels samples version w t = left (kept_under version) w (after (kept_under version) channels samples (begun (kept_under version) w) t)

abbrev pub under : ℕ → (ℕ → Sample) → ℕ → Mechanism ℤ Machine Tick
under channels samples version = record { frames = frames_under channels samples version; after = after_under channels samples version }

-- how it takes bytes, for samples to the last and so many channels
abbrev pub takes : ℕ → ℕ → (ℕ → Sample) → Mechanism ℤ (Fed Machine) ℕ
takes last channels samples = feeding last channels registers_of (under channels samples)

-- ---- the board
-- where the board begins: stopped voices, no tick before and no remainder, and nothing is taken
unfoldable pub fresh_board : Board
fresh_board = record { arrival = at_start; machine = record { voices = fresh_machine.voices; tempo = 0; remainder = 0 } }

-- a remainder from 0 up to the last tick's tempo minus 1
unfoldable pub legal_remainder : Machine → Bool
legal_remainder w = eqb w.remainder 0 || ltb w.remainder w.tempo

unfoldable pub legal_board : Module → Board → Bool
legal_board m b =
    all
    (legal_voices m.layout (extents_of m) b.machine.voices
    ∷ legal_remainder b.machine
    ∷ legal_arrival (sample_count m) (channel_count m) (registers_of b.machine) b.arrival
    ∷ [])

-- ---- a call
-- an answer, how many bytes were taken, and the board after the call
abbrev pub reply : Answer → ℕ → Arrival → Machine → Reply
reply answer taken arrival machine = record { answer = answer; taken = taken; board = record { arrival = arrival; machine = machine } }

abbrev pub refused_board : Board → ℕ → ℕ → Reply
refused_board b number place = record { answer = refused number place; taken = 0; board = b }

-- the place of the fault that is kept, or 0
unfoldable pub fault_place : Arrival → ℕ
fault_place p = cond (eqb p.number 0) 0 p.fault

-- the fault that is kept or 0, with its place; how many ticks were played and how many bytes were taken since p
unfoldable pub reply_since : Arrival → Fed Machine → Reply
reply_since p w =
    reply (record { number = w.arrival.number; place = fault_place w.arrival; count = w.arrival.records - p.records }) (taken w.arrival - taken p) w.arrival w.machine

-- bytes are taken until none is left, one shows a fault or one mustn't be taken
unfoldable pub feed_of : ℕ → ℕ → (ℕ → Sample) → Arrival → Machine → List ℕ → List ℤ → Outcome Reply ℤ
feed_of last channels samples p w bytes out =
    outcome (reply_since p (after_fit (takes last channels samples) (length out) (fed p w) bytes)) (play_out (takes last channels samples) (fed p w) bytes out)

-- 1 to 9 come first, then 14
abbrev pub board_lines : Module → Board → List Line
board_lines m b = module_line m ∷ line 14 (not (legal_board m b)) 0 ∷ []

-- the call that takes bytes
unfoldable pub board_feed_of : List ℕ → Board → List ℕ → List ℤ → Outcome Reply ℤ
board_feed_of file b bytes out =
    refusing (λ number place. outcome (refused_board b number place) out)
    (feed_of (sample_count (module_of file)) (channel_count (module_of file)) (samples_of (module_of file)) b.arrival b.machine bytes out)
    (board_lines (module_of file) b)

-- the call that closes: no byte is taken, and no tick played
unfoldable pub board_close_of : List ℕ → Board → Reply
board_close_of file b =
    refusing (refused_board b) (reply_since b.arrival (fed (closed b.arrival) b.machine)) (board_lines (module_of file) b)
