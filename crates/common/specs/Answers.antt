-- What a call answers: the first refusal of a table of lines, else its work; each rule's number, and how what a call returns reads as an answer; and what it
-- leaves in a buffer that it was lent.
-- Assumes nothing.
use Rattle.std.specs.Prelude.{ℕ, Bool, cond, List, [], ◌∷◌, Result, Ok, Err}
use Rattle.common.specs.declared.Answer.{Answer}
use Rattle.common.specs.declared.refusals.Refusal.{Refusal}
use Rattle.common.specs.declared.refusals.Rule.{Rule}
use Rattle.common.specs.declared.refusals.Rule.TheVariants.{ShortFile, Tag, SongLength, TableEntry, HeaderVolume, SampleLoop, ShortSamples, CellSample, CellPeriod, TickCount, StreamRoom, State, TouchPage, TouchAge, TouchPosition, StreamLength, StreamVersion, StreamRecord, Sides, Channel, BurstLength, BurstRoom, StreamChannels, BurstLists}

-- ---- answers
-- a refusal returns number and place, and count 0
abbrev pub refused : ℕ → ℕ → Answer
refused number place = record { number = number; place = place; count = 0 }

-- an accepted call returns number and place 0
abbrev pub accepted : ℕ → Answer
accepted count = record { number = 0; place = 0; count = count }

-- ---- refusals as answers
-- each rule's number
abbrev pub number_of : Rule → ℕ
number_of ShortFile = 1
number_of Tag = 2
number_of SongLength = 3
number_of TableEntry = 4
number_of HeaderVolume = 5
number_of SampleLoop = 6
number_of ShortSamples = 7
number_of CellSample = 8
number_of CellPeriod = 9
number_of TickCount = 11
number_of StreamRoom = 12
number_of State = 14
number_of TouchPage = 16
number_of TouchAge = 17
number_of TouchPosition = 18
number_of StreamLength = 21
number_of StreamVersion = 22
number_of StreamRecord = 23
number_of Sides = 24
number_of Channel = 25
number_of BurstLength = 26
number_of BurstRoom = 27
number_of StreamChannels = 28
number_of BurstLists = 34

-- a refusal's answer: number and place, and count 0
abbrev pub refusal : Refusal → Answer
refusal e = refused (number_of e.rule) e.place

-- the answer of a call that counts
abbrev pub answered : Result ℕ Refusal → Answer
answered (Ok count) = accepted count
answered (Err e) = refusal e

-- the answer of a call that only judges
abbrev pub judged : Result Unit Refusal → Answer
judged (Ok _) = accepted 0
judged (Err e) = refusal e

-- ---- buffers
-- what a call that is lent a buffer returns, and the buffer that it leaves
pub record Outcome (R A : Type 0) : Type 0 where
  pub reply : R
  pub out : List A

abbrev pub outcome : {R A : Type 0} → R → List A → Outcome R A
outcome reply out = record { reply = reply; out = out }

-- ---- a table of refusals
-- a line: its number, whether it is given, and its place
pub record Line : Type 0 where
  pub number : ℕ
  pub given : Bool
  pub place : ℕ

abbrev pub line : ℕ → Bool → ℕ → Line
line number given place = record { number = number; given = given; place = place }

-- the first refusal of these lines, else the work
unfoldable pub refusing : {A : Type 0} → (ℕ → ℕ → A) → A → List Line → A
refusing refuse work [] = work
refusing refuse work (l ∷ ls) = cond l.given (refuse l.number l.place) (refusing refuse work ls)
