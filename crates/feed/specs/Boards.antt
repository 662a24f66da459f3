-- A board beside a module that was read, as the definitions take them; and what the calls and their parts answer.
-- Assumes nothing.
use Rattle.std.specs.Prelude.{ℕ, ◌+◌, ◌<◌, ◌≡◌, length, true, false, List, ℤ, Option, None, Some, Result, Ok, Err}
use Rattle.common.specs.Limits.{width}
use Rattle.common.specs.Answers.{accepted, number_of, refusal}
use Rattle.common.specs.declared.Answer.{Answer}
use Rattle.common.specs.declared.refusals.Refusal.{Refusal}
use Rattle.ticks.specs.Play.{Mechanism}
use Rattle.reader.specs.Modules.{as_module}
use Rattle.reader.specs.declared.module.Module.{Module as ReadModule}
use Rattle.voice.specs.Legal.{legal_voices}
use Rattle.voice.specs.LegalFacts.{voices_has, voices_by}
use Rattle.voice.specs.Modules.{samples_in}
use Rattle.machine.specs.declared.Machine.{Machine}
use Rattle.machine.specs.Turn.{Turned, turn}
use Rattle.arrival.specs.Arrive.{kept_bytes}
use Rattle.arrival.specs.Ready.{Ready}
use Rattle.arrival.specs.Feed.{Fed, fed}
use Rattle.feed.specs.declared.Board.{Board}
use Rattle.feed.specs.declared.Reply.{Reply}
use Rattle.feed.specs.declared.feeding.Chunk.{Chunk}
use Rattle.feed.specs.Feed.{takes, refused_board}
use Rattle.feed.specs.Sound.{Sound}

-- ---- beside a module
abbrev pub state_of : Board → Fed Machine
state_of b = fed b.arrival b.machine

-- how a board takes bytes for it
abbrev pub taking : ReadModule → Mechanism ℤ (Fed Machine) ℕ
taking m = takes m.layout.samples m.layout.channels (samples_in (as_module m) m.extents)

-- its voices and its remainder are legal, and without a fault the arrival's lengths are
pub record Held (m : ReadModule) (b : Board) : Type 0 where
  pub count : length b.machine.voices ≡ width
  pub voices : legal_voices m.layout m.extents b.machine.voices ≡ true
  pub rest : (b.machine.remainder ≡ 0 → ⊥) → b.machine.remainder < b.machine.tempo
  pub long : length b.arrival.bytes ≡ kept_bytes
  pub ready : b.arrival.number ≡ 0 → Ready b.arrival

pub held_sound : (m : ReadModule) (b : Board) → Held m b → Sound m.layout m.file.now m.extents b.arrival b.machine
held_sound m b h =
    record {
      lawful = m.legal;
      judge = m.judged;
      table = m.table;
      voices = voices_has m.layout m.extents b.machine.voices m.legal.channels h.count h.voices;
      rest = h.rest;
      long = h.long;
      ready = h.ready;
    }

pub sound_held : (m : ReadModule) (b : Board) → Sound m.layout m.file.now m.extents b.arrival b.machine → Held m b
sound_held m b g = record { count = g.voices.long; voices = voices_by m.layout m.extents b.machine.voices g.voices; rest = g.rest; long = g.long; ready = g.ready }

-- ---- what was taken
-- nothing, or how many numbers
abbrev pub answered : {A W : Type 0} → Option ℕ → W → List A → Turned A W
answered None w out = turn true 0 w out
answered (Some size) w out = turn false size w out

-- the place after a part of the bytes; where nothing was taken that after the byte at i
abbrev pub next_of : ℕ → Option Chunk → ℕ
next_of i None = i + 1
next_of i (Some c) = c.next

abbrev pub size_of : Option Chunk → ℕ
size_of None = 0
size_of (Some c) = c.size

-- ---- what a call returns
-- a reply, or a refusal's, with the board as it was
abbrev pub replied : Board → Result Reply Refusal → Reply
replied b (Ok r) = r
replied b (Err e) = refused_board b (number_of e.rule) e.place

abbrev pub verdict_of : {A : Type 0} → Result A Refusal → Answer
verdict_of (Ok _) = accepted 0
verdict_of (Err e) = refusal e
