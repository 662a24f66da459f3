-- How many frames a tick has: 120,000 and what the tick before left, div tempo. The rest is left for the next tick of that tempo.
-- Assumes nothing.
use Rattle.std.specs.Prelude.{ℕ, ◌+◌, ◌/◌, ◌%◌, Bool, cond, eqb}

-- a tick's frames times its tempo
abbrev pub tick_frames : ℕ
tick_frames = 120000

-- the remainder that a tick begins with: 0 where its tempo differs from the tick before's
unfoldable pub carried_at : ℕ → ℕ → ℕ → ℕ
carried_at before remainder tempo = cond (eqb tempo before) remainder 0

-- a tick has (120,000 + remainder) div tempo frames
unfoldable pub length_at : ℕ → ℕ → ℕ
length_at tempo remainder = (tick_frames + remainder) / tempo

-- and keeps the rest modulo tempo; nothing by the old rule
unfoldable pub kept_at : Bool → ℕ → ℕ → ℕ
kept_at keeps tempo remainder = cond keeps ((tick_frames + remainder) % tempo) 0
