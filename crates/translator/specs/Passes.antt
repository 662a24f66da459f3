-- What a translation's passes go by: the modules that they translate, the records that they write, and how long a stream can be.
-- Assumes nothing.
use Rattle.std.specs.Prelude.{ℕ, ◌+◌, ◌*◌, ◌≤◌, ◌<◌, ◌≡◌, List, length}
use Rattle.common.specs.ByteLaws.{Bytes}
use Rattle.reader.specs.File.{Module, channel_count}
use Rattle.reader.specs.Judge.{verdict}
use Rattle.reader.specs.Layouts.{LegalLayout}
use Rattle.records.specs.Format.{records_place, head_bytes, body_bytes, at_first, records}
use Rattle.translator.specs.Translate.{fresh_ticks, stream_of}

-- the most bytes that a stream of n ticks for c channels can have
abbrev pub most_bytes : ℕ → ℕ → ℕ
most_bytes c n = records_place + (head_bytes + body_bytes * c) * n

-- a length to hold a room against: where the room is shorter it is the stream's, and otherwise the stream fits
pub record Asked (m : Module) (n room len : ℕ) : Type 0 where
  pub short : room < len → len ≡ length (stream_of m n)
  pub enough : len ≤ room → length (stream_of m n) ≤ room

-- the records of the stream
abbrev pub records_of : Module → ℕ → List ℕ
records_of m n = records (channel_count m) at_first (fresh_ticks m n)

-- an accepted module of a legal layout, whose elements are bytes
pub record Translatable (m : Module) : Type 0 where
  pub layout : LegalLayout m.layout
  pub judged : (verdict m).number ≡ 0
  pub bytes : Bytes m.bytes
