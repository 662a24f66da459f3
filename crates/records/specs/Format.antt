-- The tick stream: the bytes that are written for ticks, and the ticks that are read from bytes. Registers and commands are lists, of which the
-- first c are in use: the others are never written, and stay as they are. The registers are the commands of the tick before.
-- Version, number of channels and the last sample number are arguments. Assumes nothing.
use Rattle.std.specs.Prelude.{ℕ, zero, suc, ◌+◌, ◌-◌, ◌*◌, ◌/◌, ◌%◌, Bool, true, false, not, cond, ◌&&◌, ◌||◌, List, [], ◌∷◌, ◌++◌, length, take, drop, replicate, leb, ltb, eqb}
use Rattle.ticks.specs.Commands.{nothing}
use Rattle.common.specs.Limits.{width, least_tempo, greatest_tempo, between}
use Rattle.common.specs.Bytes.{byte_at, word_at, four_at, four_bytes, bit}
use Rattle.common.specs.Answers.{line, refusing}
use Rattle.ticks.specs.declared.Command.{Command}
use Rattle.ticks.specs.declared.Tick.{Tick}
use Rattle.records.specs.Legal.{legal_beside}

-- ---- places and sizes
-- the version byte's place, where the bytes that the first number counts begin
abbrev pub version_place : ℕ
version_place = 4

-- the channel count's place, where there is one
abbrev pub channels_place : ℕ
channels_place = 5

-- the tick count's place where there is none, after the version
abbrev pub count_place : ℕ
count_place = 5

-- and the first record's: no stream is shorter
abbrev pub least_place : ℕ
least_place = 9

-- the first record's place in the version that is written, which has a channel count
abbrev pub records_place : ℕ
records_place = 10

-- a record's mask and tempo
abbrev pub head_bytes : ℕ
head_bytes = 2

-- the tempo's place in a record
abbrev pub tempo_place : ℕ
tempo_place = 1

-- a set bit's numbers
abbrev pub body_bytes : ℕ
body_bytes = 6

-- the start's place in them
abbrev pub start_place : ℕ
start_place = 4

-- ---- versions
-- the first version, whose ticks keep no remainder
abbrev pub first_version : ℕ
first_version = 1

-- the first version with a channel count byte after the version
abbrev pub counted_version : ℕ
counted_version = 3

-- the version that is written
abbrev pub version : ℕ
version = 3

-- older versions are for four channels
abbrev pub old_channels : ℕ
old_channels = 4

-- the versions that are read
unfoldable pub known_version : ℕ → Bool
known_version v = between first_version version v

-- a stream's version
abbrev pub version_of : List ℕ → ℕ
version_of s = byte_at s version_place

-- whether a stream's ticks keep a remainder: version 1 streams play by the old rule
unfoldable pub keeps : List ℕ → Bool
keeps s = not (eqb (version_of s) first_version)

-- by how many bytes a version's channel count moves what comes after it
unfoldable pub shift : ℕ → ℕ
shift v = cond (ltb v counted_version) 0 1

-- how many channels a stream is for: 4 before version 3
unfoldable pub stream_channels : List ℕ → ℕ
stream_channels s = cond (ltb (version_of s) counted_version) old_channels (byte_at s channels_place)

-- its tick count
abbrev pub tick_count : List ℕ → ℕ
tick_count s = four_at s (count_place + shift (version_of s))

-- its first record's place
abbrev pub first_record : List ℕ → ℕ
first_record s = least_place + shift (version_of s)

-- ---- the writer
-- the registers at first: 0
unfoldable pub at_first : List Command
at_first = replicate width nothing

-- a bit is set exactly if sample, volume or sounded period differs from the tick before or the voice starts
unfoldable pub changed : Command → Command → Bool
changed r c =
    not (eqb c.sample r.sample)
    || (not (eqb c.volume r.volume) || (not (eqb c.period r.period) || c.start))

-- a mask: bit 0 is channel 1
unfoldable pub mask : List Command → List Command → ℕ
mask [] cs = 0
mask (r ∷ rs) [] = 0
mask (r ∷ rs) (c ∷ cs) = bit (changed r c) + 2 * mask rs cs

-- sounding sample, volume, sounded period (two bytes), start (0 or 1), offset / 256
unfoldable pub command_bytes : Command → List ℕ
command_bytes c = c.sample ∷ c.volume ∷ c.period / 256 ∷ c.period % 256 ∷ bit c.start ∷ c.offset ∷ []

-- what a channel adds to a record
unfoldable pub channel_bytes : Command → Command → List ℕ
channel_bytes r c = cond (changed r c) (command_bytes c) []

-- for each set bit, lowest first
unfoldable pub channels_bytes : List Command → List Command → List ℕ
channels_bytes [] cs = []
channels_bytes (r ∷ rs) [] = []
channels_bytes (r ∷ rs) (c ∷ cs) = channel_bytes r c ++ channels_bytes rs cs

-- a mask, the tempo, then for each set bit its numbers
unfoldable pub record_bytes : ℕ → List Command → Tick → List ℕ
record_bytes c registers t = mask (take c registers) t.commands ∷ t.tempo ∷ channels_bytes (take c registers) t.commands

-- the records, each after the tick before
unfoldable pub records : ℕ → List Command → List Tick → List ℕ
records c registers [] = []
records c registers (t ∷ ts) = record_bytes c registers t ++ records c t.commands ts

-- the channel count byte of a version that has one
unfoldable pub count_byte : ℕ → ℕ → List ℕ
count_byte v c = cond (ltb v counted_version) [] (c ∷ [])

-- four bytes: count of bytes that follow. Version. From version 3 on the channel count. Four bytes: tick count N
unfoldable pub stream_header : ℕ → ℕ → ℕ → ℕ → List ℕ
stream_header v c follow n = four_bytes follow ++ (v ∷ (count_byte v c ++ four_bytes n))

-- the header and N records
unfoldable pub encode_after : ℕ → ℕ → List Command → List Tick → List ℕ
encode_after v c registers ts = stream_header v c (least_place - version_place + shift v + length (records c registers ts)) (length ts) ++ records c registers ts

-- from the registers at first
abbrev pub encode : ℕ → ℕ → List Tick → List ℕ
encode v c ts = encode_after v c at_first ts

-- ---- the decoder
-- what was read and the place after it; or it is bad; or it runs out, with nothing bad in it so far
pub data Read (A : Type 0) : Type 0 where
  bad : Read A
  short : Read A
  read : A → ℕ → Read A

-- by how a reading came out
unfoldable pub read_by : {A B : Type 0} → B → B → Read A → (A → ℕ → B) → B
read_by if_bad if_short bad rest = if_bad
read_by if_bad if_short short rest = if_short
read_by if_bad if_short (read x n) rest = rest x n

-- reading on: what comes after a good reading, or else instead
abbrev pub read_on : {A B : Type 0} → B → Read A → (A → ℕ → B) → B
read_on instead r rest = read_by instead instead r rest

-- where a bad reading stays bad, and one that runs out stays so
abbrev pub and_then : {A B : Type 0} → Read A → (A → ℕ → Read B) → Read B
and_then r rest = read_by bad short r rest

-- the command of a channel whose bit is not set
unfoldable pub held : Command → Command
held r = record { sample = r.sample; volume = r.volume; period = r.period; start = false; offset = 0 }

-- a period at a place, which shows by its second byte: 0 before that is in
unfoldable pub period_at : List ℕ → ℕ → ℕ
period_at s at = cond (ltb (at + 1) (length s)) (word_at s at) 0

-- a start at a place, which may still come before its byte is in
unfoldable pub start_at : List ℕ → ℕ → Bool
start_at s at = cond (ltb at (length s)) (eqb (byte_at s at) 1) true

-- the command that six bytes spell: sample, volume, period (two bytes), start, offset. Numbers that are not in are 0
unfoldable pub spelled : List ℕ → ℕ → Command
spelled s at =
    record {
      sample = byte_at s at;
      volume = byte_at s (at + 1);
      period = period_at s (at + 2);
      start = start_at s (at + start_place);
      offset = byte_at s (at + 5);
    }

-- no byte of it is bad: start is 0 or 1, and the command is legal beside its register
unfoldable pub good_body : ℕ → List ℕ → ℕ → Command → Bool
good_body last s at r = leb (byte_at s (at + start_place)) 1 && legal_beside last r.sample (spelled s at)

-- the command of a set bit, beside its register
unfoldable pub read_body : ℕ → List ℕ → ℕ → Command → Read Command
read_body last s at r = cond (good_body last s at r) (cond (ltb (length s) (at + body_bytes)) short (read (spelled s at) (at + body_bytes))) bad

-- the command of a channel whose bit is the lowest of m
unfoldable pub read_channel : ℕ → List ℕ → ℕ → Command → ℕ → Read Command
read_channel last s at r m = cond (eqb (m % 2) 0) (read (held r) at) (read_body last s at r)

-- the commands of as many channels as there are registers, by the mask m
unfoldable pub read_channels : ℕ → List ℕ → ℕ → List Command → ℕ → Read (List Command)
read_channels last s at [] m = read [] at
read_channels last s at (r ∷ rs) m =
    and_then (read_channel last s at r m) (λ c p. and_then (read_channels last s p rs (m / 2)) (λ cs n. read (c ∷ cs) n))

-- a record's tick: its tempo, and the commands that were read before the registers of the channels that are not in use
abbrev pub read_tick : ℕ → List Command → ℕ → List Command → ℕ → Read Tick
read_tick c registers tempo cs n = read (record { tempo = tempo; commands = cs ++ drop c registers }) n

-- the bits of a mask past those of c channels
unfoldable pub unused_bits : ℕ → ℕ → ℕ
unused_bits zero m = m
unused_bits (suc c) m = unused_bits c (m / 2)

-- after a mask and a tempo
unfoldable pub read_bodies : ℕ → ℕ → List ℕ → ℕ → List Command → Read Tick
read_bodies last c s at registers =
    cond (between least_tempo greatest_tempo (byte_at s (at + tempo_place)))
    (and_then (read_channels last s (at + head_bytes) (take c registers) (byte_at s at)) (read_tick c registers (byte_at s (at + tempo_place))))
    bad

-- a number leaves its legal range, or a sample changes or an offset isn't 0 without a start: each byte is judged when it is in
unfoldable pub read_record : ℕ → ℕ → List ℕ → ℕ → List Command → Read Tick
read_record last c s at registers =
    cond (eqb (unused_bits c (byte_at s at)) 0)
    (cond (ltb (length s) (at + head_bytes)) short (read_bodies last c s at registers))
    bad

-- a stream's ticks, or a refusal's number and place
pub data Decoded : Type 0 where
  refusal : ℕ → ℕ → Decoded
  ticks : List Tick → Decoded

-- a tick before those that follow; a refusal stays
unfoldable pub with_tick : Tick → Decoded → Decoded
with_tick t (refusal number place) = refusal number place
with_tick t (ticks ts) = ticks (t ∷ ts)

-- 23: a bad record, one that runs out, or bytes left over; that record, or first byte left
unfoldable pub decode_records : ℕ → ℕ → List ℕ → ℕ → ℕ → List Command → Decoded
decode_records last c s zero at registers = cond (eqb at (length s)) (ticks []) (refusal 23 at)
decode_records last c s (suc n) at registers =
    read_on (refusal 23 at) (read_record last c s at registers) (λ t p. with_tick t (decode_records last c s n p t.commands))

-- 21: stream under 9 bytes, or its length isn't 4 plus its first number; its length. 22: version byte isn't 1, 2 or 3; 4.
-- 28: version 3 in under 10 bytes, or a count (4 before version 3) that isn't the module's; 4
unfoldable pub decode_after : ℕ → ℕ → List Command → List ℕ → Decoded
decode_after last c registers s =
    refusing refusal (decode_records last c s (tick_count s) (first_record s) registers)
    (line 21 (ltb (length s) least_place || not (eqb (length s) (version_place + four_at s 0))) (length s)
    ∷ line 22 (not (known_version (version_of s))) version_place
    ∷ line 28 (ltb (length s) (first_record s) || not (eqb (stream_channels s) c)) version_place
    ∷ [])

-- from the registers at first
abbrev pub decode : ℕ → ℕ → List ℕ → Decoded
decode last c s = decode_after last c at_first s
