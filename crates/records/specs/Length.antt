-- How long a stream is (`stream_length`), and how long at most one that is written (`written_most`).
-- Assumes nothing.
use Rattle.std.specs.Prelude.{ℕ, ◌+◌, ◌-◌, ◌*◌, ◌≤◌, ◌≡◌, refl, Bool, true, false, cond, List, [], ◌∷◌, ltb, length, take}
use Rattle.std.proofs.Common.{arith, length-append, length-take}
use Rattle.common.specs.Bytes.{four_bytes}
use Rattle.ticks.specs.declared.Command.{Command}
use Rattle.ticks.specs.declared.Tick.{Tick}
use Rattle.records.specs.Format.{version_place, least_place, records_place, head_bytes, body_bytes, counted_version, version, shift, count_byte, changed, command_bytes, channel_bytes, channels_bytes, record_bytes, records, stream_header, encode_after}

-- a channel count moves what comes after it
pub count_long : (v c : ℕ) → length (count_byte v c) ≡ shift v
unfolding count_byte shift
count_long v c = by (ltb v counted_version)
  where
    by : (b : Bool) → length (cond b [] (c ∷ [])) ≡ cond b 0 1
    by true = refl
    by false = refl

pub header_long : (v c follow n : ℕ) → length (stream_header v c follow n) ≡ least_place + shift v
unfolding stream_header four_bytes
header_long v c follow n = omega (arith, count_long v c, length-append (count_byte v c) (four_bytes n))

pub stream_length : (v c : ℕ) (registers : List Command) (ts : List Tick) → length (encode_after v c registers ts) ≡ least_place + shift v + length (records c registers ts)
unfolding encode_after
stream_length v c registers ts =
    let follow : ℕ = least_place - version_place + shift v + length (records c registers ts) in
    omega (arith, length-append (stream_header v c follow (length ts)) (records c registers ts), header_long v c follow (length ts))

-- one of the version that is written
pub written_header : (c follow n : ℕ) → length (stream_header version c follow n) ≡ records_place
unfolding shift
written_header c follow n = header_long version c follow n

pub written_length : (c : ℕ) (registers : List Command) (ts : List Tick) → length (encode_after version c registers ts) ≡ records_place + length (records c registers ts)
unfolding shift
written_length c registers ts = stream_length version c registers ts

-- ---- at most
bytes_most : (b : Bool) (c : Command) → length (cond b (command_bytes c) []) ≤ body_bytes
unfolding command_bytes
bytes_most true c = omega arith
bytes_most false c = omega arith

pub channel_most : (r c : Command) → length (channel_bytes r c) ≤ body_bytes
unfolding channel_bytes
channel_most r c = bytes_most (changed r c) c

channels_most : (rs cs : List Command) → length (channels_bytes rs cs) ≤ body_bytes * length rs
unfolding channels_bytes
channels_most [] cs = omega arith
channels_most (r ∷ rs) [] = omega arith
channels_most (r ∷ rs) (c ∷ cs) =
    omega (arith, length-append (channel_bytes r c) (channels_bytes rs cs), channel_most r c, channels_most rs cs)

-- a record of at most k channels
pub record_most : (k c : ℕ) (registers : List Command) (t : Tick) → c ≤ k → length (record_bytes c registers t) ≤ head_bytes + body_bytes * k
unfolding record_bytes
record_most k c registers t h = omega (arith, channels_most (take c registers) t.commands, length-take c registers)

records_most : (k c : ℕ) (registers : List Command) (ts : List Tick) → c ≤ k → length (records c registers ts) ≤ (head_bytes + body_bytes * k) * length ts
unfolding records
records_most k c registers [] h = omega arith
records_most k c registers (t ∷ ts) h =
    omega (arith, length-append (record_bytes c registers t) (records c t.commands ts), record_most k c registers t h, records_most k c t.commands ts h)

pub written_most : (k c : ℕ) (registers : List Command) (ts : List Tick) → c ≤ k → length (encode_after version c registers ts) ≤ records_place + (head_bytes + body_bytes * k) * length ts
written_most k c registers ts h = omega (arith, written_length c registers ts, records_most k c registers ts h)
