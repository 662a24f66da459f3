-- A stream that arrives byte by byte: what each byte does. A record is what `read_record` reads of the bytes that are in: nothing of the format is
-- said again. Samples to the last, and so many channels. Assumes nothing.
use Rattle.std.specs.Prelude.{ℕ, ◌+◌, Bool, not, cond, ◌&&◌, ◌||◌, List, [], ◌∷◌, take, set, replicate, leb, ltb, eqb}
use Rattle.common.specs.Limits.{between}
use Rattle.common.specs.Bytes.{byte_at, four_at}
use Rattle.common.specs.Answers.{line, refusing}
use Rattle.ticks.specs.declared.Command.{Command}
use Rattle.ticks.specs.declared.Tick.{Tick}
use Rattle.records.specs.Format.{version_place, channels_place, least_place, counted_version, old_channels, known_version, version_of, shift, stream_channels, tick_count, first_record, Read, bad, short, read, read_record}
use Rattle.arrival.specs.declared.Arrival.{Arrival}

-- ---- how far a stream has arrived
-- room for the bytes of the header or of a record
abbrev pub kept_bytes : ℕ
kept_bytes = 52

-- nothing is taken
unfoldable pub at_start : Arrival
at_start = record { place = 0; kept = 0; bytes = replicate kept_bytes 0; follow = 0; version = 0; channels = 0; count = 0; records = 0; number = 0; fault = 0 }

-- the bytes of the header or record that is open
abbrev pub bytes_of : Arrival → List ℕ
bytes_of p = take p.kept p.bytes

-- how many bytes are taken
abbrev pub taken : Arrival → ℕ
taken p = p.place + p.kept

-- the header is open
abbrev pub heading : Arrival → Bool
heading p = eqb p.place 0

-- the declared length: 4 plus the first number
unfoldable pub total : Arrival → ℕ
total p = version_place + cond (heading p) (four_at p.bytes 0) p.follow

-- all declared bytes are taken
unfoldable pub ended : Arrival → Bool
ended p = leb version_place (taken p) && eqb (taken p) (total p)

-- a fault is kept
abbrev pub shown : Arrival → Bool
shown p = not (eqb p.number 0)

-- a fault, which is kept
abbrev pub faulty : ℕ → ℕ → Arrival → Arrival
faulty number place p =
    record { place = p.place; kept = p.kept; bytes = p.bytes; follow = p.follow; version = p.version; channels = p.channels; count = p.count; records = p.records; number = number; fault = place }

-- a byte more is kept
abbrev pub keep : Arrival → ℕ → Arrival
keep p b =
    record {
      place = p.place;
      kept = p.kept + 1;
      bytes = set p.bytes p.kept b;
      follow = p.follow;
      version = p.version;
      channels = p.channels;
      count = p.count;
      records = p.records;
      number = p.number;
      fault = p.fault;
    }

-- the header is whole: its numbers are kept
abbrev pub headed : Arrival → Arrival
headed p =
    record {
      place = taken p;
      kept = 0;
      bytes = p.bytes;
      follow = four_at p.bytes 0;
      version = version_of p.bytes;
      channels = byte_at p.bytes channels_place;
      count = tick_count p.bytes;
      records = p.records;
      number = p.number;
      fault = p.fault;
    }

-- a record is whole
abbrev pub played : Arrival → Arrival
played p =
    record { place = taken p; kept = 0; bytes = p.bytes; follow = p.follow; version = p.version; channels = p.channels; count = p.count; records = p.records + 1; number = p.number; fault = p.fault }

-- ---- the faults that bytes show
-- the byte at a place of an open header is in, and it isn't by this byte that the declared end shows
unfoldable pub shows_by : ℕ → ℕ → Bool → Bool
shows_by at kept ended = ltb at kept && not (ended && eqb kept (at + 1))

-- the version of an open header is in, and isn't known
unfoldable pub unknown : List ℕ → ℕ → Bool → Bool
unknown bytes kept ended = not (known_version (version_of bytes)) && shows_by version_place kept ended

-- how many channels it is for is in (the version says it before version 3), and isn't the module's
unfoldable pub other : ℕ → List ℕ → ℕ → Bool → Bool
other c bytes kept ended = not (eqb (stream_channels bytes) c) && shows_by (version_place + shift (version_of bytes)) kept ended

-- of an open header: the version 22, the number of channels 28; at the declared end 21, and 28 in nine bytes of version 3
unfoldable pub header_shows : ℕ → Arrival → Arrival
header_shows c p =
    refusing (λ number place. faulty number place p) p
    (line 22 (unknown p.bytes p.kept (ended p)) version_place
    ∷ line 28 (other c p.bytes p.kept (ended p)) version_place
    ∷ line 21 (ended p && ltb p.kept least_place) (taken p)
    ∷ line 28 (ended p) version_place
    ∷ [])

-- between records: at the declared end a missing record 23
unfoldable pub end_shows : Arrival → Arrival
end_shows p = refusing (λ number place. faulty number place p) p (line 23 (ended p && ltb p.records p.count) p.place ∷ [])

-- of an open record: at the declared end 23
unfoldable pub open_shows : Arrival → Arrival
open_shows p = refusing (λ number place. faulty number place p) p (line 23 (ended p) p.place ∷ [])

-- ---- a byte
-- what a byte does: no tick is played, or it completes a record; with how far the stream has arrived then
pub data Step : Type 0 where
  holds : Arrival → Step
  plays : Tick → Arrival → Step

unfoldable pub header_step : ℕ → Arrival → Arrival
header_step c p = cond (eqb p.kept (first_record p.bytes)) (end_shows (headed p)) (header_shows c p)

-- a record is played when its last byte is in; a bad one gives 23
unfoldable pub record_step : Arrival → Read Tick → Step
record_step p bad = holds (faulty 23 p.place p)
record_step p short = holds (open_shows p)
record_step p (read t n) = plays t (end_shows (played p))

-- a kept fault stays, and takes nothing; the first byte over the end gives 21, itself counted in the place, and is not taken; a byte left over gives 23
unfoldable pub step : ℕ → ℕ → List Command → Arrival → ℕ → Step
step last c registers p b =
    cond (shown p) (holds p)
    (cond (ended p) (holds (faulty 21 (taken p + 1) p))
    (cond (heading p) (holds (header_step c (keep p b)))
    (cond (leb p.count p.records) (holds (faulty 23 p.place (keep p b)))
    (record_step (keep p b) (read_record last c (bytes_of (keep p b)) 0 registers)))))

-- ---- closing
-- a kept fault stays; closing after the end changes nothing; closing short gives 21, kept likewise
unfoldable pub closed : Arrival → Arrival
closed p = cond (shown p) p (cond (ended p) p (faulty 21 (taken p) p))

-- ---- legality, for an arrival that a caller lent
-- how many channels the numbers of a closed header say
unfoldable pub stated_channels : Arrival → ℕ
stated_channels p = cond (ltb p.version counted_version) old_channels p.channels

-- kept bytes that are no open header or record
abbrev pub no_state : ℕ
no_state = 14

-- what an open record shows
unfoldable pub record_shows : Arrival → Read Tick → Arrival
record_shows p bad = faulty 23 p.place p
record_shows p short = open_shows p
record_shows p (read t n) = faulty no_state 0 p

-- what the kept bytes after a closed header show
unfoldable pub rest_shows : ℕ → ℕ → List Command → Arrival → Arrival
rest_shows last c registers p =
    cond (eqb p.kept 0) (end_shows p)
    (cond (ltb kept_bytes p.kept) (faulty no_state 0 p)
    (cond (leb p.count p.records) (faulty 23 p.place p) (record_shows p (read_record last c (bytes_of p) 0 registers))))

-- the first fault that the kept bytes and the numbers of a closed header show
unfoldable pub shows : ℕ → ℕ → List Command → Arrival → Arrival
shows last c registers p =
    cond (heading p) (cond (leb (first_record p.bytes) p.kept) (faulty no_state 0 p) (header_shows c p))
    (cond (not (known_version p.version)) (faulty 22 version_place p)
    (cond (not (eqb (stated_channels p) c)) (faulty 28 version_place p) (rest_shows last c registers p)))

-- the fault that q shows is the one that p keeps
unfoldable pub keeps : Arrival → Arrival → Bool
keeps p q = eqb q.number 0 || (eqb q.number p.number && eqb q.fault p.fault)

-- the faults that are kept
unfoldable pub kept_fault : ℕ → Bool
kept_fault n = eqb n 0 || (between 21 23 n || eqb n 28)

-- how many records there may be: no more than ticks, of which an open header has none
unfoldable pub most_records : Arrival → ℕ
most_records p = cond (heading p) 0 p.count

-- no more records than ticks; no more bytes than declared; a kept fault is one of these, and is the one that shows
unfoldable pub legal_arrival : ℕ → ℕ → List Command → Arrival → Bool
legal_arrival last c registers p =
    leb p.records (most_records p)
    && (leb (taken p) (total p)
    && (kept_fault p.number
    && keeps p (shows last c registers (faulty 0 0 p))))
