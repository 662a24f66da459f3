-- What taking a part of a call's bytes leaves: one byte, or a record that lies ahead whole (`Taken`).
-- Assumes nothing.
use Rattle.std.specs.Prelude.{ℕ, ◌-◌, ◌+◌, ◌^◌, ◌≤◌, ◌<◌, ◌≡◌, Bool, true, false, List, length, get_or, take, drop}
use Rattle.ticks.specs.declared.Tick.{Tick}
use Rattle.ticks.specs.Play.{Mechanism}
use Rattle.reader.specs.Samples.{Sample}
use Rattle.machine.specs.declared.Machine.{Machine}
use Rattle.machine.specs.Turn.{turn, turn_of}
use Rattle.records.specs.Format.{read, read_record}
use Rattle.arrival.specs.declared.Arrival.{Arrival}
use Rattle.arrival.specs.Arrive.{kept_bytes}
use Rattle.arrival.specs.Ahead.{awaits, Plays}
use Rattle.feed.specs.Feed.{registers_of, under}
use Rattle.feed.specs.Several.{several}

-- run is a whole record that is awaited, and t its tick
pub record Whole (last c : ℕ) (p : Arrival) (w : Machine) (run : List ℕ) (t : Tick) : Type 0 where
  pub awaited : awaits p ≡ true
  pub short : length run ≤ kept_bytes
  pub few : p.place + length run < 2 ^ 40
  pub stream : List ℕ
  pub from : ℕ
  pub to : ℕ
  pub is : read_record last c stream from (registers_of w) ≡ read t to
  pub plays : (samples : ℕ → Sample) → Plays last c registers_of (under c samples) p.version p w run t

module _ {A W : Type 0} (m : Mechanism A W ℕ) (w : W) where
  -- the run is taken, or nothing is
  pub record Tried (run : List ℕ) (out : List A) (full : Bool) (size : ℕ) (w' : W) (out' : List A) : Type 0 where
    pub within : size ≤ length out
    pub stays : full ≡ true → out' ≡ out
    pub goes : full ≡ false → turn full size w' out' ≡ turn_of (several m) w run out

  -- the bytes from i up to next are taken; or byte i does not fit
  pub record Taken (bs : List ℕ) (i : ℕ) (out : List A) (full : Bool) (next size : ℕ) (w' : W) (out' : List A) : Type 0 where
    pub low : i < next
    pub high : next ≤ length bs
    pub within : size ≤ length out
    pub stops : full ≡ true → turn full size w' out' ≡ turn_of m w (get_or bs i 0) out
    pub goes : full ≡ false → turn full size w' out' ≡ turn_of (several m) w (take (next - i) (drop i bs)) out
