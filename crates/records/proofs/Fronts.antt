-- A record and a header at the front of the room: runs of stores that follow each other are one.
-- Assumes nothing.
use Prim.Native.Nat.{ℕ, ◌+◌, ◌*◌, ◌≤◌, ◌<◌}
use mathlib.Core.Path.{◌≡◌, refl, sym, ap, subst, ◌∙◌}
use mathlib.Core.List.{List, ◌++◌}
use native.Mathlib.Omega.{arith}
use native.Mathlib.Nat.{zero-add}
use lib.ListN.{length, take, drop, set, length-take, length-set}
use lib.Seq.{sets, sets-eq, length-sets}
use Rattle.std.specs.Int.RustNames.{count_ones}
use Rattle.common.specs.Limits.{width}
use Rattle.common.specs.Bytes.{four_bytes}
use Rattle.ticks.specs.declared.Command.{Command}
use Rattle.ticks.specs.declared.Tick.{Tick}
use Rattle.ticks.specs.Play.{over}
use Rattle.records.specs.Format.{version_place, channels_place, count_place, records_place, head_bytes, body_bytes, tempo_place, version, count_byte, mask, channels_bytes, record_bytes, stream_header}
use Rattle.records.specs.Length.{record_most}
use Rattle.records.specs.Marked.{marked_bytes, marked_mask}
use Rattle.records.proofs.Channels.{long_by_mask}

front : (xs room : List ℕ) → length xs ≤ length room → sets room 0 xs ≡ over xs room
front xs room h = sets-eq xs room 0 (omega arith) ∙ ap (λ (k : ℕ). xs ++ drop k room) (zero-add (length xs))

-- ---- stores keep the room's length
pub record_same : (room room' xs : List ℕ) (m v : ℕ) → room' ≡ sets (set (set room 0 m) tempo_place v) head_bytes xs → length room' ≡ length room
record_same room room' xs m v e = rw e (simp (length-sets, length-set))

pub header_same : (room room₁ room' xs ys : List ℕ) (v c : ℕ) → room₁ ≡ sets room 0 xs → room' ≡ sets (set (set room₁ version_place v) channels_place c) (count_place + 1) ys → length room' ≡ length room
header_same room room₁ room' xs ys v c e q = rw (q, e) (simp (length-sets, length-set))

-- ---- a record
module _ (c : ℕ) (registers : List Command) (t : Tick) where
  pub record_long : (n : ℕ) → n ≡ length (channels_bytes (take c registers) t.commands) → head_bytes + n ≡ length (record_bytes c registers t)
  unfolding record_bytes
  record_long n e = omega arith

  pub record_ones : (m : ℕ) → m ≡ mask (take c registers) t.commands → head_bytes + body_bytes * count_ones m ≡ length (record_bytes c registers t)
  record_ones m e = rw e (record_long _ (sym (long_by_mask (take c registers) t.commands)))

  pub record_few : (m : ℕ) → c ≤ width → m ≡ mask (take c registers) t.commands → head_bytes + body_bytes * count_ones m ≤ head_bytes + body_bytes * width
  record_few m h e = rw (record_ones m e) (record_most width c registers t h)

  module _ (room : List ℕ) (h : length (record_bytes c registers t) ≤ length room) where
    pub record_first : 0 < length room
    record_first = omega (arith, record_long _ refl)

    pub record_second : (m : ℕ) → tempo_place < length (set room 0 m)
    record_second m = simp length-set (omega (arith, record_long _ refl))

  -- by its mask
  module _ (k m : ℕ) (few : c ≤ k) (all : length registers ≡ k) (e : m ≡ mask (take c registers) t.commands) where
    by_mask : marked_bytes m (take c t.commands) ≡ channels_bytes (take c registers) t.commands
    by_mask =
        let n : length (take c registers) ≡ c = omega (arith, length-take c registers) in
        rw e (subst (λ (i : ℕ). marked_bytes (mask (take c registers) t.commands) (take i t.commands) ≡ channels_bytes (take c registers) t.commands) n (marked_mask (take c registers) t.commands))

    pub record_next : (n : ℕ) → n ≡ head_bytes + length (marked_bytes m (take c t.commands)) → n ≡ length (record_bytes c registers t)
    record_next n q = q ∙ record_long (length (marked_bytes m (take c t.commands))) (ap length by_mask)

    module _ (room : List ℕ) (h : length (record_bytes c registers t) ≤ length room) where
      pub record_rest : (v : ℕ) → head_bytes + length (marked_bytes m (take c t.commands)) ≤ length (set (set room 0 m) tempo_place v)
      record_rest v = simp length-set (omega (arith, record_next _ refl))

      pub record_done : (room' : List ℕ) → room' ≡ sets (set (set room 0 m) tempo_place t.tempo) head_bytes (marked_bytes m (take c t.commands)) → room' ≡ over (record_bytes c registers t) room
      record_done room' o = o ∙ rw (by_mask, e) (unfold record_bytes in front (record_bytes c registers t) room h)

-- ---- a header
module _ (c follow count : ℕ) (room room₁ : List ℕ) (h : records_place ≤ length room) (e : room₁ ≡ sets room 0 (four_bytes follow)) where
  pub header_second : (v : ℕ) → channels_place < length (set room₁ version_place v)
  header_second v = simp (length-set, e, length-sets) (omega arith)

  pub header_rest : (v : ℕ) → count_place + 1 + 4 ≤ length (set (set room₁ version_place v) channels_place c)
  header_rest v = simp (length-set, e, length-sets) h

  pub header_done : (room' : List ℕ) → room' ≡ sets (set (set room₁ version_place version) channels_place c) (count_place + 1) (four_bytes count) → room' ≡ over (stream_header version c follow count) room
  unfolding stream_header count_byte four_bytes
  header_done room' o = o ∙ rw e (front (stream_header version c follow count) room h)
