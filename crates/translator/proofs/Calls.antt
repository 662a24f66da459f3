-- Laws of the call: the stream by what its writing leaves, and what the call answers by its tests.
-- Assumes nothing.
use Prim.Native.Nat.{ℕ, ◌+◌, ◌-◌, ◌*◌, ◌≤◌, ◌<◌, ◌^◌}
use mathlib.Core.Path.{◌≡◌, refl, sym, ap, ◌∙◌}
use mathlib.Core.List.{List, []}
use native.Mathlib.Nat.{mul-le-mul_right}
use native.Mathlib.Omega.{arith}
use lib.ListN.{length, take, drop}
use mir.Syntax.{w64}
use mir.Val.{Fits}
use borrow.Author.Tests.{lt-ltb, le-ltb}
use borrow.Rule.Slice.PartMut.{put_mid}
use Rattle.laws.specs.Lent.{tail_long}
use Rattle.common.specs.Answers.{outcome, accepted, refusal}
use Rattle.common.specs.AnswerLaws.{line_given, line_passed}
use Rattle.common.specs.Limits.{width}
use Rattle.common.specs.declared.refusals.Refusal.{Refusal}
use Rattle.common.specs.declared.refusals.Rule.TheVariants.{TickCount, StreamRoom}
use Rattle.ticks.specs.Play.{over}
use Rattle.reader.specs.declared.Layout.{Layout}
use Rattle.reader.specs.File.{Module, lent, module_of, channel_count}
use Rattle.reader.specs.Judge.{judge_of}
use Rattle.reader.specs.Modules.{as_module, read_refused, read_passed}
use Rattle.reader.specs.declared.module.Module.{Module as ReadModule}
use Rattle.sequencer.specs.Songs.{fresh_song, fresh_sounding}
use Rattle.sequencer.specs.RunLaws.{length-ticks}
use Rattle.records.specs.Format.{version_place, records_place, head_bytes, body_bytes, version, shift, at_first, stream_header, encode_after}
use Rattle.records.specs.Length.{written_header, written_length}
use Rattle.translator.specs.Translate.{fresh_ticks, stream_of, most_ticks, written, translate_of}
use Rattle.translator.specs.Passes.{most_bytes, Asked, records_of}
use Rattle.translator.specs.Streams.{stream_bound, translated}
use Rattle.translator.proofs.Over.{over_before}

-- ---- the stream: the records over the room's rest, and then the header at its front
module _ (layout : Layout) (bytes : List ℕ) (n : ℕ) (room : List ℕ) (h : length (stream_of (lent layout bytes) n) ≤ length room) where
  abbrev m : Module
  m = lent layout bytes

  long : length (stream_of m n) ≡ records_place + length (records_of m n)
  long = written_length (channel_count m) at_first (fresh_ticks m n)

  pub rest_inside : records_place ≤ length room
  rest_inside = omega (arith, long)

  -- and so it does once the records are written
  pub header_inside : (room' : List ℕ) → length room' ≡ length room → records_place ≤ length room'
  header_inside room' e = omega (arith, rest_inside)

  pub rest_fits : length (records_of (lent layout bytes) n) ≤ length (take (length room - records_place) (drop records_place room))
  rest_fits = omega (arith, long, tail_long records_place room)

  module _ (l : ℕ) (e : l ≡ length (records_of (lent layout bytes) n)) where
    pub stream_fits : length room < 2 ^ 64 → Fits w64 (records_place + l)
    stream_fits k = record { fits = omega (arith, long) }

    module _ (part : List ℕ) (o : part ≡ over (records_of (lent layout bytes) n) (take (length room - records_place) (drop records_place room))) where
      pub stream_written : (room' : List ℕ) → room' ≡ over (stream_header version layout.channels (records_place + l - version_place) n) (put_mid records_place (length room - records_place) room part)
          → outcome (accepted (records_place + l)) room' ≡ written (lent layout bytes) n room
      unfolding encode_after shift
      stream_written room' q =
          let f : records_place + l - version_place ≡ records_place - version_place + length (records_of m n) = omega arith in
          let s = stream_header version layout.channels (records_place + l - version_place) n in
          let w : room' ≡ over (stream_of m n) room = q ∙ over_before records_place s (records_of m n) room part (written_header _ _ _) rest_inside o ∙ rw (f, length-ticks m n fresh_song fresh_sounding) in
          rw (w, long, e)

pub ruleset stream_laws = (rest_inside, header_inside, rest_fits, stream_fits, stream_written)

-- ---- the length that a room is held against
module _ (c n : ℕ) (h : c ≤ width) (k : n < 2 ^ 32) where
  records_most : (head_bytes + body_bytes * c) * n ≤ (head_bytes + body_bytes * width) * n
  records_most = mul-le-mul_right n (let l : head_bytes + body_bytes * c ≤ head_bytes + body_bytes * width = omega arith in l)

  pub records_fit : Fits w64 ((head_bytes + body_bytes * c) * n)
  records_fit = record { fits = omega (arith, records_most) }

  pub most_fits : Fits w64 (most_bytes c n)
  most_fits = record { fits = omega (arith, records_most) }

pub asked_most : (layout : Layout) (bytes : List ℕ) (n room most : ℕ) → most ≡ most_bytes layout.channels n → most ≤ room → Asked (lent layout bytes) n room most
asked_most layout bytes n room most e h =
    record { short = λ l. let z : ⊥ = omega arith in absurd z; enough = λ l. omega (arith, stream_bound (lent layout bytes) layout.channels n (omega arith)) }

pub asked_stream : (layout : Layout) (bytes : List ℕ) (n room len : ℕ) → len ≡ length (stream_of (lent layout bytes) n) → Asked (lent layout bytes) n room len
asked_stream layout bytes n room len e = record { short = λ h. e; enough = λ h. rw (← e) h }

-- ---- what the call answers, by its tests
module _ (bytes : List ℕ) (n : ℕ) (room : List ℕ) where
  -- 1 to 9
  pub translate_refused : (e : Refusal) → judge_of bytes ≡ refusal e → outcome (refusal e) room ≡ translate_of bytes n room
  unfolding translate_of
  translate_refused e j = read_refused _ _ bytes _ (outcome (refusal e) room) e j refl

  module _ (m : ReadModule) (own : as_module m ≡ module_of bytes) where
    -- 11
    pub translate_many : (e : Refusal) → most_ticks < n → e ≡ record { rule = TickCount; place = 0 } → outcome (refusal e) room ≡ translate_of bytes n room
    unfolding translate_of
    translate_many e h k = rw k (read_passed _ _ bytes _ _ m own (line_given _ _ 11 0 _ _ _ (lt-ltb most_ticks n h) refl))

    module _ (few : n ≤ most_ticks) (len : ℕ) (l : Asked (as_module m) n (length room) len) where
      -- 12
      pub translate_short : (e : Refusal) → length room < len → e ≡ record { rule = StreamRoom; place = len } → outcome (refusal e) room ≡ translate_of bytes n room
      unfolding translate_of
      translate_short e h k =
          let s : len ≡ length (stream_of (module_of bytes) n) = l.short h ∙ ap (λ (k : Module). length (stream_of k n)) own in
          rw (k, s)
          (read_passed _ _ bytes _ _ m own
          (line_passed _ _ 11 0 _ _ _ (le-ltb most_ticks n few)
          (line_given _ _ 12 _ _ [] _ (lt-ltb (length room) (length (stream_of (module_of bytes) n)) (rw s at h)) refl)))

      pub translate_fits : len ≤ length room → length (stream_of (as_module m) n) ≤ length room
      translate_fits h = l.enough h

      pub translate_all : len ≤ length room → (k : ℕ) (room' : List ℕ) → outcome (accepted k) room' ≡ written (as_module m) n room → outcome (accepted k) room' ≡ translate_of bytes n room
      translate_all h k room' o =
          let f : length (stream_of (module_of bytes) n) ≤ length room = omega (arith, translate_fits h, ap (λ (k : Module). length (stream_of k n)) own) in
          o ∙ ap (λ (k : Module). written k n room) own ∙ sym (translated bytes n room (rw (← own) m.judged) few f)

pub ruleset call_laws = (translate_refused, translate_many, translate_short, translate_fits, translate_all)
