-- Laws of the records that are judged one by one: the answer of those that are left is that of all.
-- Assumes nothing.
use Prim.Native.Nat.{ℕ, ◌+◌, ◌-◌, ◌≤◌, ◌<◌}
use Rattle.std.specs.Prelude.{Ok, Err, IsOk}
use mathlib.Core.Path.{◌≡◌, refl, sym, ap, ◌∙◌}
use mathlib.Core.Bool.{true, true≢false}
use mathlib.Core.List.{List, [], ◌∷◌}
use native.Mathlib.Omega.{arith}
use lib.ListN.{length}
use lib.Dec.{eqb}
use borrow.Author.Rules.{rules}
use borrow.Author.Tests.{eq-eqb, ne_eqb}
use Rattle.laws.specs.Choice.{either}
use Rattle.common.specs.Answers.{refused, accepted}
use Rattle.ticks.specs.declared.Command.{Command}
use Rattle.ticks.specs.declared.Tick.{Tick}
use Rattle.records.specs.Format.{tick_count, first_record, at_first, Read, bad, short, read, read_by, read_record, Decoded, refusal, ticks, with_tick, decode_records, decode}
use Rattle.records.specs.Decoded.{stream_of_lem}
use Rattle.decoder.specs.declared.reading.Record.{Record}
use Rattle.decoder.specs.declared.reading.Unread.{Unread}
use Rattle.decoder.specs.Answers.{answer_of}
use Rattle.decoder.specs.Results.{as_result, as_record}
use Rattle.decoder.specs.Whole.{has_ticks, ticks_in, Whole}
use Rattle.decoder.specs.Remaining.{next_record, whole_good}

answer_with : (t : Tick) (x : Decoded) → answer_of (with_tick t x) ≡ answer_of x
unfolding answer_of with_tick
answer_with t (refusal number place) = refl
answer_with t (ticks ts) = refl

-- the answer of what is left is the whole's
pub record Checked (last c : ℕ) (s : List ℕ) (count first : ℕ) (registers : List Command) (at left : ℕ) : Type 0 where
  pub whole : answer_of (decode_records last c s count first at_first) ≡ answer_of (decode_records last c s left at registers)

module _ (last c : ℕ) (s : List ℕ) (count first : ℕ) where
  pub checked_none : Checked last c s count first at_first first (count - 0)
  checked_none = record { whole = let e : count - 0 ≡ count = omega arith in rw e }

  module _ (registers : List Command) (at i : ℕ) (w : Checked last c s count first registers at (count - i)) where
    module _ (l : i < count) where
      -- one record more
      next : (x : Read Tick) → read_record last c s at registers ≡ x → answer_of (decode_records last c s count first at_first) ≡ answer_of (read_by (refusal 23 at) (refusal 23 at) x (λ t p. with_tick t (decode_records last c s (count - i - 1) p t.commands)))
      next x e = w.whole ∙ rw (next_record last c s (count - i) at registers (omega arith), e)

      pub checked_more : (r : Record) → Ok r ≡ as_record (read_record last c s at registers) → Checked last c s count first r.tick.commands r.next (count - (i + 1))
      unfolding as_result read_by
      checked_more r q = go (read_record last c s at registers) refl q
        where
          go : (x : Read Tick) → read_record last c s at registers ≡ x → Ok r ≡ as_record x → Checked last c s count first r.tick.commands r.next (count - (i + 1))
          go bad e p = absurd cc
          go short e p = absurd cc
          go (read t n) e p =
              let z : count - i - 1 ≡ count - (i + 1) = omega arith in
              let y : r ≡ record { tick = t; next = n } = cc in
              record { whole = next (read t n) e ∙ rw (y, z) (answer_with t (decode_records last c s (count - (i + 1)) n t.commands)) }

      pub checked_bad : (u : Unread) → Err u ≡ as_record (read_record last c s at registers) → refused 23 at ≡ answer_of (decode_records last c s count first at_first)
      unfolding as_result answer_of read_by
      checked_bad u q = go (read_record last c s at registers) refl q
        where
          go : (x : Read Tick) → read_record last c s at registers ≡ x → Err u ≡ as_record x → refused 23 at ≡ answer_of (decode_records last c s count first at_first)
          go bad e p = sym (next bad e)
          go short e p = sym (next short e)
          go (read t n) e p = absurd cc

    module _ (h : count ≤ i) where
      done : count - i ≡ 0
      done = omega arith

      pub checked_over : (at ≡ length s → ⊥) → refused 23 at ≡ answer_of (decode_records last c s count first at_first)
      unfolding answer_of decode_records
      checked_over n = sym (w.whole ∙ rw (done, ne_eqb at (length s) n))

      pub checked_all : at ≡ length s → accepted 0 ≡ answer_of (decode_records last c s count first at_first)
      unfolding answer_of decode_records
      checked_all e = sym (w.whole ∙ rw (done, eq-eqb at (length s) e))

-- ---- a whole stream's records
pub whole_reads : (last c : ℕ) (s : List ℕ) → Whole last c s → decode_records last c s (tick_count s) (first_record s) at_first ≡ decode last c s
whole_reads last c s h = let g = whole_good last c s h in (stream_of_lem last c s g.its g.is).reads ∙ sym g.is

ticks_with : (t : Tick) (d : Decoded) → has_ticks (with_tick t d) ≡ has_ticks d
unfolding has_ticks with_tick
ticks_with t (refusal number place) = refl
ticks_with t (ticks ts) = refl

ticks_in_with : (t : Tick) (d : Decoded) → has_ticks d ≡ true → ticks_in (with_tick t d) ≡ t ∷ ticks_in d
unfolding has_ticks ticks_in with_tick
ticks_in_with t (refusal number place) h = absurd (true≢false (sym h))
ticks_in_with t (ticks ts) h = refl

module _ (last c : ℕ) (s : List ℕ) (left at : ℕ) (registers : List Command) where
  pub next_none : left ≡ 0 → ticks_in (decode_records last c s left at registers) ≡ []
  unfolding decode_records ticks_in
  next_none z = rw z (either (λ (d : Decoded). ticks_in d ≡ []) (eqb at (length s)) _ _ (λ e. refl) (λ e. refl))

  module _ (some : 0 < left) (h : has_ticks (decode_records last c s left at registers) ≡ true) where
    -- the ticks from the next record on, where it is t
    abbrev after : Tick → ℕ → Decoded
    after t p = decode_records last c s (left - 1) p t.commands

    -- the next record is there
    pub next_there : IsOk (as_record (read_record last c s at registers))
    unfolding has_ticks as_result read_by
    next_there = go (read_record last c s at registers) (ap has_ticks (sym (next_record last c s left at registers some)) ∙ h)
      where
        go : (x : Read Tick) → has_ticks (read_by (refusal 23 at) (refusal 23 at) x (λ t p. with_tick t (after t p))) ≡ true → IsOk (as_record x)
        go bad e = absurd (true≢false (sym e))
        go short e = absurd (true≢false (sym e))
        go (read t n) e = search rules

    module _ (r : Record) (e : Ok r ≡ as_record (read_record last c s at registers)) where
      next_is : decode_records last c s left at registers ≡ with_tick r.tick (after r.tick r.next)
      unfolding as_result read_by
      next_is = next_record last c s left at registers some ∙ go (read_record last c s at registers) e
        where
          go : (x : Read Tick) → Ok r ≡ as_record x → read_by (refusal 23 at) (refusal 23 at) x (λ t p. with_tick t (after t p)) ≡ with_tick r.tick (after r.tick r.next)
          go bad q = absurd cc
          go short q = absurd cc
          go (read t n) q = let y : r ≡ record { tick = t; next = n } = cc in ap (λ (v : Record). with_tick v.tick (after v.tick v.next)) (sym y)

      pub next_others : has_ticks (decode_records last c s (left - 1) r.next r.tick.commands) ≡ true
      next_others = sym (ticks_with r.tick (after r.tick r.next)) ∙ ap has_ticks (sym next_is) ∙ h

      pub next_first : ticks_in (decode_records last c s left at registers) ≡ r.tick ∷ ticks_in (decode_records last c s (left - 1) r.next r.tick.commands)
      next_first = ap ticks_in next_is ∙ ticks_in_with r.tick (after r.tick r.next) next_others
