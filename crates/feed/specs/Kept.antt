-- Feeding and closing keep a legal board legal (`feed_keeps`, `close_keeps`), the fresh board is legal (`fresh_legal`), a kept fault is repeated, with
-- nothing taken, by every later call (`feed_again`, `close_again`), and closing after the end changes nothing (`close_ended`).
-- Assumes nothing.
use Rattle.std.specs.Prelude.{ℕ, ◌-◌, ◌<◌, ◌≡◌, Bool, ◌||◌, ℤ, length, take}
use Rattle.std.proofs.Math.Path.{refl, ap}
use Rattle.std.proofs.Common.{◌∙◌}
use Rattle.std.proofs.Math.Bool.{true, false}
use mathlib.Core.List.{List, [], ◌∷◌}
use native.Mathlib.Omega.{arith}
use Rattle.std.proofs.Math.Dec.{eqb, ltb}
use borrow.Author.Tests.{eq-eqb, ne_eqb, eqb-false, lt-ltb}
use Rattle.laws.specs.Every.{all_at, all_by, Each}
use Rattle.common.specs.Answers.{refused, outcome, refusing}
use Rattle.ticks.specs.Play.{after_all, fit, play_out}
use Rattle.reader.specs.File.{Module, lent, layout_of, module_of, sample_count, channel_count}
use Rattle.reader.specs.Layouts.{LegalLayout}
use Rattle.reader.specs.Samples.{Sample, extents_of}
use Rattle.reader.specs.declared.Layout.{Layout}
use Rattle.voice.specs.Modules.{samples_in}
use Rattle.voice.specs.LegalFacts.{voices_by}
use Rattle.machine.specs.declared.Machine.{Machine}
use Rattle.machine.specs.Machine.{fresh_machine}
use Rattle.machine.specs.Kept.{machine_fresh}
use Rattle.arrival.specs.declared.Arrival.{Arrival}
use Rattle.arrival.specs.Arrive.{taken, ended, Step, holds, plays, step, closed, legal_arrival}
use Rattle.arrival.specs.Cuts.{closed_end}
use Rattle.arrival.specs.Legal.{Kept, step_legal, closed_legal, start_legal}
use Rattle.arrival.specs.Feed.{Fed, fed, step_after}
use Rattle.arrival.specs.Comes.{fault_stays}
use Rattle.reader.specs.Judge.{verdict}
use Rattle.voice.specs.Voice.{samples_of}
use Rattle.feed.specs.declared.Reply.{Reply}
use Rattle.feed.specs.declared.Board.{Board}
use Rattle.feed.specs.Feed.{registers_of, under, takes, fresh_board, legal_remainder, legal_board, reply, fault_place, reply_since, feed_of, board_feed_of, board_close_of}
use Rattle.feed.specs.Sound.{Sound, sound_byte}
use Rattle.feed.specs.Judged.{Legal, legal_sound}

-- ---- a byte, and all bytes
-- sound, and its arrival legal
record Going (layout : Layout) (bytes : List ℕ) (w : Fed Machine) : Type 0 where
  sound : Sound layout bytes (extents_of (lent layout bytes)) w.arrival w.machine
  legal : legal_arrival layout.samples layout.channels (registers_of w.machine) w.arrival ≡ true

module _ (layout : Layout) (bytes : List ℕ) where
  abbrev samples : ℕ → Sample
  samples = samples_in (lent layout bytes) (extents_of (lent layout bytes))

  abbrev next : Fed Machine → Step → Fed Machine
  next w x = step_after layout.samples layout.channels registers_of (under layout.channels samples) w x

  next_legal : (w : Fed Machine) (x : Step) → Kept layout.samples layout.channels (registers_of w.machine) x → legal_arrival layout.samples layout.channels (registers_of (next w x).machine) (next w x).arrival ≡ true
  unfolding step_after
  next_legal w (holds p) k = k
  next_legal w (plays t p) k = k _

  going_all : (bs : List ℕ) (w : Fed Machine) → Going layout bytes w → Going layout bytes (after_all (takes layout.samples layout.channels samples) w bs)
  unfolding after_all
  going_all [] w g = g
  going_all (b ∷ bs) w g =
      let x = step layout.samples layout.channels (registers_of w.machine) w.arrival b in
      going_all bs (next w x)
      (record {
        sound = sound_byte layout bytes (extents_of (lent layout bytes)) w.arrival w.machine g.sound b;
        legal = next_legal w x (step_legal layout.samples layout.channels g.sound.lawful.channels (registers_of w.machine) w.arrival b g.sound.long g.legal);
      })

  remainder_by : (w : Machine) → ((w.remainder ≡ 0 → ⊥) → w.remainder < w.tempo) → legal_remainder w ≡ true
  unfolding legal_remainder
  remainder_by w h = go (eqb w.remainder 0) refl
    where
      go : (b : Bool) → eqb w.remainder 0 ≡ b → b || ltb w.remainder w.tempo ≡ true
      go true e = refl
      go false e = lt-ltb w.remainder w.tempo (h (eqb-false w.remainder 0 e))

  going_legal : (w : Fed Machine) → Going layout bytes w → legal_board (lent layout bytes) (record { arrival = w.arrival; machine = w.machine }) ≡ true
  unfolding legal_board Each
  going_legal w g = all_by _ (voices_by layout (extents_of (lent layout bytes)) w.machine.voices g.sound.voices, (remainder_by w.machine g.sound.rest, (g.legal, tt)))

  legal_going : (b : Board) → Legal (lent layout bytes) b → Going layout bytes (fed b.arrival b.machine)
  unfolding legal_board
  legal_going b l = record { sound = legal_sound layout bytes b l; legal = all_at _ l.legal 2 }

  -- feeding and closing keep it legal
  pub feed_legal : (b : Board) (bs : List ℕ) (out : List ℤ) → Legal (lent layout bytes) b → legal_board (lent layout bytes) (feed_of layout.samples layout.channels samples b.arrival b.machine bs out).reply.board ≡ true
  unfolding feed_of reply_since
  feed_legal b bs out l = going_legal _ (going_all (take (fit (takes layout.samples layout.channels samples) (length out) (fed b.arrival b.machine) bs) bs) (fed b.arrival b.machine) (legal_going b l))

  pub close_legal : (b : Board) → Legal (lent layout bytes) b → legal_board (lent layout bytes) (reply_since b.arrival (fed (closed b.arrival) b.machine)).board ≡ true
  unfolding reply_since legal_board Each
  close_legal b l =
      let h = all_at _ l.legal in
      all_by _ (h 0, (h 1, (closed_legal layout.samples layout.channels (registers_of b.machine) b.arrival (h 2), tt)))

-- ---- where it begins
pub fresh_legal : (m : Module) → LegalLayout m.layout → legal_board m fresh_board ≡ true
unfolding legal_board Each fresh_board legal_remainder
fresh_legal m y =
    all_by _ (voices_by m.layout (extents_of m) fresh_machine.voices (machine_fresh m.layout (extents_of m) y.channels).voices, (refl, (start_legal (sample_count m) (channel_count m) (registers_of fresh_board.machine), tt)))

-- ---- a kept fault
-- is repeated: nothing is taken, nothing played, and board and buffer stay
pub feed_repeats : (last c : ℕ) (samples : ℕ → Sample) (p : Arrival) (w : Machine) (bs : List ℕ) (out : List ℤ) → (p.number ≡ 0 → ⊥) → feed_of last c samples p w bs out ≡ outcome (reply_since p (fed p w)) out
unfolding feed_of play_out
feed_repeats last c samples p w bs out n =
    let k : ℕ = fit (takes last c samples) (length out) (fed p w) bs in
    let x = fault_stays last c registers_of (under c samples) (take k bs) (fed p w) n in
    rw (x.0, x.1)

-- ---- the calls
-- on a board that is legal for the module
module _ (file : List ℕ) (b : Board) (l : Legal (module_of file) b) where
  pub feed_goes : (bs : List ℕ) (out : List ℤ) → board_feed_of file b bs out ≡ feed_of (sample_count (module_of file)) (channel_count (module_of file)) (samples_of (module_of file)) b.arrival b.machine bs out
  unfolding board_feed_of refusing
  feed_goes bs out = rw (eq-eqb (verdict (module_of file)).number 0 l.judged, l.legal)

  pub close_goes : board_close_of file b ≡ reply_since b.arrival (fed (closed b.arrival) b.machine)
  unfolding board_close_of refusing
  close_goes = rw (eq-eqb (verdict (module_of file)).number 0 l.judged, l.legal)

  -- every call keeps it legal
  pub feed_keeps : (bs : List ℕ) (out : List ℤ) → legal_board (module_of file) (board_feed_of file b bs out).reply.board ≡ true
  feed_keeps bs out = rw (feed_goes bs out) (feed_legal (layout_of file) file b bs out l)

  pub close_keeps : legal_board (module_of file) (board_close_of file b).board ≡ true
  close_keeps = rw close_goes (close_legal (layout_of file) file b l)

  -- after a fault it takes nothing, writes nothing and repeats it, closed or fed
  module _ (n : b.arrival.number ≡ 0 → ⊥) where
    abbrev again : Reply
    again = reply (refused b.arrival.number b.arrival.fault) 0 b.arrival b.machine

    since_same : reply_since b.arrival (fed b.arrival b.machine) ≡ again
    unfolding reply_since fault_place
    since_same =
        let r : b.arrival.records - b.arrival.records ≡ 0 = omega arith in
        let t : taken b.arrival - taken b.arrival ≡ 0 = omega arith in
        rw (ne_eqb b.arrival.number 0 n, r, t)

    pub feed_again : (bs : List ℕ) (out : List ℤ) → board_feed_of file b bs out ≡ outcome again out
    feed_again bs out = feed_goes bs out ∙ feed_repeats (sample_count (module_of file)) (channel_count (module_of file)) (samples_of (module_of file)) b.arrival b.machine bs out n ∙ ap (λ (r : Reply). outcome r out) since_same

    pub close_again : board_close_of file b ≡ again
    unfolding closed
    close_again = close_goes ∙ rw (ne_eqb b.arrival.number 0 n) since_same

  -- closing after the end changes nothing
  pub close_ended : ended b.arrival ≡ true → (board_close_of file b).board ≡ b
  unfolding reply_since
  close_ended e = ap (λ (r : Reply). r.board) close_goes ∙ rw (closed_end b.arrival e)
