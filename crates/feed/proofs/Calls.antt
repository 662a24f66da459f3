-- What the calls go by: 1 to 9, then 14, then the bytes or the close. Laws over plain variables.
-- Assumes nothing.
use Prim.Native.Nat.{ℕ, ◌^◌, ◌<◌}
use mathlib.Core.Path.{◌≡◌, refl, ap}
use mathlib.Core.Bool.{Bool, true, false, cond}
use mathlib.Core.List.{List}
use native.Mathlib.Omega.{arith}
use lib.IntN.{ℤ}
use Rattle.common.specs.Answers.{accepted, outcome, number_of, refusal}
use Rattle.common.specs.RefusalLaws.{refused_by_a_rule}
use Rattle.common.specs.declared.refusals.Refusal.{Refusal}
use Rattle.reader.specs.File.{Module, lent, layout_of, module_of}
use Rattle.reader.specs.Judge.{judge_of}
use Rattle.reader.specs.Modules.{as_module, read_refused}
use Rattle.reader.specs.declared.module.Module.{Module as ReadModule}
use Rattle.voice.specs.Modules.{samples_in}
use Rattle.arrival.specs.declared.Arrival.{Arrival}
use Rattle.arrival.specs.Arrive.{taken, faulty, ended, shown, closed}
use Rattle.arrival.specs.Feed.{fed}
use Rattle.feed.specs.declared.Board.{Board}
use Rattle.feed.specs.declared.Reply.{Reply}
use Rattle.feed.specs.Feed.{refused_board, reply_since, feed_of, board_feed_of, board_close_of}
use Rattle.feed.specs.Judged.{Judged, refused_board_lem, passed_board}

pub closed_few : (p q : Arrival) → q ≡ closed p → taken p < 2 ^ 40 → taken q < 2 ^ 64
unfolding closed
closed_few p q e h = rw e (go (shown p) (ended p))
  where
    go : (x y : Bool) → taken (cond x p (cond y p (faulty 21 (taken p) p))) < 2 ^ 64
    go true y = omega arith
    go false true = omega arith
    go false false = omega arith

-- ---- a file that is no module
module _ (file : List ℕ) (b : Board) (e : Refusal) (q : judge_of file ≡ refusal e) where
  pub feed_unread : (bs : List ℕ) (out : List ℤ) → outcome (refused_board b (number_of e.rule) e.place) out ≡ board_feed_of file b bs out
  unfolding board_feed_of
  feed_unread bs out = read_refused (λ number place. outcome (refused_board b number place) out) _ file _ _ e q refl

  pub close_unread : refused_board b (number_of e.rule) e.place ≡ board_close_of file b
  unfolding board_close_of
  close_unread = read_refused (refused_board b) _ file _ _ e q refl

-- ---- a module
module _ (file : List ℕ) (m : ReadModule) (own : as_module m ≡ module_of file) (b : Board) where
  fe : m.file.now ≡ file
  fe = ap (λ (x : Module). x.bytes) own

  le : m.layout ≡ layout_of file
  le = ap (λ (x : Module). x.layout) own

  -- a board that is refused
  module _ (e : Refusal) (j : Judged (as_module m) b (refusal e)) where
    here : Judged (lent m.layout file) b (refusal e)
    here = rw fe at j

    pub feed_refused : (bs : List ℕ) (out : List ℤ) → outcome (refused_board b (number_of e.rule) e.place) out ≡ board_feed_of file b bs out
    unfolding board_feed_of
    feed_refused bs out = refused_board_lem m.layout file b (refusal e) here le (λ number place. outcome (refused_board b number place) out) _ (refused_by_a_rule e.rule)

    pub close_refused : refused_board b (number_of e.rule) e.place ≡ board_close_of file b
    unfolding board_close_of
    close_refused = refused_board_lem m.layout file b (refusal e) here le (refused_board b) _ (refused_by_a_rule e.rule)

  -- a legal one
  module _ (j : Judged (as_module m) b (accepted 0)) where
    its : Judged (lent m.layout file) b (accepted 0)
    its = rw fe at j

    pub judged_few : taken b.arrival < 2 ^ 40
    judged_few = (j.accepted refl).few

    module _ (n : ReadModule) (s : n ≡ m) (c : Board) (t : c ≡ b) where
      pub held_few : taken c.arrival < 2 ^ 40
      held_few = rw t judged_few

      pub feed_fed : (bs : List ℕ) (out out' : List ℤ) (r : Reply) → outcome r out' ≡ feed_of n.layout.samples n.layout.channels (samples_in (as_module n) n.extents) c.arrival c.machine bs out → outcome r out' ≡ board_feed_of file b bs out
      unfolding board_feed_of
      feed_fed bs out out' r e = passed_board m.layout file b (accepted 0) its le (λ number place. outcome (refused_board b number place) out) _ refl (outcome r out') (rw (s, t, m.table, fe, le) at e)

      pub close_closed : (r : Reply) → r ≡ reply_since c.arrival (fed (closed c.arrival) c.machine) → r ≡ board_close_of file b
      unfolding board_close_of
      close_closed r e = passed_board m.layout file b (accepted 0) its le (refused_board b) _ refl r (rw t at e)
