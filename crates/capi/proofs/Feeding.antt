-- What the equations of the board that takes its stream as it arrives say of the cells and the buffer that its calls leave. Laws over plain variables.
-- Assumes nothing.
use Prim.Native.Nat.{ℕ}
use mathlib.Core.Path.{◌≡◌, ap, ◌∙◌}
use mathlib.Core.List.{List}
use lib.IntN.{ℤ}
use Rattle.common.specs.Answers.{Outcome, outcome}
use Rattle.feed.specs.declared.Board.{Board}
use Rattle.feed.specs.declared.Reply.{Reply}
use Rattle.feed.specs.Feed.{board_feed_of, board_close_of}
use Rattle.board_cells.specs.Cells.{board_of, feed_cells, board_after}
use Rattle.replies.specs.Answers.{answer_cells}

module _ (bytes cells bs : List ℕ) (out out' : List ℤ) (b : Board) (be : b ≡ board_of cells) (r : Reply) (e : outcome r out' ≡ board_feed_of bytes b bs out) where
  here : outcome r out' ≡ board_feed_of bytes (board_of cells) bs out
  here = e ∙ ap (λ (x : Board). board_feed_of bytes x bs out) be

  pub feed_answered : (answer : List ℕ) → answer ≡ feed_cells r → answer ≡ feed_cells (board_feed_of bytes (board_of cells) bs out).reply
  feed_answered answer q = q ∙ ap (λ (x : Outcome Reply ℤ). feed_cells x.reply) here

  pub feed_stated : (after : List ℕ) → after ≡ board_after r cells → after ≡ board_after (board_feed_of bytes (board_of cells) bs out).reply cells
  feed_stated after q = q ∙ ap (λ (x : Outcome Reply ℤ). board_after x.reply cells) here

  pub feed_left : out' ≡ (board_feed_of bytes (board_of cells) bs out).out
  feed_left = ap (λ (x : Outcome Reply ℤ). x.out) here

module _ (bytes cells : List ℕ) (b : Board) (be : b ≡ board_of cells) (r : Reply) (e : r ≡ board_close_of bytes b) where
  close_here : r ≡ board_close_of bytes (board_of cells)
  close_here = e ∙ ap (board_close_of bytes) be

  pub close_answered : (answer : List ℕ) → answer ≡ answer_cells r.answer → answer ≡ answer_cells (board_close_of bytes (board_of cells)).answer
  close_answered answer q = q ∙ ap (λ (x : Reply). answer_cells x.answer) close_here

  pub close_stated : (after : List ℕ) → after ≡ board_after r cells → after ≡ board_after (board_close_of bytes (board_of cells)) cells
  close_stated after q = q ∙ ap (λ (x : Reply). board_after x cells) close_here
