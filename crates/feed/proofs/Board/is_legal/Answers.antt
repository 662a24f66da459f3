-- The tests are those of `legal_board`, in order.
use Rattle.feed.proofs.Laws.{board_tested}
use Rattle.feed.proofs.Board.is_legal.Goals as goal

pub returns : goal.returns
returns c =
    board_tested c.args.source.now c.args.self.now c.legal_voices-voiced.ensures.1 c.is_legal-arrived.ensures.long _ _ _ _ _ _ c.registers.ensures c.scope.ensures.0 c.scope.ensures.1 c.legal_voices-voiced.ensures.0 c.legal_remainder-rested.ensures c.is_legal-arrived.ensures.is c.is_legal-arrived.ensures.few
