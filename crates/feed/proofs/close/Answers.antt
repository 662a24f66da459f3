-- Refusals are those of the lines, in order; a legal board closes.
use Rattle.std.proofs.lemmas.Result.{err_from_is_err_and}
use Rattle.feed.proofs.Calls.{close_unread, close_refused, close_closed, held_few}
use Rattle.feed.proofs.close.Goals as goal

pub returns-in_err-module : goal.returns-in_err-module
returns-in_err-module c = let p = err_from_is_err_and c.from_residual.result c.from_residual.ensures.1 in rw (p.1, p.2) (close_unread c.args.file.now c.args.board c.in_err-module.field-0.0 c.in_err-module.ensures.refused)

pub returns-in_err-feeding : goal.returns-in_err-feeding
returns-in_err-feeding c = let p = err_from_is_err_and c.from_residual-in_err-feeding.result c.from_residual-in_err-feeding.ensures.1 in rw (p.1, p.2) (close_refused c.args.file.now c.in_ok-module.module c.in_ok-module.ensures.own c.args.board c.in_err-feeding.field-0.0 c.in_err-feeding.ensures.judged)

pub close-requires : goal.close-requires
close-requires c = held_few c.args.file.now c.in_ok-module.module c.in_ok-module.ensures.own c.args.board c.in_ok-feeding.ensures.judged _ c.in_ok-feeding.ensures.its.0 _ c.in_ok-feeding.ensures.its.1

pub returns : goal.returns
returns c = close_closed c.args.file.now c.in_ok-module.module c.in_ok-module.ensures.own c.args.board c.in_ok-feeding.ensures.judged _ c.in_ok-feeding.ensures.its.0 _ c.in_ok-feeding.ensures.its.1 _ c.close.ensures
