-- 1 to 9, then 24, then 21, 22, 28 and 23, then the play.
use Rattle.std.proofs.Common.{rules}
use Rattle.decoder.specs.Left.{left_few}
use Rattle.float_board.proofs.Calls.{stream_unread, stream_unasked, stream_refused, stream_played}
use Rattle.float_board.proofs.try_floats.Goals as goal

pub returns-in_err-module : goal.returns-in_err-module
returns-in_err-module c = search (stream_unread, rules)

pub returns-in_err-sides : goal.returns-in_err-sides
returns-in_err-sides c = search (stream_unasked c.args.file.now c.args.stream.now c.args.first c.args.sides c.args.pair c.args.out.now c.in_ok-module.module c.in_ok-module.ensures.own, rules)

pub returns-in_err-stream : goal.returns-in_err-stream
returns-in_err-stream c =
    search (stream_refused c.args.file.now c.args.stream.now c.args.first c.args.sides c.args.pair c.args.out.now c.in_ok-module.module c.in_ok-module.ensures.own c.in_ok-sides.sides c.in_ok-sides.ensures _ _ c.scope.ensures.last c.scope.ensures.channels, rules)

pub play_ticks-count-requires-clause-going : goal.play_ticks-count-requires-clause-going
play_ticks-count-requires-clause-going c = rw c.lead.ensures.module c.lead.ensures.led.going

pub play_ticks-count-requires-clause-few : goal.play_ticks-count-requires-clause-few
play_ticks-count-requires-clause-few c = left_few c.lead.result.1

pub returns : goal.returns
returns c =
    let f = c.in_ok-stream.ensures.its in
    let led = rw (c.keeps.ensures, f.1) at c.lead.ensures.led in
    rw c.accept.ensures
    (stream_played _ _ _ _ _ _ c.in_ok-module.module c.in_ok-module.ensures.own c.in_ok-sides.sides c.in_ok-sides.ensures (rw (← c.scope.ensures.last, ← c.scope.ensures.channels, ← f.0, ← f.1) c.in_ok-stream.stream.whole) _ _ _ _ _ led (rw (c.lead.ensures.module, c.lead.ensures.keeps, c.keeps.ensures, f.1) at c.play_ticks-count.ensures.played))
