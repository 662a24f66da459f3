-- The tests are the lines of the table, in its order; the stream is what its writing leaves.
use Rattle.translator.proofs.Calls.{call_laws}
use borrow.Author.Rules.{rules}
use Rattle.translator.proofs.translate.Goals as goal

pub returns-in_err-m : goal.returns-in_err-m
returns-in_err-m c = search (c.in_err-m.ensures.refused, call_laws, rules)

pub returns-then-ticks-gt-MOST_TICKS : goal.returns-then-ticks-gt-MOST_TICKS
returns-then-ticks-gt-MOST_TICKS c = search (c.in_ok-m.ensures.own, call_laws, rules)

pub returns-then-room-len : goal.returns-then-room-len
returns-then-room-len c = search (c.in_ok-m.ensures.own, call_laws, rules)

pub returns : goal.returns
returns c = search (c.in_ok-m.ensures.own, call_laws, rules)
