-- The answer's cells and the room are those of the outcome that `translate` ensures.
use Rattle.std.proofs.Common.{◌≡◌}
use Rattle.common.specs.Answers.{outcome}
use Rattle.translator.specs.Translate.{translate_of}
use Rattle.capi.proofs.Calls.{answered, left}
use borrow.Author.Rules.{rules}
use Rattle.capi.proofs.lampthistle_translate.Goals as goal

pub returns-clause-answered : goal.returns-clause-answered
returns-clause-answered c =
    let h : outcome c.into.result c.translate.new.room ≡ translate_of c.args.file.now c.args.ticks c.args.room.now = rw c.into.ensures c.translate.ensures in
    search (answered, h, rules)

pub returns-clause-written : goal.returns-clause-written
returns-clause-written c = search (left, c.translate.ensures, rules)
