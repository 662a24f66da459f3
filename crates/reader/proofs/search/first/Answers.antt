-- The number at which it stops is the first that passes.
use Rattle.std.proofs.Common.{sym}
use Rattle.laws.specs.Search.{some_none, some_not}
use Rattle.reader.specs.Search.{found_at, found_none}
use Rattle.reader.proofs.search.first.Goals as goal

pub loop-i-init : goal.loop-i-init
loop-i-init g c = λ p h. some_none p

pub returns-then-passes-clause-found : goal.returns-then-passes-clause-found
returns-then-passes-clause-found g c =
    λ p h. found_at p c.loop-i.i c.args.n c.loop-i-test.true (c.loop-i.invariant p h) (sym (h c.loop-i.i _ c.loop-i-test.true c.if-passes.ensures))

pub loop-i-preserved : goal.loop-i-preserved
loop-i-preserved g c = λ p h. some_not p c.loop-i.i (c.loop-i.invariant p h) (sym (h c.loop-i.i _ c.loop-i-test.true c.if-passes.ensures))

pub returns-clause-found : goal.returns-clause-found
returns-clause-found g c = λ p h. found_none p c.args.n c.loop-i.i c.loop-i-test.false c.loop-i.auto.i-end (c.loop-i.invariant p h)
