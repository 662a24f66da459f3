-- The inverse counts the frames that begin below the limit.
use borrow.Author.Rules.{rules}
use Rattle.voice_runs.proofs.Lines.{span_is}
use Rattle.voice_runs.proofs.line.span.Goals as goal

pub returns : goal.returns
returns c = search (span_is, rules)
