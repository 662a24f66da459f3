-- The answer's and the record's cells and the buffer are those of the outcome that `play_stream_floats_from` ensures.
use Rattle.capi.proofs.Floats.{stream_answered, stream_paired, stream_ticked, stream_left}
use borrow.Author.Rules.{rules}
use Rattle.capi.proofs.lampthistle_play_stream_floats_from.Goals as goal

pub returns-clause-answered : goal.returns-clause-answered
returns-clause-answered c = search (stream_answered, rules)

pub returns-clause-paired : goal.returns-clause-paired
returns-clause-paired c = search (stream_paired, rules)

pub returns-clause-ticked : goal.returns-clause-ticked
returns-clause-ticked c = search (stream_ticked, rules)

pub returns-clause-sounded : goal.returns-clause-sounded
returns-clause-sounded c = search (stream_left, rules)
