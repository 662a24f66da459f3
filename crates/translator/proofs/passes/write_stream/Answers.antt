-- The records stand over the rest of the room, and then the header at its front: together the stream.
use Rattle.translator.proofs.Calls.{stream_laws}
use borrow.Author.Rules.{rules}
use Rattle.translator.proofs.passes.write_stream.Goals as goal

pub slice_bounds-write_records-count : goal.slice_bounds-write_records-count
slice_bounds-write_records-count c = search (stream_laws, rules)

pub slice_bounds-write_records-start : goal.slice_bounds-write_records-start
slice_bounds-write_records-start c = search (stream_laws, rules)

pub write_records-len-requires : goal.write_records-len-requires
write_records-len-requires c = search (stream_laws, rules)

pub overflow_add-len : goal.overflow_add-len
overflow_add-len c = search (stream_laws, rules)

pub put_header-requires : goal.put_header-requires
put_header-requires c = search (stream_laws, rules)

pub returns : goal.returns
returns c = search (stream_laws, rules)
