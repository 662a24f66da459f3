-- Mask, tempo and the channels' bytes are one run at the front of the room: the record's.
-- Assumes nothing.
use Rattle.records.proofs.Fronts.{record_same, record_first, record_second, record_rest, record_next, record_done}
use borrow.Author.Rules.{rules}
use Rattle.records.proofs.Record.put.Goals as goal

pub bounds-room-0 : goal.bounds-room-0
bounds-room-0 c = search (record_first, rules)

pub bounds-room-1 : goal.bounds-room-1
bounds-room-1 c = search (record_second, rules)

pub put_commands-requires : goal.put_commands-requires
put_commands-requires c = search (record_rest, rules)

pub shape_of-room : goal.shape_of-room
shape_of-room c = search (record_same, rules)

pub returns : goal.returns
returns c = search (record_next, record_done, rules)
