-- `records::put_header` meets its contract. The runs of stores are one at the front of the room: the header's.
-- Assumes nothing.
use Rattle.records.proofs.Fronts.{header_same, header_second, header_rest, header_done}
use borrow.Author.Rules.{rules}
use Rattle.records.proofs.put_header.Goals as goal

pub bounds-room-5 : goal.bounds-room-5
bounds-room-5 c = search (header_second, rules)

pub put_four-requires-2 : goal.put_four-requires-2
put_four-requires-2 c = search (header_rest, rules)

pub shape_of-room : goal.shape_of-room
shape_of-room c = search (header_same, rules)

pub returns : goal.returns
returns c = search (header_done, rules)
