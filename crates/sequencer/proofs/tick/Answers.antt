-- The samples are at most the module's last, which a byte fits; the rest is what the calls give.
use Rattle.reader.specs.File.{lent}
use Rattle.sequencer.proofs.Laws.{sounding_small}
use Rattle.sequencer.proofs.tick.Goals as goal

pub narrowed-requires : goal.narrowed-requires
narrowed-requires c = sounding_small (lent c.args.layout c.args.file.now) _ c.requires.layout c.requires.legal.sounding

pub tick_in-requires-clause-legal : goal.tick_in-requires-clause-legal
tick_in-requires-clause-legal c = rw c.narrowed.ensures c.requires.legal

pub returns : goal.returns
returns c = rw (← c.narrowed.ensures) c.tick_in.ensures
