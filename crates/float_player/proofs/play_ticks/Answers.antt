-- What the loop leaves is the definition's play.
use Rattle.std.proofs.Common.{rules}
use Rattle.float_player.proofs.Turns.{floats_begin, floats_end}
use Rattle.float_player.proofs.play_ticks.Goals as goal

pub play_song-count-requires-clause-begins : goal.play_song-count-requires-clause-begins
play_song-count-requires-clause-begins c = rw c.machine_of.ensures (floats_begin c.args.m.now _ _ c.requires (search rules))

pub returns : goal.returns
returns c = floats_end c.args.m.now _ _ _ (rw c.machine_of.ensures at c.play_song-count.ensures.over) (rw c.after_ticks.ensures)
