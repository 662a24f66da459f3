-- What the loop leaves is the definition's play.
use Rattle.std.proofs.Common.{rules}
use Rattle.player.proofs.Turns.{integers_begin, integers_end}
use Rattle.player.proofs.playing.play_ticks.Goals as goal

pub play_song-count-requires-clause-begins : goal.play_song-count-requires-clause-begins
play_song-count-requires-clause-begins c = rw c.machine_of-machine.ensures (integers_begin c.args.m.now c.requires (search rules))

pub returns : goal.returns
returns c = integers_end c.args.m.now c.after_ticks.result (rw c.machine_of-machine.ensures at c.play_song-count.ensures.over) c.after_ticks.ensures
