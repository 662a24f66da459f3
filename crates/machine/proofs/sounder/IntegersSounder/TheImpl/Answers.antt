-- A tick that is due has a tempo, and the machine a remainder that is no more than a tempo.
use Rattle.machine.specs.Sounding.{due_some, due_low}
use Rattle.machine.proofs.sounder.IntegersSounder.TheImpl.Goals as goal

pub play_tick-asks : goal.play_tick-asks
play_tick-asks g c = let d = c.requires.due in record { ready = d.ready; tempo = due_some d; remainder = due_low d }
