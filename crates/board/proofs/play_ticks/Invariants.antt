-- The loop: what is played, followed by what is left to play, is the whole (`Turning`); the way stays, and no more ticks are counted than played.
use Rattle.std.proofs.Common.{◌≡◌, ◌≤◌}
use Rattle.decoder.specs.Left.{ticks_left}
use Rattle.board.specs.Playing.{Turning}
use Rattle.board.proofs.play_ticks.Given as goal

abbrev pub invariant-loop-tick : goal.invariant-loop-tick
invariant-loop-tick g l =
    let s = g.S.Sounder in
    let y = s.way l.initial.sounder in
    record {
      turning : Turning y (s.state l.initial.sounder) (ticks_left l.fn.ticks) l.initial.out (s.state l.sounder) (ticks_left l.tick-iterator) l.out l.at l.count;
      same : s.way l.sounder ≡ y;
      counted : s.counted l.sounder ≤ l.count;
    }
