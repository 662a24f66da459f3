-- The loop: what is played, followed by what is left to play, is the whole (`Turning`); the way stays, and no more ticks are counted than played.
use Rattle.std.proofs.Common.{◌≡◌, ◌≤◌}
use Rattle.player.specs.Turning.{Turning, state_of}
use Rattle.player.proofs.playing.play_song.Given as goal

abbrev pub invariant-loop-i : goal.invariant-loop-i
invariant-loop-i g l =
    let s = g.S.Sounder in
    let y = s.way l.initial.sounder in
    let w = s.state l.initial.sounder in
    record {
      turning : Turning y (state_of l.initial.song (y.held w)) w l.n l.initial.out l.song (s.state l.sounder) l.out l.at l.i;
      same : s.way l.sounder ≡ y;
      counted : s.counted l.sounder ≤ l.i;
    }
