-- The loop passes run by run; the voice is so many frames on.
use Rattle.std.proofs.Common.{refl, [], arith}
use Rattle.voice.specs.Frames.{steps_of}
use Rattle.voice_runs.proofs.Spreading.{later_looping, later_legal, later_paced, later_moved}
use Rattle.voice_runs.proofs.runner.Runner.pass.Goals as goal

pub loop-passed-init : goal.loop-passed-init
unfolding steps_of
loop-passed-init c = (omega arith, refl, refl, refl)

pub invariant_of-self : goal.invariant_of-self
invariant_of-self c =
    let m = c.loop-passed.invariant in
    record {
      looping = later_looping c.args.self.extent _ m.1 c.args.self.looping;
      legal = later_legal [] c.args.self.extent _ c.args.self.voice _ _ m.1 m.3 c.args.self.looping c.args.self.legal;
      paced = later_paced [] c.args.self.extent _ c.args.self.voice _ _ m.1 m.3 c.args.self.pace _ m.2 c.args.self.paced;
    }

pub loop-passed-preserved : goal.loop-passed-preserved
loop-passed-preserved c =
    let m = c.loop-passed.invariant in
    (omega arith, m.1, m.2, later_moved [] c.args.self.extent _ c.args.self.voice _ _ m.1 m.3 _ _ c.after-self.ensures)
