-- The loop writes run by run; what is written are the voice's numbers so far, and the voice is so many frames on.
use Rattle.std.proofs.Common.{refl, rules, arith}
use Rattle.voice_runs.proofs.Spreading.{later_looping, later_legal, later_paced, spreading_none, spreading_more}
use Rattle.voice_runs.proofs.runner.Runner.spread.Goals as goal

pub loop-written-init : goal.loop-written-init
loop-written-init c = (omega arith, refl, refl, spreading_none _ _ _ _ _)

pub invariant_of-self : goal.invariant_of-self
invariant_of-self c =
    let m = c.loop-written.invariant in
    record {
      looping = later_looping c.args.self.extent _ m.1 c.args.self.looping;
      legal = later_legal c.args.bytes.now c.args.self.extent _ c.args.self.voice _ _ m.1 m.3.moved c.args.self.looping c.args.self.legal;
      paced = later_paced c.args.bytes.now c.args.self.extent _ c.args.self.voice _ _ m.1 m.3.moved c.args.self.pace _ m.2 c.args.self.paced;
    }

pub loop-written-preserved : goal.loop-written-preserved
loop-written-preserved c =
    let m = c.loop-written.invariant in
    (omega arith, m.1, m.2, spreading_more _ _ _ _ _ _ _ _ m.3 _ _ _ _ _ _ _ m.1 c.count-count.ensures.run (search rules) (omega arith) c.write.ensures c.after-self.ensures)
