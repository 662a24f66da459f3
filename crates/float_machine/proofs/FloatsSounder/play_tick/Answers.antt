-- The tick's numbers decide whether it fits; its frames are mixed in a buffer with room for the longest tick, whose front is delivered.
use Rattle.std.proofs.Common.{rules, ap, refl, ℤ}
use Rattle.machine.specs.declared.Machine.{Machine}
use Rattle.machine.specs.Sounding.{Way}
use Rattle.floats.specs.Asked.{count_of}
use Rattle.float_machine.specs.Sounding.{floats}
use Rattle.float_machine.proofs.Laws.{due_mixed, mixed_some, mixed_size, mixed_few, float_full, front_room, float_played}
use Rattle.float_machine.proofs.FloatsSounder.play_tick.Goals as goal

pub returns-then-out-size-clause-turned : goal.returns-then-out-size-clause-turned
returns-then-out-size-clause-turned c = float_full _ _ _ c.requires.due _ c.numbers_at-size.ensures _ c.if-out-size.true

pub unwrap-taken-requires : goal.unwrap-taken-requires
unwrap-taken-requires c = mixed_some _ _ (due_mixed _ _ _ c.requires.due) _ (search rules) _ _ _ c.play_tick.ensures.turned

pub shared_ref_as_front-convert : goal.shared_ref_as_front-convert
shared_ref_as_front-convert c =
    let d = due_mixed _ _ _ c.requires.due in
    let q = mixed_size _ _ d _ (search rules) _ _ _ _ c.unwrap-taken.ensures c.play_tick.ensures.turned in
    mixed_few _ _ d _ (search rules) _ _ _ q

pub convert-self-requires : goal.convert-self-requires
convert-self-requires c =
    let q = mixed_size _ _ (due_mixed _ _ _ c.requires.due) _ (search rules) _ _ _ _ c.unwrap-taken.ensures c.play_tick.ensures.turned in
    front_room _ _ _ c.requires.due _ c.numbers_at-size.ensures _ c.if-out-size.false _ _ (search rules) _ _ q

pub returns-clause-turned : goal.returns-clause-turned
returns-clause-turned c =
    let q = mixed_size _ _ (due_mixed _ _ _ c.requires.due) _ (search rules) _ _ _ _ c.unwrap-taken.ensures c.play_tick.ensures.turned in
    float_played _ _ _ c.requires.due _ c.numbers_at-size.ensures _ c.if-out-size.false _ _ (search rules) _ _ q _ _ _ c.convert-self.ensures.last c.convert-self.ensures.written refl

pub returns-clause-same : goal.returns-clause-same
returns-clause-same c = ap (λ (y : Way ℤ Machine). floats (count_of c.args.self.now.sides) y.source y.keeps) c.play_tick.ensures.same
