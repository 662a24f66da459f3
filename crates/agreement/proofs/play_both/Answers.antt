-- `agreement::play_both` meets its contract. Each call ensures its own definition, and the theorem `sixteen_bits_lem` makes demand 3 of the three.
-- The stream player's part is in the room, since a translation's count never exceeds the room, refused or not.
-- Assumes nothing.
use Rattle.agreement.specs.Parts.{part_inside, part_length}
use Rattle.agreement.proofs.Laws.{called, agreed}
use Rattle.common.specs.Answers.{outcome}
use Rattle.common.specs.declared.Answer.{Answer}
use Rattle.player.specs.State.{reply}
use Rattle.std.proofs.Common.{ap, ◌∙◌}
use Rattle.translator.specs.Translate.{translate_of}
use Rattle.std.proofs.Common.{◌≡◌}
use borrow.Author.Rules.{rules}
use Rattle.agreement.proofs.play_both.Goals as goal

pub slice_bounds-play_stream-end : goal.slice_bounds-play_stream-end
slice_bounds-play_stream-end c =
    let h : outcome c.from-translated.result c.translate.new.room ≡ translate_of c.args.file.now c.args.ticks c.args.room.now = rw c.from-translated.ensures c.translate.ensures in
    search (part_inside, h, rules)

pub slice_bounds-play_stream-end-2 : goal.slice_bounds-play_stream-end-2
slice_bounds-play_stream-end-2 c =
    let h : outcome c.from-translated.result c.translate.new.room ≡ translate_of c.args.file.now c.args.ticks c.args.room.now = rw c.from-translated.ensures c.translate.ensures in
    search (part_length, part_inside, h, rules)

pub returns-clause-calls : goal.returns-clause-calls
returns-clause-calls c =
    let h : outcome c.from-translated.result c.translate.new.room ≡ translate_of c.args.file.now c.args.ticks c.args.room.now = rw c.from-translated.ensures c.translate.ensures in
    search (called, h, rules)

pub returns-clause-agrees : goal.returns-clause-agrees
returns-clause-agrees c =
    let h : outcome c.from-translated.result c.translate.new.room ≡ translate_of c.args.file.now c.args.ticks c.args.room.now = rw c.from-translated.ensures c.translate.ensures in
    λ v few l. rw c.into-2.ensures (agreed _ _ _ _ _ _ _ _ _ _ _ _ h c.default-after.ensures (ap (λ (a : Answer). outcome (reply a c.play-played.new.state) c.play-played.new.out) c.into.ensures ∙ c.play-played.ensures) c.play_stream-streamed.ensures (λ i. (c.shared_slice_known-1.given i).fits) v few l)
