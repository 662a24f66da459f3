-- The channels that are passed over change nothing on the side; the first that sounds is its sum so far, and each further one is added.
-- A side has at most half of the channels, so that each cell has room for the next.
use native.Mathlib.Nat.{le_refl}
use native.Mathlib.Omega.{arith}
use borrow.Author.Rules.{rules}
use Rattle.std.proofs.lemmas.List.{places}
use Rattle.runs.specs.CellLaws.{cleared}
use Rattle.mixing.proofs.Sides.{number_few, siding_none, siding_first, siding_voices, siding_sums, siding_narrow}
use Rattle.mixing.proofs.Seeking.{voiced_there}
use Rattle.mixing.proofs.Continuing.{front_roomy, front_sums, further_voiced, further_roomy, further_more}
use mathlib.Core.Path.{refl}
use mathlib.Core.List.{List}
use lib.IntN.{ℤ, pos}
use Rattle.runs.specs.Cells.{Holds}
use Rattle.mixing.specs.Sides.{number_of, Siding}
use Rattle.mixing.proofs.side.Mix.side.Goals as goal

-- no channel sounds
none : (c : goal.After-fill) (cells : List ℤ) → Holds (λ j. pos 0) c.args.frames cells → Siding c.args.self.now.file.now c.args.self.now.extents c.args.voices.now c.args.self.now.times (number_of c.args.on) c.args.self.now.channels c.args.frames c.args.voices.now cells c.args.self.now.channels
none c cells z = siding_none _ _ _ _ _ _ _ _ _ c.told-voices c.in_default.ensures.next (le_refl _) z

pub returns-in_default-clause-moved : goal.returns-in_default-clause-moved
returns-in_default-clause-moved c = siding_voices _ _ _ _ _ _ _ _ _ _ (none c _ (cleared _ c.args.cells.now _ refl)) (le_refl _)

pub returns-in_default-clause-numbers : goal.returns-in_default-clause-numbers
returns-in_default-clause-numbers c = siding_sums _ _ _ _ _ _ _ _ _ _ (none c _ (cleared _ c.args.cells.now _ (search rules))) (le_refl _)

pub sound-requires-clause-voiced : goal.sound-requires-clause-voiced
sound-requires-clause-voiced c = voiced_there _ _ _ _ _ _ c.requires.voices.sounding c.in-Some.ensures.found (c.in-Some.ensures.next.there c.in-Some.ensures.found)

pub loop-next-init : goal.loop-next-init
loop-next-init c =
    let first = c.in-Some.ensures in
    record {
      long = search rules;
      found = c.next-next.ensures.found;
      siding = siding_first _ _ _ _ _ _ _ _ _ _ _ c.told-voices c.requires.voices.sounding.few first.next first.found c.next-next.ensures.next c.sound.ensures.moved c.sound.ensures.numbers;
    }

pub sound-requires-in-Some-next-clause-voiced : goal.sound-requires-in-Some-next-clause-voiced
sound-requires-in-Some-next-clause-voiced c = let m = rw c.in-Some-next.is at c.loop-next.invariant in further_voiced m.siding c.requires.voices.sounding m.found

pub add_to-requires-clause-room : goal.add_to-requires-clause-room
add_to-requires-clause-room c =
    let m = rw c.in-Some-next.is at c.loop-next.invariant in
    let r = further_roomy m.siding c.requires.voices.sounding m.found _ c.sound-in-Some-next.ensures.numbers c.args.self.now.sides c.args.self.now.bytes in
    front_roomy _ _ _ r

pub loop-next-preserved : goal.loop-next-preserved
loop-next-preserved c =
    let m = rw c.in-Some-next.is at c.loop-next.invariant in
    record {
      long = grind (arith, places, m.long, c.add_to.auto.to);
      found = c.next-next-in-Some-next.ensures.found;
      siding = further_more m.siding c.requires.voices.sounding m.found _ c.sound-in-Some-next.ensures.numbers _ _ _ c.next-next-in-Some-next.ensures.next c.sound-in-Some-next.ensures.moved (front_sums _ _ _ _ _ (omega (arith, m.long)) c.add_to.auto.to c.add_to.ensures);
    }

pub returns-clause-moved : goal.returns-clause-moved
returns-clause-moved c = let m = rw c.in_default-next.is at c.loop-next.invariant in siding_voices _ _ _ _ _ _ _ _ _ _ m.siding (le_refl _)

pub returns-clause-narrow : goal.returns-clause-narrow
returns-clause-narrow c =
    let m = rw c.in_default-next.is at c.loop-next.invariant in
    siding_narrow _ _ _ _ _ _ _ _ _ _ m.siding c.requires.voices.sounding c.args.self.now.sides c.args.self.now.bytes (number_few c.args.on) (le_refl _)
