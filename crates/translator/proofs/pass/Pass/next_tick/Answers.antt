-- A legal song is left legal, with samples that are legal to sound.
use borrow.Author.Rules.{rules}
use Rattle.std.proofs.Common.{◌≡◌, ◌∙◌, ap}
use Rattle.ticks.specs.Commands.{sounding_of}
use Rattle.reader.specs.Modules.{as_module}
use Rattle.sequencer.specs.Songs.{tick_of}
use Rattle.sequencer.specs.RunLaws.{run_same}
use Rattle.translator.proofs.Passing.{pass_run, next_song, next_sounds}
use Rattle.translator.proofs.pass.Pass.next_tick.Goals as goal

pub tick-worked-requires : goal.tick-worked-requires
tick-worked-requires c = let p = c.args.self.now in run_same _ _ _ _ (pass_run p.m.now p.song p.registers p.legal p.sounds) c.sounding_of-sounding.ensures

pub invariant_of-self : goal.invariant_of-self
invariant_of-self c =
    let p = c.args.self.now in
    let w = c.tick-worked.result in
    let e : w ≡ tick_of (as_module p.m.now) p.song (sounding_of p.registers) = c.tick-worked.ensures ∙ ap (tick_of (as_module p.m.now) p.song) c.sounding_of-sounding.ensures in
    let before = p.legal in
    let after = next_song p.m.now p.song p.registers p.legal p.sounds w e in
    record { legal = search rules; sounds = next_sounds p.m.now p.song p.registers p.legal p.sounds w e }
