-- The record that was read lies ahead, by the tests.
use Rattle.std.proofs.Common.{sym, ◌∙◌}
use Rattle.arrival.proofs.Laws.{found_past, found_ahead}
use Rattle.arrival.proofs.Arrival.ahead.Goals as goal

pub overflow_sub-record : goal.overflow_sub-record
overflow_sub-record c = found_past _ _ _ c.args.self.now _ _ _ c.read_record.ensures _ c.ok.ensures.value _ c.in_ok-record.was

pub returns-then-is_within : goal.returns-then-is_within
returns-then-is_within c =
    found_ahead _ _ _ c.args.self.now _ _ _ c.read_record.ensures _ c.ok.ensures.value _ c.in_ok-record.was (sym c.awaits.ensures ∙ c.if-not-awaits.false) (sym c.is_within.ensures.0 ∙ c.if-is_within.true)
    (c.is_within.ensures.1 c.if-is_within.true)
