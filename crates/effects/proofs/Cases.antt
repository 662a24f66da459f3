-- The laws by which a function's branches follow its definition's tests.
-- Assumes nothing.
use Rattle.laws.specs.Numbers.{eqb-other}
use Rattle.laws.specs.Tests.{tests, called}

pub ruleset cases = (tests, called, eqb-other)
