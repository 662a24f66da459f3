-- A silent voice stays. Of another the sums fit, since its fraction and what it grows by are below 65,536, and its index below the end;
-- the fraction's test is the definition's, and after it the fraction is again below 65,536.
use Rattle.laws.specs.Tests.{tests, called}
use Rattle.voice.specs.Voice.{step_of}
use Rattle.voice.proofs.Voices.{step_on, step_over}
use Rattle.std.proofs.Common.{rules}
use Rattle.voice.proofs.Voice.step.Goals as goal

pub returns-then-silent : goal.returns-then-silent
unfolding step_of
returns-then-silent c = search (tests, called, rules)

pub returns-then-fraction-lt-FRACTIONS : goal.returns-then-fraction-lt-FRACTIONS
returns-then-fraction-lt-FRACTIONS c = search (step_on, called, rules)

pub returns-else-fraction-lt-FRACTIONS : goal.returns-else-fraction-lt-FRACTIONS
returns-else-fraction-lt-FRACTIONS c = search (step_over, called, rules)
