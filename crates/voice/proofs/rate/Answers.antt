-- Period 0 divides by 0, which is 0 in the definition; any other legal period is at least 108, so that the quotient is less than a byte.
use Rattle.std.proofs.Common.{rules}
use Rattle.voice.proofs.Voices.{rate_none, rate_is}
use Rattle.voice.proofs.rate.Goals as goal

pub returns-then-period-eq0 : goal.returns-then-period-eq0
returns-then-period-eq0 c = search (rate_none, rules)

pub returns : goal.returns
returns c = search (rate_is, rules)
