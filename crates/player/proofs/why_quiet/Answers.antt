-- A law for each answer, over what the tests before it showed.
use Rattle.player.proofs.Admitted.{not_admitted, known_voice, channel_0, channel_past, channel_quiet}
use Rattle.player.specs.Quiet.{why_quiet_of}
use Rattle.common.specs.Answers.{refusal}
use Rattle.std.proofs.Common.{ap, rules}
use Rattle.player.proofs.why_quiet.Goals as goal

pub returns-in_err-module : goal.returns-in_err-module
unfolding why_quiet_of
returns-in_err-module c = search (not_admitted, rules)

pub returns-then-channel-eq0 : goal.returns-then-channel-eq0
returns-then-channel-eq0 c = channel_0 _ _ c.in_ok-module.ensures.judged c.in_ok-module.module c.in_ok-module.ensures.own _ c.if-channel-eq0.true _ (ap refusal c.at.ensures)

pub returns-then-module-i : goal.returns-then-module-i
returns-then-module-i c = channel_past _ _ c.in_ok-module.ensures.judged c.in_ok-module.module c.in_ok-module.ensures.own _ c.if-channel-eq0.false c.if-module-i.true _ (ap refusal c.at-then-module-i.ensures)

pub voice_cause-requires : goal.voice_cause-requires
voice_cause-requires c = record { known = known_voice _ _ c.in_ok-module.ensures.judged c.in_ok-module.module c.in_ok-module.ensures.own _ c.if-module-i.false }

pub returns : goal.returns
returns c = channel_quiet _ _ c.in_ok-module.ensures.judged c.in_ok-module.module c.in_ok-module.ensures.own _ c.if-channel-eq0.false c.if-module-i.false _ c.voice_cause.ensures
