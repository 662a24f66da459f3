-- A law for each answer, over what the calls before it returned.
use Rattle.player.proofs.Verdicts.{judged_module, judged_legal, judged_illegal}
use Rattle.reader.specs.Accept.{accepted_by}
use Rattle.std.proofs.Common.{rules}
use Rattle.player.proofs.legality.judge_state.Goals as goal

pub returns-then-judged-ne0 : goal.returns-then-judged-ne0
returns-then-judged-ne0 c = search (judged_module, rules)

pub song_length-positions-requires : goal.song_length-positions-requires
song_length-positions-requires c = search (accepted_by, rules)

pub extents-extents-requires : goal.extents-extents-requires
extents-extents-requires c = search (accepted_by, rules)

pub returns-then-legal_state : goal.returns-then-legal_state
returns-then-legal_state c = search (judged_legal, rules)

pub returns : goal.returns
returns c = search (judged_illegal, rules)
