-- What the calls go by: 1 to 9, then 14, then a call's own lines. Laws over plain variables.
-- Assumes nothing.
use Rattle.std.proofs.Common.{◌≡◌, ℕ, Bool, true, false, not, ◌&&◌, ltb, List, [], ℤ, sym, refl, ap, ◌∙◌, subst, arith}
use Rattle.laws.specs.Ranges.{all, all_from}
use Rattle.reader.specs.Layouts.{LegalLayout, module_legal}
use Rattle.common.specs.Answers.{refused, accepted, outcome, refusing, refusal}
use Rattle.common.specs.AnswerLaws.{no_line, line_given, line_passed}
use Rattle.common.specs.ByteLaws.{Bytes}
use Rattle.common.specs.declared.Answer.{Answer}
use Rattle.common.specs.declared.refusals.Refusal.{Refusal}
use Rattle.common.specs.declared.refusals.Rule.TheVariants.{State as IllegalState}
use Rattle.common.specs.RefusalLaws.{refused_by_a_rule}
use Rattle.reader.specs.File.{Module, lent, layout_of, module_of, song_length}
use Rattle.reader.specs.Judge.{verdict, judge_of}
use Rattle.reader.specs.Modules.{as_module}
use Rattle.reader.specs.declared.module.Module.{Module as ReadModule}
use Rattle.reader.specs.Accept.{verdict_answer, accepted_by, module_given, module_passed}
use Rattle.reader.specs.Samples.{extents_of}
use Rattle.reader.specs.declared.Extent.{Extent}
use Rattle.reader.specs.declared.Layout.{Layout}
use Rattle.sequencer.specs.Legal.{legal_song}
use Rattle.voice.specs.Legal.{legal_voices}
use Rattle.player.specs.declared.State.{State}
use Rattle.player.specs.declared.Reply.{Reply}
use Rattle.player.specs.State.{legal_state, reply}
use Rattle.player.specs.Play.{played_from, play_of}
use Rattle.player.specs.Legal.{Judged}
use Rattle.player.specs.Judging.{never_zero, passed_state}

-- ---- the test of a state
pub state_tested : (layout : Layout) (bytes : List ℕ) (s : State) (positions : ℕ) (extents : List Extent) (a b c : Bool) → positions ≡ song_length (lent layout bytes) → extents ≡ extents_of (lent layout bytes) → a ≡ legal_song positions layout s.song → b ≡ legal_voices layout extents s.voices → c ≡ ltb s.remainder s.song.time.tempo → a && b && c ≡ legal_state (lent layout bytes) s
unfolding legal_state all all_from
state_tested layout bytes s positions extents a b c e x p q r = rw (p, q, r, e, x)

-- ---- the verdict
module _ (layout : Layout) (bytes : List ℕ) (s : State) (v : Answer) (ve : v ≡ verdict (lent layout bytes)) where
  abbrev m : Module
  m = lent layout bytes

  pub judged_module : (v.number ≡ 0 → ⊥) → Judged (lent layout bytes) s v
  judged_module h = record { is = module_given refused (accepted 0) m _ v (λ q. h (ap (λ (a : Answer). a.number) ve ∙ q)) (ve ∙ verdict_answer m); playable = λ e. never_zero v.number h e }

  module _ (z : v.number ≡ 0) (l : Bool) (le : l ≡ legal_state (lent layout bytes) s) (r : Answer) where
    zero : (verdict m).number ≡ 0
    zero = accepted_by m v ve z

    pub judged_legal : LegalLayout layout → Bytes bytes → l ≡ true → r ≡ accepted 0 → Judged (lent layout bytes) s r
    judged_legal y b h e =
        record {
          is = module_passed refused (accepted 0) m _ r zero (line_passed refused (accepted 0) 14 0 _ [] r (ap not (sym le ∙ h)) (no_line refused (accepted 0) r e));
          playable = λ _. record { layout = y; judged = zero; bytes = b; legal = sym le ∙ h };
        }

    pub judged_illegal : l ≡ false → r ≡ refused 14 0 → Judged (lent layout bytes) s r
    judged_illegal h e =
        record { is = module_passed refused (accepted 0) m _ r zero (line_given refused (accepted 0) 14 0 _ [] r (ap not (sym le ∙ h)) e); playable = λ q. never_zero 14 (λ x. omega arith) (ap (λ (a : Answer). a.number) (sym e) ∙ q) }

-- ---- a call's answer by the verdict, for the layout of every module
module _ (layout : Layout) (bytes : List ℕ) (s : State) (v : Answer) (j : Judged (lent layout bytes) s v) (le : layout ≡ layout_of bytes) where
  -- ---- playing
  module _ (n : ℕ) (out : List ℤ) (r : Reply) where
    pub play_accepted : (out' : List ℤ) → v.number ≡ 0 → outcome r out' ≡ played_from (lent layout bytes) (record { song = s.song; voices = s.voices; remainder = s.remainder }) n out → outcome r out' ≡ play_of bytes s n out
    unfolding play_of refusing
    play_accepted out' z e = passed_state layout bytes s v j le (λ number place. outcome (reply (refused number place) s) out) (played_from (module_of bytes) s n out) [] z (outcome r out') (rw le at e)

-- ---- a file and a state that are admitted
module _ (bytes : List ℕ) (s : State) where
  pub admit_refused : (e : Refusal) → judge_of bytes ≡ refusal e → Judged (module_of bytes) s (refusal e)
  unfolding judge_of
  admit_refused e j = judged_module (layout_of bytes) bytes s (refusal e) (sym j) (refused_by_a_rule e.rule)

  module _ (m : ReadModule) (own : as_module m ≡ module_of bytes) (l : Bool) (le : l ≡ legal_state (as_module m) s) where
    here : Module
    here = module_of bytes

    legal_here : l ≡ legal_state (module_of bytes) s
    legal_here = rw (← own) le

    zero_here : (verdict (module_of bytes)).number ≡ 0
    zero_here = rw (← own) m.judged

    bytes_here : Bytes bytes
    bytes_here = subst Bytes (ap (λ (x : Module). x.bytes) own) m.bytes

    pub admit_legal : l ≡ true → Judged (module_of bytes) s (accepted 0)
    admit_legal h = judged_legal (layout_of bytes) bytes s (verdict (module_of bytes)) refl zero_here l legal_here (accepted 0) (module_legal bytes) bytes_here h refl

    pub admit_illegal : l ≡ false → (e : Refusal) → e ≡ record { rule = IllegalState; place = 0 } → Judged (module_of bytes) s (refusal e)
    admit_illegal h e q = judged_illegal (layout_of bytes) bytes s (verdict (module_of bytes)) refl zero_here l legal_here (refusal e) h (rw q)
