-- What a call that is given a state answers, by the verdict of 1 to 9 and 14: the verdict's refusal, or what its own lines and its work give.
-- Assumes nothing.
use Rattle.std.specs.Prelude.{◌≡◌, ℕ, Bool, true, false, cond, not, List, ◌==◌, ◌≢◌}
use Rattle.std.proofs.Math.Path.{refl}
use Rattle.std.proofs.Common.{ap, subst}
use Rattle.common.specs.Answers.{Line, refused, accepted, refusing}
use Rattle.common.specs.AnswerLaws.{line_passed}
use Rattle.common.specs.declared.Answer.{Answer}
use Rattle.reader.specs.File.{lent, layout_of, module_of}
use Rattle.reader.specs.Judge.{verdict}
use Rattle.reader.specs.Accept.{module_passed}
use Rattle.reader.specs.declared.Layout.{Layout}
use Rattle.player.specs.declared.State.{State}
use Rattle.player.specs.State.{legal_state, state_lines}
use Rattle.player.specs.Legal.{Playable, Judged}

pub never_zero : {A : Type 0} (n : ℕ) → (n ≢ 0) → n ≡ 0 → A
never_zero n h e = absurd (h e)

-- for the layout of every module
module _ (layout : Layout) (bytes : List ℕ) (s : State) (v : Answer) (j : Judged (lent layout bytes) s v) (le : layout ≡ layout_of bytes) where
  here : Judged (module_of bytes) s v
  here = subst (λ (l : Layout). Judged (lent l bytes) s v) le j

  pub judged_number : v.number ≡ 0 → (verdict (lent layout bytes)).number ≡ 0
  judged_number z = (j.playable z).judged

  pub play_playable : v.number ≡ 0 → Playable (lent layout bytes) (record { song = s.song; voices = s.voices; remainder = s.remainder })
  play_playable z = j.playable z

  module _ {A : Type 0} (refuse : ℕ → ℕ → A) (work : A) (more : List Line) where
    pub refused_state : (v.number ≢ 0) → refuse v.number v.place ≡ refusing refuse work (state_lines (module_of bytes) s more)
    unfolding refusing
    refused_state h = by ((verdict (module_of bytes)).number == 0) refl (legal_state (module_of bytes) s) refl here.is
      where
        by : (t : Bool) → ((verdict (module_of bytes)).number == 0) ≡ t → (l : Bool) → legal_state (module_of bytes) s ≡ l → v ≡ cond (not t) (refused (verdict (module_of bytes)).number (verdict (module_of bytes)).place) (cond (not l) (refused 14 0) (accepted 0))
            → refuse v.number v.place ≡ cond (not t) (refuse (verdict (module_of bytes)).number (verdict (module_of bytes)).place) (cond (not l) (refuse 14 0) (refusing refuse work more))
        by false e l q i = rw i
        by true e false q i = rw i
        by true e true q i = never_zero v.number h (ap (λ (x : Answer). x.number) i)

    pub passed_state : v.number ≡ 0 → (x : A) → x ≡ refusing refuse work more → x ≡ refusing refuse work (state_lines (module_of bytes) s more)
    passed_state z x e = module_passed refuse work (module_of bytes) _ x (here.playable z).judged (line_passed refuse work 14 0 _ more x (ap not (here.playable z).legal) e)
