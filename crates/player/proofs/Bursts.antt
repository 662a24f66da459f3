-- A touch and a burst by the verdict of module and state; the burst's answer by the tests before it. Laws over plain variables.
-- Assumes nothing.
use Rattle.std.proofs.Common.{◌≡◌, ℕ, ◌<◌, ◌≤◌, max, Bool, true, false, not, ◌&&◌, eqb, List, length, sym, ap, ◌∙◌, subst, arith, le-ltb, lt-ltb, eqb-true}
use borrow.Author.Tests.{not-false}
use Rattle.laws.specs.Every.{first_of, second_of}
use Rattle.common.specs.Answers.{refused, outcome, refusing}
use Rattle.common.specs.declared.Answer.{Answer}
use Rattle.reader.specs.File.{lent, layout_of, module_of, song_length}
use Rattle.reader.specs.declared.Layout.{Layout}
use Rattle.player.specs.declared.State.{State}
use Rattle.player.specs.declared.Reply.{Reply}
use Rattle.player.specs.State.{reply}
use Rattle.player.specs.Legal.{Judged}
use Rattle.player.specs.Touch.{touch_of}
use Rattle.player.specs.Burst.{Burst, taken_from, most_touches, longest, burst_lines, burst_of}
use Rattle.player.specs.Touching.{touch_from, burst_from}
use Rattle.player.proofs.JudgedOnce.{judged_once}
use Rattle.player.specs.Keeps.{touch_judged}
use Rattle.player.specs.Judging.{refused_state, passed_state}

module _ (layout : Layout) (bytes : List ℕ) (s : State) (v : Answer) (j : Judged (lent layout bytes) s v) (le : layout ≡ layout_of bytes) where
  here : Judged (module_of bytes) s v
  here = subst (λ (l : Layout). Judged (lent l bytes) s v) le j

  last_is : (n : ℕ) → n ≡ song_length (lent layout bytes) → n ≡ song_length (module_of bytes)
  last_is n e = e ∙ ap (λ (l : Layout). song_length (lent l bytes)) le

  pub touch_passed : v.number ≡ 0 → (positions : ℕ) → positions ≡ song_length (lent layout bytes) → (page made position : ℕ) (r : Reply) → r ≡ touch_from positions s page made position → r ≡ touch_of bytes s page made position
  unfolding touch_from
  touch_passed z positions e page made position r q = rw (last_is positions e) at q ∙ sym (touch_judged bytes (here.playable z).judged s (here.playable z).legal page made position)

  -- ---- a burst
  module _ (b : Burst) (answers : List ℕ) (r : Reply) where
    pub burst_refused : (v.number ≡ 0 → ⊥) → r ≡ reply (refused v.number v.place) s → outcome r answers ≡ burst_of bytes s b answers
    unfolding burst_of
    burst_refused h e = ap (λ (x : Reply). outcome x answers) e ∙ refused_state layout bytes s v j le (λ number place. outcome (reply (refused number place) s) answers) (taken_from (touch_of bytes) b s answers) (burst_lines b answers) h

    pub burst_passed : v.number ≡ 0 → (last : ℕ) → last ≡ song_length (lent layout bytes) → (after : List ℕ) → outcome r after ≡ burst_from last s b answers → outcome r after ≡ burst_of bytes s b answers
    unfolding burst_of burst_from
    burst_passed z last q after e =
        passed_state layout bytes s v j le (λ number place. outcome (reply (refused number place) s) answers) (taken_from (touch_of bytes) b s answers) (burst_lines b answers) z (outcome r after)
        (rw (last_is last q, judged_once bytes (here.playable z).judged b s (here.playable z).legal answers) at e)

-- ---- by its own lines
module _ (last : ℕ) (s : State) (b : Burst) (answers : List ℕ) (n : ℕ) (ne : n ≡ longest b) (r : Reply) where
  pub burst_many : most_touches < n → r ≡ reply (refused 26 0) s → outcome r answers ≡ burst_from last s b answers
  unfolding burst_from refusing
  burst_many h e = rw (← ne, lt-ltb most_touches n h, e)

  module _ (few : n ≤ most_touches) where
    pub burst_short : length answers < n → r ≡ reply (refused 27 0) s → outcome r answers ≡ burst_from last s b answers
    unfolding burst_from refusing
    burst_short h e = rw (← ne, le-ltb most_touches n few, lt-ltb (length answers) n h, e)

    module _ (room : n ≤ length answers) (u : Bool) (ue : u ≡ not (eqb (length b.pages) (length b.mades) && eqb (length b.mades) (length b.positions))) where
      pub burst_unequal : u ≡ true → r ≡ reply (refused 34 0) s → outcome r answers ≡ burst_from last s b answers
      unfolding burst_from refusing
      burst_unequal h e = rw (← ne, le-ltb most_touches n few, le-ltb (length answers) n room, ← ue, h, e)

      pub burst_taken : u ≡ false → (after : List ℕ) → outcome r after ≡ taken_from (touch_from last) b s answers → outcome r after ≡ burst_from last s b answers
      unfolding burst_from refusing
      burst_taken h after e = rw (← ne, le-ltb most_touches n few, le-ltb (length answers) n room, ← ue, h) e

-- equal lists, by the test
pub lists_equal : (a b c : ℕ) (u : Bool) → u ≡ not (eqb a b && eqb b c) → u ≡ false → (a ≡ b) × (b ≡ c)
lists_equal a b c u e h =
    let q : eqb a b && eqb b c ≡ true = not-false _ (sym e ∙ h) in
    (eqb-true a b (first_of (eqb a b) (eqb b c) q), eqb-true b c (second_of (eqb a b) (eqb b c) q))

pub room_for : (n a m : ℕ) (rest : ℕ) → n ≡ max a rest → n ≤ m → a ≤ m
room_for n a m rest e h = omega (arith, e)
