-- What the calls go by: the machine as a tick finds it (`Begun`), and the verdict of 1 to 9 and 14 (`Judged`).
-- Assumes nothing.
use Rattle.std.specs.Prelude.{ℕ, ◌^◌, ◌≤◌, ◌<◌, ◌≡◌, refl, Bool, not, List, [], ◌∷◌, length, eqb}
use Rattle.std.proofs.Common.{ap, subst}
use Rattle.std.proofs.Math.Bool.{true, false, cond}
use Rattle.laws.specs.Every.{all_at}
use Rattle.common.specs.Limits.{width, greatest_tempo}
use Rattle.common.specs.Answers.{line, refused, accepted, refusing}
use Rattle.common.specs.AnswerLaws.{no_line, line_passed}
use Rattle.common.specs.declared.Answer.{Answer}
use Rattle.ticks.specs.declared.Tick.{Tick}
use Rattle.reader.specs.File.{Module, lent, layout_of, module_of}
use Rattle.reader.specs.Layouts.{LegalLayout}
use Rattle.reader.specs.Judge.{verdict}
use Rattle.reader.specs.Accept.{module_passed}
use Rattle.reader.specs.Samples.{extents_of}
use Rattle.reader.specs.declared.Layout.{Layout}
use Rattle.voice.specs.LegalFacts.{voices_has}
use Rattle.machine.specs.declared.Machine.{Machine}
use Rattle.machine.specs.Machine.{begins}
use Rattle.arrival.specs.Arrive.{kept_bytes, taken}
use Rattle.arrival.specs.Ready as arriving
use Rattle.feed.specs.declared.Board.{Board}
use Rattle.feed.specs.Feed.{registers_of, begun, legal_board, board_lines}
use Rattle.feed.specs.Sound.{Sound, remainder_has}

-- ---- the machine as a tick of a tempo finds it: it goes on as it stands, and its remainder is low
pub record Begun (keeps : Bool) (w : Machine) (tempo : ℕ) (x : Machine) : Type 0 where
  pub voices : x.voices ≡ (begun keeps w).voices
  pub own : x.voices ≡ w.voices
  pub begin : (t : Tick) → t.tempo ≡ tempo → begins x t ≡ begins (begun keeps w) t
  pub low : x.remainder ≤ greatest_tempo

-- ---- the verdict
abbrev pub board_verdict : Module → Board → Answer
board_verdict m b = refusing refused (accepted 0) (board_lines m b)

-- the test of 14: a legal board has few bytes taken
pub record Tested (m : Module) (b : Board) (t : Bool) : Type 0 where
  pub is : t ≡ legal_board m b
  pub few : t ≡ true → taken b.arrival < 2 ^ 40
  pub voices : length b.machine.voices ≡ width
  pub bytes : length b.arrival.bytes ≡ kept_bytes

pub record Legal (m : Module) (b : Board) : Type 0 where
  pub layout : LegalLayout m.layout
  pub judged : (verdict m).number ≡ 0
  pub legal : legal_board m b ≡ true
  pub few : taken b.arrival < 2 ^ 40
  pub voices : length b.machine.voices ≡ width
  pub bytes : length b.arrival.bytes ≡ kept_bytes

pub record Judged (m : Module) (b : Board) (v : Answer) : Type 0 where
  pub is : v ≡ board_verdict m b
  pub accepted : v.number ≡ 0 → Legal m b

-- a legal board is sound, and has few bytes taken
module _ (layout : Layout) (bytes : List ℕ) (b : Board) (l : Legal (lent layout bytes) b) where
  abbrev m : Module
  m = lent layout bytes

  pub legal_sound : Sound layout bytes (extents_of m) b.arrival b.machine
  unfolding legal_board
  legal_sound =
      let h = all_at _ l.legal in
      record {
        lawful = l.layout;
        judge = l.judged;
        table = refl;
        voices = voices_has layout (extents_of m) b.machine.voices l.layout.channels l.voices (h 0);
        rest = remainder_has b.machine (h 1);
        long = l.bytes;
        ready = arriving.legal_ready layout.samples layout.channels l.layout.channels (registers_of b.machine) b.arrival l.bytes (h 2);
      }

-- for the layout of every module
module _ (layout : Layout) (bytes : List ℕ) (b : Board) (v : Answer) (j : Judged (lent layout bytes) b v) (le : layout ≡ layout_of bytes) where
  here : Judged (module_of bytes) b v
  here = subst (λ (l : Layout). Judged (lent l bytes) b v) le j

  module _ {A : Type 0} (refuse : ℕ → ℕ → A) (work : A) where
    pub refused_board_lem : (v.number ≡ 0 → ⊥) → refuse v.number v.place ≡ refusing refuse work (board_lines (module_of bytes) b)
    unfolding refusing
    refused_board_lem h = by (eqb (verdict (module_of bytes)).number 0) (legal_board (module_of bytes) b) here.is
      where
        by : (t l : Bool) → v ≡ cond (not t) (refused (verdict (module_of bytes)).number (verdict (module_of bytes)).place) (cond (not l) (refused 14 0) (accepted 0))
            → refuse v.number v.place ≡ cond (not t) (refuse (verdict (module_of bytes)).number (verdict (module_of bytes)).place) (cond (not l) (refuse 14 0) work)
        by false l i = rw i
        by true false i = rw i
        by true true i = absurd (h (ap (λ (x : Answer). x.number) i))

    pub passed_board : v.number ≡ 0 → (x : A) → x ≡ work → x ≡ refusing refuse work (board_lines (module_of bytes) b)
    passed_board z x e =
        module_passed refuse work (module_of bytes) (line 14 (not (legal_board (module_of bytes) b)) 0 ∷ []) x (here.accepted z).judged (line_passed refuse work 14 0 (not (legal_board (module_of bytes) b)) [] x (ap not (here.accepted z).legal) (no_line refuse work x e))
