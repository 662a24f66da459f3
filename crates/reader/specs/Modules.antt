-- Files that were read, as the definitions' modules; and the line of a call that reads one.
-- Assumes nothing.
use Rattle.std.specs.Prelude.{ℕ, ◌≡◌, List, ◌∷◌}
use Rattle.std.proofs.Common.{sym, ap, ◌∙◌}
use Rattle.common.specs.declared.Answer.{Answer}
use Rattle.common.specs.declared.refusals.Refusal.{Refusal}
use Rattle.common.specs.Answers.{Line, refusing, number_of, refusal}
use Rattle.common.specs.RefusalLaws.{refused_by_a_rule}
use Rattle.reader.specs.File.{Module, lent, layout_of, module_of}
use Rattle.reader.specs.Judge.{judge_of, module_line}
use Rattle.reader.specs.Accept.{module_given, module_passed}
use Rattle.reader.specs.declared.headed.Headed.{Headed}
use Rattle.reader.specs.declared.module.Module.{Module as ReadModule}
use Rattle.reader.specs.declared.module.Tagged.{Tagged}

-- a file that is long enough for its headers
abbrev pub as_headed : Headed → Module
as_headed h = lent h.layout h.file.now

-- a file that was accepted
abbrev pub as_module : ReadModule → Module
as_module m = lent m.layout m.file.now

-- which is the file's own module where its layout is the file's own
pub module_laid : (m : ReadModule) (bytes : List ℕ) → m.file.now ≡ bytes → m.layout ≡ layout_of bytes → as_module m ≡ module_of bytes
module_laid m bytes e l = rw (l, e)

-- the module of a tagged one is its file's own
pub module_read : (t : Tagged) (bytes : List ℕ) → t.module.file.now ≡ bytes → as_module t.module ≡ module_of bytes
module_read t bytes e = module_laid t.module bytes e (t.tagged ∙ ap layout_of e)

-- a module that is its file's own has the layout that the file's tag names
pub own_layout : (m : ReadModule) (bytes : List ℕ) → as_module m ≡ module_of bytes → m.layout ≡ layout_of m.file.now
own_layout m bytes own = ap (λ (x : Module). x.layout) own ∙ ap (λ (x : Module). layout_of x.bytes) (sym own)

-- ---- the line of a call that is lent a module
module _ {A : Type 0} (refuse : ℕ → ℕ → A) (work : A) (bytes : List ℕ) (more : List Line) (x : A) where
  -- a file that was not read gives it
  pub read_refused : (e : Refusal) → judge_of bytes ≡ refusal e → x ≡ refuse (number_of e.rule) e.place → x ≡ refusing refuse work (module_line (module_of bytes) ∷ more)
  unfolding judge_of
  read_refused e j q =
      module_given refuse work (module_of bytes) more x (λ z. refused_by_a_rule e.rule (ap (λ (a : Answer). a.number) (sym j) ∙ z))
      (rw j q)

  -- one that was leaves the lines that follow
  pub read_passed : (m : ReadModule) → as_module m ≡ module_of bytes → x ≡ refusing refuse work more → x ≡ refusing refuse work (module_line (module_of bytes) ∷ more)
  read_passed m own q = module_passed refuse work (module_of bytes) more x (rw (← own) m.judged) q
