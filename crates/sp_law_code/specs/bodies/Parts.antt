-- What the code of a statement asks: each call in it has as many values as its function takes.
use Rattle.std.specs.Prelude.{◌≡◌, ℕ, Some, slice_get}
use Rattle.sp_typed.specs.Stmts.{Stmt, Stmts, Branches, Cases, bare, valued, assign, print, block, branch, while_loop, for_loop, switch, no_stmts, more_stmts, no_branches, more_branches, no_cases, more_cases}
use Rattle.sp_typed_units.specs.declared.declarations.Function.{Function}
use Rattle.sp_typed_units.specs.declared.declarations.Hook.{Hook}
use Rattle.sp_typed_units.specs.declared.declarations.Typed.{Typed}
use Rattle.sp_code.specs.Machine.{Plain}
use Rattle.sp_law_code.specs.exprs.Parts.{AreCounted, AllAreCounted}

abbrev mutual
  pub StmtIsCounted : Plain → Stmt → Type 0
  StmtIsCounted p (bare h) = Unit {0}
  StmtIsCounted p (valued h e) = AreCounted p e
  StmtIsCounted p (assign h target e) = AreCounted p target × AreCounted p e
  StmtIsCounted p (print at es) = AllAreCounted p es
  StmtIsCounted p (block ss) = StmtsAreCounted p ss
  StmtIsCounted p (branch bs s) = BranchesAreCounted p bs × StmtIsCounted p s
  StmtIsCounted p (while_loop e s) = AreCounted p e × StmtIsCounted p s
  StmtIsCounted p (for_loop h e s) = AreCounted p e × StmtIsCounted p s
  StmtIsCounted p (switch slot e cs s) = AreCounted p e × CasesAreCounted p cs × StmtIsCounted p s

  pub StmtsAreCounted : Plain → Stmts → Type 0
  StmtsAreCounted p no_stmts = Unit {0}
  StmtsAreCounted p (more_stmts s ss) = StmtIsCounted p s × StmtsAreCounted p ss

  pub BranchesAreCounted : Plain → Branches → Type 0
  BranchesAreCounted p no_branches = Unit {0}
  BranchesAreCounted p (more_branches e s bs) = AreCounted p e × StmtIsCounted p s × BranchesAreCounted p bs

  pub CasesAreCounted : Plain → Cases → Type 0
  CasesAreCounted p no_cases = Unit {0}
  CasesAreCounted p (more_cases es s cs) = AllAreCounted p es × StmtIsCounted p s × CasesAreCounted p cs

-- so it is in all bodies of a list of modules
pub record BodiesAreCounted (p : Plain) (list : Typed) : Type 0 where
  pub functions : (f : ℕ) (x : Function) → slice_get list.functions f ≡ Some x → StmtIsCounted p x.body
  pub hooks : (h : ℕ) (x : Hook) → slice_get list.hooks h ≡ Some x → StmtIsCounted p x.body
