-- Statements whose breaks and continues stand in loops.
use Rattle.std.specs.Prelude.{◌≡◌, Bool, true}
use Rattle.sp_typed.specs.declared.stmt_words.BareOp.{BareOp}
use Rattle.sp_typed.specs.declared.stmt_words.BareOp.TheVariants as bare_is
use Rattle.sp_typed.specs.Stmts.{Stmt, Stmts, Branches, Cases, bare, valued, assign, print, block, branch, while_loop, for_loop, switch, no_stmts, more_stmts, no_branches, more_branches, no_cases, more_cases}

-- a break and a continue stand in a loop
abbrev pub BareKeepsToLoops : (in_loop : Bool) → BareOp → Type 0
BareKeepsToLoops in_loop (bare_is.Break meant) = in_loop ≡ true
BareKeepsToLoops in_loop (bare_is.Continue meant) = in_loop ≡ true
BareKeepsToLoops in_loop op = Unit {0}

abbrev mutual
  -- each break and each continue in a statement stands in a loop of the statement, or the statement stands in one
  pub KeepsToLoops : (in_loop : Bool) → Stmt → Type 0
  KeepsToLoops in_loop (bare h) = BareKeepsToLoops in_loop h.op
  KeepsToLoops in_loop (valued h e) = Unit {0}
  KeepsToLoops in_loop (assign h target e) = Unit {0}
  KeepsToLoops in_loop (print span es) = Unit {0}
  KeepsToLoops in_loop (block ss) = AllKeepToLoops in_loop ss
  KeepsToLoops in_loop (branch bs b) = BranchesKeepToLoops in_loop bs × KeepsToLoops in_loop b
  KeepsToLoops in_loop (while_loop e b) = KeepsToLoops true b
  KeepsToLoops in_loop (for_loop h e b) = KeepsToLoops true b
  KeepsToLoops in_loop (switch slot e cs b) = CasesKeepToLoops in_loop cs × KeepsToLoops in_loop b

  -- so it is in each statement of a row
  pub AllKeepToLoops : (in_loop : Bool) → Stmts → Type 0
  AllKeepToLoops in_loop no_stmts = Unit {0}
  AllKeepToLoops in_loop (more_stmts b ss) = KeepsToLoops in_loop b × AllKeepToLoops in_loop ss

  -- in those of the branches of an `if`
  pub BranchesKeepToLoops : (in_loop : Bool) → Branches → Type 0
  BranchesKeepToLoops in_loop no_branches = Unit {0}
  BranchesKeepToLoops in_loop (more_branches e b bs) = KeepsToLoops in_loop b × BranchesKeepToLoops in_loop bs

  -- and in those of the cases of a `switch`
  pub CasesKeepToLoops : (in_loop : Bool) → Cases → Type 0
  CasesKeepToLoops in_loop no_cases = Unit {0}
  CasesKeepToLoops in_loop (more_cases es b cs) = KeepsToLoops in_loop b × CasesKeepToLoops in_loop cs
