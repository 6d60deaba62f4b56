-- That what bodies change are places, so that the code of each begins with the shape before it.
use Rattle.std.specs.Prelude.{◌≡◌, true}
use Rattle.sp_words.specs.Methods.{changes}
use Rattle.sp_typed.specs.declared.words.ManyOp.{ManyOp}
use Rattle.sp_typed.specs.declared.words.ManyOp.TheVariants as many_is
use Rattle.sp_typed.specs.declared.stmt_words.ValuedOp.{ValuedOp}
use Rattle.sp_typed.specs.declared.stmt_words.ValuedOp.TheVariants as valued_is
use Rattle.sp_typed.specs.Exprs.{Expr, Exprs, leaf, one, two, three, many, none, more}
use Rattle.sp_typed.specs.Stmts.{Stmt, Stmts, Branches, Cases, bare, valued, assign, print, block, branch, while_loop, for_loop, switch, no_stmts, more_stmts, no_branches, more_branches, no_cases, more_cases}

-- a local, a member, or an item of a place
abbrev pub IsPlace : Expr → Type 0
IsPlace (leaf h) = Unit {0}
IsPlace (one h a) = Unit {0}
IsPlace (two h a b) = IsPlace a
IsPlace e = ⊥

-- the first of several is a place
abbrev pub BeginsWithPlace : Exprs → Type 0
BeginsWithPlace none = ⊥
BeginsWithPlace (more e es) = IsPlace e

-- a method that changes its receiver has a place as that
abbrev pub HasReceiver : ManyOp → Exprs → Type 0
HasReceiver (many_is.Method m slot) es = changes m ≡ true → BeginsWithPlace es
HasReceiver op es = Unit {0}

-- `add` and `delete` change a place
abbrev pub HasTarget : ValuedOp → Expr → Type 0
HasTarget (valued_is.Add owner) e = IsPlace e
HasTarget (valued_is.Delete owner) e = IsPlace e
HasTarget op e = Unit {0}

abbrev mutual
  -- whatever is changed in an expression is a place
  pub ChangesPlaces : Expr → Type 0
  ChangesPlaces (leaf h) = Unit {0}
  ChangesPlaces (one h a) = ChangesPlaces a
  ChangesPlaces (two h a b) = ChangesPlaces a × ChangesPlaces b
  ChangesPlaces (three h c a b) = ChangesPlaces c × ChangesPlaces a × ChangesPlaces b
  ChangesPlaces (many h es) = HasReceiver h.op es × AllChangePlaces es

  -- and so it is in each of several
  pub AllChangePlaces : Exprs → Type 0
  AllChangePlaces none = Unit {0}
  AllChangePlaces (more e es) = ChangesPlaces e × AllChangePlaces es

abbrev mutual
  -- whatever is changed in a statement is a place, in all its parts
  pub StmtChangesPlaces : Stmt → Type 0
  StmtChangesPlaces (bare h) = Unit {0}
  StmtChangesPlaces (valued h e) = HasTarget h.op e × ChangesPlaces e
  StmtChangesPlaces (assign h target e) = IsPlace target × ChangesPlaces target × ChangesPlaces e
  StmtChangesPlaces (print at es) = AllChangePlaces es
  StmtChangesPlaces (block ss) = StmtsChangePlaces ss
  StmtChangesPlaces (branch bs b) = BranchesChangePlaces bs × StmtChangesPlaces b
  StmtChangesPlaces (while_loop e b) = ChangesPlaces e × StmtChangesPlaces b
  StmtChangesPlaces (for_loop h e b) = ChangesPlaces e × StmtChangesPlaces b
  StmtChangesPlaces (switch slot e cs b) = ChangesPlaces e × CasesChangePlaces cs × StmtChangesPlaces b

  pub StmtsChangePlaces : Stmts → Type 0
  StmtsChangePlaces no_stmts = Unit {0}
  StmtsChangePlaces (more_stmts b ss) = StmtChangesPlaces b × StmtsChangePlaces ss

  pub BranchesChangePlaces : Branches → Type 0
  BranchesChangePlaces no_branches = Unit {0}
  BranchesChangePlaces (more_branches e b bs) = ChangesPlaces e × StmtChangesPlaces b × BranchesChangePlaces bs

  pub CasesChangePlaces : Cases → Type 0
  CasesChangePlaces no_cases = Unit {0}
  CasesChangePlaces (more_cases es b cs) = AllChangePlaces es × StmtChangesPlaces b × CasesChangePlaces cs
