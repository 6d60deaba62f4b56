-- Statements in which each local that is declared has a full type.
use Rattle.std.specs.Prelude.{Bool, true, ◌&&◌}
use Rattle.sp_typed.specs.declared.stmt_words.BareOp.{BareOp}
use Rattle.sp_typed.specs.declared.stmt_words.BareOp.TheVariants as bare_is
use Rattle.sp_typed.specs.declared.stmt_words.ValuedOp.{ValuedOp}
use Rattle.sp_typed.specs.declared.stmt_words.ValuedOp.TheVariants as valued_is
use Rattle.sp_typed.specs.Stmts.{Stmt, Stmts, Branches, Cases, bare, valued, assign, print, block, branch, while_loop, for_loop, switch, no_stmts, more_stmts, no_branches, more_branches, no_cases, more_cases}
use Rattle.sp_law_lists.specs.known_types.Full.{is_full}

-- a local without a value, and one with a value
abbrev pub bare_full : BareOp → Bool
bare_full (bare_is.Local l) = is_full l.ty
bare_full op = true

abbrev pub valued_full : ValuedOp → Bool
valued_full (valued_is.Local l) = is_full l.ty
valued_full op = true

abbrev mutual
  pub locals_full_in : Stmt → Bool
  locals_full_in (bare h) = bare_full h.op
  locals_full_in (valued h e) = valued_full h.op
  locals_full_in (assign h target e) = true
  locals_full_in (print at es) = true
  locals_full_in (block ss) = locals_full_among ss
  locals_full_in (branch bs b) = branch_locals_full bs && locals_full_in b
  locals_full_in (while_loop e b) = locals_full_in b
  locals_full_in (for_loop h e b) = locals_full_in b
  locals_full_in (switch slot e cs b) = case_locals_full cs && locals_full_in b

  pub locals_full_among : Stmts → Bool
  locals_full_among no_stmts = true
  locals_full_among (more_stmts b ss) = locals_full_in b && locals_full_among ss

  pub branch_locals_full : Branches → Bool
  branch_locals_full no_branches = true
  branch_locals_full (more_branches e b bs) = locals_full_in b && branch_locals_full bs

  pub case_locals_full : Cases → Bool
  case_locals_full no_cases = true
  case_locals_full (more_cases es b cs) = locals_full_in b && case_locals_full cs
