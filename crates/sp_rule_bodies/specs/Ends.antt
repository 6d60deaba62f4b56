-- Bodies that can't run past their end.
use Rattle.std.specs.Prelude.{Bool, true, false, ◌&&◌}
use Rattle.sp_typed.specs.declared.stmt_words.BareOp.{BareOp}
use Rattle.sp_typed.specs.declared.stmt_words.BareOp.TheVariants as bare_is
use Rattle.sp_typed.specs.declared.stmt_words.ValuedOp.{ValuedOp}
use Rattle.sp_typed.specs.declared.stmt_words.ValuedOp.TheVariants as valued_is
use Rattle.sp_typed.specs.Stmts.{Stmt, Stmts, Branches, Cases, bare, valued, assign, print, block, branch, while_loop, for_loop, switch, no_stmts, more_stmts, no_branches, more_branches, no_cases, more_cases}

abbrev pub is_return : BareOp → Bool
is_return bare_is.Return = true
is_return _ = false

abbrev pub leaves : ValuedOp → Bool
leaves valued_is.Return = true
leaves valued_is.Throw = true
leaves _ = false

-- A statement ends well if it is a `return` or a `throw`, a block whose last statement ends well, or an `if` or a `switch` of
-- which all parts end well, the last one of `else` and of `default` among them. An empty block doesn't.
abbrev mutual
  pub ends_well : Stmt → Bool
  ends_well (bare h) = is_return h.op
  ends_well (valued h e) = leaves h.op
  ends_well (assign h target value) = false
  ends_well (print at es) = false
  ends_well (block ss) = last_ends_well ss
  ends_well (branch bs s) = branches_end_well bs && ends_well s
  ends_well (while_loop e s) = false
  ends_well (for_loop h e s) = false
  ends_well (switch slot e cs s) = cases_end_well cs && ends_well s

  pub last_ends_well : Stmts → Bool
  last_ends_well no_stmts = false
  last_ends_well (more_stmts s no_stmts) = ends_well s
  last_ends_well (more_stmts s (more_stmts t ss)) = last_ends_well (more_stmts t ss)

  pub branches_end_well : Branches → Bool
  branches_end_well no_branches = true
  branches_end_well (more_branches e s bs) = ends_well s && branches_end_well bs

  pub cases_end_well : Cases → Bool
  cases_end_well no_cases = true
  cases_end_well (more_cases es s cs) = ends_well s && cases_end_well cs
