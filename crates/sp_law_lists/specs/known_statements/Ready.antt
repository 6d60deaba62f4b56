-- Statements as typing makes them of what is built, where the body keeps their slots.
use Rattle.std.specs.Prelude.{ℕ, Bool, true, false, not, ◌&&◌, ◌||◌, Option, Some, None, IsTrue}
use Rattle.sp_types.specs.Types.{Ty, same}
use Rattle.sp_typed.specs.declared.words.Written.{Written}
use Rattle.sp_typed.specs.declared.stmt_words.BareOp.{BareOp}
use Rattle.sp_typed.specs.declared.stmt_words.BareOp.TheVariants as bare_is
use Rattle.sp_typed.specs.declared.stmt_words.ValuedOp.{ValuedOp}
use Rattle.sp_typed.specs.declared.stmt_words.ValuedOp.TheVariants as valued_is
use Rattle.sp_typed.specs.Exprs.{Expr, Exprs}
use Rattle.sp_typed.specs.Nodes.{holds, all_hold}
use Rattle.sp_typed.specs.Stmts.{Stmt, Stmts, Branches, Cases, bare, valued, assign, print, block, branch, while_loop, for_loop, switch, no_stmts, more_stmts, no_branches, more_branches, no_cases, more_cases}
use Rattle.sp_type_operands.specs.Literals.{seen}
use Rattle.sp_type_stmts.specs.Statements.{element_type}
use Rattle.sp_code_meaning.specs.Exprs.{slot_local}
use Rattle.sp_law_lists.specs.known_types.Full.{is_full}
use Rattle.sp_law_lists.specs.known_literals.Widened.{widens_value}
use Rattle.sp_law_lists.specs.fit_expr.Sorts.{Void}
use Rattle.sp_law_lists.specs.fit_expr.Test.{is_sort}
use Rattle.sp_law_lists.specs.fit_body.Bodies.{Returns, Body}
use Rattle.sp_law_lists.specs.fit_body.Bodies as returns
use Rattle.sp_law_lists.specs.fit_body.Test.{slot_is}
use Rattle.sp_law_lists.specs.known_kinds.Made.{is_targeted, maybe_targeted, is_made, owner_kept, keeps_owner, is_built}

-- a body returns a value of the type that is wanted, or nothing; that of a hook returns nothing
abbrev pub returns_so : Returns → Option Ty → Bool
returns_so (returns.Function t) (Some u) = same t u && is_full u
returns_so (returns.Function t) None = is_sort t Void
returns_so (returns.Hook each) (Some u) = false
returns_so (returns.Hook each) None = true

-- A local without a written type has that of its value, and a value goes to a type that is written.
abbrev pub local_ready : Option Written → Ty → Expr → Bool
local_ready None t e = same t (seen e)
local_ready (Some w) t e = is_targeted t e

module _ (body : Body) (wanted : Option Ty) where
  -- a node that is built, and made by typing
  abbrev pub node_ready : Expr → Bool
  node_ready e = is_built e && (is_made body.around e && (widens_value e && keeps_owner body.around e))

  abbrev pub expr_ready : Expr → Bool
  expr_ready e = holds node_ready e

  abbrev pub all_ready : Exprs → Bool
  all_ready es = all_hold node_ready es

  -- the owner of what is changed is kept in a slot of its type
  abbrev pub owner_ready : Option ℕ → Expr → Bool
  owner_ready owner e = owner_kept body.around (slot_local body.around.places owner) e

  -- a local has a slot of its type; a break and a continue that are meant stand in a loop; `stop`, `confirm` and `reject` aren't built
  abbrev pub bare_ready : (in_loop : Bool) → BareOp → Bool
  bare_ready in_loop (bare_is.Local l) = slot_is body.around l.slot l.ty
  bare_ready in_loop bare_is.Return = true
  bare_ready in_loop (bare_is.Break meant) = not meant || in_loop
  bare_ready in_loop (bare_is.Continue meant) = not meant || in_loop
  bare_ready in_loop op = false

  abbrev pub valued_ready : ValuedOp → Expr → Bool
  valued_ready (valued_is.Local l) e = local_ready l.written l.ty e && slot_is body.around l.slot l.ty
  valued_ready valued_is.Return e = maybe_targeted wanted e
  valued_ready (valued_is.Add owner) e = owner_ready owner e
  valued_ready (valued_is.Delete owner) e = owner_ready owner e
  valued_ready op e = true

  abbrev mutual
    pub stmt_ready : (in_loop : Bool) → Stmt → Bool
    stmt_ready in_loop (bare h) = bare_ready in_loop h.op
    stmt_ready in_loop (valued h e) = expr_ready e && valued_ready h.op e
    stmt_ready in_loop (assign h target e) = expr_ready target && (expr_ready e && (is_targeted (seen target) e && owner_ready h.owner target))
    stmt_ready in_loop (print at es) = all_ready es
    stmt_ready in_loop (block ss) = stmts_ready in_loop ss
    stmt_ready in_loop (branch bs b) = branches_ready in_loop bs && stmt_ready in_loop b
    stmt_ready in_loop (while_loop e b) = expr_ready e && stmt_ready true b
    stmt_ready in_loop (for_loop h e b) = expr_ready e && (same h.ty (element_type (seen e)) && (slot_is body.around h.slot h.ty && stmt_ready true b))
    stmt_ready in_loop (switch slot e cs b) = expr_ready e && (slot_is body.around slot (seen e) && (cases_ready in_loop cs && stmt_ready in_loop b))

    pub stmts_ready : (in_loop : Bool) → Stmts → Bool
    stmts_ready in_loop no_stmts = true
    stmts_ready in_loop (more_stmts b ss) = stmt_ready in_loop b && stmts_ready in_loop ss

    pub branches_ready : (in_loop : Bool) → Branches → Bool
    branches_ready in_loop no_branches = true
    branches_ready in_loop (more_branches e b bs) = expr_ready e && (stmt_ready in_loop b && branches_ready in_loop bs)

    pub cases_ready : (in_loop : Bool) → Cases → Bool
    cases_ready in_loop no_cases = true
    cases_ready in_loop (more_cases es b cs) = all_ready es && (stmt_ready in_loop b && cases_ready in_loop cs)

  abbrev pub IsReady : (in_loop : Bool) → Stmt → Type 0
  IsReady in_loop s = IsTrue (stmt_ready in_loop s)
