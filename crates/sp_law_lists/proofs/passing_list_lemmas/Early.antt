-- Nodes that stand in a tree in which all is built, whatever rules are broken there: no sinks, and no methods that aren't built. A `new`
-- has its own type, and what has that type is never widened.
use Rattle.std.specs.Prelude.{ℕ, ◌≡◌, Bool, true, false, not, ◌&&◌, ◌||◌, List, Some}
use Rattle.sp_base.specs.declared.places.Span.{Span}
use Rattle.sp_ast.specs.Trees.{Tree}
use Rattle.sp_types.specs.Types.{Ty}
use Rattle.sp_typed.specs.declared.words.OneOp.{OneOp}
use Rattle.sp_typed.specs.declared.words.OneOp.TheVariants as one_is
use Rattle.sp_typed.specs.declared.words.ManyOp.{ManyOp}
use Rattle.sp_typed.specs.declared.words.ManyOp.TheVariants as many_is
use Rattle.sp_typed.specs.Exprs.{Expr, leaf, one, two, three, many, exprs, type_of}
use Rattle.sp_typed.specs.Nodes.{holds, all_hold}
use Rattle.sp_typed.specs.Stmts.{Stmt, Stmts, Branches, Cases, bare, valued, assign, print, block, branch, while_loop, for_loop, switch, no_stmts, more_stmts, no_branches, more_branches, no_cases, more_cases}
use Rattle.sp_type_context.specs.declared.context.Member.{Member}
use Rattle.sp_type_context.specs.declared.context.Callable.{Callable}
use Rattle.sp_type_context.specs.Contexts.{Around}
use Rattle.sp_rule_bodies.specs.Values.{is_new}
use Rattle.sp_unbuilt.specs.Constructs.{is_late_unit_method, is_sink_method}
use Rattle.sp_law_lists.specs.known_kinds.Made.{is_offset}
use Rattle.sp_law_lists.specs.known_statements.Built.{is_built_bare}

abbrev pub early_one : OneOp → Expr → Bool
early_one (one_is.SinkOf n) a = false
early_one one_is.Widen a = not (is_new (type_of a))
early_one op a = true

abbrev pub early_many : ManyOp → Ty → Bool
early_many (many_is.New of path) t = is_new t
early_many (many_is.OfUnit m name) t = is_offset m
early_many (many_is.OfSink m) t = false
early_many op t = true

abbrev pub is_early : Expr → Bool
is_early (leaf h) = true
is_early (one h a) = early_one h.op a
is_early (two h a b) = true
is_early (three h c a b) = true
is_early (many h es) = early_many h.op h.ty

-- statements of such nodes, none of which isn't built
abbrev mutual
  pub stmt_early : Stmt → Bool
  stmt_early (bare h) = is_built_bare h.op
  stmt_early (valued h e) = holds is_early e
  stmt_early (assign h target e) = holds is_early target && holds is_early e
  stmt_early (print at es) = all_hold is_early es
  stmt_early (block ss) = stmts_early ss
  stmt_early (branch bs b) = branches_early bs && stmt_early b
  stmt_early (while_loop e b) = holds is_early e && stmt_early b
  stmt_early (for_loop h e b) = holds is_early e && stmt_early b
  stmt_early (switch slot e cs b) = holds is_early e && (cases_early cs && stmt_early b)

  pub stmts_early : Stmts → Bool
  stmts_early no_stmts = true
  stmts_early (more_stmts b ss) = stmt_early b && stmts_early ss

  pub branches_early : Branches → Bool
  branches_early no_branches = true
  branches_early (more_branches e b bs) = holds is_early e && (stmt_early b && branches_early bs)

  pub cases_early : Cases → Bool
  cases_early no_cases = true
  cases_early (more_cases es b cs) = all_hold is_early es && (stmt_early b && cases_early cs)

-- what names are: without parts
abbrev pub is_leaf : Expr → Bool
is_leaf (leaf h) = true
is_leaf e = false

-- members of units without sinks, and of bitfields
abbrev pub is_early_member : OneOp → Bool
is_early_member (one_is.Field n) = true
is_early_member (one_is.Variable n) = true
is_early_member (one_is.Bit n) = true
is_early_member op = false

-- a method that isn't built has the name of one
abbrev pub is_called_so : List ℕ → ManyOp → Bool
is_called_so x (many_is.Method m slot) = true
is_called_so x (many_is.OfUnit m name) = is_offset m || is_late_unit_method x
is_called_so x (many_is.OfSink m) = is_sink_method x
is_called_so x op = false

-- What stands round an expression: names are leaves, no member is a sink, and methods have their names.
pub record AreEarly (g : Around) : Type 0 where
  pub path : (span : Span) (path : Tree) → is_leaf (g.path span path) ≡ true
  pub named : (span : Span) (path : Tree) → is_leaf (g.named span path) ≡ true
  pub itself : (span : Span) → is_leaf (g.itself span) ≡ true
  pub current : (span : Span) → is_leaf (g.current span) ≡ true
  pub left_out : (op : ManyOp) (span : Span) (n : ℕ) → all_hold is_early (exprs (g.left_out op span n)) ≡ true
  pub member : (t : Ty) (name : List ℕ) (found : Member) → g.member t name ≡ Some found → is_early_member found.op ≡ true
  pub method : (t : Ty) (name : List ℕ) (at : Span) (ts : List Ty) (found : Callable) → g.method t name at ts ≡ Some found → is_called_so name found.op ≡ true
