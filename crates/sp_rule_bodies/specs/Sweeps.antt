-- What is broken in an expression, and in a body.
use Rattle.std.specs.Prelude.{ℕ, Bool, true, not, ◌&&◌, ◌⊎◌, List, [], ◌∷◌, Option, is_none}
use Rattle.sp_base.specs.declared.places.Span.{Span}
use Rattle.sp_rules.specs.declared.rule.Rule.TheVariants as rule_is
use Rattle.sp_rules.specs.declared.fault.Fault.{Fault}
use Rattle.sp_rules.specs.Least.{checked, Among}
use Rattle.sp_types.specs.Types.{Ty}
use Rattle.sp_typed.specs.Exprs.{Expr}
use Rattle.sp_typed.specs.Nodes.{nodes}
use Rattle.sp_typed.specs.Stmts.{Stmt}
use Rattle.sp_typed.specs.StmtNodes.{stmt_nodes, stmts_in}
use Rattle.sp_rule_bodies.specs.Known.{Known}
use Rattle.sp_rules.specs.Faults.{at}
use Rattle.sp_rule_bodies.specs.ExprTests.{expr_tests}
use Rattle.sp_rule_bodies.specs.StmtTests.{stmt_tests}
use Rattle.sp_rule_bodies.specs.Ends.{ends_well}

-- the least fault after the tests at each of some nodes
abbrev pub swept_nodes : Known → ℕ → Option Fault → List Expr → Option Fault
swept_nodes k m least [] = least
swept_nodes k m least (e ∷ es) = swept_nodes k m (checked least (expr_tests k m e)) es

-- the least fault after the tests at each of some statements
abbrev pub swept_stmts : Known → Option Ty → ℕ → Option Fault → List Stmt → Option Fault
swept_stmts k wanted m least [] = least
swept_stmts k wanted m least (s ∷ ss) = swept_stmts k wanted m (checked least (stmt_tests k wanted m s)) ss

-- the least fault after the tests at all nodes of an expression
abbrev pub swept_expr : Known → ℕ → Option Fault → Expr → Option Fault
swept_expr k m least e = swept_nodes k m least (nodes e)

-- the least fault after the tests at all statements of a body, and at all nodes of its expressions
abbrev pub swept_body : Known → Option Ty → ℕ → Option Fault → Stmt → Option Fault
swept_body k wanted m least s = swept_nodes k m (swept_stmts k wanted m least (stmts_in s)) (stmt_nodes s)

-- a function with a result, whose body may end without one, on the slice of its name
abbrev pub end_tests : Option Ty → ℕ → Span → Stmt → List (Bool × Fault)
end_tests wanted m name s = (not (is_none wanted) && not (ends_well s), at m rule_is.MissingReturn name) ∷ []

-- A rule is broken at a node of an expression.
abbrev pub Breaks : Known → ℕ → Expr → Fault → Type 0
Breaks k m e f = (n : Expr) × Among (nodes e) n × Among (expr_tests k m n) (true, f)

-- A rule is broken at a statement of a body, or at a node of one of its expressions.
abbrev pub BreaksIn : Known → Option Ty → ℕ → Stmt → Fault → Type 0
BreaksIn k wanted m s f =
    ((t : Stmt) × Among (stmts_in s) t × Among (stmt_tests k wanted m t) (true, f)) ⊎ ((n : Expr) × Among (stmt_nodes s) n × Among (expr_tests k m n) (true, f))
