-- What is known of an expression in which no rule is broken.
use Rattle.std.specs.Prelude.{◌≡◌, ◌⊎◌, ℕ, Bool, Option, IsTrue, IsFalse}
use Rattle.std.specs.List.{list_all}
use Rattle.sp_rules.specs.declared.fault.Fault.{Fault}
use Rattle.sp_ast.specs.Trees.{Tree}
use Rattle.sp_ast.specs.Groups.{is_of}
use Rattle.sp_ast.specs.Slots.{is_formed}
use Rattle.sp_ast.specs.declared.groups.Group.TheVariants.{Expressions}
use Rattle.sp_types.specs.Types.{Ty}
use Rattle.sp_typed.specs.declared.words.OneOp.{OneOp}
use Rattle.sp_typed.specs.Exprs.{Expr}
use Rattle.sp_typed.specs.Stmts.{Stmt}
use Rattle.sp_typed.specs.StmtNodes.{stmts_in}
use Rattle.sp_typed.specs.Nodes.{IsWhole, holds}
use Rattle.sp_type_context.specs.Contexts.{Around}
use Rattle.sp_type_context.specs.Typing.{typed}
use Rattle.sp_rule_bodies.specs.Known.{Known}
use Rattle.sp_rule_bodies.specs.Values.{is_no_value}
use Rattle.sp_rule_bodies.specs.Sweeps.{Breaks}
use Rattle.sp_law_lists.specs.known_types.Full.{is_right, is_bare, holds_inside}
use Rattle.sp_law_lists.specs.known_types.Trees.{is_expr, written_hold}
use Rattle.sp_law_lists.specs.known_types.Clear.{names_something, may_stand, is_clear}
use Rattle.sp_law_lists.specs.known_types.Given.{IsKnown}
use Rattle.sp_law_lists.specs.known_types.Stmts.{is_good, exprs_hold, is_quiet}

-- Where all that an expression can name is known, no rule is broken at its nodes, and each of them may stand there, each node inside it has a value of a
-- full type; and so has the expression itself, unless it is a name that is no value or the key of a set. An expression that
-- stands as a value is whole.
abbrev pub TypesAreKnownInside : Type 0
TypesAreKnownInside =
    (g : Around) (only : OneOp → Bool) (k : Known) (m : ℕ) (is_type is_path : Tree → Bool) (t : Tree)
    → IsKnown g only k m is_type is_path
    → IsTrue (is_expr is_type is_path t) → IsTrue (holds (is_clear only k m) (typed g t))
    → IsTrue (holds_inside is_right (typed g t))
    × (IsTrue (is_right (typed g t)) ⊎ IsTrue (is_bare (typed g t)))

abbrev pub TypesAreKnownValues : Type 0
TypesAreKnownValues =
    (g : Around) (only : OneOp → Bool) (k : Known) (m : ℕ) (is_type is_path : Tree → Bool) (t : Tree)
    → IsKnown g only k m is_type is_path
    → IsTrue (is_expr is_type is_path t) → IsTrue (holds (is_clear only k m) (typed g t))
    → IsFalse (is_no_value (typed g t)) → IsWhole (typed g t)

-- A tree of the group of expressions in which each alternative has its parts is one of an expression, where tests hold of each
-- type and of each path that is written in it.
abbrev pub FormedIsExpr : Type 0
FormedIsExpr =
    (is_type is_path : Tree → Bool) (t : Tree) → IsTrue (is_of Expressions t)
    → IsTrue (is_formed t) → IsTrue (written_hold is_type is_path t) → IsTrue (is_expr is_type is_path t)

-- Where each name in an expression names something, each node may stand there, and no rule of bodies is broken in it, each node
-- is clear.
abbrev pub UnbrokenIsClear : Type 0
UnbrokenIsClear =
    (only : OneOp → Bool) (k : Known) (m : ℕ) (e : Expr) → IsTrue (holds names_something e)
    → IsTrue (holds (may_stand only) e) → ((f : Fault) → Breaks k m e f → ⊥)
    → IsTrue (holds (is_clear only k m) e)

-- Where each node inside the expressions of a statement is right, and each of these is right or bare, and no rule is broken at
-- the statement and at those in it, each node of each expression is right, but that `add` and `delete` may take the key of a
-- set.
abbrev pub ValuesInBodies : Type 0
ValuesInBodies =
    (k : Known) (wanted : Option Ty) (m : ℕ) (s : Stmt)
    → IsTrue (exprs_hold is_good is_good s)
    → IsTrue (list_all (is_quiet k wanted m) (stmts_in s))
    → IsTrue (exprs_hold (holds is_right) is_good s)
