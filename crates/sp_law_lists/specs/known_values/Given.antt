-- What names mean as constants: it fits their types.
use Rattle.std.specs.Prelude.{ℕ, ◌≡◌, Bool, List, Some, IsTrue, IsFalse}
use Rattle.sp_base.specs.declared.places.Span.{Span}
use Rattle.sp_ast.specs.Trees.{Tree}
use Rattle.sp_types.specs.Types.{Ty}
use Rattle.sp_typed.specs.declared.words.OneOp.{OneOp}
use Rattle.sp_typed.specs.Exprs.{Expr, type_of}
use Rattle.sp_typed.specs.Nodes.{holds}
use Rattle.sp_type_operands.specs.Literals.{is_past}
use Rattle.sp_type_context.specs.declared.context.Member.{Member}
use Rattle.sp_type_context.specs.declared.context.Callable.{Callable}
use Rattle.sp_type_context.specs.Contexts.{Around}
use Rattle.sp_rule_bodies.specs.Known.{Known}
use Rattle.sp_type_constants.specs.Known.{Known as Values}
use Rattle.sp_type_constants.specs.Values.{value_of}
use Rattle.sp_law_lists.specs.known_types.Full.{is_right}
use Rattle.sp_law_lists.specs.known_types.Clear.{is_clear}
use Rattle.sp_law_lists.specs.known_types.Given.{is_member_op, is_method_op}
use Rattle.sp_law_lists.specs.known_values.Values.{fits}

-- Where no rule is broken in an expression, each node is a value of a full type, and it is no literal past its type, it is known what it is
-- as a constant, and that fits its type.
abbrev pub IsTold : (OneOp → Bool) → Known → ℕ → Values → Expr → Type 0
IsTold only k m v e = IsTrue (holds (is_clear only k m) e) → IsTrue (holds is_right e) → IsFalse (is_past e) → IsTrue (fits (type_of e) (value_of v e))

-- What names mean: paths that a test lets through, `self` and `$$` are told; members and methods are those of the library, of units, of
-- sinks and of bitfields, and no constants.
pub record AreTold (g : Around) (only : OneOp → Bool) (k : Known) (m : ℕ) (v : Values) (is_path : Tree → Bool) : Type 0 where
  pub path : (span : Span) (path : Tree) → IsTrue (is_path path) → IsTold only k m v (g.path span path)
  pub itself : (span : Span) → IsTold only k m v (g.itself span)
  pub current : (span : Span) → IsTold only k m v (g.current span)
  pub member : (t : Ty) (name : List ℕ) (found : Member) → g.member t name ≡ Some found → IsTrue (only found.op) → IsTrue (is_member_op found.op)
  pub method : (t : Ty) (name : List ℕ) (span : Span) (ts : List Ty) (found : Callable) → g.method t name span ts ≡ Some found → IsTrue (is_method_op found.op)
