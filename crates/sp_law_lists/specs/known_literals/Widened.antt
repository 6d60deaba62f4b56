-- What is widened has a number of its type.
use Rattle.std.specs.Prelude.{ℕ, ◌≡◌, Bool, true, false, not, ◌&&◌, if◌then◌else◌, List, Some, IsTrue}
use Rattle.sp_base.specs.declared.places.Span.{Span}
use Rattle.sp_ast.specs.Trees.{Tree}
use Rattle.sp_types.specs.Types.{Ty}
use Rattle.sp_typed.specs.declared.words.OneOp.{OneOp}
use Rattle.sp_typed.specs.declared.words.OneOp.TheVariants as one_is
use Rattle.sp_typed.specs.declared.words.ManyOp.{ManyOp}
use Rattle.sp_typed.specs.Exprs.{Expr, one, exprs}
use Rattle.sp_typed.specs.Nodes.{holds, all_hold}
use Rattle.sp_type_operands.specs.Literals.{is_past}
use Rattle.sp_type_context.specs.declared.context.Member.{Member}
use Rattle.sp_type_context.specs.Contexts.{Around}
use Rattle.sp_rule_bodies.specs.Known.{Known}
use Rattle.sp_rule_bodies.specs.ExprTests.{expr_tests}
use Rattle.sp_law_lists.specs.known_types.Clear.{none_hold}

abbrev pub is_widen : OneOp → Bool
is_widen one_is.Widen = true
is_widen _ = false

-- a node that widens stands on no literal past its type
abbrev pub widens_value : Expr → Bool
widens_value (one h a) = if is_widen h.op then not (is_past a) else true
widens_value _ = true

-- where no rule is broken at a node either
abbrev pub is_sound : Known → ℕ → Expr → Bool
is_sound k m e = widens_value e && none_hold (expr_tests k m e)

abbrev pub IsWidened : Expr → Type 0
IsWidened e = IsTrue (holds widens_value e)

-- So is all that stands round an expression; and members widen nothing.
pub record AreWidened (g : Around) : Type 0 where
  pub path : (span : Span) (path : Tree) → IsWidened (g.path span path)
  pub named : (span : Span) (path : Tree) → IsWidened (g.named span path)
  pub itself : (span : Span) → IsWidened (g.itself span)
  pub current : (span : Span) → IsWidened (g.current span)
  pub member : (t : Ty) (name : List ℕ) (found : Member) → g.member t name ≡ Some found → is_widen found.op ≡ false
  pub left_out : (op : ManyOp) (span : Span) (n : ℕ) → IsTrue (all_hold widens_value (exprs (g.left_out op span n)))
