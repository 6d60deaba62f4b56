-- A test that holds of each node that typing makes, where it holds of what is named: what is asked of a test for that.
use Rattle.std.specs.Prelude.{ℕ, ◌≡◌, Bool, List, map, Option, Some, IsTrue}
use Rattle.sp_base.specs.declared.places.Span.{Span}
use Rattle.sp_words.specs.declared.operators.BinaryOp.{BinaryOp}
use Rattle.sp_words.specs.declared.operators.UnaryOp.{UnaryOp}
use Rattle.sp_words.specs.declared.words.IntWord.{IntWord}
use Rattle.sp_ast.specs.Trees.{Tree}
use Rattle.sp_types.specs.declared.words.Word.{Word}
use Rattle.sp_types.specs.declared.words.Word.TheVariants as word_is
use Rattle.sp_types.specs.declared.words.Maker.{Maker}
use Rattle.sp_types.specs.declared.words.Maker.TheVariants as maker_is
use Rattle.sp_types.specs.Types.{Ty, word, widens}
use Rattle.sp_typed.specs.declared.words.LeafOp.TheVariants as leaf_is
use Rattle.sp_typed.specs.declared.words.OneOp.TheVariants as one_is
use Rattle.sp_typed.specs.declared.words.ManyOp.{ManyOp}
use Rattle.sp_typed.specs.declared.words.ManyOp.TheVariants as many_is
use Rattle.sp_typed.specs.declared.words.Written.{Written}
use Rattle.sp_typed.specs.Exprs.{Expr, exprs, span_of, is_literal, retyped}
use Rattle.sp_typed.specs.Nodes.{holds, all_hold}
use Rattle.sp_type_operands.specs.Operands.{unknown, boolean}
use Rattle.sp_type_operands.specs.Literals.{unsigned_literal, can_take, seen}
use Rattle.sp_type_context.specs.declared.context.Callable.{Callable}
use Rattle.sp_type_context.specs.Contexts.{Around}
use Rattle.sp_type_context.specs.Typing.{leaf_at, one_at, size_type, cast_type, unary_at, joined, chosen, tuple_at, row_at, in_turn, map_of, member_of, set_member_of, indexed, no_call, call_at, method_found, new_at}
use Rattle.sp_types.specs.Integers.{int_word}

-- The nodes of what is named, and of what stands for arguments that were left out; a literal that takes an integer type; nodes without
-- parts; and each node round its parts, where it holds of these.
pub record Makes (g : Around) (p : Expr → Bool) : Type 0 where
  pub path : (span : Span) (path : Tree) → IsTrue (holds p (g.path span path))
  pub named : (span : Span) (path : Tree) → IsTrue (holds p (g.named span path))
  pub itself : (span : Span) → IsTrue (holds p (g.itself span))
  pub current : (span : Span) → IsTrue (holds p (g.current span))
  pub left_out : (op : ManyOp) (span : Span) (n : ℕ) → IsTrue (all_hold p (exprs (g.left_out op span n)))
  pub taken : (w : Word) (e : Expr) → IsTrue (is_literal e) → IsTrue (can_take w) → IsTrue (holds p e) → IsTrue (holds p (retyped (word w) e))
  pub truth : (span : Span) → IsTrue (p (leaf_at span boolean leaf_is.True))
  pub falsehood : (span : Span) → IsTrue (p (leaf_at span boolean leaf_is.False))
  pub number : (span : Span) (n : ℕ) → IsTrue (p (leaf_at span (word unsigned_literal) (leaf_is.Number n)))
  pub text : (span : Span) (x : List ℕ) → IsTrue (p (leaf_at span (word word_is.String) (leaf_is.Text x)))
  pub bytes : (span : Span) (x : List ℕ) → IsTrue (p (leaf_at span (word word_is.Bytes) (leaf_is.Bytes x)))
  pub regex : (span : Span) (x : List ℕ) → IsTrue (p (leaf_at span (word word_is.Regex) (leaf_is.Regex x)))
  pub empty : (span : Span) (t : Ty) (w : Written) → IsTrue (p (leaf_at span t (leaf_is.Empty w)))
  pub typed_number : (span : Span) (w : IntWord) (n : ℕ) → IsTrue (p (leaf_at span (word (int_word w)) (leaf_is.TypedNumber n)))
  pub no_expression : (span : Span) → IsTrue (p (leaf_at span unknown leaf_is.Name))
  pub widened : (t : Ty) (e : Expr) → IsTrue (widens (seen e) t) → IsTrue (p (one_at (span_of e) t one_is.Widen e))
  pub cast : (span : Span) (t : Ty) (w : Written) (e : Expr) → IsTrue (p (one_at span (cast_type t) (one_is.Cast w) e))
  pub size : (span : Span) (e : Expr) → IsTrue (p (one_at span size_type one_is.Size e))
  pub unary : (span : Span) (op : UnaryOp) (e : Expr) → IsTrue (p (unary_at span op e))
  pub binary : (span : Span) (op : BinaryOp) (a b : Expr) → IsTrue (p (joined span op a b))
  pub choice : (span : Span) (c a b : Expr) → IsTrue (p (chosen span c a b))
  pub tuple : (span : Span) (es : List Expr) → IsTrue (p (tuple_at span es))
  pub vector : (span : Span) (es : List Expr) → IsTrue (p (row_at span maker_is.Vector many_is.Vector es))
  pub set : (span : Span) (es : List Expr) → IsTrue (p (row_at span maker_is.Set many_is.Set es))
  pub entries : (span : Span) (key value : Ty) (ps : List (Expr × Expr)) → IsTrue (p (map_of span (in_turn key value ps)))
  pub member : (span : Span) (name : Tree) (e : Expr) → IsTrue (p (member_of g span name e))
  pub set_member : (span : Span) (name : Tree) (e : Expr) → IsTrue (p (set_member_of g span name e))
  pub no_member : (span name : Span) (e : Expr) → IsTrue (p (one_at span unknown (one_is.NoMember name) e))
  pub index : (span : Span) (a i : Expr) → IsTrue (p (indexed g span a i))
  pub no_callee : (span : Span) (callee : Expr) (es : List Expr) → IsTrue (p (no_call span callee es))
  pub call : (span : Span) (callee : Expr) (es : List Expr) → IsTrue (p (call_at g span callee es))
  pub method : (span at : Span) (name : List ℕ) (found : Callable) (object : Expr) (es : List Expr) → g.method (seen object) name at (map seen es) ≡ Some found → IsTrue (p (method_found g span found object es))
  pub start : (span path : Span) (callee : Expr) (es : List Expr) → IsTrue (p (new_at g span path callee es))
