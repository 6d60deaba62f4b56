-- What stands round an expression where all that it can name is known.
use Rattle.std.specs.Prelude.{ℕ, ◌≡◌, Bool, true, false, ◌&&◌, ◌||◌, List, Some, is_none, IsTrue, IsFalse}
use Rattle.sp_base.specs.declared.places.Span.{Span}
use Rattle.sp_ast.specs.Trees.{Tree}
use Rattle.sp_types.specs.Types.{Ty, is_plain, is_key}
use Rattle.sp_typed.specs.declared.words.LeafOp.{LeafOp}
use Rattle.sp_typed.specs.declared.words.LeafOp.TheVariants as leaf_is
use Rattle.sp_typed.specs.declared.words.OneOp.{OneOp}
use Rattle.sp_typed.specs.declared.words.OneOp.TheVariants as one_is
use Rattle.sp_typed.specs.declared.words.ManyOp.{ManyOp}
use Rattle.sp_typed.specs.declared.words.ManyOp.TheVariants as many_is
use Rattle.sp_typed.specs.Exprs.{Expr, leaf, exprs, type_of}
use Rattle.sp_typed.specs.Nodes.{holds, all_hold}
use Rattle.sp_type_context.specs.declared.places.Place.{Place}
use Rattle.sp_type_context.specs.declared.places.Place.TheVariants.{Value, Key}
use Rattle.sp_type_context.specs.declared.context.Member.{Member}
use Rattle.sp_type_context.specs.declared.context.Callable.{Callable}
use Rattle.sp_type_context.specs.Contexts.{Around}
use Rattle.sp_type_operands.specs.Operands.{is_unsigned}
use Rattle.sp_type_operands.specs.Literals.{is_past}
use Rattle.sp_type_context.specs.Typing.{typed}
use Rattle.sp_rule_bodies.specs.declared.facts.Constancy.{Constancy}
use Rattle.sp_rule_bodies.specs.Known.{Known}
use Rattle.sp_rule_bodies.specs.Values.{names_no_value}
use Rattle.sp_rule_bodies.specs.ExprTests.{is_unmeant, is_constant, is_not_constant}
use Rattle.sp_law_lists.specs.known_types.Full.{is_full, is_right, is_unknown}
use Rattle.sp_law_lists.specs.known_types.Trees.{is_expr}
use Rattle.sp_law_lists.specs.known_types.Clear.{is_clear}

-- What a path, `self` and `$$` may be: what names nothing or isn't meant, which is refused; a value of a full type; and a name
-- that is no value, which has no type. What a function gives has a full type.
abbrev pub may_be : (ℕ → Ty) → LeafOp → Ty → Bool
may_be result (leaf_is.Nothing name) t = true
may_be result (leaf_is.Itself s) t = is_unmeant s || is_full t
may_be result (leaf_is.Current s) t = is_unmeant s || is_full t
may_be result (leaf_is.Local slot) t = is_full t
may_be result (leaf_is.Parameter n s) t = is_full t
may_be result (leaf_is.Constant n) t = is_full t
may_be result (leaf_is.Label owner n) t = is_full t
may_be result (leaf_is.Function n) t = is_unknown t && is_full (result n)
may_be result op t = names_no_value op && is_unknown t

abbrev pub is_named : (ℕ → Ty) → Expr → Bool
is_named result (leaf h) = may_be result h.op h.ty
is_named result _ = false

-- a member is a field, a variable or a sink of a unit, or a range of a bitfield
abbrev pub is_member_op : OneOp → Bool
is_member_op (one_is.Field n) = true
is_member_op (one_is.Variable n) = true
is_member_op (one_is.SinkOf n) = true
is_member_op (one_is.Bit n) = true
is_member_op _ = false

abbrev pub is_member : Member → Bool
is_member m = is_member_op m.op && is_full m.ty

-- a method is one of the library, of units or of sinks
abbrev pub is_method_op : ManyOp → Bool
is_method_op (many_is.Method method slot) = true
is_method_op (many_is.OfUnit method name) = true
is_method_op (many_is.OfSink method) = true
is_method_op _ = false

-- whether it is known if an expression is constant
abbrev pub is_decided : Constancy → Bool
is_decided c = is_constant c || is_not_constant c

-- All that can be named is known: what the paths are that one test lets through, and what `self` and `$$`; the types that are
-- written and that another test lets through: each name in them names something, and where each part may stand where it does,
-- they are full, plain where a value is kept, and of a type of keys where a key is; the members that may be taken of a value, and
-- what methods of values of full types give; what stands for arguments that were left out; and whether an index is constant, where
-- no rule is broken in it.
pub record IsKnown (g : Around) (only : OneOp → Bool) (k : Known) (m : ℕ) (is_type is_path : Tree → Bool) : Type 0 where
  pub path : (span : Span) (path : Tree) → IsTrue (is_path path) → IsTrue (is_named g.result (g.path span path))
  pub named : (span : Span) (path : Tree) → IsTrue (is_path path) → IsTrue (is_named g.result (g.named span path))
  pub itself : (span : Span) → IsTrue (is_named g.result (g.itself span))
  pub current : (span : Span) → IsTrue (is_named g.result (g.current span))
  pub names_types : (place : Place) (t : Tree) → IsTrue (is_type t) → IsTrue (is_none (g.written place t).unnamed)
  pub type_in : (place : Place) (t : Tree) → IsTrue (is_type t) → IsTrue (is_none (g.written place t).misplaced) → IsTrue (is_full (g.type_in place t))
  pub kept : (t : Tree) → IsTrue (is_type t) → IsTrue (is_none (g.written Value t).misplaced) → IsTrue (is_plain (g.type_in Value t))
  pub key : (t : Tree) → IsTrue (is_type t) → IsTrue (is_none (g.written Key t).misplaced) → IsTrue (is_key (g.type_in Key t))
  pub member : (t : Ty) (name : List ℕ) (found : Member) → g.member t name ≡ Some found → IsTrue (only found.op) → IsTrue (is_member found)
  pub method : (t : Ty) (name : List ℕ) (span : Span) (ts : List Ty) (found : Callable) → g.method t name span ts ≡ Some found → IsTrue (is_method_op found.op)
  pub gives : (t : Ty) (name : List ℕ) (span : Span) (ts : List Ty) (found : Callable) → g.method t name span ts ≡ Some found → IsTrue (is_full t) → IsTrue (is_full found.ty)
  pub left_out : (op : ManyOp) (span : Span) (n : ℕ) → IsTrue (all_hold is_right (exprs (g.left_out op span n)))
  pub index : (i : Tree) → IsTrue (is_expr is_type is_path i) → IsTrue (holds (is_clear only k m) (typed g i)) → IsTrue (holds is_right (typed g i)) → IsFalse (is_past (typed g i)) → IsTrue (is_unsigned (type_of (typed g i))) → IsTrue (is_decided (k.constancy (typed g i)))
