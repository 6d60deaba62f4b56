-- What typing makes widens no literal past its type.
use Rattle.std.specs.Prelude.{Bool, true, false, not, if◌then◌else◌, Option, Some, None}
use Rattle.std.proofs.Common.{◌≡◌, refl, sym}
use Rattle.sp_base.specs.declared.places.Span.{Span}
use Rattle.sp_words.specs.declared.operators.UnaryOp.{UnaryOp}
use Rattle.sp_words.specs.declared.operators.UnaryOp.TheVariants as unary_is
use Rattle.sp_ast.specs.Trees.{Tree}
use Rattle.sp_ast.specs.Trees as read
use Rattle.sp_types.specs.declared.words.Word.TheVariants as word_is
use Rattle.sp_types.specs.Types.{Ty, word, made, widens}
use Rattle.sp_typed.specs.declared.words.OneOp.{OneOp}
use Rattle.sp_typed.specs.declared.words.OneOp.TheVariants as one_is
use Rattle.sp_typed.specs.Exprs.{Expr, leaf, one, two, three, many, type_of, retyped}
use Rattle.sp_typed.specs.Nodes.{holds}
use Rattle.sp_type_operands.specs.Operands.{unknown}
use Rattle.sp_type_operands.specs.Literals.{is_past, seen}
use Rattle.sp_type_context.specs.declared.context.Member.{Member}
use Rattle.sp_type_context.specs.Contexts.{Around}
use Rattle.sp_type_context.specs.Typing.{typed, name_of, member_at, set_op, set_member_at, unary_at}
use Rattle.sp_law_lists.proofs.known_types_lemmas.Full.{never}
use Rattle.sp_law_lists.specs.made_nodes.Makes.{Makes}
use Rattle.sp_law_lists.proofs.made_nodes_lemmas.Shapes.{element_holds, call_holds, start_holds}
use Rattle.sp_law_lists.proofs.made_nodes_lemmas.Nodes.{typed_holds}
use Rattle.sp_law_lists.specs.known_literals.Widened.{is_widen, widens_value, AreWidened}

-- literals take types
retyped_is : (t : Ty) (e : Expr) → holds widens_value e ≡ true → holds widens_value (retyped t e) ≡ true
retyped_is t (leaf h) i = i
retyped_is t (one h a) i = i
retyped_is t (two h a b) i = i
retyped_is t (three h a b c) i = i
retyped_is t (many h es) i = i

-- what is past its type isn't widened
unknown_widens : (t : Ty) → widens unknown t ≡ true → false ≡ true
unknown_widens (word (word_is.Uint w)) e = e
unknown_widens (word (word_is.Int w)) e = e
unknown_widens (word _) e = e
unknown_widens (made maker ts) e = e

within_is : (t u : Ty) (b : Bool) → widens (if b then unknown else u) t ≡ true → not b ≡ true
within_is t u true w = unknown_widens t w
within_is t u false w = refl

unary_is_fine : (span : Span) (op : UnaryOp) (e : Expr) → widens_value (unary_at span op e) ≡ true
unary_is_fine span unary_is.Not e = refl
unary_is_fine span unary_is.Negate e = refl
unary_is_fine span unary_is.Complement e = refl

-- members
no_widening : (b c : Bool) → b ≡ false → (if b then c else true) ≡ true
no_widening true c e = never (sym e)
no_widening false c e = refl

member_is : (span name : Span) (o : Option Member) (e : Expr) → ((x : Member) → o ≡ Some x → is_widen x.op ≡ false) → widens_value (member_at span name o e) ≡ true
member_is span name None e m = refl
member_is span name (Some x) e m = no_widening (is_widen x.op) (not (is_past e)) (m x refl)

set_op_is : (op : OneOp) (name : Span) → is_widen (set_op op name) ≡ false
set_op_is (one_is.Field k) name = refl
set_op_is _ name = refl

set_member_is : (span name : Span) (o : Option Member) (e : Expr) → widens_value (set_member_at span name o e) ≡ true
set_member_is span name None e = refl
set_member_is span name (Some x) e = no_widening (is_widen (set_op x.op name)) (not (is_past e)) (set_op_is x.op name)

makes : (g : Around) → AreWidened g → Makes g widens_value
makes g known = record {
  path = known.path;
  named = known.named;
  itself = known.itself;
  current = known.current;
  left_out = known.left_out;
  taken = λ w e literal may i. retyped_is (word w) e i;
  truth = λ span. refl;
  falsehood = λ span. refl;
  number = λ span n. refl;
  text = λ span x. refl;
  bytes = λ span x. refl;
  regex = λ span x. refl;
  empty = λ span t w. refl;
  typed_number = λ span w n. refl;
  no_expression = λ span. refl;
  widened = λ t e w. within_is t (type_of e) (is_past e) w;
  cast = λ span t w e. refl;
  size = λ span e. refl;
  unary = unary_is_fine;
  binary = λ span op a b. refl;
  choice = λ span c a b. refl;
  tuple = λ span es. refl;
  vector = λ span es. refl;
  set = λ span es. refl;
  entries = λ span key value ps. refl;
  member = λ span name e. member_is span (read.span_of name) (g.member (seen e) (name_of name)) e (known.member (seen e) (name_of name));
  set_member = λ span name e. set_member_is span (read.span_of name) (g.member (seen e) (name_of name)) e;
  no_member = λ span name e. refl;
  index = element_holds widens_value g (λ h a b e. refl);
  no_callee = λ span callee es. refl;
  call = call_holds widens_value g (λ h es. refl);
  method = λ span at name found object es is. refl;
  start = start_holds widens_value g (λ h es. refl);
}

-- What is typed.
pub typed_is : (g : Around) → AreWidened g → (t : Tree) → holds widens_value (typed g t) ≡ true
typed_is g known t = typed_holds g widens_value (makes g known) t
