-- What typing makes of the tree of a constant's value.
use Rattle.std.specs.Prelude.{ℕ, Bool, true, false, ◌&&◌, if◌then◌else◌, List, map, Option, Some, None}
use Rattle.std.proofs.Common.{◌≡◌, inl, refl}
use Rattle.std.proofs.lemmas.Bool.{and_parts}
use Rattle.sp_base.specs.declared.places.Span.{Span}
use Rattle.sp_words.specs.declared.operators.BinaryOp.{BinaryOp}
use Rattle.sp_ast.specs.Trees.{Tree, row, node, none, more}
use Rattle.sp_ast.specs.Trees as read
use Rattle.sp_ast.specs.declared.forms.Form.TheVariants as form_is
use Rattle.sp_ast.specs.declared.forms.ExprForm.TheVariants as expr_is
use Rattle.sp_types.specs.declared.words.Word.{Word}
use Rattle.sp_types.specs.declared.words.Word.TheVariants as word_is
use Rattle.sp_types.specs.declared.words.Maker.TheVariants as maker_is
use Rattle.sp_types.specs.Types.{Ty, Tys, word, made}
use Rattle.sp_typed.specs.declared.words.LeafOp.{LeafOp}
use Rattle.sp_typed.specs.declared.words.LeafOp.TheVariants as leaf_is
use Rattle.sp_typed.specs.declared.words.NewOf.{NewOf}
use Rattle.sp_typed.specs.Exprs.{Expr, leaf, one, two, three, many}
use Rattle.sp_type_operands.specs.Operands.{key_of, sort_of}
use Rattle.sp_type_operands.specs.Literals.{seen}
use Rattle.sp_type_context.specs.declared.context.Member.{Member}
use Rattle.sp_type_context.specs.declared.context.Callable.{Callable}
use Rattle.sp_type_context.specs.Contexts.{Around}
use Rattle.sp_type_context.specs.Typing.{typed, typed_all, name_of, joined, is_membership, binary_at, agreeing, to_target, member_at, set_member_at, part_at, item_of, item_at, index_at, callee_op, call_by, call_at, method_of, started, new_by}
use Rattle.sp_rule_bodies.specs.Known.{Known}
use Rattle.sp_type_constants.specs.Known.{Known as Values}
use Rattle.sp_law_lists.specs.known_types.Trees.{is_expr}
use Rattle.sp_law_lists.specs.known_types.Given.{IsKnown}
use Rattle.sp_law_lists.proofs.known_types_lemmas.Full.{never}
use Rattle.sp_law_lists.proofs.known_types_lemmas.Typed.{typed_holds}
use Rattle.sp_law_lists.specs.known_values.Given.{AreTold}
use Rattle.sp_law_lists.proofs.known_values_lemmas.Typed.{typed_told}
use Rattle.sp_law_lists.specs.known_constants.Good.{constant_op}
use Rattle.sp_law_lists.proofs.known_constants_lemmas.Spines.{is_three, Spine, choice_spine}

-- no other node is a choice
member_three : (span name : Span) (o : Option Member) (e : Expr) → is_three (member_at span name o e) ≡ false
member_three span name None e = refl
member_three span name (Some found) e = refl

set_member_three : (span name : Span) (o : Option Member) (e : Expr) → is_three (set_member_at span name o e) ≡ false
set_member_three span name None e = refl
set_member_three span name (Some found) e = refl

item_three : (span : Span) (o : Option Ty) (n : ℕ) (a i : Expr) → is_three (item_of span o n a i) ≡ false
item_three span None n a i = refl
item_three span (Some t) n a i = refl

items_three : (span : Span) (ts : Tys) (o : Option ℕ) (a i : Expr) → is_three (item_at span ts o a i) ≡ false
items_three span ts None a i = refl
items_three span ts (Some n) a i = item_three span (part_at ts n) n a i

index_three : (g : Around) (span : Span) (t : Ty) (a i : Expr) → is_three (index_at g span t a i) ≡ false
index_three g span (made maker_is.Vector ts) a i = refl
index_three g span (made maker_is.Map ts) a i = refl
index_three g span (made maker_is.Set ts) a i = refl
index_three g span (made maker_is.Tuple ts) a i = items_three span ts (g.item i) a i
index_three g span (word w) a i = refl

binary_three : (span : Span) (op : BinaryOp) (a b : Expr) → is_three (binary_at span op a b) ≡ false
binary_three span op a b = by (is_membership (sort_of op))
  where
    by : (c : Bool) → is_three (if c then joined span op (to_target (key_of (seen b)) a) b else joined span op (agreeing a b).0 (agreeing a b).1) ≡ false
    by true = refl
    by false = refl

method_three : (g : Around) (span member name : Span) (o : Option Callable) (object : Expr) (es : List Expr) → is_three (method_of g span member name o object es) ≡ false
method_three g span member name None object es = refl
method_three g span member name (Some found) object es = refl

new_three : (g : Around) (span path : Span) (o : Option NewOf) (callee : Expr) (es : List Expr) → is_three (new_by g span path o callee es) ≡ false
new_three g span path None callee es = refl
new_three g span path (Some u) callee es = refl

type_call_three : (g : Around) (span : Span) (w : Word) (callee : Expr) (es : List Expr) → is_three (call_by g span (callee_op (leaf_is.TypeName w)) callee es) ≡ false
type_call_three g span (word_is.Enum n) callee es = refl
type_call_three g span _ callee es = refl

leaf_call_three : (g : Around) (span : Span) (op : LeafOp) (callee : Expr) (es : List Expr) → is_three (call_by g span (callee_op op) callee es) ≡ false
leaf_call_three g span (leaf_is.Function n) callee es = refl
leaf_call_three g span (leaf_is.TypeName w) callee es = type_call_three g span w callee es
leaf_call_three g span _ callee es = refl

call_three : (g : Around) (span : Span) (callee : Expr) (es : List Expr) → is_three (call_at g span callee es) ≡ false
call_three g span (leaf h) es = leaf_call_three g span h.op (leaf h) es
call_three g span (one h a) es = refl
call_three g span (two h a b) es = refl
call_three g span (three h c a b) es = refl
call_three g span (many h fs) es = refl

module _ (g : Around) (k : Known) (m : ℕ) (v : Values) (is_type is_path : Tree → Bool) (known : IsKnown g constant_op k m is_type is_path) (told : AreTold g constant_op k m v is_path)
    (paths : (span : Span) (path : Tree) → is_three (g.path span path) ≡ false) (itself : (span : Span) → is_three (g.itself span) ≡ false) (current : (span : Span) → is_three (g.current span) ≡ false) where
  abbrev It : Tree → Type 0
  It t = is_expr is_type is_path t ≡ true → Spine k m v (typed g t)

  plain : (t : Tree) → is_three (typed g t) ≡ false → It t
  plain t single is = inl (single, typed_holds g constant_op k m is_type is_path known t is, typed_told g constant_op k m v is_type is_path told t is)

  pub typed_spine : (t : Tree) → It t
  typed_spine (node (form_is.Expr expr_is.Path) span (more path none)) is = plain (node (form_is.Expr expr_is.Path) span (more path none)) (paths span path) is
  typed_spine (node (form_is.Expr expr_is.Itself) span none) is = plain (node (form_is.Expr expr_is.Itself) span none) (itself span) is
  typed_spine (node (form_is.Expr expr_is.Current) span none) is = plain (node (form_is.Expr expr_is.Current) span none) (current span) is
  typed_spine (node (form_is.Expr expr_is.True) span none) is = plain (node (form_is.Expr expr_is.True) span none) refl is
  typed_spine (node (form_is.Expr expr_is.False) span none) is = plain (node (form_is.Expr expr_is.False) span none) refl is
  typed_spine (node (form_is.Expr (expr_is.Number n)) span none) is = plain (node (form_is.Expr (expr_is.Number n)) span none) refl is
  typed_spine (node (form_is.Expr (expr_is.String text)) span none) is = plain (node (form_is.Expr (expr_is.String text)) span none) refl is
  typed_spine (node (form_is.Expr (expr_is.Bytes bytes)) span none) is = plain (node (form_is.Expr (expr_is.Bytes bytes)) span none) refl is
  typed_spine (node (form_is.Expr (expr_is.Regex text)) span none) is = plain (node (form_is.Expr (expr_is.Regex text)) span none) refl is
  typed_spine (node (form_is.Expr expr_is.Tuple) span ts) is = plain (node (form_is.Expr expr_is.Tuple) span ts) refl is
  typed_spine (node (form_is.Expr expr_is.Vector) span ts) is = plain (node (form_is.Expr expr_is.Vector) span ts) refl is
  typed_spine (node (form_is.Expr expr_is.Set) span ts) is = plain (node (form_is.Expr expr_is.Set) span ts) refl is
  typed_spine (node (form_is.Expr expr_is.Map) span ts) is = plain (node (form_is.Expr expr_is.Map) span ts) refl is
  typed_spine (node (form_is.Expr expr_is.EmptyVector) span (more t none)) is = plain (node (form_is.Expr expr_is.EmptyVector) span (more t none)) refl is
  typed_spine (node (form_is.Expr expr_is.EmptySet) span (more t none)) is = plain (node (form_is.Expr expr_is.EmptySet) span (more t none)) refl is
  typed_spine (node (form_is.Expr expr_is.EmptyMap) span (more s (more t none))) is = plain (node (form_is.Expr expr_is.EmptyMap) span (more s (more t none))) refl is
  typed_spine (node (form_is.Expr (expr_is.TypedNumber w)) span (more n none)) is = plain (node (form_is.Expr (expr_is.TypedNumber w)) span (more n none)) refl is
  typed_spine (node (form_is.Expr expr_is.Cast) span (more t (more e none))) is = plain (node (form_is.Expr expr_is.Cast) span (more t (more e none))) refl is
  typed_spine (node (form_is.Expr expr_is.New) span (more path (more (row ts) none))) is =
      let callee = g.named (read.span_of path) path in
      plain (node (form_is.Expr expr_is.New) span (more path (more (row ts) none))) (new_three g span (read.span_of path) (started callee) callee (typed_all g ts)) is
  typed_spine (node (form_is.Expr expr_is.Size) span (more e none)) is = plain (node (form_is.Expr expr_is.Size) span (more e none)) refl is
  typed_spine (node (form_is.Expr expr_is.Choice) span (more c (more a (more b none)))) is =
      let p = and_parts (is_expr is_type is_path c) (is_expr is_type is_path a && is_expr is_type is_path b) is in
      let q = and_parts (is_expr is_type is_path a) (is_expr is_type is_path b) p.1 in
      choice_spine k m v span (typed g c) (typed g a) (typed g b) (typed_holds g constant_op k m is_type is_path known c p.0) (typed_told g constant_op k m v is_type is_path told c p.0)
      (typed_spine a q.0) (typed_spine b q.1)
  typed_spine (node (form_is.Expr expr_is.Member) span (more e (more name none))) is =
      plain (node (form_is.Expr expr_is.Member) span (more e (more name none))) (member_three span (read.span_of name) (g.member (seen (typed g e)) (name_of name)) (typed g e)) is
  typed_spine (node (form_is.Expr expr_is.SetMember) span (more e (more name none))) is =
      plain (node (form_is.Expr expr_is.SetMember) span (more e (more name none))) (set_member_three span (read.span_of name) (g.member (seen (typed g e)) (name_of name)) (typed g e)) is
  typed_spine (node (form_is.Expr expr_is.Index) span (more e (more i none))) is =
      plain (node (form_is.Expr expr_is.Index) span (more e (more i none))) (index_three g span (seen (typed g e)) (typed g e) (typed g i)) is
  typed_spine (node (form_is.Expr expr_is.Call) span (more (node (form_is.Expr expr_is.Member) member (more e (more name none))) (more (row ts) none))) is =
      let at = read.span_of name in
      plain (node (form_is.Expr expr_is.Call) span (more (node (form_is.Expr expr_is.Member) member (more e (more name none))) (more (row ts) none)))
      (method_three g span member at (g.method (seen (typed g e)) (name_of name) at (map seen (typed_all g ts))) (typed g e) (typed_all g ts)) is
  typed_spine (node (form_is.Expr expr_is.Call) span (more callee (more (row ts) none))) is =
      plain (node (form_is.Expr expr_is.Call) span (more callee (more (row ts) none))) (call_three g span (typed g callee) (typed_all g ts)) is
  typed_spine (node (form_is.Expr (expr_is.Unary op)) span (more e none)) is = plain (node (form_is.Expr (expr_is.Unary op)) span (more e none)) refl is
  typed_spine (node (form_is.Expr (expr_is.Binary op)) span (more a (more b none))) is =
      plain (node (form_is.Expr (expr_is.Binary op)) span (more a (more b none))) (binary_three span op (typed g a) (typed g b)) is
  typed_spine _ is = never is
