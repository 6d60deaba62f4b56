-- What is called by its name is named by a path.
use Rattle.std.specs.Prelude.{ℕ, Bool, true, false, if◌then◌else◌, List, map, Option, Some, None}
use Rattle.std.proofs.Common.{◌≡◌, sym, ap, ◌∙◌}
use Rattle.std.proofs.lemmas.Bool.{and_parts}
use Rattle.sp_base.specs.declared.places.Span.{Span}
use Rattle.sp_words.specs.declared.operators.BinaryOp.{BinaryOp}
use Rattle.sp_ast.specs.Trees.{Tree, Trees, row, node, none, more}
use Rattle.sp_ast.specs.Trees as read
use Rattle.sp_ast.specs.declared.forms.Form.TheVariants as form_is
use Rattle.sp_ast.specs.declared.forms.ExprForm.TheVariants as expr_is
use Rattle.sp_types.specs.declared.words.Word.{Word}
use Rattle.sp_types.specs.declared.words.Word.TheVariants as word_is
use Rattle.sp_types.specs.declared.words.Maker.TheVariants as maker_is
use Rattle.sp_types.specs.Types.{Ty, Tys, word, made}
use Rattle.sp_typed.specs.declared.words.OneOp.{OneOp}
use Rattle.sp_typed.specs.declared.words.LeafOp.{LeafOp}
use Rattle.sp_typed.specs.declared.words.LeafOp.TheVariants as leaf_is
use Rattle.sp_typed.specs.declared.words.NewOf.{NewOf}
use Rattle.sp_typed.specs.Exprs.{Expr, leaf}
use Rattle.sp_type_context.specs.declared.context.Member.{Member}
use Rattle.sp_type_context.specs.declared.context.Callable.{Callable}
use Rattle.sp_type_context.specs.Contexts.{Around}
use Rattle.sp_type_operands.specs.Operands.{key_of, sort_of}
use Rattle.sp_type_operands.specs.Literals.{seen}
use Rattle.sp_type_context.specs.Typing.{typed, typed_all, callee_op, name_of}
use Rattle.sp_type_context.specs.Typing as typing
use Rattle.sp_rule_bodies.specs.Known.{Known}
use Rattle.sp_law_lists.specs.known_types.Full.{is_full, is_unknown}
use Rattle.sp_law_lists.specs.known_types.Trees.{is_expr}
use Rattle.sp_law_lists.specs.known_types.Given.{may_be, is_named, IsKnown}
use Rattle.sp_law_lists.proofs.known_types_lemmas.Full.{never}
use Rattle.sp_law_lists.proofs.known_types_lemmas.Functions.{function_op, function_of}

same_function : (n k : ℕ) → Some n ≡ Some k → n ≡ k
same_function n k e = cc

other : {X : Type 0} (n : ℕ) → None ≡ Some n → X
other n e = absurd (let b : ⊥ = (cc) in b)

module _ (g : Around) where
  abbrev Gives : Expr → Type 0
  Gives e = (n : ℕ) → function_of e ≡ Some n → is_full (g.result n) ≡ true

  leaf_gives : (op : LeafOp) (t : Ty) → may_be g.result op t ≡ true → (n : ℕ) → function_op op ≡ Some n → is_full (g.result n) ≡ true
  leaf_gives (leaf_is.Function k) t b n e = ap (λ i. is_full (g.result i)) (sym (same_function k n e)) ∙ (and_parts (is_unknown t) (is_full (g.result k)) b).1
  leaf_gives _ t b n e = other n e

  named_gives : (e : Expr) → is_named g.result e ≡ true → Gives e
  named_gives (leaf h) b n e = leaf_gives h.op h.ty b n e
  named_gives _ b n e = never b

  binary_gives : (span : Span) (op : BinaryOp) (a b c d : Expr) (x : Bool) → Gives (if x then typing.joined span op a b else typing.joined span op c d)
  binary_gives span op a b c d true n e = other n e
  binary_gives span op a b c d false n e = other n e

  member_gives : (span name : Span) (o : Option Member) (a : Expr) → Gives (typing.member_at span name o a)
  member_gives span name None a n e = other n e
  member_gives span name (Some x) a n e = other n e

  set_member_gives : (span name : Span) (o : Option Member) (a : Expr) → Gives (typing.set_member_at span name o a)
  set_member_gives span name None a n e = other n e
  set_member_gives span name (Some x) a n e = other n e

  item_gives : (span : Span) (o : Option Ty) (k : ℕ) (a i : Expr) → Gives (typing.item_of span o k a i)
  item_gives span None k a i n e = other n e
  item_gives span (Some t) k a i n e = other n e

  items_give : (span : Span) (ts : Tys) (o : Option ℕ) (a i : Expr) → Gives (typing.item_at span ts o a i)
  items_give span ts None a i n e = other n e
  items_give span ts (Some k) a i n e = item_gives span (typing.part_at ts k) k a i n e

  index_gives : (span : Span) (t : Ty) (a i : Expr) → Gives (typing.index_at g span t a i)
  index_gives span (made maker_is.Vector ts) a i n e = other n e
  index_gives span (made maker_is.Map ts) a i n e = other n e
  index_gives span (made maker_is.Set ts) a i n e = other n e
  index_gives span (made maker_is.Tuple ts) a i n e = items_give span ts (g.item i) a i n e
  index_gives span (word w) a i n e = other n e

  method_gives : (span member name : Span) (o : Option Callable) (a : Expr) (es : List Expr) → Gives (typing.method_of g span member name o a es)
  method_gives span member name None a es n e = other n e
  method_gives span member name (Some x) a es n e = other n e

  word_call_gives : (span : Span) (w : Word) (a : Expr) (es : List Expr) → Gives (typing.call_by g span (callee_op (leaf_is.TypeName w)) a es)
  word_call_gives span (word_is.Enum k) a es n e = other n e
  word_call_gives span _ a es n e = other n e

  leaf_call_gives : (span : Span) (op : LeafOp) (a : Expr) (es : List Expr) → Gives (typing.call_by g span (callee_op op) a es)
  leaf_call_gives span (leaf_is.Function k) a es n e = other n e
  leaf_call_gives span (leaf_is.TypeName w) a es n e = word_call_gives span w a es n e
  leaf_call_gives span _ a es n e = other n e

  call_gives : (span : Span) (a : Expr) (es : List Expr) → Gives (typing.call_at g span a es)
  call_gives span (leaf h) es n e = leaf_call_gives span h.op (leaf h) es n e
  call_gives span _ es n e = other n e

  new_gives : (span path : Span) (o : Option NewOf) (a : Expr) (es : List Expr) → Gives (typing.new_by g span path o a es)
  new_gives span path None a es n e = other n e
  new_gives span path (Some u) a es n e = other n e

-- what a function gives that stands before arguments
pub gives : (g : Around) (only : OneOp → Bool) (k : Known) (m : ℕ) (is_type is_path : Tree → Bool) → IsKnown g only k m is_type is_path → (t : Tree) → is_expr is_type is_path t ≡ true → (n : ℕ) → function_of (typed g t) ≡ Some n → is_full (g.result n) ≡ true
gives g only k m is_type is_path known (node (form_is.Expr expr_is.Path) span (more path none)) is n e = named_gives g (g.path span path) (known.path span path is) n e
gives g only k m is_type is_path known (node (form_is.Expr expr_is.Itself) span none) is n e = named_gives g (g.itself span) (known.itself span) n e
gives g only k m is_type is_path known (node (form_is.Expr expr_is.Current) span none) is n e = named_gives g (g.current span) (known.current span) n e
gives g only k m is_type is_path known (node (form_is.Expr expr_is.New) span (more path (more (row ts) none))) is n e =
    let at = read.span_of path in
    new_gives g span at (typing.started (g.named at path)) (g.named at path) (typed_all g ts) n e
gives g only k m is_type is_path known (node (form_is.Expr expr_is.Member) span (more a (more name none))) is n e =
    member_gives g span (read.span_of name) (g.member (seen (typed g a)) (name_of name)) (typed g a) n e
gives g only k m is_type is_path known (node (form_is.Expr expr_is.SetMember) span (more a (more name none))) is n e =
    set_member_gives g span (read.span_of name) (g.member (seen (typed g a)) (name_of name)) (typed g a) n e
gives g only k m is_type is_path known (node (form_is.Expr expr_is.Index) span (more a (more i none))) is n e = index_gives g span (seen (typed g a)) (typed g a) (typed g i) n e
gives g only k m is_type is_path known (node (form_is.Expr expr_is.Call) span (more (node (form_is.Expr expr_is.Member) member (more a (more name none))) (more (row ts) none))) is n e =
    let at = read.span_of name in
    let es = typed_all g ts in
    method_gives g span member at (g.method (seen (typed g a)) (name_of name) at (map seen es)) (typed g a) es n e
gives g only k m is_type is_path known (node (form_is.Expr expr_is.Call) span (more callee (more (row ts) none))) is n e =
    call_gives g span (typed g callee) (typed_all g ts) n e
gives g only k m is_type is_path known (node (form_is.Expr (expr_is.Unary op)) span (more a none)) is n e = other n e
gives g only k m is_type is_path known (node (form_is.Expr (expr_is.Binary op)) span (more a (more b none))) is n e =
    let x = typed g a in
    let y = typed g b in
    binary_gives g span op (typing.to_target (key_of (seen y)) x) y (typing.agreeing x y).0 (typing.agreeing x y).1 (typing.is_membership (sort_of op)) n e
gives g only k m is_type is_path known (node (form_is.Expr expr_is.True) span none) is n e = other n e
gives g only k m is_type is_path known (node (form_is.Expr expr_is.False) span none) is n e = other n e
gives g only k m is_type is_path known (node (form_is.Expr (expr_is.Number i)) span none) is n e = other n e
gives g only k m is_type is_path known (node (form_is.Expr (expr_is.String text)) span none) is n e = other n e
gives g only k m is_type is_path known (node (form_is.Expr (expr_is.Bytes bytes)) span none) is n e = other n e
gives g only k m is_type is_path known (node (form_is.Expr (expr_is.Regex text)) span none) is n e = other n e
gives g only k m is_type is_path known (node (form_is.Expr expr_is.EmptyVector) span (more t none)) is n e = other n e
gives g only k m is_type is_path known (node (form_is.Expr expr_is.EmptySet) span (more t none)) is n e = other n e
gives g only k m is_type is_path known (node (form_is.Expr expr_is.EmptyMap) span (more s (more t none))) is n e = other n e
gives g only k m is_type is_path known (node (form_is.Expr (expr_is.TypedNumber w)) span (more i none)) is n e = other n e
gives g only k m is_type is_path known (node (form_is.Expr expr_is.Cast) span (more t (more a none))) is n e = other n e
gives g only k m is_type is_path known (node (form_is.Expr expr_is.Size) span (more a none)) is n e = other n e
gives g only k m is_type is_path known (node (form_is.Expr expr_is.Choice) span (more c (more a (more b none)))) is n e = other n e
gives g only k m is_type is_path known _ is n e = other n e
