-- What an index, a call and a `new` are made of: a test that holds of each element and of each node of several parts holds of them.
use Rattle.std.specs.Prelude.{ℕ, Bool, true, false, List, Option, Some, None}
use Rattle.std.proofs.Common.{◌≡◌, refl}
use Rattle.sp_base.specs.declared.places.Span.{Span}
use Rattle.sp_types.specs.declared.words.Word.{Word}
use Rattle.sp_types.specs.declared.words.Word.TheVariants as word_is
use Rattle.sp_types.specs.declared.words.Maker.TheVariants as maker_is
use Rattle.sp_types.specs.Types.{Ty, Tys, word, made}
use Rattle.sp_typed.specs.declared.heads.Two.{Two}
use Rattle.sp_typed.specs.declared.heads.Many.{Many}
use Rattle.sp_typed.specs.declared.words.LeafOp.{LeafOp}
use Rattle.sp_typed.specs.declared.words.LeafOp.TheVariants as leaf_is
use Rattle.sp_typed.specs.declared.words.TwoOp.{TwoOp}
use Rattle.sp_typed.specs.declared.words.TwoOp.TheVariants as two_is
use Rattle.sp_typed.specs.declared.words.NewOf.{NewOf}
use Rattle.sp_typed.specs.Exprs.{Expr, Exprs, leaf, one, two, three, many}
use Rattle.sp_type_operands.specs.Literals.{seen}
use Rattle.sp_type_context.specs.Contexts.{Around}
use Rattle.sp_type_context.specs.Typing.{part_at, item_of, item_at, index_at, indexed, callee_op, call_by, call_at, started, new_by, new_at}

abbrev pub is_element : TwoOp → Bool
is_element two_is.Index = true
is_element (two_is.Item n) = true
is_element op = false

module _ (p : Expr → Bool) (g : Around) where
  module _ (elements : (h : Two) (a b : Expr) → is_element h.op ≡ true → p (two h a b) ≡ true) where
    item_holds : (span : Span) (o : Option Ty) (n : ℕ) (a i : Expr) → p (item_of span o n a i) ≡ true
    item_holds span None n a i = elements _ a i refl
    item_holds span (Some t) n a i = elements _ a i refl

    items_hold : (span : Span) (ts : Tys) (o : Option ℕ) (a i : Expr) → p (item_at span ts o a i) ≡ true
    items_hold span ts None a i = elements _ a i refl
    items_hold span ts (Some n) a i = item_holds span (part_at ts n) n a i

    index_holds : (span : Span) (t : Ty) (a i : Expr) → p (index_at g span t a i) ≡ true
    index_holds span (made maker_is.Vector ts) a i = elements _ a _ refl
    index_holds span (made maker_is.Map ts) a i = elements _ a _ refl
    index_holds span (made maker_is.Set ts) a i = elements _ a _ refl
    index_holds span (made maker_is.Tuple ts) a i = items_hold span ts (g.item i) a i
    index_holds span (word w) a i = elements _ a i refl

    pub element_holds : (span : Span) (a i : Expr) → p (indexed g span a i) ≡ true
    element_holds span a i = index_holds span (seen a) a i

  module _ (several : (h : Many) (es : Exprs) → p (many h es) ≡ true) where
    type_call_holds : (span : Span) (w : Word) (callee : Expr) (es : List Expr) → p (call_by g span (callee_op (leaf_is.TypeName w)) callee es) ≡ true
    type_call_holds span (word_is.Enum n) callee es = several _ _
    type_call_holds span _ callee es = several _ _

    leaf_call_holds : (span : Span) (op : LeafOp) (callee : Expr) (es : List Expr) → p (call_by g span (callee_op op) callee es) ≡ true
    leaf_call_holds span (leaf_is.Function n) callee es = several _ _
    leaf_call_holds span (leaf_is.TypeName w) callee es = type_call_holds span w callee es
    leaf_call_holds span _ callee es = several _ _

    pub call_holds : (span : Span) (callee : Expr) (es : List Expr) → p (call_at g span callee es) ≡ true
    call_holds span (leaf h) es = leaf_call_holds span h.op (leaf h) es
    call_holds span (one h a) es = several _ _
    call_holds span (two h a b) es = several _ _
    call_holds span (three h c a b) es = several _ _
    call_holds span (many h fs) es = several _ _

    new_holds : (span path : Span) (o : Option NewOf) (callee : Expr) (es : List Expr) → p (new_by g span path o callee es) ≡ true
    new_holds span path None callee es = several _ _
    new_holds span path (Some u) callee es = several _ _

    pub start_holds : (span path : Span) (callee : Expr) (es : List Expr) → p (new_at g span path callee es) ≡ true
    start_holds span path callee es = new_holds span path (started callee) callee es
