-- Two that know the same of what a tree names type it alike, and it has one value under both.
use Rattle.std.proofs.Common.{ℕ, ◌≡◌, refl, ap, ◌∙◌, List, [], ◌∷◌, ◌++◌, map, Option, Some, None}
use Rattle.std.specs.Prelude.{Bool, true, false, ◌&&◌, ◌==◌, nat_lt, if◌then◌else◌, slice_get}
use Rattle.sp_base.specs.declared.places.Span.{Span}
use Rattle.sp_ast.specs.Trees.{Tree, Trees, row, node, none, more}
use Rattle.sp_ast.specs.Trees as read
use Rattle.sp_ast.specs.declared.forms.Form.TheVariants as form_is
use Rattle.sp_ast.specs.declared.forms.ExprForm.TheVariants as expr_is
use Rattle.sp_words.specs.declared.methods.Method.{Method}
use Rattle.sp_words.specs.declared.methods.Method.TheVariants as method_is
use Rattle.sp_value.specs.Val.{enum}
use Rattle.sp_types.specs.declared.words.Word.{Word}
use Rattle.sp_types.specs.declared.words.Word.TheVariants as word_is
use Rattle.sp_types.specs.declared.words.Maker.TheVariants as maker_is
use Rattle.sp_types.specs.Types.{Ty, word, made}
use Rattle.sp_typed.specs.declared.words.LeafOp.{LeafOp}
use Rattle.sp_typed.specs.declared.words.LeafOp.TheVariants as leaf_is
use Rattle.sp_typed.specs.declared.words.OneOp.TheVariants as one_is
use Rattle.sp_typed.specs.declared.words.ManyOp.{ManyOp}
use Rattle.sp_typed.specs.declared.words.ManyOp.TheVariants as many_is
use Rattle.sp_typed.specs.declared.words.NewOf.{NewOf}
use Rattle.sp_typed.specs.Exprs.{Expr, Exprs, is_minus, is_number}
use Rattle.sp_typed.specs.Exprs as expr
use Rattle.sp_type_context.specs.declared.places.Place.TheVariants.{Whole}
use Rattle.sp_type_context.specs.declared.context.Callable.{Callable}
use Rattle.sp_type_context.specs.Contexts.{Around}
use Rattle.sp_type_operands.specs.Literals.{seen}
use Rattle.sp_type_context.specs.Typing.{typed, typed_all, pairs_typed}
use Rattle.sp_type_context.specs.Typing as typing
use Rattle.sp_names.specs.declared.sort.DeclSort.{DeclSort}
use Rattle.sp_names.specs.declared.sort.DeclSort.TheVariants as sort_is
use Rattle.sp_names.specs.declared.sort.Meaning.{Meaning}
use Rattle.sp_names.specs.declared.sort.Meaning.TheVariants as meaning_is
use Rattle.sp_names.specs.Declarations.{sort_at, number_at, library_enums}
use Rattle.sp_names.specs.Names.{path_means}
use Rattle.sp_names.specs.Types.{one_or_none}
use Rattle.sp_type_methods.specs.Methods.{left_out_of, base_ten, utf8, replace}
use Rattle.sp_type_modules.specs.Arounds.{word_leaf, type_leaf, declared_at, meaning_at, slice_of, path_at}
use Rattle.sp_type_constants.specs.declared.outcome.Outcome.TheVariants.{Value}
use Rattle.sp_type_constants.specs.Known.{Known}
use Rattle.sp_type_constants.specs.Outcomes.{used}
use Rattle.sp_type_constants.specs.Operations.{negative_literal}
use Rattle.sp_type_constants.specs.Values.{leaf_value, number_in, one_value, two_value, three_value, many_value, value_of, all_values}
use Rattle.sp_type_constants.specs.Places.{index_of}
use Rattle.sp_type_values.specs.declared.answer.Answer.{Answer}
use Rattle.sp_type_values.specs.Valued.{valued, constant_place, label_place, declaration_needs, meaning_needs, needs_in, needs_among}
use Rattle.sp_type_values.specs.Answers.{answer_at, value_or, type_or, written_of, constant_type, label_value, known_values, here}
use Rattle.sp_type_values.specs.Leaves.{Holds, HoldsAll, HoldsOf, HoldsIn, led_holds, map_holds, binary_holds, choice_holds, member_holds, set_member_holds, indexed_holds, call_holds, method_holds, new_holds}

-- where two know the same of each constant and each label in an expression, it has one value
module _ (k l : Known) where
  abbrev pub AgreeAt : LeafOp → Type 0
  AgreeAt (leaf_is.Constant n) = k.constant n ≡ l.constant n
  AgreeAt (leaf_is.Label owner label) = k.label owner label ≡ l.label owner label
  AgreeAt _ = Unit {0}

  leaf_same : (t : Ty) (op : LeafOp) → AgreeAt op → leaf_value k t op ≡ leaf_value l t op
  leaf_same t (leaf_is.Constant n) h = ap used h
  leaf_same t (leaf_is.Label owner label) h = ap used h
  leaf_same t _ h = refl

  mutual
    pub value_same : (e : Expr) → Holds AgreeAt e → value_of k e ≡ value_of l e
    value_same (expr.leaf h) i = leaf_same h.ty h.op i
    value_same (expr.one h a) i =
        ap (λ o. if is_minus h.op && is_number a then negative_literal h.ty (number_in a) else one_value h.ty h.op o) (value_same a i)
    value_same (expr.two h a b) i = ap (λ o. two_value h.op o (value_of k b)) (value_same a i.0) ∙ ap (two_value h.op (value_of l a)) (value_same b i.1)
    value_same (expr.three h c a b) i =
        ap (λ o. three_value o (value_of k a) (value_of k b)) (value_same c i.0)
        ∙ ap (λ o. three_value (value_of l c) o (value_of k b)) (value_same a i.1)
        ∙ ap (three_value (value_of l c) (value_of l a)) (value_same b i.2)
    value_same (expr.many h es) i = ap (many_value h.op) (values_same es i)

    values_same : (es : Exprs) → HoldsAll AgreeAt es → all_values k es ≡ all_values l es
    values_same expr.none i = refl
    values_same (expr.more e es) i = ap (λ o. o ∷ all_values k es) (value_same e i.0) ∙ ap (λ os. value_of l e ∷ os) (values_same es i.1)

module _ (list : List Tree) (f : ℕ → Option Ty) (before after : ℕ → Option Answer) where
  abbrev pub Same : List ℕ → Type 0
  Same [] = Unit {0}
  Same (j ∷ js) = (before j ≡ after j) × Same js

  front : (xs ys : List ℕ) → Same (xs ++ ys) → Same xs
  front [] ys s = tt
  front (x ∷ xs) ys s = (s.0, front xs ys s.1)

  back : (xs ys : List ℕ) → Same (xs ++ ys) → Same ys
  back [] ys s = s
  back (x ∷ xs) ys s = back xs ys s.1

  abbrev pub Agree : LeafOp → Type 0
  Agree = AgreeAt (known_values list f before) (known_values list f after)

  -- constants and labels
  place_same : (p : Option ℕ) → Same (one_or_none p) → answer_at before p ≡ answer_at after p
  place_same None s = refl
  place_same (Some j) s = s.0

  label_same : (owner label : ℕ) → Same (one_or_none (label_place list f owner label)) → label_value list f before owner label ≡ label_value list f after owner label
  label_same owner label s =
      ap (λ a. if nat_lt owner library_enums then Value (enum owner label) else value_or a) (place_same (label_place list f owner label) s)

  word_leaf_agrees : (w : Word) → Agree (word_leaf w)
  word_leaf_agrees word_is.Decoder = tt
  word_leaf_agrees _ = tt

  type_leaf_agrees : (o : Option Ty) → Agree (type_leaf o)
  type_leaf_agrees None = tt
  type_leaf_agrees (Some (word w)) = word_leaf_agrees w
  type_leaf_agrees (Some (made m ts)) = tt

  -- paths
  abbrev types_before : ℕ → Ty
  types_before = constant_type list f before

  abbrev types_after : ℕ → Ty
  types_after = constant_type list f after

  declared_same : (span : Span) (g : ℕ) (s : DeclSort) → Same (declaration_needs list f g s)
      → (declared_at list f types_before span g s ≡ declared_at list f types_after span g s) × Holds Agree (declared_at list f types_before span g s)
  declared_same span g sort_is.Constant s =
      let n = number_at list g in
      let a = place_same (constant_place list f n) s in
      (ap (λ o. typing.leaf_at span (type_or (written_of (slice_get (valued list f) n)) o) (leaf_is.Constant n)) a, ap value_or a)
  declared_same span g sort_is.Function s = (refl, tt)
  declared_same span g _ s = (refl, type_leaf_agrees (f g))

  meaning_same : (span : Span) (path : Tree) (w : Meaning) → Same (meaning_needs list f w)
      → (meaning_at list f types_before span path w ≡ meaning_at list f types_after span path w) × Holds Agree (meaning_at list f types_before span path w)
  meaning_same span path (meaning_is.Declaration g) s = declared_same span g (sort_at list g) s
  meaning_same span path (meaning_is.Label owner label) s = (refl, label_same owner label s)
  meaning_same span path _ s = (refl, tt)

  path_same : (m : ℕ) (span : Span) (path : Tree) → Same (needs_in list f m path)
      → (path_at list f types_before m span path ≡ path_at list f types_after m span path) × Holds Agree (path_at list f types_before m span path)
  path_same m span (node form_is.Path at ts) s = meaning_same (slice_of list span (node form_is.Path at ts) (path_means list f m (node form_is.Path at ts))) (node form_is.Path at ts) (path_means list f m (node form_is.Path at ts)) s
  path_same m span _ s = (refl, tt)

  module _ (m : ℕ) where
    abbrev g : Around
    g = here list f before m

    abbrev h : Around
    h = here list f after m

    -- what hangs on no constant
    new_by_same : (span path : Span) (u : Option NewOf) (callee : Expr) (es : List Expr) → typing.new_by g span path u callee es ≡ typing.new_by h span path u callee es
    new_by_same span path None callee es = refl
    new_by_same span path (Some u) callee es = refl

    word_call_same : (span : Span) (w : Word) (callee : Expr) (es : List Expr)
        → typing.call_by g span (typing.callee_op (leaf_is.TypeName w)) callee es ≡ typing.call_by h span (typing.callee_op (leaf_is.TypeName w)) callee es
    word_call_same span (word_is.Enum n) callee es = refl
    word_call_same span _ callee es = refl

    leaf_call_same : (span : Span) (op : LeafOp) (callee : Expr) (es : List Expr) → typing.call_by g span (typing.callee_op op) callee es ≡ typing.call_by h span (typing.callee_op op) callee es
    leaf_call_same span (leaf_is.Function n) callee es = refl
    leaf_call_same span (leaf_is.TypeName w) callee es = word_call_same span w callee es
    leaf_call_same span _ callee es = refl

    call_same : (span : Span) (callee : Expr) (es : List Expr) → typing.call_at g span callee es ≡ typing.call_at h span callee es
    call_same span (expr.leaf i) es = leaf_call_same span i.op (expr.leaf i) es
    call_same span _ es = refl

    method_same : (span member name : Span) (c : Option Callable) (object : Expr) (es : List Expr) → typing.method_of g span member name c object es ≡ typing.method_of h span member name c object es
    method_same span member name None object es = refl
    method_same span member name (Some c) object es = refl

    -- an index may be a constant
    index_same : (span : Span) (t : Ty) (a i : Expr) → g.item i ≡ h.item i → typing.index_at g span t a i ≡ typing.index_at h span t a i
    index_same span (made maker_is.Tuple ts) a i e = ap (λ n. typing.item_at span ts n a i) e
    index_same span _ a i e = refl

    -- labels of the library stand for arguments that are left out
    by_count : (c : Bool) (es fs : List Expr) → HoldsOf Agree es → HoldsOf Agree fs → HoldsOf Agree (if c then es else fs)
    by_count true es fs i j = i
    by_count false es fs i j = j

    method_left_out : (method : Method) (span : Span) (n : ℕ) → HoldsOf Agree (left_out_of method span n)
    method_left_out method_is.ToUint span n = by_count (n == 0) (base_ten span ∷ []) [] (tt, tt) tt
    method_left_out method_is.ToInt span n = by_count (n == 0) (base_ten span ∷ []) [] (tt, tt) tt
    method_left_out method_is.Decode span n =
        by_count (n == 0) (utf8 span ∷ replace span ∷ []) (if n == 1 then replace span ∷ [] else []) (refl, (refl, tt)) (by_count (n == 1) (replace span ∷ []) [] (refl, tt) tt)
    method_left_out _ span n = tt

    left_out_holds : (op : ManyOp) (span : Span) (n : ℕ) → HoldsOf Agree (g.left_out op span n)
    left_out_holds (many_is.Method method slot) span n = method_left_out method span n
    left_out_holds _ span n = tt

    first : (t : Tree) (ts : Trees) → Same (needs_among list f m (more t ts)) → Same (needs_in list f m t)
    first t ts s = front (needs_in list f m t) (needs_among list f m ts) s

    rest : (t : Tree) (ts : Trees) → Same (needs_among list f m (more t ts)) → Same (needs_among list f m ts)
    rest t ts s = back (needs_in list f m t) (needs_among list f m ts) s

    abbrev pub Alike : Tree → Type 0
    Alike t = (typed g t ≡ typed h t) × Holds Agree (typed g t)

    abbrev AllAlike : Trees → Type 0
    AllAlike ts = (typed_all g ts ≡ typed_all h ts) × HoldsOf Agree (typed_all g ts)

    abbrev PairsAlike : Trees → Type 0
    PairsAlike ts = (pairs_typed g ts ≡ pairs_typed h ts) × HoldsIn Agree (pairs_typed g ts)

    mutual
      pub typed_same : (t : Tree) → Same (needs_in list f m t) → Alike t
      typed_same (node (form_is.Expr expr_is.Path) span (more path none)) s = path_same m span path (first path none s)
      typed_same (node (form_is.Expr expr_is.Itself) span none) s = (refl, tt)
      typed_same (node (form_is.Expr expr_is.Current) span none) s = (refl, tt)
      typed_same (node (form_is.Expr expr_is.True) span none) s = (refl, tt)
      typed_same (node (form_is.Expr expr_is.False) span none) s = (refl, tt)
      typed_same (node (form_is.Expr (expr_is.Number n)) span none) s = (refl, tt)
      typed_same (node (form_is.Expr (expr_is.String text)) span none) s = (refl, tt)
      typed_same (node (form_is.Expr (expr_is.Bytes bytes)) span none) s = (refl, tt)
      typed_same (node (form_is.Expr (expr_is.Regex text)) span none) s = (refl, tt)
      typed_same (node (form_is.Expr expr_is.Tuple) span ts) s =
          let all = all_same ts s in
          (ap (typing.tuple_at span) all.0, all.1)
      typed_same (node (form_is.Expr expr_is.Vector) span ts) s =
          let all = all_same ts s in
          (ap (λ es. typing.row_at span maker_is.Vector many_is.Vector (typing.led es)) all.0, led_holds Agree (typed_all g ts) all.1)
      typed_same (node (form_is.Expr expr_is.Set) span ts) s =
          let all = all_same ts s in
          (ap (λ es. typing.row_at span maker_is.Set many_is.Set (typing.led es)) all.0, led_holds Agree (typed_all g ts) all.1)
      typed_same (node (form_is.Expr expr_is.Map) span ts) s =
          let all = pairs_same ts s in
          (ap (typing.map_at span) all.0, map_holds Agree span (pairs_typed g ts) all.1)
      typed_same (node (form_is.Expr expr_is.EmptyVector) span (more t none)) s = (refl, tt)
      typed_same (node (form_is.Expr expr_is.EmptySet) span (more t none)) s = (refl, tt)
      typed_same (node (form_is.Expr expr_is.EmptyMap) span (more k (more v none))) s = (refl, tt)
      typed_same (node (form_is.Expr (expr_is.TypedNumber w)) span (more n none)) s = (refl, tt)
      typed_same (node (form_is.Expr expr_is.Cast) span (more t (more e none))) s =
          let a = typed_same e (first e none (rest t (more e none) s)) in
          (ap (typing.one_at span (typing.cast_type (g.type_in Whole t)) (one_is.Cast (g.written Whole t))) a.0, a.1)
      typed_same (node (form_is.Expr expr_is.New) span (more path (more (row ts) none))) s =
          let at = read.span_of path in
          let c = path_same m at path (first path (more (row ts) none) s) in
          let all = all_same ts (first (row ts) none (rest path (more (row ts) none) s)) in (
            new_by_same span at (typing.started (g.named at path)) (g.named at path) (typed_all g ts)
                ∙ ap (λ e. typing.new_at h span at e (typed_all g ts)) c.0
                ∙ ap (typing.new_at h span at (h.named at path)) all.0,
            new_holds Agree g span at (g.named at path) (typed_all g ts) c.1 all.1,
          )
      typed_same (node (form_is.Expr expr_is.Size) span (more e none)) s =
          let a = typed_same e (first e none s) in
          (ap (typing.one_at span typing.size_type one_is.Size) a.0, a.1)
      typed_same (node (form_is.Expr expr_is.Choice) span (more c (more a (more b none)))) s =
          let x = typed_same c (first c (more a (more b none)) s) in
          let left = rest c (more a (more b none)) s in
          let y = typed_same a (first a (more b none) left) in
          let z = typed_same b (first b none (rest a (more b none) left)) in (
            ap (λ e. typing.choice_at span e (typed g a) (typed g b)) x.0
                ∙ ap (λ e. typing.choice_at span (typed h c) e (typed g b)) y.0
                ∙ ap (typing.choice_at span (typed h c) (typed h a)) z.0,
            choice_holds Agree span (typed g c) (typed g a) (typed g b) x.1 y.1 z.1,
          )
      typed_same (node (form_is.Expr expr_is.Member) span (more e (more name none))) s =
          let a = typed_same e (first e (more name none) s) in
          (ap (typing.member_of g span name) a.0, member_holds Agree span (read.span_of name) (g.member (seen (typed g e)) (typing.name_of name)) (typed g e) a.1)
      typed_same (node (form_is.Expr expr_is.SetMember) span (more e (more name none))) s =
          let a = typed_same e (first e (more name none) s) in
          (ap (typing.set_member_of g span name) a.0, set_member_holds Agree span (read.span_of name) (g.member (seen (typed g e)) (typing.name_of name)) (typed g e) a.1)
      typed_same (node (form_is.Expr expr_is.Index) span (more e (more i none))) s =
          let a = typed_same e (first e (more i none) s) in
          let b = typed_same i (first i none (rest e (more i none) s)) in
          let item = ap index_of (value_same (known_values list f before) (known_values list f after) (typed g i) b.1) in (
            index_same span (seen (typed g e)) (typed g e) (typed g i) item
                ∙ ap (λ x. typing.indexed h span x (typed g i)) a.0
                ∙ ap (typing.indexed h span (typed h e)) b.0,
            indexed_holds Agree g span (typed g e) (typed g i) a.1 b.1,
          )
      typed_same (node (form_is.Expr expr_is.Call) span (more (node (form_is.Expr expr_is.Member) member (more e (more name none))) (more (row ts) none))) s =
          let callee = node (form_is.Expr expr_is.Member) member (more e (more name none)) in
          let a = typed_same e (first e (more name none) (first callee (more (row ts) none) s)) in
          let all = all_same ts (first (row ts) none (rest callee (more (row ts) none) s)) in
          let at = read.span_of name in (
            method_same span member at (g.method (seen (typed g e)) (typing.name_of name) at (map seen (typed_all g ts))) (typed g e) (typed_all g ts)
                ∙ ap (λ x. typing.method_at h span member name x (typed_all g ts)) a.0
                ∙ ap (typing.method_at h span member name (typed h e)) all.0,
            method_holds Agree g span member name (typed g e) (typed_all g ts) left_out_holds a.1 all.1,
          )
      typed_same (node (form_is.Expr expr_is.Call) span (more callee (more (row ts) none))) s =
          let a = typed_same callee (first callee (more (row ts) none) s) in
          let all = all_same ts (first (row ts) none (rest callee (more (row ts) none) s)) in (
            call_same span (typed g callee) (typed_all g ts)
                ∙ ap (λ x. typing.call_at h span x (typed_all g ts)) a.0
                ∙ ap (typing.call_at h span (typed h callee)) all.0,
            call_holds Agree g span (typed g callee) (typed_all g ts) a.1 all.1,
          )
      typed_same (node (form_is.Expr (expr_is.Unary op)) span (more e none)) s =
          let a = typed_same e (first e none s) in
          (ap (typing.unary_at span op) a.0, a.1)
      typed_same (node (form_is.Expr (expr_is.Binary op)) span (more a (more b none))) s =
          let x = typed_same a (first a (more b none) s) in
          let y = typed_same b (first b none (rest a (more b none) s)) in (
            ap (λ e. typing.binary_at span op e (typed g b)) x.0
                ∙ ap (typing.binary_at span op (typed h a)) y.0,
            binary_holds Agree span op (typed g a) (typed g b) x.1 y.1,
          )
      typed_same _ s = (refl, tt)

      all_same : (ts : Trees) → Same (needs_among list f m ts) → AllAlike ts
      all_same none s = (refl, tt)
      all_same (more t ts) s =
          let a = typed_same t (first t ts s) in
          let all = all_same ts (rest t ts s) in
          (ap (λ e. e ∷ typed_all g ts) a.0 ∙ ap (λ es. typed h t ∷ es) all.0, (a.1, all.1))

      pairs_same : (ts : Trees) → Same (needs_among list f m ts) → PairsAlike ts
      pairs_same none s = (refl, tt)
      pairs_same (more (node form_is.Pair span (more k (more v none))) ts) s =
          let pair = node form_is.Pair span (more k (more v none)) in
          let inside = first pair ts s in
          let a = typed_same k (first k (more v none) inside) in
          let b = typed_same v (first v none (rest k (more v none) inside)) in
          let all = pairs_same ts (rest pair ts s) in (
            ap (λ e. (e, typed g v) ∷ pairs_typed g ts) a.0
                ∙ ap (λ e. (typed h k, e) ∷ pairs_typed g ts) b.0
                ∙ ap (λ ps. (typed h k, typed h v) ∷ ps) all.0,
            ((a.1, b.1), all.1),
          )
      pairs_same (more t ts) s = pairs_same ts (rest t ts s)
