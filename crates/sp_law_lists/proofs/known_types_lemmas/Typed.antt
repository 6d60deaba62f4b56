-- Where no rule is broken, the nodes of what is typed are of full types.
use Rattle.std.specs.Prelude.{ℕ, Bool, true, false, not, ◌&&◌, ◌||◌, if◌then◌else◌, map, List, [], ◌∷◌, Option, Some, None, is_none}
use Rattle.std.proofs.Common.{◌≡◌, ◌⊎◌, inl, inr, refl, sym, ◌∙◌}
use Rattle.std.proofs.lemmas.Bool.{and_parts, and_from}
use Rattle.sp_words.specs.declared.words.IntWord.{IntWord}
use Rattle.sp_words.specs.declared.words.IntWord.TheVariants as int
use Rattle.sp_ast.specs.Trees.{Tree, Trees, absent, row, node, none, more}
use Rattle.sp_ast.specs.Trees as read
use Rattle.sp_ast.specs.declared.forms.Form.TheVariants as form_is
use Rattle.sp_ast.specs.declared.forms.ExprForm.TheVariants as expr_is
use Rattle.sp_types.specs.declared.words.Maker.TheVariants as maker_is
use Rattle.sp_types.specs.Types.{Ty, word, is_known}
use Rattle.sp_typed.specs.declared.words.OneOp.{OneOp}
use Rattle.sp_typed.specs.declared.words.LeafOp.{LeafOp}
use Rattle.sp_typed.specs.declared.words.LeafOp.TheVariants as leaf_is
use Rattle.sp_typed.specs.Exprs.{Expr, Exprs, leaf, type_of}
use Rattle.sp_typed.specs.Exprs as expr
use Rattle.sp_typed.specs.Nodes.{holds, all_hold, word_leaf, is_word, is_sound, IsWhole}
use Rattle.sp_typed.proofs.Everywhere.{holds_everywhere}
use Rattle.sp_type_context.specs.declared.places.Place.TheVariants as place_is
use Rattle.sp_type_context.specs.Contexts.{Around}
use Rattle.sp_type_operands.specs.Operands.{unknown}
use Rattle.sp_type_operands.specs.Literals.{seen}
use Rattle.sp_type_context.specs.Typing.{typed, typed_all, pairs_typed, leaf_at, number_in, made_of, or_else, both_written, name_of, led}
use Rattle.sp_types.specs.Integers.{int_word}
use Rattle.sp_type_context.specs.Typing as typing
use Rattle.sp_rule_bodies.specs.Known.{Known}
use Rattle.sp_rule_bodies.specs.Values.{names_no_value, is_no_value}
use Rattle.sp_rule_bodies.specs.ExprTests.{leaf_tests, is_unmeant}
use Rattle.sp_law_lists.specs.known_types.Full.{is_full, is_right, is_unknown}
use Rattle.sp_law_lists.specs.known_types.Trees.{is_expr, are_exprs, are_pairs}
use Rattle.sp_law_lists.specs.known_types.Clear.{names_path}
use Rattle.sp_law_lists.specs.known_types.Given.{may_be, is_named, IsKnown}
use Rattle.sp_law_lists.proofs.known_types_lemmas.Full.{never, full_is_known, plain_valued, vector_full, set_full, keyed_full}
use Rattle.sp_law_lists.proofs.known_types_lemmas.Tests.{Fine, Clear, Holds, first_fine, first_names, right_of, is_whole, not_misplaced}
use Rattle.sp_law_lists.proofs.known_types_lemmas.Kept.{HoldsAll, HoldsPairs, led_holds}
use Rattle.sp_law_lists.proofs.known_types_lemmas.Nodes.{chosen_full, unary_holds, size_holds, cast_holds, binary_holds, choice_holds, member_holds, set_member_holds, index_holds}
use Rattle.sp_law_lists.proofs.known_types_lemmas.Callees.{gives}
use Rattle.sp_law_lists.proofs.known_types_lemmas.Rows.{tuple_holds, vector_holds, set_holds, pairs_hold, call_holds, new_holds, method_holds}

-- what a path is
meant_full : (u b : Bool) → (u || b) ≡ true → u ≡ false → b ≡ true
meant_full true b e f = never (sym f)
meant_full false b e f = e

abbrev Stands : LeafOp → Ty → Type 0
Stands op t = ((not (word_leaf op) && is_full t) ≡ true) ⊎ ((names_no_value op && is_unknown t) ≡ true)

stands_known : (result : ℕ → Ty) (m : ℕ) (e : Expr) (op : LeafOp) (t : Ty) → may_be result op t ≡ true → names_path op ≡ true → Fine (leaf_tests m e op) → Stands op t
stands_known result m e (leaf_is.Nothing name) t b n f = never n
stands_known result m e (leaf_is.Itself s) t b n f = inl (meant_full (is_unmeant s) (is_full t) b f.0)
stands_known result m e (leaf_is.Current s) t b n f = inl (meant_full (is_unmeant s) (is_full t) b f.0)
stands_known result m e (leaf_is.Local slot) t b n f = inl b
stands_known result m e (leaf_is.Parameter k s) t b n f = inl b
stands_known result m e (leaf_is.Constant k) t b n f = inl b
stands_known result m e (leaf_is.Label owner k) t b n f = inl b
stands_known result m e (leaf_is.Function k) t b n f = inr (and_parts (is_unknown t) (is_full (result k)) b).0
stands_known result m e _ t b n f = inr b

-- what is empty
empty_full : (t : Ty) → is_full t ≡ true → is_full (if is_known t then t else unknown) ≡ true
empty_full t f = chosen_full (is_known t) t (full_is_known t f) f

none_else : {A : Type 0} (a b : Option A) → is_none (or_else a b) ≡ true → (is_none a ≡ true) × (is_none b ≡ true)
none_else None b e = (refl, e)
none_else (Some x) b e = never e

int_full : (w : IntWord) → is_full (word (int_word w)) ≡ true
int_full int.Uint8 = refl
int_full int.Uint16 = refl
int_full int.Uint32 = refl
int_full int.Uint64 = refl
int_full int.Int8 = refl
int_full int.Int16 = refl
int_full int.Int32 = refl
int_full int.Int64 = refl

module _ (g : Around) (only : OneOp → Bool) (k : Known) (m : ℕ) (is_type is_path : Tree → Bool) (known : IsKnown g only k m is_type is_path) where
  named_holds : (e : Expr) → is_named g.result e ≡ true → Holds only k m e
  named_holds (leaf h) b c = (refl, stands_known g.result m (leaf h) h.op h.ty b (first_names only k m (leaf h) c) (first_fine only k m (leaf h) c))
  named_holds _ b c = never b

  -- what is made of a type that is written
  vector_type : (t : Tree) → is_type t ≡ true → is_none (g.written place_is.Value t).misplaced ≡ true → is_full (made_of maker_is.Vector (g.type_in place_is.Value t ∷ [])) ≡ true
  vector_type t is p = vector_full (g.type_in place_is.Value t) (plain_valued (g.type_in place_is.Value t) (known.kept t is p)) (known.type_in place_is.Value t is p)

  set_type : (t : Tree) → is_type t ≡ true → is_none (g.written place_is.Key t).misplaced ≡ true → is_full (made_of maker_is.Set (g.type_in place_is.Key t ∷ [])) ≡ true
  set_type t is p = set_full (g.type_in place_is.Key t) (known.key t is p) (known.type_in place_is.Key t is p)

  mutual
    pub typed_holds : (t : Tree) → is_expr is_type is_path t ≡ true → Holds only k m (typed g t)
    typed_holds (node (form_is.Expr expr_is.Path) span (more path none)) is = named_holds (g.path span path) (known.path span path is)
    typed_holds (node (form_is.Expr expr_is.Itself) span none) is = named_holds (g.itself span) (known.itself span)
    typed_holds (node (form_is.Expr expr_is.Current) span none) is = named_holds (g.current span) (known.current span)
    typed_holds (node (form_is.Expr expr_is.True) span none) is = λ c. (refl, inl refl)
    typed_holds (node (form_is.Expr expr_is.False) span none) is = λ c. (refl, inl refl)
    typed_holds (node (form_is.Expr (expr_is.Number n)) span none) is = λ c. (refl, inl refl)
    typed_holds (node (form_is.Expr (expr_is.String text)) span none) is = λ c. (refl, inl refl)
    typed_holds (node (form_is.Expr (expr_is.Bytes bytes)) span none) is = λ c. (refl, inl refl)
    typed_holds (node (form_is.Expr (expr_is.Regex text)) span none) is = λ c. (refl, inl refl)
    typed_holds (node (form_is.Expr expr_is.Tuple) span ts) is = tuple_holds only k m span (typed_all g ts) (all_hold_in ts is)
    typed_holds (node (form_is.Expr expr_is.Vector) span ts) is =
        vector_holds only k m span (led (typed_all g ts)) (led_holds only k m (typed_all g ts) (all_hold_in ts is))
    typed_holds (node (form_is.Expr expr_is.Set) span ts) is =
        set_holds only k m span (led (typed_all g ts)) (led_holds only k m (typed_all g ts) (all_hold_in ts is))
    typed_holds (node (form_is.Expr expr_is.Map) span ts) is = pairs_hold only k m span (pairs_typed g ts) (pairs_hold_in ts is)
    typed_holds (node (form_is.Expr expr_is.EmptyVector) span (more t none)) is =
        let e = typed g (node (form_is.Expr expr_is.EmptyVector) span (more t none)) in
        λ c. (refl, inl (empty_full (made_of maker_is.Vector (g.type_in place_is.Value t ∷ [])) (vector_type t is (not_misplaced m (g.written place_is.Value t).misplaced (first_fine only k m e c)))))
    typed_holds (node (form_is.Expr expr_is.EmptySet) span (more t none)) is =
        let e = typed g (node (form_is.Expr expr_is.EmptySet) span (more t none)) in
        λ c. (refl, inl (empty_full (made_of maker_is.Set (g.type_in place_is.Key t ∷ [])) (set_type t is (not_misplaced m (g.written place_is.Key t).misplaced (first_fine only k m e c)))))
    typed_holds (node (form_is.Expr expr_is.EmptyMap) span (more s (more t none))) is =
        let e = typed g (node (form_is.Expr expr_is.EmptyMap) span (more s (more t none))) in
        let are = and_parts (is_type s) (is_type t) is in
        λ c. (
        let first = (g.written place_is.Key s).misplaced in
        let second = (g.written place_is.Value t).misplaced in
        let p = none_else first second (not_misplaced m (or_else first second) (first_fine only k m e c)) in
        let u = g.type_in place_is.Key s in
        let v = g.type_in place_is.Value t in
        (refl, inl (empty_full (made_of maker_is.Map (u ∷ v ∷ [])) (keyed_full u v (known.key s are.0 p.0) (plain_valued v (known.kept t are.1 p.1)) (known.type_in place_is.Key s are.0 p.0) (known.type_in place_is.Value t are.1 p.1))))
        )
    typed_holds (node (form_is.Expr (expr_is.TypedNumber w)) span (more n none)) is = λ c. (refl, inl (int_full w))
    typed_holds (node (form_is.Expr expr_is.Cast) span (more t (more e none))) is =
        let p = and_parts (is_type t) (is_expr is_type is_path e) is in
        cast_holds only k m span (typing.cast_type (g.type_in place_is.Whole t)) (g.written place_is.Whole t) (typed g e) (known.names_types place_is.Whole t p.0) (typed_holds e p.1)
    typed_holds (node (form_is.Expr expr_is.New) span (more path (more (row ts) none))) is =
        let at = read.span_of path in
        let p = and_parts (is_path path) (are_exprs is_type is_path ts) is in
        new_holds only k m g span at (g.named at path) (typed_all g ts) (named_holds (g.named at path) (known.named at path p.0)) (all_hold_in ts p.1)
    typed_holds (node (form_is.Expr expr_is.Size) span (more e none)) is = size_holds only k m span (typed g e) (typed_holds e is)
    typed_holds (node (form_is.Expr expr_is.Choice) span (more c (more a (more b none)))) is =
        let p = and_parts (is_expr is_type is_path c) (is_expr is_type is_path a && is_expr is_type is_path b) is in
        let q = and_parts (is_expr is_type is_path a) (is_expr is_type is_path b) p.1 in
        choice_holds only k m span (typed g c) (typed g a) (typed g b) (typed_holds c p.0) (typed_holds a q.0) (typed_holds b q.1)
    typed_holds (node (form_is.Expr expr_is.Member) span (more e (more name none))) is =
        let x = name_of name in
        member_holds only k m span (read.span_of name) (g.member (seen (typed g e)) x) (typed g e) (known.member (seen (typed g e)) x) (typed_holds e is)
    typed_holds (node (form_is.Expr expr_is.SetMember) span (more e (more name none))) is =
        set_member_holds only k m span (read.span_of name) (g.member (seen (typed g e)) (name_of name)) (typed g e) (typed_holds e is)
    typed_holds (node (form_is.Expr expr_is.Index) span (more e (more i none))) is =
        let p = and_parts (is_expr is_type is_path e) (is_expr is_type is_path i) is in
        index_holds only k m g span (seen (typed g e)) (typed g e) (typed g i) (known.index i p.1) refl (typed_holds e p.0) (typed_holds i p.1)
    typed_holds (node (form_is.Expr expr_is.Call) span (more (node (form_is.Expr expr_is.Member) member (more e (more name none))) (more (row ts) none))) is =
        let p = and_parts (is_expr is_type is_path e) (are_exprs is_type is_path ts) is in
        let x = name_of name in
        let at = read.span_of name in
        let types = map seen (typed_all g ts) in
        let of = seen (typed g e) in
        method_holds only k m g known.left_out span member at (g.method of x at types) (typed g e) (typed_all g ts) (λ y found. (known.method of x at types y found, known.gives of x at types y found)) (typed_holds e p.0) (all_hold_in ts p.1)
    typed_holds (node (form_is.Expr expr_is.Call) span (more callee (more (row ts) none))) is =
        let p = and_parts (is_expr is_type is_path callee) (are_exprs is_type is_path ts) is in
        call_holds only k m g span (typed g callee) (typed_all g ts) (gives g only k m is_type is_path known callee p.0) (typed_holds callee p.0) (all_hold_in ts p.1)
    typed_holds (node (form_is.Expr (expr_is.Unary op)) span (more e none)) is = unary_holds only k m span op (typed g e) (typed_holds e is)
    typed_holds (node (form_is.Expr (expr_is.Binary op)) span (more a (more b none))) is =
        let p = and_parts (is_expr is_type is_path a) (is_expr is_type is_path b) is in
        binary_holds only k m span op (typed g a) (typed g b) (typed_holds a p.0) (typed_holds b p.1)
    typed_holds _ is = never is

    all_hold_in : (ts : Trees) → are_exprs is_type is_path ts ≡ true → HoldsAll only k m (typed_all g ts)
    all_hold_in none is = tt
    all_hold_in (more t ts) is =
        let p = and_parts (is_expr is_type is_path t) (are_exprs is_type is_path ts) is in
        (typed_holds t p.0, all_hold_in ts p.1)

    pairs_hold_in : (ts : Trees) → are_pairs is_type is_path ts ≡ true → HoldsPairs only k m (pairs_typed g ts)
    pairs_hold_in none is = tt
    pairs_hold_in (more (node form_is.Pair span (more s (more t none))) ts) is =
        let p = and_parts (is_expr is_type is_path s) (is_expr is_type is_path t && are_pairs is_type is_path ts) is in
        let q = and_parts (is_expr is_type is_path t) (are_pairs is_type is_path ts) p.1 in
        ((typed_holds s p.0, typed_holds t q.0), pairs_hold_in ts q.1)
    pairs_hold_in _ is = never is

-- what is right is sound
right_sound : (e : Expr) → is_right e ≡ true → is_sound e ≡ true
right_sound e r =
    let p = and_parts (not (is_word e)) (is_full (type_of e)) r in
    and_from (not (is_word e)) (is_known (type_of e)) p.0 (full_is_known (type_of e) p.1)

mutual
  sound : (e : Expr) → holds is_right e ≡ true → holds is_sound e ≡ true
  sound (expr.leaf h) r = right_sound (expr.leaf h) r
  sound (expr.one h a) r =
      let e = expr.one h a in
      let p = and_parts (is_right e) (holds is_right a) r in
      and_from (is_sound e) (holds is_sound a) (right_sound e p.0) (sound a p.1)
  sound (expr.two h a b) r =
      let e = expr.two h a b in
      let p = and_parts (is_right e) (holds is_right a && holds is_right b) r in
      let q = and_parts (holds is_right a) (holds is_right b) p.1 in
      and_from (is_sound e) (holds is_sound a && holds is_sound b) (right_sound e p.0) (and_from (holds is_sound a) (holds is_sound b) (sound a q.0) (sound b q.1))
  sound (expr.three h a b c) r =
      let e = expr.three h a b c in
      let p = and_parts (is_right e) (holds is_right a && (holds is_right b && holds is_right c)) r in
      let q = and_parts (holds is_right a) (holds is_right b && holds is_right c) p.1 in
      let s = and_parts (holds is_right b) (holds is_right c) q.1 in
      and_from (is_sound e) (holds is_sound a && (holds is_sound b && holds is_sound c)) (right_sound e p.0)
      (and_from (holds is_sound a) (holds is_sound b && holds is_sound c) (sound a q.0) (and_from (holds is_sound b) (holds is_sound c) (sound b s.0) (sound c s.1)))
  sound (expr.many h es) r =
      let e = expr.many h es in
      let p = and_parts (is_right e) (all_hold is_right es) r in
      and_from (is_sound e) (all_hold is_sound es) (right_sound e p.0) (all_sound es p.1)

  all_sound : (es : Exprs) → all_hold is_right es ≡ true → all_hold is_sound es ≡ true
  all_sound expr.none r = refl
  all_sound (expr.more e es) r =
      let p = and_parts (holds is_right e) (all_hold is_right es) r in
      and_from (holds is_sound e) (all_hold is_sound es) (sound e p.0) (all_sound es p.1)

pub whole_value : (g : Around) (only : OneOp → Bool) (k : Known) (m : ℕ) (is_type is_path : Tree → Bool) (t : Tree) → IsKnown g only k m is_type is_path → is_expr is_type is_path t ≡ true → Clear only k m (typed g t) → is_no_value (typed g t) ≡ false → IsWhole (typed g t)
whole_value g only k m is_type is_path t known is c n =
    let e = typed g t in
    let good = typed_holds g only k m is_type is_path known t is c in
    holds_everywhere is_sound e ∙ sound e (is_whole is_right e good.0 (right_of e good n))
