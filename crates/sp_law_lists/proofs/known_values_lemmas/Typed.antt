-- What is typed, as a constant.
use Rattle.std.specs.Prelude.{ℕ, Bool, true, false, ◌&&◌, if◌then◌else◌, List, [], ◌∷◌, map}
use Rattle.std.proofs.Common.{◌≡◌, refl}
use Rattle.std.proofs.lemmas.Bool.{and_parts}
use Rattle.sp_words.specs.declared.words.IntWord.{IntWord}
use Rattle.sp_words.specs.declared.words.IntWord.TheVariants as int
use Rattle.sp_words.specs.declared.operators.UnaryOp.TheVariants as unary_is
use Rattle.sp_ast.specs.Trees.{Tree, Trees, row, node, none, more}
use Rattle.sp_ast.specs.Trees as read
use Rattle.sp_ast.specs.declared.forms.Form.TheVariants as form_is
use Rattle.sp_ast.specs.declared.forms.ExprForm.TheVariants as expr_is
use Rattle.sp_base.specs.declared.places.Span.{Span}
use Rattle.sp_types.specs.declared.words.Maker.TheVariants as maker_is
use Rattle.sp_types.specs.Types.{Ty, word, is_known}
use Rattle.sp_typed.specs.declared.words.Written.{Written}
use Rattle.sp_typed.specs.declared.words.OneOp.{OneOp}
use Rattle.sp_typed.specs.declared.words.LeafOp.TheVariants as leaf_is
use Rattle.sp_type_context.specs.declared.places.Place.TheVariants.{Whole}
use Rattle.sp_type_context.specs.declared.places.Place.TheVariants as place_is
use Rattle.sp_type_context.specs.Contexts.{Around}
use Rattle.sp_type_operands.specs.Operands.{unknown}
use Rattle.sp_type_operands.specs.Literals.{can_take, has_number, seen, unsigned_literal}
use Rattle.sp_type_context.specs.Typing.{typed, typed_all, pairs_typed, leaf_at, made_of, both_written, number_in, name_of, led}
use Rattle.sp_types.specs.Integers.{int_word}
use Rattle.sp_rule_bodies.specs.Known.{Known}
use Rattle.sp_type_constants.specs.Known.{Known as Values}
use Rattle.sp_type_constants.specs.Operations.{empty}
use Rattle.sp_law_lists.specs.known_values.Values.{fits}
use Rattle.sp_law_lists.specs.known_types.Trees.{is_expr, are_exprs, are_pairs}
use Rattle.sp_law_lists.proofs.known_types_lemmas.Full.{never}
use Rattle.sp_law_lists.proofs.known_types_lemmas.Tests.{first_fine, not_so}
use Rattle.sp_law_lists.specs.known_values.Given.{AreTold}
use Rattle.sp_law_lists.proofs.known_values_lemmas.Literals.{literal_told, number_fits}
use Rattle.sp_law_lists.proofs.known_values_lemmas.Nodes.{Told, not_told, negate_told, complement_told, size_told, cast_told}
use Rattle.sp_law_lists.proofs.known_values_lemmas.Pairs.{binary_told, choice_told, index_told}
use Rattle.sp_law_lists.proofs.known_values_lemmas.Rows.{ToldAll, ToldPairs, tuple_told, vector_told, set_told, map_told, led_told, member_told, set_member_told, call_told, new_told, method_told}

int_takes : (w : IntWord) → can_take (int_word w) ≡ true
int_takes int.Uint8 = refl
int_takes int.Uint16 = refl
int_takes int.Uint32 = refl
int_takes int.Uint64 = refl
int_takes int.Int8 = refl
int_takes int.Int16 = refl
int_takes int.Int32 = refl
int_takes int.Int64 = refl

module _ (g : Around) (only : OneOp → Bool) (k : Known) (m : ℕ) (v : Values) (is_type is_path : Tree → Bool) (names : AreTold g only k m v is_path) where
  -- what has no elements, where it has a type
  empty_told : (span : Span) (t : Ty) (w : Written) → fits t (empty t) ≡ true → Told only k m v (leaf_at span (if is_known t then t else unknown) (leaf_is.Empty w))
  empty_told span t w fit = by (is_known t)
    where
      by : (b : Bool) → Told only k m v (leaf_at span (if b then t else unknown) (leaf_is.Empty w))
      by true = λ c r p. fit
      by false = λ c r p. never r

  mutual
    pub typed_told : (t : Tree) → is_expr is_type is_path t ≡ true → Told only k m v (typed g t)
    typed_told (node (form_is.Expr expr_is.Path) span (more path none)) is = names.path span path is
    typed_told (node (form_is.Expr expr_is.Itself) span none) is = names.itself span
    typed_told (node (form_is.Expr expr_is.Current) span none) is = names.current span
    typed_told (node (form_is.Expr expr_is.True) span none) is = λ c r p. refl
    typed_told (node (form_is.Expr expr_is.False) span none) is = λ c r p. refl
    typed_told (node (form_is.Expr (expr_is.Number n)) span none) is =
        λ c r p. literal_told v unsigned_literal (leaf_at span (word unsigned_literal) (leaf_is.Number n)) refl refl p
    typed_told (node (form_is.Expr (expr_is.String text)) span none) is = λ c r p. refl
    typed_told (node (form_is.Expr (expr_is.Bytes bytes)) span none) is = λ c r p. refl
    typed_told (node (form_is.Expr (expr_is.Regex text)) span none) is = λ c r p. refl
    typed_told (node (form_is.Expr expr_is.Tuple) span ts) is = tuple_told only k m v span (typed_all g ts) (all_told_in ts is)
    typed_told (node (form_is.Expr expr_is.Vector) span ts) is = vector_told only k m v span (led (typed_all g ts)) (led_told only k m v (typed_all g ts) (all_told_in ts is))
    typed_told (node (form_is.Expr expr_is.Set) span ts) is = set_told only k m v span (led (typed_all g ts)) (led_told only k m v (typed_all g ts) (all_told_in ts is))
    typed_told (node (form_is.Expr expr_is.Map) span ts) is = map_told only k m v span (pairs_typed g ts) (pairs_told_in ts is)
    typed_told (node (form_is.Expr expr_is.EmptyVector) span (more t none)) is = empty_told span (made_of maker_is.Vector (g.type_in place_is.Value t ∷ [])) (g.written place_is.Value t) refl
    typed_told (node (form_is.Expr expr_is.EmptySet) span (more t none)) is = empty_told span (made_of maker_is.Set (g.type_in place_is.Key t ∷ [])) (g.written place_is.Key t) refl
    typed_told (node (form_is.Expr expr_is.EmptyMap) span (more s (more t none))) is =
        empty_told span (made_of maker_is.Map (g.type_in place_is.Key s ∷ g.type_in place_is.Value t ∷ [])) (both_written (g.written place_is.Key s) (g.written place_is.Value t)) refl
    typed_told (node (form_is.Expr (expr_is.TypedNumber w)) span (more n none)) is =
        λ c r p. (let f = first_fine only k m (leaf_at span (word (int_word w)) (leaf_is.TypedNumber (number_in n))) c in number_fits (int_word w) (number_in n) (int_takes w) (not_so (has_number (int_word w) false (number_in n)) f.0))
    typed_told (node (form_is.Expr expr_is.Cast) span (more t (more e none))) is =
        cast_told only k m v span (g.type_in Whole t) (g.written Whole t) (typed g e) (typed_told e (and_parts (is_type t) (is_expr is_type is_path e) is).1)
    typed_told (node (form_is.Expr expr_is.New) span (more path (more (row ts) none))) is = new_told only k m v g span (read.span_of path) (g.named (read.span_of path) path) (typed_all g ts)
    typed_told (node (form_is.Expr expr_is.Size) span (more e none)) is = size_told only k m v span (typed g e) (typed_told e is)
    typed_told (node (form_is.Expr expr_is.Choice) span (more c (more a (more b none)))) is =
        let p = and_parts (is_expr is_type is_path c) (is_expr is_type is_path a && is_expr is_type is_path b) is in
        let q = and_parts (is_expr is_type is_path a) (is_expr is_type is_path b) p.1 in
        choice_told only k m v span (typed g c) (typed g a) (typed g b) (typed_told c p.0) (typed_told a q.0) (typed_told b q.1)
    typed_told (node (form_is.Expr expr_is.Member) span (more e (more name none))) is =
        let x = name_of name in
        member_told only k m v span (read.span_of name) (g.member (seen (typed g e)) x) (typed g e) (names.member (seen (typed g e)) x)
    typed_told (node (form_is.Expr expr_is.SetMember) span (more e (more name none))) is =
        set_member_told only k m v span (read.span_of name) (g.member (seen (typed g e)) (name_of name)) (typed g e)
    typed_told (node (form_is.Expr expr_is.Index) span (more e (more i none))) is =
        let p = and_parts (is_expr is_type is_path e) (is_expr is_type is_path i) is in
        index_told only k m v g span (seen (typed g e)) (typed g e) (typed g i) refl (typed_told e p.0) (typed_told i p.1)
    typed_told (node (form_is.Expr expr_is.Call) span (more (node (form_is.Expr expr_is.Member) member (more e (more name none))) (more (row ts) none))) is =
        let x = name_of name in
        let at = read.span_of name in
        let types = map seen (typed_all g ts) in
        let of = seen (typed g e) in
        method_told only k m v g span member at (g.method of x at types) (typed g e) (typed_all g ts) (names.method of x at types)
    typed_told (node (form_is.Expr expr_is.Call) span (more callee (more (row ts) none))) is = call_told only k m v g span (typed g callee) (typed_all g ts)
    typed_told (node (form_is.Expr (expr_is.Unary unary_is.Not)) span (more e none)) is = not_told only k m v span (typed g e) (typed_told e is)
    typed_told (node (form_is.Expr (expr_is.Unary unary_is.Negate)) span (more e none)) is = negate_told only k m v span (typed g e) (typed_told e is)
    typed_told (node (form_is.Expr (expr_is.Unary unary_is.Complement)) span (more e none)) is = complement_told only k m v span (typed g e) (typed_told e is)
    typed_told (node (form_is.Expr (expr_is.Binary op)) span (more a (more b none))) is =
        let p = and_parts (is_expr is_type is_path a) (is_expr is_type is_path b) is in
        binary_told only k m v span op (typed g a) (typed g b) (typed_told a p.0) (typed_told b p.1)
    typed_told _ is = never is

    all_told_in : (ts : Trees) → are_exprs is_type is_path ts ≡ true → ToldAll only k m v (typed_all g ts)
    all_told_in none is = tt
    all_told_in (more t ts) is =
        let p = and_parts (is_expr is_type is_path t) (are_exprs is_type is_path ts) is in
        (typed_told t p.0, all_told_in ts p.1)

    pairs_told_in : (ts : Trees) → are_pairs is_type is_path ts ≡ true → ToldPairs only k m v (pairs_typed g ts)
    pairs_told_in none is = tt
    pairs_told_in (more (node form_is.Pair span (more s (more t none))) ts) is =
        let p = and_parts (is_expr is_type is_path s) (is_expr is_type is_path t && are_pairs is_type is_path ts) is in
        let q = and_parts (is_expr is_type is_path t) (are_pairs is_type is_path ts) p.1 in
        ((typed_told s p.0, typed_told t q.0), pairs_told_in ts q.1)
    pairs_told_in _ is = never is
