-- An expression in which no rule is broken passes the test of what fits, and so does a place that may be changed.
use Rattle.std.specs.Prelude.{ℕ, Bool, true, false, not, ◌&&◌, ◌||◌, if◌then◌else◌, map, Option, Some, None, slice_get}
use Rattle.std.proofs.Common.{◌≡◌, refl, sym, ap, ◌∙◌, subst}
use Rattle.std.proofs.lemmas.Bool.{and_parts, and_from}
use Rattle.sp_base.specs.declared.places.Span.{Span}
use Rattle.sp_words.specs.declared.operators.UnaryOp.TheVariants as unary_is
use Rattle.sp_words.specs.declared.methods.Method.{Method}
use Rattle.sp_words.specs.Methods.{changes}
use Rattle.sp_types.specs.declared.words.Maker.{Maker}
use Rattle.sp_types.specs.declared.words.Maker.TheVariants as maker_is
use Rattle.sp_types.specs.Types.{Ty, word, made, tys, same, is_known, widens, goes}
use Rattle.sp_types.specs.Types as types
use Rattle.sp_types.proofs.Same.{same_is, same_itself}
use Rattle.sp_typed.specs.declared.heads.Leaf.{Leaf}
use Rattle.sp_typed.specs.declared.heads.One.{One}
use Rattle.sp_typed.specs.declared.words.LeafOp.{LeafOp}
use Rattle.sp_typed.specs.declared.words.LeafOp.TheVariants as leaf_is
use Rattle.sp_typed.specs.declared.words.OneOp.{OneOp}
use Rattle.sp_typed.specs.declared.words.OneOp.TheVariants as one_is
use Rattle.sp_typed.specs.declared.words.TwoOp.{TwoOp}
use Rattle.sp_typed.specs.declared.words.TwoOp.TheVariants as two_is
use Rattle.sp_typed.specs.declared.words.ManyOp.{ManyOp}
use Rattle.sp_typed.specs.declared.words.ManyOp.TheVariants as many_is
use Rattle.sp_typed.specs.declared.words.UnitMethod.TheVariants as unit_is
use Rattle.sp_typed.specs.Exprs.{Expr, Exprs, none, more, listed, leaf, one, two, three, many, type_of, is_number, is_minus, number_leaf}
use Rattle.sp_typed.specs.Nodes.{holds, all_hold, word_leaf, word_one}
use Rattle.sp_type_operands.specs.declared.operators.OperatorSort.{OperatorSort}
use Rattle.sp_type_operands.specs.Operands.{unknown, is_valueless, is_unsigned, is_integer, is_boolean, is_enum as is_enum_type, first_type, sort_of as operator_sort, stands_before, stands_behind, agree, unary_type, result_type, stands_alone, has_size}
use Rattle.sp_type_operands.specs.Literals.{leaf_number, type_has, typed_leaf, is_past, seen}
use Rattle.sp_type_operands.specs.Wholes.{may_hold, are_parts, is_of, all_of, first_seen, second_seen, has_keys_alone, row_type, all_in_turn, are_entries, map_type, tuple_type}
use Rattle.sp_type_context.specs.Typing.{choice_type}
use Rattle.sp_type_methods.specs.Methods.{number, method_gives, method_takes}
use Rattle.sp_rule_bodies.specs.Known.{Known}
use Rattle.sp_rule_bodies.specs.Values.{is_no_value, is_no_object, is_regex, knows, value_goes, written_tests}
use Rattle.sp_rule_bodies.specs.ExprTests.{is_unmeant, negates, leaf_tests, one_op_tests, is_past_key, disagree, index_tests, two_op_tests, unlike, choice_tests, all_value_tests, element_tests, elements_tests, row_tests, entries_tests, map_tests, is_convertible, convert_tests, many_op_tests, argument_fits, arguments_fit, changes_leaf, changes_one, is_element, is_place, expr_tests}
use Rattle.sp_rule_lists.specs.Told.{function_takes}
use Rattle.sp_code_meaning.specs.Exprs.{offset_local, slot_local}
use Rattle.sp_meaning.specs.Operations.{is_self}
use Rattle.sp_lower_expr.specs.declared.rows.Row.TheVariants as row_is
use Rattle.sp_lower_expr.specs.Many.{kept_in, row_of}
use Rattle.sp_lower_expr.specs.Literals.{number_behind}
use Rattle.sp_law_lists.specs.known_types.Full.{is_full, is_right, is_unknown}
use Rattle.sp_law_lists.specs.known_types.Clear.{is_clear, any_op}
use Rattle.sp_law_lists.proofs.known_types_lemmas.Full.{never, full_is_known, map_first}
use Rattle.sp_law_lists.proofs.known_types_lemmas.Tests.{Fine, fine_parts, both_false, not_so, at_first, tests_of, no_object}
use Rattle.sp_law_lists.specs.known_literals.Widened.{is_widen, widens_value}
use Rattle.sp_law_lists.proofs.whole_list_lemmas.None.{holds_both, all_hold_both}
use Rattle.sp_law_lists.specs.fit_expr.Around.{Around}
use Rattle.sp_law_lists.specs.fit_expr.Sorts.{Bools, Unsigned, Signed, Bytes, Text, Units, sort_of, takes, is_sized, is_integer as is_integer_sort, casts}
use Rattle.sp_law_lists.specs.fit_expr.Lists.{part_is, members_are, all_are, are_in_turn}
use Rattle.sp_law_lists.specs.fit_expr.Test.{is_sort, local_is, two_is_of, three_is, leaf_is_of, one_is_of, one_or_literal, is_enum, has_member, has_range, item_is, tuple_has, tuple_of, vector_with, set_with, map_with, converts, offset_is, call_is, method_is, change_is, member_place, local_place, owner_is, is_index, many_is_of, row_is_of, expr_passes, exprs_pass, change_passes, place_passes}
use Rattle.sp_law_lists.specs.known_kinds.Made.{is_targeted, element_made, is_even, are_targeted, given_by, receiver_sort, method_made, unit_method_made, many_made, one_made, two_made, leaf_made, is_made, IsAsked, owner_kept, receiver_kept, keeps_owner, is_operator, is_row, is_built}
use Rattle.sp_law_lists.specs.known_kinds.Kept.{offset_kept}
use Rattle.sp_law_lists.proofs.known_kinds_lemmas.Types.{boolean_sort, unsigned_sort, signed_sort, bytes_sort, text_sort, sized_sort, either, operators_take}
use Rattle.sp_law_lists.proofs.known_kinds_lemmas.Values.{sorted, number_in, minus_in, or_false, has_type, seen_is, full_type, is_asked, asked_so, not_unknown, cast_sorts, widen_sorts, widened_valued, turned, first_part, key_same, integer_sort, no_number, not_true, no_regex, no_regex_value, no_regex_object, and_false, Valued}
use Rattle.sp_law_lists.proofs.known_kinds_lemmas.Calls.{arguments_of, of_list, call_so, row_full, takes_full, method_so, change_so}

module _ (around : Around) (k : Known) (m : ℕ) where
  -- leaves
  abbrev over_of : Ty → LeafOp → Bool
  over_of t op = if number_leaf op then not (type_has t false (leaf_number op)) else (if typed_leaf op then not (type_has t false (leaf_number op)) else false)

  leaf_so : (h : Leaf) (op : LeafOp) → h.op ≡ op → leaf_made around op h.ty ≡ true → Fine (leaf_tests m (leaf h) op) → not (word_leaf op) ≡ true → (number_leaf op && over_of h.ty op) ≡ false → is_regex h.ty ≡ false → leaf_is_of around op h.ty ≡ true
  leaf_so h leaf_is.True is given f w past valued = sorted h.ty Bools (boolean_sort h.ty given)
  leaf_so h leaf_is.False is given f w past valued = sorted h.ty Bools (boolean_sort h.ty given)
  leaf_so h (leaf_is.Number n) is given f w past valued = number_in h.ty n given (not_so (type_has h.ty false n) past)
  leaf_so h (leaf_is.TypedNumber n) is given f w past valued = number_in h.ty n given (not_so (type_has h.ty false n) (sym (ap (over_of h.ty) is) ∙ f.0))
  leaf_so h (leaf_is.Text x) is given f w past valued = sorted h.ty Text (text_sort h.ty given)
  leaf_so h (leaf_is.Bytes x) is given f w past valued = sorted h.ty Bytes (bytes_sort h.ty given)
  leaf_so h (leaf_is.Regex x) is given f w past valued = never (sym valued ∙ given)
  leaf_so h (leaf_is.Empty x) is given f w past valued = refl
  leaf_so h (leaf_is.Itself s) is given f w past valued = either (is_unmeant s) (leaf_is_of around (leaf_is.Itself s) h.ty) given (λ u. never (sym f.0 ∙ u)) (λ x. x)
  leaf_so h (leaf_is.Current s) is given f w past valued = either (is_unmeant s) (leaf_is_of around (leaf_is.Current s) h.ty) given (λ u. never (sym f.0 ∙ u)) (λ x. x)
  leaf_so h (leaf_is.Local l) is given f w past valued = given
  leaf_so h (leaf_is.Parameter n s) is given f w past valued = given
  leaf_so h (leaf_is.Constant c) is given f w past valued = either (is_regex h.ty) (leaf_is_of around (leaf_is.Constant c) h.ty) given (λ u. never (sym valued ∙ u)) (λ x. x)
  leaf_so h (leaf_is.Label j l) is given f w past valued = given
  leaf_so h _ is given f w past valued = never w

  -- a minus sign before a number is tested as a whole
  minus_integer : (op : OneOp) (t : Ty) (a : Expr) → one_made around op t a ≡ true → is_minus op ≡ true → is_number a ≡ true → is_integer t ≡ true
  minus_integer one_is.Negate t a given i n = sym (ap (λ b. if b then is_integer t else same t (unary_type unary_is.Negate (seen a))) n) ∙ given
  minus_integer _ t a given i n = never i

  minus_so : (op : OneOp) (o : LeafOp) (t : Ty) (rest : Bool) → ((is_minus op && number_leaf o) && (if is_minus op && number_leaf o then not (type_has t true (leaf_number o)) else false)) ≡ false
      → (is_minus op ≡ true → number_leaf o ≡ true → is_integer t ≡ true) → ((is_minus op && number_leaf o) ≡ false → rest ≡ true) → one_or_literal around (number_behind op o) t rest ≡ true
  minus_so one_is.Negate (leaf_is.Number n) t rest past integer next = minus_in t n (integer refl refl) (not_so (type_has t true n) past)
  minus_so one_is.Negate _ t rest past integer next = next refl
  minus_so _ o t rest past integer next = next refl

  -- what is done to one value that passes
  one_so : (op : OneOp) (t : Ty) (a : Expr) → is_operator op ≡ true → (is_minus op && is_number a) ≡ false → one_made around op t a ≡ true → Fine (one_op_tests m t op a) → (if is_widen op then not (is_past a) else true) ≡ true → is_right a ≡ true → is_full t ≡ true
      → one_is_of around op (type_of a) t ≡ true
  one_so one_is.Negate t a may minus given f w r full =
      let past = f.1.0 in
      let right = asked_so a (negates a) r past f.1.1.0 in
      let signed : stands_alone unary_is.Negate (type_of a) ≡ true = either (is_number a) (stands_alone unary_is.Negate (type_of a)) right (λ n. never (sym minus ∙ n)) (λ x. x) in
      let own = sym (ap (λ b. if b then is_integer t else same t (unary_type unary_is.Negate (seen a))) minus) ∙ given in
      let is : t ≡ type_of a = same_is t (unary_type unary_is.Negate (seen a)) own ∙ ap (unary_type unary_is.Negate) (seen_is a past) ∙ ap (λ b. if b then type_of a else unknown) signed in
      let s = signed_sort (type_of a) signed in
      and_from (is_sort (type_of a) Signed) (is_sort t Signed) (sorted (type_of a) Signed s) (sorted t Signed (ap sort_of is ∙ s))
  one_so one_is.Not t a may minus given f w r full =
      let right = asked_so a (stands_alone unary_is.Not (type_of a)) r f.1.0 f.1.1.0 in
      and_from (is_sort (type_of a) Bools) (is_sort t Bools) (sorted (type_of a) Bools (boolean_sort (type_of a) right)) (sorted t Bools (boolean_sort t given))
  one_so one_is.Complement t a may minus given f w r full =
      let past = f.1.0 in
      let right = asked_so a (stands_alone unary_is.Complement (type_of a)) r past f.1.1.0 in
      let is : t ≡ type_of a = same_is t (unary_type unary_is.Complement (seen a)) given ∙ ap (unary_type unary_is.Complement) (seen_is a past) ∙ ap (λ b. if b then type_of a else unknown) right in
      let s = unsigned_sort (type_of a) right in
      and_from (is_sort (type_of a) Unsigned) (is_sort t Unsigned) (sorted (type_of a) Unsigned s) (sorted t Unsigned (ap sort_of is ∙ s))
  one_so one_is.Size t a may minus given f w r full =
      let right = asked_so a (has_size (type_of a)) r f.1.0 f.1.1.0 in
      and_from (is_sized (sort_of (type_of a))) (is_sort t Unsigned) (sized_sort (type_of a) right) (sorted t Unsigned (unsigned_sort t given))
  one_so (one_is.Cast x) t a may minus given f w r full =
      let g = (fine_parts (written_tests m x) _ f).1 in
      let right = asked_so a (is_integer (type_of a) || is_enum_type (type_of a)) r g.1.1.0 g.1.1.1.0 in
      let integer : is_integer t ≡ true = either (is_integer t) (is_unknown t) given (λ i. i) (λ u. never (not_unknown t full u)) in
      cast_sorts (type_of a) t right g.1.1.1.1.0 integer
  one_so one_is.Widen t a may minus given f w r full =
      let past = not_true (is_past a) w in
      widen_sorts (type_of a) t (subst (λ s. widens s t ≡ true) (seen_is a past) given)
  one_so (one_is.Field n) t a may minus given f w r full = subst (λ s. has_member around s n t ≡ true) (seen_is a f.1.0) given
  one_so (one_is.Variable n) t a may minus given f w r full = subst (λ s. has_member around s n t ≡ true) (seen_is a f.1.0) given
  one_so (one_is.Bit n) t a may minus given f w r full =
      let p = and_parts (has_range around (seen a) n) (is_unknown t || casts Unsigned t) given in
      let known : casts Unsigned t ≡ true = either (is_unknown t) (casts Unsigned t) p.1 (λ u. never (not_unknown t full u)) (λ x. x) in
      and_from (has_range around (type_of a) n) (casts Unsigned t) (subst (λ s. has_range around s n ≡ true) (seen_is a f.1.0) p.0) known
  one_so (one_is.IsSet n) t a may minus given f w r full =
      let p = and_parts (is_sort (seen a) Units) (is_boolean t) given in
      and_from (is_sort (type_of a) Units) (is_sort t Bools) (subst (λ s. is_sort s Units ≡ true) (seen_is a f.1.0) p.0) (sorted t Bools (boolean_sort t p.1))
  one_so _ t a may minus given f w r full = never may

  -- a part is a value, and no literal past its type
  one_valued : (op : OneOp) (t : Ty) (a : Expr) → is_operator op ≡ true → one_made around op t a ≡ true → Fine (one_op_tests m t op a) → (if is_widen op then not (is_past a) else true) ≡ true → (is_past a ≡ false) × (is_valueless (type_of a) ≡ false)
  one_valued one_is.Negate t a may given f w = (f.1.0, has_type a f.0)
  one_valued one_is.Not t a may given f w = (f.1.0, has_type a f.0)
  one_valued one_is.Complement t a may given f w = (f.1.0, has_type a f.0)
  one_valued one_is.Size t a may given f w = (f.1.0, has_type a f.0)
  one_valued (one_is.Cast x) t a may given f w = (let g = (fine_parts (written_tests m x) _ f).1 in (g.1.1.0, has_type a g.1.0))
  one_valued one_is.Widen t a may given f w =
      let past = not_true (is_past a) w in
      (past, widened_valued (type_of a) t (subst (λ s. widens s t ≡ true) (seen_is a past) given))
  one_valued (one_is.Field n) t a may given f w = (f.1.0, has_type a f.0)
  one_valued (one_is.Variable n) t a may given f w = (f.1.0, has_type a f.0)
  one_valued (one_is.Bit n) t a may given f w = (f.1.0, has_type a f.0)
  one_valued (one_is.IsSet n) t a may given f w = (f.1.0, has_type a f.0)
  one_valued _ t a may given f w = never may

  -- an operator
  agree_so : (op : OperatorSort) (a b : Expr) → is_right a ≡ true → is_past a ≡ false → is_right b ≡ true → is_past b ≡ false → stands_before op (type_of a) ≡ true → stands_behind op (type_of b) ≡ true → disagree op a b ≡ false → agree op (type_of a) (type_of b) ≡ true
  agree_so op a b r past s late before behind d =
      let x = or_false (is_past_key op a) (knows a && knows b && stands_before op (type_of a) && stands_behind op (type_of b) && not (agree op (type_of a) (type_of b))) d in
      let y = and_from (knows a && knows b && stands_before op (type_of a)) (stands_behind op (type_of b)) (and_from (knows a && knows b) (stands_before op (type_of a)) (and_from (knows a) (knows b) (is_asked a r past) (is_asked b s late)) before) behind in
      not_so (agree op (type_of a) (type_of b)) (both_false (knows a && knows b && stands_before op (type_of a) && stands_behind op (type_of b)) (not (agree op (type_of a) (type_of b))) x y)

  -- an element, by the type of what is indexed
  index_so : (s t : Ty) (a b : Expr) → element_made s t b ≡ true → Fine (index_tests k m s a b) → is_full s ≡ true → is_full t ≡ true → is_right b ≡ true → is_past b ≡ false → item_is s (type_of b) t ≡ true
  index_so (made maker_is.Vector ts) t a b given f whole full r past =
      let key = unsigned_sort (type_of b) (asked_so b (is_unsigned (type_of b)) r past f.0) in
      and_from (is_sort (type_of b) Unsigned) (part_is ts 0 t) (sorted (type_of b) Unsigned key) (first_part ts t given full)
  index_so (made maker_is.Map (types.more x (types.more v types.none))) t a b given f whole full r past =
      let p = and_parts (same t v) (is_targeted x b) given in
      let goes_ = (and_parts (not (is_past b)) (goes (type_of b) x) (not_so (value_goes x b) f.0)).1 in
      let key = key_same (type_of b) x (full_is_known (type_of b) (full_type b r)) (full_is_known x (map_first x v whole)) goes_ (subst (λ u. not (widens u x && not (same u x)) ≡ true) (seen_is b past) p.1) in
      and_from (same x (type_of b)) (same v t) (turned (type_of b) x key) (turned t v p.0)
  index_so (made maker_is.Map types.none) t a b given f whole full r past = never whole
  index_so (made maker_is.Map (types.more x types.none)) t a b given f whole full r past = never whole
  index_so (made maker_is.Map (types.more x (types.more v (types.more u us)))) t a b given f whole full r past = never whole
  index_so (made maker_is.Set ts) t a b given f whole full r past = never (not_unknown t full (and_parts (is_unknown t) (is_targeted (first_type ts) b) given).0)
  index_so (made maker_is.Tuple ts) t a b given f whole full r past = never (not_unknown t full given)
  index_so (word w) t a b given f whole full r past = never (not_unknown t full given)

  two_so : (op : TwoOp) (t : Ty) (a b : Expr) → two_made op t a b ≡ true → Fine (two_op_tests k m op a b) → is_right a ≡ true → is_right b ≡ true → is_full t ≡ true → two_is_of op (type_of a) (type_of b) t ≡ true
  two_so (two_is.Binary op) t a b given f r s full =
      let o = operator_sort op in
      let past = f.1.0 in
      let late = f.1.1.1.1.0 in
      let before = asked_so a (stands_before o (type_of a)) r past f.1.1.0 in
      let behind = asked_so b (stands_behind o (type_of b)) s late f.1.1.1.1.1.0 in
      let agreed = agree_so o a b r past s late before behind f.1.1.1.1.1.1.0 in
      let is : t ≡ result_type o (type_of a) (type_of b) = same_is t (result_type o (seen a) (seen b)) given ∙ ap (λ x. result_type o x (seen b)) (seen_is a past) ∙ ap (result_type o (type_of a)) (seen_is b late) in
      operators_take op (type_of a) (type_of b) t before behind agreed is
  two_so two_is.Index t a b given f r s full =
      index_so (type_of a) t a b (subst (λ u. element_made u t b ≡ true) (seen_is a f.1.0) given) f.1.1.1.1 (full_type a r) full s f.1.1.1.0
  two_so (two_is.Item n) t a b given f r s full = subst (λ u. tuple_has u n t ≡ true) (seen_is a f.1.0) given

  two_valued : (op : TwoOp) (a b : Expr) → Fine (two_op_tests k m op a b) → (is_past a ≡ false) × (is_valueless (type_of a) ≡ false) × (is_past b ≡ false) × (is_valueless (type_of b) ≡ false)
  two_valued (two_is.Binary op) a b f = (f.1.0, has_type a f.0, f.1.1.1.1.0, has_type b f.1.1.1.0)
  two_valued two_is.Index a b f = (f.1.0, has_type a f.0, f.1.1.1.0, has_type b f.1.1.0)
  two_valued (two_is.Item n) a b f = (f.1.0, has_type a f.0, f.1.1.1.0, has_type b f.1.1.0)

  -- a choice
  choice_so : (c a b : Expr) (t : Ty) → same t (choice_type a b) ≡ true → Fine (choice_tests m c a b) → is_right c ≡ true → is_right a ≡ true → is_right b ≡ true → three_is (type_of c) (type_of a) (type_of b) t ≡ true
  choice_so c a b t given f r s u =
      let past = f.1.1.1.1.0 in
      let late = f.1.1.1.1.1.1.0 in
      let truth = asked_so c (is_boolean (type_of c)) r f.1.0 f.1.1.0 in
      let alike = asked_both a b s past u late f.1.1.1.1.1.1.1.0 in
      let seen_alike : same (seen a) (seen b) ≡ true = ap (λ x. same x (seen b)) (seen_is a past) ∙ ap (same (type_of a)) (seen_is b late) ∙ alike in
      let is : t ≡ type_of a = same_is t (choice_type a b) given ∙ ap (λ x. if x then seen a else unknown) seen_alike ∙ seen_is a past in
      let first = ap (same (type_of a)) is ∙ same_itself (type_of a) in
      let second = subst (λ x. same (type_of b) x ≡ true) (sym (is ∙ same_is (type_of a) (type_of b) alike)) (same_itself (type_of b)) in
      and_from (is_sort (type_of c) Bools && same (type_of a) t) (same (type_of b) t) (and_from (is_sort (type_of c) Bools) (same (type_of a) t) (sorted (type_of c) Bools (boolean_sort (type_of c) truth)) first) second
    where
      asked_both : (a b : Expr) → is_right a ≡ true → is_past a ≡ false → is_right b ≡ true → is_past b ≡ false → unlike a b ≡ false → same (type_of a) (type_of b) ≡ true
      asked_both a b s past u late d = not_so (same (type_of a) (type_of b)) (both_false (knows a && knows b) (not (same (type_of a) (type_of b))) d (and_from (knows a) (knows b) (is_asked a s past) (is_asked b u late)))

  -- a node round parts that pass
  one_passes : (h : One) (a : Expr) → is_past (one h a) ≡ false → (is_minus h.op ≡ true → is_number a ≡ true → is_integer h.ty ≡ true) → ((is_minus h.op && is_number a) ≡ false → (expr_passes around a && one_is_of around h.op (type_of a) h.ty) ≡ true) → expr_passes around (one h a) ≡ true
  one_passes h (leaf i) past integer next = minus_so h.op i.op h.ty (expr_passes around (leaf i) && one_is_of around h.op i.ty h.ty) past integer next
  one_passes h (one i a) past integer next = next (no_number (is_minus h.op))
  one_passes h (two i a b) past integer next = next (no_number (is_minus h.op))
  one_passes h (three i c a b) past integer next = next (no_number (is_minus h.op))
  one_passes h (many i es) past integer next = next (no_number (is_minus h.op))

  -- rows of parts: each is a value, and no literal past its type
  all_valued : (es : Exprs) → Fine (all_value_tests m es) → Valued es
  all_valued none f = tt
  all_valued (more e es) f = ((f.1.0, no_regex_value e f.0), all_valued es f.1.1)

  elements_valued : (keyed : Bool) (x : Expr) (es : Exprs) → Fine (elements_tests m keyed x es) → Valued es
  elements_valued keyed x none f = tt
  elements_valued keyed x (more e es) f =
      let p = fine_parts (element_tests m keyed x e) (elements_tests m keyed x es) f in
      ((p.0.1.0, no_regex_value e p.0.0), elements_valued keyed x es p.1)

  row_valued : (keyed : Bool) (span : Span) (es : Exprs) → Fine (row_tests m keyed span es) → Valued es
  row_valued keyed span none f = tt
  row_valued keyed span (more e es) f = elements_valued keyed e (more e es) f

  entries_valued : (keyed : Bool) (key value : Expr) (es : Exprs) → Fine (entries_tests m keyed key value es) → Valued es
  entries_valued keyed key value none f = tt
  entries_valued keyed key value (more e es) f =
      let p = fine_parts (element_tests m keyed (if keyed then key else value) e) (entries_tests m (not keyed) key value es) f in
      ((p.0.1.0, no_regex_value e p.0.0), entries_valued (not keyed) key value es p.1)

  map_valued : (span : Span) (es : Exprs) → Fine (map_tests m span es) → Valued es
  map_valued span none f = tt
  map_valued span (more e none) f = never (sym f.0)
  map_valued span (more key (more value es)) f = entries_valued true key value (more key (more value es)) f

  converted_valued : (span : Span) (es : Exprs) → Fine (convert_tests m span es) → Valued es
  converted_valued span none f = tt
  converted_valued span (more e none) f =
      let c = and_parts (not (is_past e)) _ (not_so (is_convertible e) f.0) in
      ((not_true (is_past e) c.0, no_regex_value e (and_false (is_no_value e) f.1.0)), tt)
  converted_valued span (more e (more x es)) f = never (not_so false f.0)

  abbrev is_container : ManyOp → Bool
  is_container many_is.Tuple = true
  is_container many_is.Vector = true
  is_container many_is.Set = true
  is_container many_is.Map = true
  is_container (many_is.Convert n) = true
  is_container op = false

  many_valued : (op : ManyOp) (span : Span) (es : Exprs) → is_container op ≡ true → Fine (many_op_tests k m op span es) → Valued es
  many_valued many_is.Tuple span es row f = all_valued es f
  many_valued many_is.Vector span es row f = row_valued false span es f
  many_valued many_is.Set span es row f = row_valued true span es f
  many_valued many_is.Map span es row f = map_valued span es f
  many_valued (many_is.Convert n) span es row f = converted_valued span es f
  many_valued _ span es row f = never row

  -- a tuple
  members_so : (es : Exprs) → Valued es → members_are (tys (map seen (listed es))) es ≡ true
  members_so none v = refl
  members_so (more e es) v =
      and_from (same (seen e) (type_of e)) (members_are (tys (map seen (listed es))) es) (subst (λ u. same u (type_of e) ≡ true) (sym (seen_is e v.0.0)) (same_itself (type_of e))) (members_so es v.1)

  -- elements of the type of the first of them
  elements_so : (u : Ty) (es : Exprs) → all_of u (listed es) ≡ true → all_are (types.more u types.none) es ≡ true
  elements_so u none a = refl
  elements_so u (more e es) a =
      let p = and_parts (is_of u e) (all_of u (listed es)) a in
      and_from (same u (type_of e)) (all_are (types.more u types.none) es) (and_parts (same u (type_of e)) (not (is_past e)) p.0).0 (elements_so u es p.1)

  record IsWhole (maker : Maker) (t : Ty) (es : Exprs) : Type 0 where
    of : Ty
    is : t ≡ made maker (types.more of types.none)
    all : all_of of (listed es) ≡ true

  row_whole : (maker : Maker) (t : Ty) (es : Exprs) → same t (row_type maker (listed es)) ≡ true → is_full t ≡ true → IsWhole maker t es
  row_whole maker t es given full = by (may_hold (has_keys_alone maker) (first_seen (listed es)) && all_of (first_seen (listed es)) (listed es)) refl (same_is t (row_type maker (listed es)) given)
    where
      by : (b : Bool) → (may_hold (has_keys_alone maker) (first_seen (listed es)) && all_of (first_seen (listed es)) (listed es)) ≡ b → t ≡ (if b then made maker (types.more (first_seen (listed es)) types.none) else unknown) → IsWhole maker t es
      by true c e = record { of = first_seen (listed es); is = e; all = (and_parts (may_hold (has_keys_alone maker) (first_seen (listed es))) (all_of (first_seen (listed es)) (listed es)) c).1 }
      by false c e = never (not_unknown t full (ap is_unknown e))

  -- keys and values
  turn_so : (x v : Ty) (es : Exprs) → is_even es ≡ true → all_in_turn true x v (listed es) ≡ true → are_in_turn (types.more x (types.more v types.none)) 0 1 es ≡ true
  turn_so x v none even a = refl
  turn_so x v (more e none) even a = never even
  turn_so x v (more e (more y es)) even a =
      let p = and_parts (is_of x e) (is_of v y && all_in_turn true x v (listed es)) a in
      let q = and_parts (is_of v y) (all_in_turn true x v (listed es)) p.1 in
      let ts = types.more x (types.more v types.none) in
      and_from (same x (type_of e)) (same v (type_of y) && are_in_turn ts 0 1 es) (and_parts (same x (type_of e)) (not (is_past e)) p.0).0
      (and_from (same v (type_of y)) (are_in_turn ts 0 1 es) (and_parts (same v (type_of y)) (not (is_past y)) q.0).0 (turn_so x v es even q.1))

  map_so : (t : Ty) (es : Exprs) → same t (map_type (listed es)) ≡ true → is_even es ≡ true → is_full t ≡ true → map_with t es ≡ true
  map_so t es given even full = by (are_entries (first_seen (listed es)) (second_seen (listed es)) (listed es)) refl (same_is t (map_type (listed es)) given)
    where
      by : (b : Bool) → are_entries (first_seen (listed es)) (second_seen (listed es)) (listed es) ≡ b → t ≡ (if b then made maker_is.Map (types.more (first_seen (listed es)) (types.more (second_seen (listed es)) types.none)) else unknown) → map_with t es ≡ true
      by true c e =
          let x = first_seen (listed es) in
          let v = second_seen (listed es) in
          let p = and_parts (may_hold true x) (may_hold false v && all_in_turn true x v (listed es)) c in
          let q = and_parts (may_hold false v) (all_in_turn true x v (listed es)) p.1 in
          subst (λ u. map_with u es ≡ true) (sym e) (turn_so x v es even q.1)
      by false c e = never (not_unknown t full (ap is_unknown e))

  -- a number that becomes a label
  converts_so : (n : ℕ) (t : Ty) (span : Span) (es : Exprs) → is_enum n t ≡ true → Fine (convert_tests m span es) → all_hold is_right es ≡ true → Valued es → converts n es t ≡ true
  converts_so n t span none given f r v = never (not_so false f.0)
  converts_so n t span (more e none) given f r v =
      let right = at_first is_right e (and_parts (holds is_right e) true r).0 in
      let c = (and_parts (not (is_past e)) (not (is_known (type_of e)) || is_no_object e || is_integer (type_of e)) (not_so (is_convertible e) f.0)).1 in
      let integer : is_integer (type_of e) ≡ true = either (not (is_known (type_of e)) || is_no_object e) (is_integer (type_of e)) c
      (λ d. either (not (is_known (type_of e))) (is_no_object e) d (λ u. never (sym (ap not (full_is_known (type_of e) (full_type e right))) ∙ u)) (λ u. never (sym (no_object e (and_false (is_no_value e) f.1.0)) ∙ u))) (λ i. i) in
      and_from (is_integer_sort (sort_of (type_of e))) (is_enum n t) (integer_sort (type_of e) integer) given
  converts_so n t span (more e (more x es)) given f r v = never (not_so false f.0)

  tuple_so : (t : Ty) (es : Exprs) → same t (tuple_type (map seen (listed es))) ≡ true → is_full t ≡ true → Valued es → tuple_of t es ≡ true
  tuple_so t es given full v = by (are_parts (map seen (listed es))) (same_is t (tuple_type (map seen (listed es))) given)
    where
      by : (b : Bool) → t ≡ (if b then made maker_is.Tuple (tys (map seen (listed es))) else unknown) → tuple_of t es ≡ true
      by true e = subst (λ u. tuple_of u es ≡ true) (sym e) (members_so es v)
      by false e = never (not_unknown t full (ap is_unknown e))

  many_so : (op : ManyOp) (t : Ty) (span : Span) (es : Exprs) → is_container op ≡ true → many_made around op t es ≡ true → Fine (many_op_tests k m op span es) → is_full t ≡ true → all_hold is_right es ≡ true → Valued es → many_is_of around op es t ≡ true
  many_so many_is.Tuple t span es row given f full r v = tuple_so t es given full v
  many_so many_is.Vector t span es row given f full r v = (let w = row_whole maker_is.Vector t es given full in subst (λ u. vector_with u es ≡ true) (sym w.is) (elements_so w.of es w.all))
  many_so many_is.Set t span es row given f full r v = (let w = row_whole maker_is.Set t es given full in subst (λ u. set_with u es ≡ true) (sym w.is) (elements_so w.of es w.all))
  many_so many_is.Map t span es row given f full r v = (let p = and_parts (same t (map_type (listed es))) (is_even es) given in map_so t es p.0 p.1 full)
  many_so (many_is.Convert n) t span es row given f full r v = converts_so n t span es given f r v
  many_so _ t span es row given f full r v = never row

  -- such a node is made of the values of its parts
  values_alone : (op : ManyOp) (o : Option ℕ) (kept : ℕ → Bool) (change : Method → Option ℕ → Bool) (values : Bool) → is_container op ≡ true → values ≡ true → row_is_of around (row_of op o) kept change values ≡ true
  values_alone many_is.Tuple o kept change values row e = e
  values_alone many_is.Vector o kept change values row e = e
  values_alone many_is.Set o kept change values row e = e
  values_alone many_is.Map o kept change values row e = e
  values_alone (many_is.Convert n) o kept change values row e = e
  values_alone _ o kept change values row e = never row

  -- what is known of each node
  abbrev owned : Expr → Bool
  owned e = widens_value e && keeps_owner around e

  abbrev right_so : Expr → Bool
  right_so e = is_right e && owned e

  abbrev clear_so : Expr → Bool
  clear_so e = is_clear any_op k m e && right_so e

  abbrev made_so : Expr → Bool
  made_so e = is_made around e && clear_so e

  abbrev pub all_so : Expr → Bool
  all_so e = is_built e && made_so e

  record Node (e : Expr) : Type 0 where
    built : is_built e ≡ true
    of_form : is_made around e ≡ true
    tests : Fine (expr_tests k m e)
    right : is_right e ≡ true
    widened : widens_value e ≡ true
    owner : keeps_owner around e ≡ true

  node_of : (e : Expr) → all_so e ≡ true → Node e
  node_of e n =
      let b = and_parts (is_built e) (made_so e) n in
      let f = and_parts (is_made around e) (clear_so e) b.1 in
      let c = and_parts (is_clear any_op k m e) (right_so e) f.1 in
      let r = and_parts (is_right e) (owned e) c.1 in
      let w = and_parts (widens_value e) (keeps_owner around e) r.1 in
      record { built = b.0; of_form = f.0; tests = tests_of any_op k m e c.0; right = r.0; widened = w.0; owner = w.1 }

  rights : (es : Exprs) → all_hold all_so es ≡ true → all_hold is_right es ≡ true
  rights es n = all_hold_both all_so all_so is_right (λ e i j. (node_of e i).right) es n n

  pub joined : (e : Expr) → holds is_built e ≡ true → holds (is_made around) e ≡ true → holds (is_clear any_op k m) e ≡ true → holds is_right e ≡ true → holds widens_value e ≡ true → holds (keeps_owner around) e ≡ true → holds all_so e ≡ true
  joined e b f c r w o =
      holds_both is_built made_so all_so (λ x i j. and_from (is_built x) (made_so x) i j) e b
      (holds_both (is_made around) clear_so made_so (λ x i j. and_from (is_made around x) (clear_so x) i j) e f
      (holds_both (is_clear any_op k m) right_so clear_so (λ x i j. and_from (is_clear any_op k m x) (right_so x) i j) e c
      (holds_both is_right owned right_so (λ x i j. and_from (is_right x) (owned x) i j) e r
      (holds_both widens_value (keeps_owner around) owned (λ x i j. and_from (widens_value x) (keeps_owner around x) i j) e w o))))

  -- a place
  local_so : (op : LeafOp) (t : Ty) → changes_leaf k op ≡ true → leaf_made around op t ≡ true → not (word_leaf op) ≡ true → local_place around op t ≡ true
  local_so (leaf_is.Local l) t change given w = given
  local_so _ t change given w = never change

  member_so : (op : OneOp) (t : Ty) (a : Expr) → changes_one op ≡ true → one_made around op t a ≡ true → Fine (one_op_tests m t op a) → not (word_one op) ≡ true → member_place around op (type_of a) t ≡ true
  member_so (one_is.Field n) t a change given f w = subst (λ s. has_member around s n t ≡ true) (seen_is a f.1.0) given
  member_so (one_is.Variable n) t a change given f w = subst (λ s. has_member around s n t ≡ true) (seen_is a f.1.0) given
  member_so _ t a change given f w = never change

  element_so : (op : TwoOp) (s u t : Ty) → is_element op s ≡ true → two_is_of op s u t ≡ true → (is_index op && item_is s u t) ≡ true
  element_so two_is.Index s u t e i = i
  element_so (two_is.Item n) s u t e i = never e
  element_so (two_is.Binary op) s u t e i = never e

  -- the receiver of a method that changes it is a place
  abbrev ReceiverPasses : Exprs → Type 0
  ReceiverPasses none = Unit {0}
  ReceiverPasses (more r es) = is_place k r ≡ true → (owner : Option ℕ) → owner_kept around owner r ≡ true → place_passes around owner r ≡ true

  -- a node of any number of parts passes
  abbrev kept_so : Ty → Exprs → ℕ → Bool
  kept_so t es l = exprs_pass around es && local_is around l t

  abbrev change_at : Ty → Exprs → Method → Option ℕ → Bool
  change_at t es call slot = change_passes around call slot t es

  abbrev RowPasses : ManyOp → Ty → Exprs → Type 0
  RowPasses op t es =
      row_is_of around (row_of op (offset_local around.places (is_self es))) (kept_so t es) (change_at t es) (exprs_pass around es && many_is_of around op es t) ≡ true

  container_passes : (op : ManyOp) (t : Ty) (span : Span) (es : Exprs) → is_container op ≡ true → many_made around op t es ≡ true → Fine (many_op_tests k m op span es) → is_full t ≡ true → all_hold is_right es ≡ true → (Valued es → exprs_pass around es ≡ true) → RowPasses op t es
  container_passes op t span es is given f full r parts =
      let v = many_valued op span es is f in
      values_alone op (offset_local around.places (is_self es)) (kept_so t es) (change_at t es) (exprs_pass around es && many_is_of around op es t) is
      (and_from (exprs_pass around es) (many_is_of around op es t) (parts v) (many_so op t span es is given f full r v))

  method_row : (call : Method) (slot o : Option ℕ) (kept : ℕ → Bool) (change : Method → Option ℕ → Bool) (values : Bool) → (changes call ≡ true → change call slot ≡ true) → (changes call ≡ false → values ≡ true) → row_is_of around (row_of (many_is.Method call slot) o) kept change values ≡ true
  method_row call slot o kept change values c v = by (changes call) refl
    where
      by : (b : Bool) → changes call ≡ b → row_is_of around (if b then row_is.Changes call slot else row_is.Values) kept change values ≡ true
      by true e = c e
      by false e = v e

  offset_row : (o : Option ℕ) (kept : ℕ → Bool) (change : Method → Option ℕ → Bool) (values : Bool) → ((l : ℕ) → o ≡ Some l → kept l ≡ true) → values ≡ true → row_is_of around (kept_in o) kept change values ≡ true
  offset_row (Some l) kept change values k v = k l refl
  offset_row None kept change values k v = v

  module _ (asked : IsAsked around k) (offset : offset_kept around around.places.offset ≡ true) where
    call_passes : (f : ℕ) (t : Ty) (span : Span) (es : Exprs) → many_made around (many_is.Call f) t es ≡ true → Fine (many_op_tests k m (many_is.Call f) span es) → is_full t ≡ true → all_hold is_right es ≡ true → (Valued es → exprs_pass around es ≡ true) → RowPasses (many_is.Call f) t es
    call_passes f t span es given tests full r parts =
        let op = many_is.Call f in
        let found = slice_get around.list.functions f in
        let p = and_parts (same t (given_by found)) (are_targeted (function_takes found) 0 es) given in
        let fit = not_so (arguments_fit (k.target op unknown) 0 es) tests.0 in
        let a = arguments_of m (k.target op unknown) (function_takes found) (λ i. asked.target op unknown i) (asked.full f) 0 es fit tests.1 r p.1 in
        and_from (exprs_pass around es) (call_is found es t) (parts a.1) (call_so found t es p.0 full a.0)

    method_call_passes : (call : Method) (slot : Option ℕ) (t : Ty) (span : Span) (r : Expr) (es : Exprs) → method_made call t (more r es) ≡ true → Fine (many_op_tests k m (many_is.Method call slot) span (more r es)) → all_hold is_right (more r es) ≡ true
        → receiver_kept around (many_is.Method call slot) (more r es) ≡ true → (Valued (more r es) → exprs_pass around (more r es) ≡ true) → ReceiverPasses (more r es) → RowPasses (many_is.Method call slot) t (more r es)
    method_call_passes call slot t span r es given tests right owner parts place =
        let op = many_is.Method call slot in
        let all = more r es in
        let s = type_of r in
        let past = tests.1.0 in
        let own : seen r ≡ s = seen_is r past in
        let x = subst (λ u. (is_sort u (receiver_sort call) && same t (method_gives call u) && are_targeted (slice_get (method_takes call u)) 0 es) ≡ true) own given in
        let p = and_parts (is_sort s (receiver_sort call) && same t (method_gives call s)) (are_targeted (slice_get (method_takes call s)) 0 es) x in
        let q = and_parts (is_sort s (receiver_sort call)) (same t (method_gives call s)) p.0 in
        let y = and_parts (holds is_right r) (all_hold is_right es) right in
        let full = full_type r (at_first is_right r y.0) in
        let takes = method_takes call s in
        let fit = not_so (arguments_fit (k.target op (seen r)) 0 es) tests.1.1.1.0 in
        let a = arguments_of m (k.target op (seen r)) (slice_get takes) (λ i. asked.target op (seen r) i ∙ ap (λ u. slice_get (method_takes call u) i) own) (row_full takes (takes_full call s q.0 full)) 0 es fit tests.1.1.1.1 y.1 p.1 in
        let of_types = of_list takes es a.0 in
        let valued : Valued all = ((past, no_regex_object r tests.0), a.1) in
        let each = parts valued in
        let change_so_far : changes call ≡ true → change_at t all call slot ≡ true =
        λ c.
        (let may = not_so (is_place k r) (both_false (changes call) (not (is_place k r)) tests.1.1.0 c) in
        let kept = slot_local around.places slot in
        and_from (place_passes around kept r && exprs_pass around es) (change_is call s es t)
        (and_from (place_passes around kept r) (exprs_pass around es) (place may kept owner) (and_parts (expr_passes around r) (exprs_pass around es) each).1)
        (change_so call t s es c q.0 full q.1 of_types)) in
        method_row call slot (offset_local around.places (is_self all)) (kept_so t all) (change_at t all) (exprs_pass around all && many_is_of around op all t) change_so_far
        (λ c. and_from (exprs_pass around all) (method_is call all t) each (method_so call t r es c q.0 full q.1 of_types))

    -- the offset of a unit, which a local may have
    offset_found : (b : Bool) (t : Ty) (l : ℕ) → t ≡ number → offset_local around.places b ≡ Some l → local_is around l t ≡ true
    offset_found true t l own e = subst (λ u. local_is around l u ≡ true) (sym own) (subst (λ o. offset_kept around o ≡ true) e offset)
    offset_found false t l own e = absurd (let z : ⊥ = cc in z)

    offset_passes : (name : Span) (t : Ty) (span : Span) (es : Exprs) → unit_method_made unit_is.Offset t es ≡ true → Fine (many_op_tests k m (many_is.OfUnit unit_is.Offset name) span es) → (Valued es → exprs_pass around es ≡ true) → RowPasses (many_is.OfUnit unit_is.Offset name) t es
    offset_passes name t span none given tests parts = never given
    offset_passes name t span (more r none) given tests parts =
        let all = more r none in
        let past = tests.1.0 in
        let p = and_parts (is_sort (seen r) Units) (same t number) given in
        let own = same_is t number p.1 in
        let each = parts ((past, no_regex_object r tests.0), tt) in
        let receiver : is_sort (type_of r) Units ≡ true = subst (λ u. is_sort u Units ≡ true) (seen_is r past) p.0 in
        offset_row (offset_local around.places (is_self all)) (kept_so t all) (change_at t all) (exprs_pass around all && offset_is all t)
        (λ l e. and_from (exprs_pass around all) (local_is around l t) each (offset_found (is_self all) t l own e))
        (and_from (exprs_pass around all) (offset_is all t) each (and_from (is_sort (type_of r) Units) (is_sort t Unsigned) receiver (subst (λ u. is_sort u Unsigned ≡ true) (sym own) refl)))
    offset_passes name t span (more r (more e es)) given tests parts =
        let op = many_is.OfUnit unit_is.Offset name in
        let fit = not_so (arguments_fit (k.target op (seen r)) 0 (more e es)) tests.1.1.1.0 in
        let p = and_parts (argument_fits (k.target op (seen r) 0) e) (arguments_fit (k.target op (seen r)) 1 es) fit in
        never (subst (λ o. argument_fits o e ≡ true) (asked.target op (seen r) 0) p.0)

    many_passes : (op : ManyOp) (t : Ty) (span : Span) (es : Exprs) → is_row op ≡ true → many_made around op t es ≡ true → Fine (many_op_tests k m op span es) → is_full t ≡ true → all_hold is_right es ≡ true → receiver_kept around op es ≡ true → (Valued es → exprs_pass around es ≡ true) → ReceiverPasses es → RowPasses op t es
    many_passes many_is.Tuple t span es built given f full r owner parts place = container_passes many_is.Tuple t span es refl given f full r parts
    many_passes many_is.Vector t span es built given f full r owner parts place = container_passes many_is.Vector t span es refl given f full r parts
    many_passes many_is.Set t span es built given f full r owner parts place = container_passes many_is.Set t span es refl given f full r parts
    many_passes many_is.Map t span es built given f full r owner parts place = container_passes many_is.Map t span es refl given f full r parts
    many_passes (many_is.Convert n) t span es built given f full r owner parts place = container_passes (many_is.Convert n) t span es refl given f full r parts
    many_passes (many_is.Call n) t span es built given f full r owner parts place = call_passes n t span es given f full r parts
    many_passes (many_is.Method call slot) t span none built given f full r owner parts place = never given
    many_passes (many_is.Method call slot) t span (more x es) built given f full r owner parts place = method_call_passes call slot t span x es given f r owner parts place
    many_passes (many_is.OfUnit unit_is.Offset name) t span es built given f full r owner parts place = offset_passes name t span es given f parts
    many_passes (many_is.OfUnit _ name) t span es built given f full r owner parts place = never built
    many_passes _ t span es built given f full r owner parts place = never built

    -- An expression, several, and a place.
    mutual
      pub passes : (e : Expr) → holds all_so e ≡ true → is_past e ≡ false → is_regex (type_of e) ≡ false → expr_passes around e ≡ true
      passes (leaf h) n past valued = (let x = node_of (leaf h) n in leaf_so h h.op refl x.of_form x.tests (and_parts (not (word_leaf h.op)) (is_full h.ty) x.right).0 past valued)
      passes (one h a) n past valued =
          let e = one h a in
          let p = and_parts (all_so e) (holds all_so a) n in
          let x = node_of e p.0 in
          let y = node_of a (at_first all_so a p.1) in
          let part = one_valued h.op h.ty a x.built x.of_form x.tests x.widened in
          one_passes h a past (minus_integer h.op h.ty a x.of_form) (λ minus. and_from (expr_passes around a) (one_is_of around h.op (type_of a) h.ty) (passes a p.1 part.0 (no_regex (type_of a) part.1)) (one_so h.op h.ty a x.built minus x.of_form x.tests x.widened y.right (full_type e x.right)))
      passes (two h a b) n past valued =
          let e = two h a b in
          let p = and_parts (all_so e) (holds all_so a && holds all_so b) n in
          let q = and_parts (holds all_so a) (holds all_so b) p.1 in
          let x = node_of e p.0 in
          let y = node_of a (at_first all_so a q.0) in
          let z = node_of b (at_first all_so b q.1) in
          let part = two_valued h.op a b x.tests in
          and_from (expr_passes around a && expr_passes around b) (two_is_of h.op (type_of a) (type_of b) h.ty)
          (and_from (expr_passes around a) (expr_passes around b) (passes a q.0 part.0 (no_regex (type_of a) part.1)) (passes b q.1 part.2 (no_regex (type_of b) part.3)))
          (two_so h.op h.ty a b x.of_form x.tests y.right z.right (full_type e x.right))
      passes (three h c a b) n past valued =
          let e = three h c a b in
          let p = and_parts (all_so e) (holds all_so c && (holds all_so a && holds all_so b)) n in
          let q = and_parts (holds all_so c) (holds all_so a && holds all_so b) p.1 in
          let r = and_parts (holds all_so a) (holds all_so b) q.1 in
          let x = node_of e p.0 in
          let f = x.tests in
          let u = node_of c (at_first all_so c q.0) in
          let v = node_of a (at_first all_so a r.0) in
          let w = node_of b (at_first all_so b r.1) in
          and_from (expr_passes around c && expr_passes around a && expr_passes around b) (three_is (type_of c) (type_of a) (type_of b) h.ty)
          (and_from (expr_passes around c && expr_passes around a) (expr_passes around b)
          (and_from (expr_passes around c) (expr_passes around a) (passes c q.0 f.1.0 (no_regex (type_of c) (has_type c f.0))) (passes a r.0 f.1.1.1.1.0 (no_regex (type_of a) (has_type a f.1.1.1.0))))
          (passes b r.1 f.1.1.1.1.1.1.0 (no_regex (type_of b) (has_type b f.1.1.1.1.1.0))))
          (choice_so c a b h.ty x.of_form f u.right v.right w.right)
      passes (many h es) n past valued =
          let e = many h es in
          let p = and_parts (all_so e) (all_hold all_so es) n in
          let x = node_of e p.0 in
          many_passes h.op h.ty h.span es x.built x.of_form x.tests (full_type e x.right) (rights es p.1) x.owner (λ v. all_pass es p.1 v) (receiver_passes es p.1)

      all_pass : (es : Exprs) → all_hold all_so es ≡ true → Valued es → exprs_pass around es ≡ true
      all_pass none n v = refl
      all_pass (more e es) n v =
          let p = and_parts (holds all_so e) (all_hold all_so es) n in
          and_from (expr_passes around e) (exprs_pass around es) (passes e p.0 v.0.0 v.0.1) (all_pass es p.1 v.1)

      receiver_passes : (es : Exprs) → all_hold all_so es ≡ true → ReceiverPasses es
      receiver_passes none n = tt
      receiver_passes (more r es) n = λ change owner kept. place_so r (and_parts (holds all_so r) (all_hold all_so es) n).0 change owner kept

      pub place_so : (e : Expr) → holds all_so e ≡ true → is_place k e ≡ true → (owner : Option ℕ) → owner_kept around owner e ≡ true → place_passes around owner e ≡ true
      place_so (leaf h) n change owner kept = (let x = node_of (leaf h) n in local_so h.op h.ty change x.of_form (and_parts (not (word_leaf h.op)) (is_full h.ty) x.right).0)
      place_so (one h a) n change owner kept =
          let e = one h a in
          let p = and_parts (all_so e) (holds all_so a) n in
          let x = node_of e p.0 in
          let part = one_valued h.op h.ty a x.built x.of_form x.tests x.widened in
          and_from (expr_passes around a && owner_is around owner (type_of a)) (member_place around h.op (type_of a) h.ty)
          (and_from (expr_passes around a) (owner_is around owner (type_of a)) (passes a p.1 part.0 (no_regex (type_of a) part.1)) kept)
          (member_so h.op h.ty a change x.of_form x.tests (and_parts (not (word_one h.op)) (is_full h.ty) x.right).0)
      place_so (two h a b) n change owner kept =
          let e = two h a b in
          let c = and_parts (is_element h.op (type_of a)) (is_place k a) change in
          let p = and_parts (all_so e) (holds all_so a && holds all_so b) n in
          let q = and_parts (holds all_so a) (holds all_so b) p.1 in
          let x = node_of e p.0 in
          let y = node_of a (at_first all_so a q.0) in
          let z = node_of b (at_first all_so b q.1) in
          let part = two_valued h.op a b x.tests in
          let item = two_so h.op h.ty a b x.of_form x.tests y.right z.right (full_type e x.right) in
          let i = and_parts (is_index h.op) (item_is (type_of a) (type_of b) h.ty) (element_so h.op (type_of a) (type_of b) h.ty c.0 item) in
          and_from (place_passes around owner a && expr_passes around b && is_index h.op) (item_is (type_of a) (type_of b) h.ty)
          (and_from (place_passes around owner a && expr_passes around b) (is_index h.op) (and_from (place_passes around owner a) (expr_passes around b) (place_so a q.0 c.1 owner kept) (passes b q.1 part.2 (no_regex (type_of b) part.3))) i.0) i.1
      place_so (three h c a b) n change owner kept = never change
      place_so (many h es) n change owner kept = never change
