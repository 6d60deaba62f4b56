-- The tests at the nodes of an expression are told where these and their parts begin.
use Rattle.std.specs.Prelude.{ℕ, Bool, true, false, ◌&&◌, ◌||◌, not, if◌then◌else◌, List, [], ◌∷◌, ◌++◌, Option, Some, None}
use Rattle.std.specs.List.{list_all}
use Rattle.std.proofs.Common.{◌≡◌, refl, ◌∙◌}
use Rattle.std.proofs.lemmas.Bool.{and_parts, and_from}
use Rattle.std.proofs.lemmas.List.Folds.{list_all-append}
use Rattle.sp_base.specs.declared.places.Span.{Span}
use Rattle.sp_lex.specs.declared.tokens.Token.{Token}
use Rattle.sp_rules.specs.declared.fault.Fault.{Fault}
use Rattle.sp_rules.specs.declared.rule.Rule.TheVariants as rule_is
use Rattle.sp_words.specs.declared.operators.UnaryOp.TheVariants as unary_is
use Rattle.sp_types.specs.Types.{Ty, word, made, is_key}
use Rattle.sp_types.specs.declared.words.Maker.TheVariants as maker_is
use Rattle.sp_typed.specs.declared.words.LeafOp.{LeafOp}
use Rattle.sp_typed.specs.declared.words.LeafOp.TheVariants as leaf_is
use Rattle.sp_typed.specs.declared.words.OneOp.{OneOp}
use Rattle.sp_typed.specs.declared.words.OneOp.TheVariants as one_is
use Rattle.sp_typed.specs.declared.words.TwoOp.{TwoOp}
use Rattle.sp_typed.specs.declared.words.TwoOp.TheVariants as two_is
use Rattle.sp_typed.specs.declared.words.ManyOp.{ManyOp}
use Rattle.sp_typed.specs.declared.words.ManyOp.TheVariants as many_is
use Rattle.sp_typed.specs.Exprs.{Expr, Exprs, leaf, one, two, three, many, none, more, type_of, span_of}
use Rattle.sp_typed.specs.Nodes.{nodes, all_nodes, holds, all_hold}
use Rattle.sp_type_operands.specs.declared.operators.OperatorSort.{OperatorSort}
use Rattle.sp_type_operands.specs.declared.operators.OperatorSort.TheVariants as sort_is
use Rattle.sp_type_operands.specs.Operands.{unknown, is_boolean, is_valueless, is_unsigned, is_signed, is_integer, is_enum, sort_of, stands_before, stands_behind, stands_alone, has_size}
use Rattle.sp_type_operands.specs.Literals.{seen}
use Rattle.sp_rules.specs.Faults.{at as fault_at}
use Rattle.sp_rule_bodies.specs.Known.{Known}
use Rattle.sp_rule_bodies.specs.Values.{knows, value_span, value_tests, wrong, object_tests, right_tests, condition_tests, misplaced_at, written_tests}
use Rattle.sp_rule_bodies.specs.ExprTests.{leaf_tests, negates, takes_no_cast, one_op_tests, disagreeing, disagree, index_tests, two_op_tests, unlike, choice_tests, all_value_tests, element_tests, elements_tests, row_tests, entries_tests, map_tests, argument_tests, connects, call_tests, receiver_tests, method_tests, many_op_tests, expr_tests}
use Rattle.sp_rule_lists.specs.Names.{leaf_names, expr_names, exprs_names}
use Rattle.sp_law_rules.specs.Spans.{is_placed, option_placed, leaf_placed, one_placed, many_placed, op_placed, node_placed, tests_placed}

module _ (tokens : List Token) where
  abbrev p : Expr → Bool
  p = node_placed tokens

  abbrev At : Span → Type 0
  At span = is_placed tokens span ≡ true

  abbrev Are : List (Bool × Fault) → Type 0
  Are cs = tests_placed tokens cs ≡ true

  joined : (xs ys : List (Bool × Fault)) → Are xs → Are ys → Are (xs ++ ys)
  joined xs ys i j =
      list_all-append (λ (c : Bool × Fault). is_placed tokens c.1.span) xs ys ∙ and_from (tests_placed tokens xs) (tests_placed tokens ys) i j

  put : (span : Span) (cs : List (Bool × Fault)) → At span → Are cs → (is_placed tokens span && tests_placed tokens cs) ≡ true
  put span cs i j = and_from (is_placed tokens span) (tests_placed tokens cs) i j

  single : (span : Span) → At span → (is_placed tokens span && true) ≡ true
  single span i = and_from (is_placed tokens span) true i refl

  -- the first node, and its parts
  first_holds : (e : Expr) → holds p e ≡ true → p e ≡ true
  first_holds (leaf h) i = i
  first_holds (one h a) i = (and_parts (p (one h a)) (holds p a) i).0
  first_holds (two h a b) i = (and_parts (p (two h a b)) (holds p a && holds p b) i).0
  first_holds (three h a b c) i = (and_parts (p (three h a b c)) (holds p a && (holds p b && holds p c)) i).0
  first_holds (many h es) i = (and_parts (p (many h es)) (all_hold p es) i).0

  span_at : (e : Expr) → holds p e ≡ true → At (span_of e)
  span_at e i = (and_parts (op_placed tokens e) (is_placed tokens (span_of e)) (first_holds e i)).1

  either_at : (b : Bool) (s t : Span) → At s → At t → At (if b then s else t)
  either_at true s t i j = i
  either_at false s t i j = j

  value_at : (e : Expr) → holds p e ≡ true → At (value_span e)
  value_at (leaf h) i = span_at (leaf h) i
  value_at (one h a) i = span_at (one h a) i
  value_at (two h a b) i = span_at (two h a b) i
  value_at (three h c a b) i =
      let q = and_parts (p (three h c a b)) (holds p c && (holds p a && holds p b)) i in
      let r = and_parts (holds p c) (holds p a && holds p b) q.1 in
      either_at (is_valueless h.ty) (value_span a) h.span (value_at a (and_parts (holds p a) (holds p b) r.1).0) (span_at (three h c a b) i)
  value_at (many h es) i = span_at (many h es) i

  module _ (k : Known) (m : ℕ) where
    value_are : (e : Expr) → holds p e ≡ true → Are (value_tests m e)
    value_are e i = and_from (is_placed tokens (value_span e)) (is_placed tokens (span_of e) && true) (value_at e i) (single (span_of e) (span_at e i))

    object_are : (e : Expr) → holds p e ≡ true → Are (object_tests m e)
    object_are e i = and_from (is_placed tokens (value_span e)) (is_placed tokens (span_of e) && true) (value_at e i) (single (span_of e) (span_at e i))

    right_are : (right : Bool) (e : Expr) → holds p e ≡ true → Are (right_tests m right e)
    right_are right e i = joined (value_tests m e) (wrong m right e ∷ []) (value_are e i) (single (value_span e) (value_at e i))

    misplaced_are : (o : Option Span) → option_placed tokens o ≡ true → Are (misplaced_at m o)
    misplaced_are None i = refl
    misplaced_are (Some span) i = single span i

    leaf_are : (e : Expr) (op : LeafOp) → At (span_of e) → leaf_placed tokens op ≡ true → Are (leaf_tests m e op)
    leaf_are e (leaf_is.TypedNumber n) i j = single (span_of e) i
    leaf_are e (leaf_is.Empty w) i j = misplaced_are w.misplaced j
    leaf_are e (leaf_is.Itself s) i j = single (span_of e) i
    leaf_are e (leaf_is.Current s) i j = single (span_of e) i
    leaf_are e _ i j = refl

    one_are : (t : Ty) (op : OneOp) (e : Expr) → one_placed tokens op ≡ true → holds p e ≡ true → Are (one_op_tests m t op e)
    one_are t one_is.Negate e j i = right_are (negates e) e i
    one_are t one_is.Not e j i = right_are (stands_alone unary_is.Not (type_of e)) e i
    one_are t one_is.Complement e j i = right_are (stands_alone unary_is.Complement (type_of e)) e i
    one_are t one_is.Size e j i = right_are (has_size (type_of e)) e i
    one_are t (one_is.Cast w) e j i =
        let q = and_parts (is_placed tokens w.span) (option_placed tokens w.misplaced) j in
        let asked : List (Bool × Fault) = wrong m (is_integer (type_of e) || is_enum (type_of e)) e ∷ ((is_enum (type_of e) && is_signed t, fault_at m rule_is.TypeMismatch w.span) ∷ []) in
        let asked_are = and_from (is_placed tokens (value_span e)) (is_placed tokens w.span && true) (value_at e i) (single w.span q.0) in
        joined (written_tests m w) ((takes_no_cast t w, fault_at m rule_is.TypeMismatch w.span) ∷ (value_tests m e ++ asked)) (misplaced_are w.misplaced q.1)
        (put w.span (value_tests m e ++ asked) q.0 (joined (value_tests m e) asked (value_are e i) asked_are))
    one_are t (one_is.NoMember name) e j i = joined (object_tests m e) ((knows e, fault_at m rule_is.UnknownMember name) ∷ []) (object_are e i) (single name j)
    one_are t one_is.Widen e j i = refl
    one_are t _ e j i = value_are e i

    disagreeing_at : (sort : OperatorSort) (a b : Expr) → holds p a ≡ true → holds p b ≡ true → At (value_span (disagreeing sort a b))
    disagreeing_at sort_is.Member a b i j = value_at a i
    disagreeing_at _ a b i j = value_at b j

    index_are : (t : Ty) (a i : Expr) → holds p a ≡ true → holds p i ≡ true → Are (index_tests k m t a i)
    index_are (made maker_is.Vector ts) a i q r = single (value_span i) (value_at i r)
    index_are (made maker_is.Tuple ts) a i q r = and_from (is_placed tokens (value_span i)) (is_placed tokens (span_of i) && true) (value_at i r) (single (span_of i) (span_at i r))
    index_are (made maker_is.Set ts) a i q r = single (value_span i) (value_at i r)
    index_are (made maker_is.Map ts) a i q r = single (value_span i) (value_at i r)
    index_are (word w) a i q r = single (value_span a) (value_at a q)

    two_are : (op : TwoOp) (a b : Expr) → holds p a ≡ true → holds p b ≡ true → Are (two_op_tests k m op a b)
    two_are (two_is.Binary op) a b i j =
        let sort = sort_of op in
        let last : List (Bool × Fault) = (disagree sort a b, fault_at m rule_is.TypeMismatch (value_span (disagreeing sort a b))) ∷ [] in
        let before = stands_before sort (type_of a) in
        let behind = stands_behind sort (type_of b) in
        joined (right_tests m before a) (right_tests m behind b ++ last) (right_are before a i) (joined (right_tests m behind b) last (right_are behind b j) (single (value_span (disagreeing sort a b)) (disagreeing_at sort a b i j)))
    two_are two_is.Index a b i j =
        let last = index_tests k m (type_of a) a b in
        joined (value_tests m a) (value_tests m b ++ last) (value_are a i) (joined (value_tests m b) last (value_are b j) (index_are (type_of a) a b i j))
    two_are (two_is.Item n) a b i j =
        joined (value_tests m a) (right_tests m (is_unsigned (type_of b)) b) (value_are a i) (right_are (is_unsigned (type_of b)) b j)

    choice_are : (c a b : Expr) → holds p c ≡ true → holds p a ≡ true → holds p b ≡ true → Are (choice_tests m c a b)
    choice_are c a b h i j =
        let last : List (Bool × Fault) = (unlike a b, fault_at m rule_is.TypeMismatch (value_span b)) ∷ [] in
        joined (condition_tests m c) (value_tests m a ++ (value_tests m b ++ last)) (right_are (is_boolean (type_of c)) c h)
        (joined (value_tests m a) (value_tests m b ++ last) (value_are a i) (joined (value_tests m b) last (value_are b j) (single (value_span b) (value_at b j))))

    -- rows
    all_values : (es : Exprs) → all_hold p es ≡ true → Are (all_value_tests m es)
    all_values none i = refl
    all_values (more e es) i =
        let q = and_parts (holds p e) (all_hold p es) i in
        joined (value_tests m e) (all_value_tests m es) (value_are e q.0) (all_values es q.1)

    element_are : (keyed : Bool) (first e : Expr) → holds p e ≡ true → Are (element_tests m keyed first e)
    element_are keyed first e i =
        let asked : List (Bool × Fault) = wrong m (not keyed || is_key (type_of e)) e ∷ ((unlike first e, fault_at m rule_is.TypeMismatch (value_span e)) ∷ []) in
        joined (value_tests m e) asked (value_are e i) (and_from (is_placed tokens (value_span e)) (is_placed tokens (value_span e) && true) (value_at e i) (single (value_span e) (value_at e i)))

    elements_are : (keyed : Bool) (first : Expr) (es : Exprs) → all_hold p es ≡ true → Are (elements_tests m keyed first es)
    elements_are keyed first none i = refl
    elements_are keyed first (more e es) i =
        let q = and_parts (holds p e) (all_hold p es) i in
        joined (element_tests m keyed first e) (elements_tests m keyed first es) (element_are keyed first e q.0) (elements_are keyed first es q.1)

    row_are : (keyed : Bool) (span : Span) (es : Exprs) → At span → all_hold p es ≡ true → Are (row_tests m keyed span es)
    row_are keyed span none at i = single span at
    row_are keyed span (more e es) at i = elements_are keyed e (more e es) i

    entries_are : (keyed : Bool) (key value : Expr) (es : Exprs) → all_hold p es ≡ true → Are (entries_tests m keyed key value es)
    entries_are keyed key value none i = refl
    entries_are keyed key value (more e es) i =
        let q = and_parts (holds p e) (all_hold p es) i in
        let first : Expr = if keyed then key else value in
        joined (element_tests m keyed first e) (entries_tests m (not keyed) key value es) (element_are keyed first e q.0) (entries_are (not keyed) key value es q.1)

    map_are : (span : Span) (es : Exprs) → At span → all_hold p es ≡ true → Are (map_tests m span es)
    map_are span none at i = single span at
    map_are span (more e none) at i = single span at
    map_are span (more e (more d es)) at i = entries_are true e d (more e (more d es)) i

    -- calls
    arguments_are : (starts : Bool) (es : Exprs) → all_hold p es ≡ true → Are (argument_tests m starts es)
    arguments_are starts none i = refl
    arguments_are starts (more e es) i =
        let q = and_parts (holds p e) (all_hold p es) i in
        put (value_span e) (argument_tests m starts es) (value_at e q.0) (arguments_are starts es q.1)

    call_are : (op : ManyOp) (span : Span) (t : Ty) (es : Exprs) → At span → all_hold p es ≡ true → Are (call_tests k m op span t es)
    call_are op span t es at i = put span (argument_tests m (connects op) es) at (arguments_are (connects op) es i)

    receiver_are : (op : ManyOp) (e : Expr) → many_placed tokens op ≡ true → holds p e ≡ true → Are (receiver_tests k m op e)
    receiver_are (many_is.Method method slot) e own i = single (span_of e) (span_at e i)
    receiver_are (many_is.OfUnit method name) e own i = single name own
    receiver_are _ e own i = refl

    method_are : (op : ManyOp) (span : Span) (es : Exprs) → many_placed tokens op ≡ true → At span → all_hold p es ≡ true → Are (method_tests k m op span es)
    method_are op span none own at i = refl
    method_are op span (more e es) own at i =
        let q = and_parts (holds p e) (all_hold p es) i in
        let last = call_tests k m op span (seen e) es in
        joined (object_tests m e) (receiver_tests k m op e ++ last) (object_are e q.0) (joined (receiver_tests k m op e) last (receiver_are op e own q.0) (call_are op span (seen e) es at q.1))

    uncalled_are : (span : Span) (es : Exprs) → all_hold p es ≡ true → Are (many_op_tests k m many_is.NoCall span es)
    uncalled_are span none i = refl
    uncalled_are span (more e es) i =
        let q = and_parts (holds p e) (all_hold p es) i in
        joined (value_tests m e) ((knows e, fault_at m rule_is.TypeMismatch (value_span e)) ∷ all_value_tests m es) (value_are e q.0) (put (value_span e) (all_value_tests m es) (value_at e q.0) (all_values es q.1))

    many_are : (op : ManyOp) (span : Span) (es : Exprs) → many_placed tokens op ≡ true → At span → all_hold p es ≡ true → Are (many_op_tests k m op span es)
    many_are many_is.Tuple span es own at i = all_values es i
    many_are many_is.Vector span es own at i = row_are false span es at i
    many_are many_is.Set span es own at i = row_are true span es at i
    many_are many_is.Map span es own at i = map_are span es at i
    many_are (many_is.Call n) span es own at i = call_are (many_is.Call n) span unknown es at i
    many_are (many_is.Convert n) span es own at i = put span (argument_tests m false es) at (arguments_are false es i)
    many_are (many_is.New of path) span es own at i = call_are (many_is.New of path) path unknown es own i
    many_are (many_is.Method method slot) span es own at i = method_are (many_is.Method method slot) span es own at i
    many_are (many_is.OfUnit method name) span es own at i = method_are (many_is.OfUnit method name) span es own at i
    many_are (many_is.OfSink method) span es own at i = method_are (many_is.OfSink method) span es own at i
    many_are many_is.NoCall span es own at i = uncalled_are span es i

    -- names
    leaf_named : (op : LeafOp) → leaf_placed tokens op ≡ true → Are (leaf_names m op)
    leaf_named (leaf_is.Nothing name) i = single name i
    leaf_named _ i = refl

    mutual
      pub names_are : (e : Expr) → holds p e ≡ true → Are (expr_names m e)
      names_are (leaf h) i = leaf_named h.op (and_parts (leaf_placed tokens h.op) (is_placed tokens h.span) i).0
      names_are (one h a) i = names_are a (and_parts (p (one h a)) (holds p a) i).1
      names_are (two h a b) i =
          let q = and_parts (holds p a) (holds p b) (and_parts (p (two h a b)) (holds p a && holds p b) i).1 in
          joined (expr_names m a) (expr_names m b) (names_are a q.0) (names_are b q.1)
      names_are (three h a b c) i =
          let q = and_parts (holds p a) (holds p b && holds p c) (and_parts (p (three h a b c)) (holds p a && (holds p b && holds p c)) i).1 in
          let r = and_parts (holds p b) (holds p c) q.1 in
          joined (expr_names m a) (expr_names m b ++ expr_names m c) (names_are a q.0) (joined (expr_names m b) (expr_names m c) (names_are b r.0) (names_are c r.1))
      names_are (many h es) i = all_names_are es (and_parts (p (many h es)) (all_hold p es) i).1

      all_names_are : (es : Exprs) → all_hold p es ≡ true → Are (exprs_names m es)
      all_names_are none i = refl
      all_names_are (more e es) i =
          let q = and_parts (holds p e) (all_hold p es) i in
          joined (expr_names m e) (exprs_names m es) (names_are e q.0) (all_names_are es q.1)

    abbrev test : Expr → Bool
    test n = tests_placed tokens (expr_tests k m n)

    two_rows : (xs ys : List Expr) → list_all test xs ≡ true → list_all test ys ≡ true → list_all test (xs ++ ys) ≡ true
    two_rows xs ys i j = list_all-append test xs ys ∙ and_from (list_all test xs) (list_all test ys) i j

    mutual
      pub nodes_are : (e : Expr) → holds p e ≡ true → list_all test (nodes e) ≡ true
      nodes_are (leaf h) i =
          let o = and_parts (leaf_placed tokens h.op) (is_placed tokens h.span) i in
          and_from (test (leaf h)) true (leaf_are (leaf h) h.op o.1 o.0) refl
      nodes_are (one h a) i =
          let q = and_parts (p (one h a)) (holds p a) i in
          let o = and_parts (one_placed tokens h.op) (is_placed tokens h.span) q.0 in
          and_from (test (one h a)) (list_all test (nodes a)) (one_are h.ty h.op a o.0 q.1) (nodes_are a q.1)
      nodes_are (two h a b) i =
          let q = and_parts (p (two h a b)) (holds p a && holds p b) i in
          let r = and_parts (holds p a) (holds p b) q.1 in
          and_from (test (two h a b)) (list_all test (nodes a ++ nodes b)) (two_are h.op a b r.0 r.1) (two_rows (nodes a) (nodes b) (nodes_are a r.0) (nodes_are b r.1))
      nodes_are (three h a b c) i =
          let q = and_parts (p (three h a b c)) (holds p a && (holds p b && holds p c)) i in
          let r = and_parts (holds p a) (holds p b && holds p c) q.1 in
          let s = and_parts (holds p b) (holds p c) r.1 in
          and_from (test (three h a b c)) (list_all test (nodes a ++ (nodes b ++ nodes c))) (choice_are a b c r.0 s.0 s.1)
          (two_rows (nodes a) (nodes b ++ nodes c) (nodes_are a r.0) (two_rows (nodes b) (nodes c) (nodes_are b s.0) (nodes_are c s.1)))
      nodes_are (many h es) i =
          let q = and_parts (p (many h es)) (all_hold p es) i in
          let o = and_parts (many_placed tokens h.op) (is_placed tokens h.span) q.0 in
          and_from (test (many h es)) (list_all test (all_nodes es)) (many_are h.op h.span es o.0 o.1 q.1) (all_nodes_are es q.1)

      all_nodes_are : (es : Exprs) → all_hold p es ≡ true → list_all test (all_nodes es) ≡ true
      all_nodes_are none i = refl
      all_nodes_are (more e es) i =
          let q = and_parts (holds p e) (all_hold p es) i in
          two_rows (nodes e) (all_nodes es) (nodes_are e q.0) (all_nodes_are es q.1)
