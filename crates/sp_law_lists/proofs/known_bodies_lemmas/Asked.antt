-- The rules ask the same of an expression whatever slots it has.
use Rattle.std.specs.Prelude.{ℕ, ◌+◌, Bool, true, false, not, ◌&&◌, ◌||◌, if◌then◌else◌, List, [], ◌∷◌, ◌++◌, Option, Some, None, is_none}
use Rattle.std.proofs.Common.{◌≡◌, refl, ap, ◌∙◌}
use Rattle.sp_base.specs.declared.places.Span.{Span}
use Rattle.sp_words.specs.declared.operators.UnaryOp.TheVariants as unary_is
use Rattle.sp_rules.specs.declared.rule.Rule.TheVariants as rule_is
use Rattle.sp_rules.specs.declared.fault.Fault.{Fault}
use Rattle.sp_types.specs.declared.words.Maker.TheVariants as maker_is
use Rattle.sp_types.specs.Types.{Ty, word, made, is_known, is_key, same, goes}
use Rattle.sp_typed.specs.declared.words.OneOp.{OneOp}
use Rattle.sp_typed.specs.declared.words.OneOp.TheVariants as one_is
use Rattle.sp_typed.specs.declared.words.TwoOp.{TwoOp}
use Rattle.sp_typed.specs.declared.words.TwoOp.TheVariants as two_is
use Rattle.sp_typed.specs.declared.words.ManyOp.{ManyOp}
use Rattle.sp_typed.specs.declared.words.ManyOp.TheVariants as many_is
use Rattle.sp_typed.specs.Exprs.{Expr, Exprs, leaf, one, two, three, many, none, more, type_of, span_of, is_number, is_literal}
use Rattle.sp_typed.specs.Nodes.{word_many}
use Rattle.sp_type_operands.specs.declared.operators.OperatorSort.{OperatorSort}
use Rattle.sp_type_operands.specs.declared.operators.OperatorSort.TheVariants as sort_is
use Rattle.sp_type_operands.specs.Operands.{unknown, is_unsigned, is_signed, is_integer, is_enum, sort_of, stands_before, stands_behind, stands_alone, agree, has_size, key_of}
use Rattle.sp_type_operands.specs.Literals.{is_over, seen}
use Rattle.sp_type_stmts.specs.Owners.{with_slot_of}
use Rattle.sp_rule_bodies.specs.declared.facts.Constancy.{Constancy}
use Rattle.sp_rule_bodies.specs.Known.{Known}
use Rattle.sp_rule_bodies.specs.Values.{is_sink, is_no_value, is_new, value_span, written_tests, value_tests, object_tests}
use Rattle.sp_rules.specs.Faults.{at}
use Rattle.sp_rule_bodies.specs.ExprTests.{takes_no_cast, one_op_tests, disagreeing, is_past_key, operand_tests, is_constant, is_not_constant, index_tests, two_op_tests, choice_tests, all_value_tests, element_tests, elements_tests, row_tests, entries_tests, map_tests, argument_fits, arguments_fit, connects, argument_tests, converts, convert_tests, call_tests, is_element, is_place, is_of_self, receiver_tests, method_tests, uncalled_tests, many_op_tests, expr_tests}
use Rattle.sp_words.specs.Methods.{changes}
use Rattle.sp_law_lists.specs.known_bodies.Slots.{plain, all_plain, IsBlind}
use Rattle.sp_law_lists.proofs.known_bodies_lemmas.Slots.{type_plain, span_plain, value_span_plain, no_value_plain, is_number_plain, literal_plain, over_plain, itself_plain}

-- what most rules ask of an expression
record Shown : Type 0 where
  no_value : Bool
  literal : Bool
  over : Bool
  number : Bool
  first : Span
  span : Span
  ty : Ty

abbrev shown_by : Bool → Bool → Bool → Bool → Span → Span → Ty → Shown
shown_by v l o n f s t = record { no_value = v; literal = l; over = o; number = n; first = f; span = s; ty = t }

abbrev shown : Expr → Shown
shown e = shown_by (is_no_value e) (is_literal e) (is_over e) (is_number e) (span_of e) (value_span e) (type_of e)

shown_plain : (e : Expr) → shown (plain e) ≡ shown e
shown_plain e =
    ap (λ b. shown_by b (is_literal (plain e)) (is_over (plain e)) (is_number (plain e)) (span_of (plain e)) (value_span (plain e)) (type_of (plain e))) (no_value_plain e)
    ∙ ap (λ b. shown_by (is_no_value e) b (is_over (plain e)) (is_number (plain e)) (span_of (plain e)) (value_span (plain e)) (type_of (plain e))) (literal_plain e)
    ∙ ap (λ b. shown_by (is_no_value e) (is_literal e) b (is_number (plain e)) (span_of (plain e)) (value_span (plain e)) (type_of (plain e))) (over_plain e)
    ∙ ap (λ b. shown_by (is_no_value e) (is_literal e) (is_over e) b (span_of (plain e)) (value_span (plain e)) (type_of (plain e))) (is_number_plain e)
    ∙ ap (λ p. shown_by (is_no_value e) (is_literal e) (is_over e) (is_number e) p (value_span (plain e)) (type_of (plain e))) (span_plain e)
    ∙ ap (λ p. shown_by (is_no_value e) (is_literal e) (is_over e) (is_number e) (span_of e) p (type_of (plain e))) (value_span_plain e)
    ∙ ap (λ t. shown_by (is_no_value e) (is_literal e) (is_over e) (is_number e) (span_of e) (value_span e) t) (type_plain e)

-- tests by what is shown
abbrev past_by : Shown → Bool
past_by s = s.literal && s.over

abbrev value_by : ℕ → Shown → List (Bool × Fault)
value_by m s = (s.no_value, at m rule_is.TypeMismatch s.span) ∷ ((past_by s, at m rule_is.LiteralRange s.first) ∷ [])

abbrev no_object_by : Shown → Bool
no_object_by s = s.no_value && not (is_sink s.ty)

abbrev object_by : ℕ → Shown → List (Bool × Fault)
object_by m s = (no_object_by s, at m rule_is.TypeMismatch s.span) ∷ ((past_by s, at m rule_is.LiteralRange s.first) ∷ [])

abbrev knows_by : Shown → Bool
knows_by s = is_known s.ty && not (past_by s)

abbrev wrong_by : ℕ → Bool → Shown → Bool × Fault
wrong_by m right s = (knows_by s && not right, at m rule_is.TypeMismatch s.span)

abbrev right_by : ℕ → Bool → Shown → List (Bool × Fault)
right_by m right s = value_by m s ++ (wrong_by m right s ∷ [])

abbrev goes_by : Ty → Shown → Bool
goes_by t s = not (past_by s) && goes s.ty t

abbrev seen_by : Shown → Ty
seen_by s = if past_by s then unknown else s.ty

abbrev unlike_by : Shown → Shown → Bool
unlike_by s t = knows_by s && knows_by t && not (same s.ty t.ty)

pub seen_plain : (e : Expr) → seen (plain e) ≡ seen e
seen_plain e = ap seen_by (shown_plain e)

-- what is done to one value
one_plain : (m : ℕ) (t : Ty) (op : OneOp) (e : Expr) → one_op_tests m t op (plain e) ≡ one_op_tests m t op e
one_plain m t one_is.Negate e = ap (λ (s : Shown). right_by m (s.number || stands_alone unary_is.Negate s.ty) s) (shown_plain e)
one_plain m t one_is.Not e = ap (λ (s : Shown). right_by m (stands_alone unary_is.Not s.ty) s) (shown_plain e)
one_plain m t one_is.Complement e = ap (λ (s : Shown). right_by m (stands_alone unary_is.Complement s.ty) s) (shown_plain e)
one_plain m t one_is.Size e = ap (λ (s : Shown). right_by m (has_size s.ty) s) (shown_plain e)
one_plain m t (one_is.Cast w) e =
    ap (λ (s : Shown). written_tests m w ++ ((takes_no_cast t w, at m rule_is.TypeMismatch w.span) ∷ (value_by m s ++ (wrong_by m (is_integer s.ty || is_enum s.ty) s ∷ ((is_enum s.ty && is_signed t, at m rule_is.TypeMismatch w.span) ∷ []))))) (shown_plain e)
one_plain m t (one_is.NoMember name) e = ap (λ (s : Shown). object_by m s ++ ((knows_by s, at m rule_is.UnknownMember name) ∷ [])) (shown_plain e)
one_plain m t one_is.Widen e = refl
one_plain m t _ e = ap (value_by m) (shown_plain e)

-- what is done to two
past_key_plain : (sort : OperatorSort) (e : Expr) → is_past_key sort (plain e) ≡ is_past_key sort e
past_key_plain sort_is.Member e = ap past_by (shown_plain e)
past_key_plain _ e = refl

disagreeing_plain : (sort : OperatorSort) (a b : Expr) → value_span (disagreeing sort (plain a) (plain b)) ≡ value_span (disagreeing sort a b)
disagreeing_plain sort_is.Member a b = value_span_plain a
disagreeing_plain _ a b = value_span_plain b

abbrev operands_by : ℕ → OperatorSort → Shown → Shown → Bool → Span → List (Bool × Fault)
operands_by m sort s t past at_fault =
    right_by m (stands_before sort s.ty) s ++ (right_by m (stands_behind sort t.ty) t ++ ((past || (knows_by s && knows_by t && stands_before sort s.ty && stands_behind sort t.ty && not (agree sort s.ty t.ty)), at m rule_is.TypeMismatch at_fault) ∷ []))

operands_plain : (m : ℕ) (sort : OperatorSort) (a b : Expr) → operand_tests m sort (plain a) (plain b) ≡ operand_tests m sort a b
operands_plain m sort a b =
    let past = is_past_key sort (plain a) in
    let place = value_span (disagreeing sort (plain a) (plain b)) in
    ap (λ (s : Shown). operands_by m sort s (shown (plain b)) past place) (shown_plain a)
    ∙ ap (λ (t : Shown). operands_by m sort (shown a) t past place) (shown_plain b)
    ∙ ap (λ p. operands_by m sort (shown a) (shown b) p place) (past_key_plain sort a)
    ∙ ap (λ p. operands_by m sort (shown a) (shown b) (is_past_key sort a) p) (disagreeing_plain sort a b)

abbrev item_by : ℕ → Constancy → Shown → List (Bool × Fault)
item_by m c s =
    (knows_by s && (not (is_unsigned s.ty) || is_constant c), at m rule_is.TypeMismatch s.span) ∷ ((is_not_constant c, at m rule_is.NotConstant s.first) ∷ [])

abbrev choice_by : ℕ → Shown → Shown → Shown → List (Bool × Fault)
choice_by m c s t =
    right_by m (stands_alone unary_is.Not c.ty) c ++ (value_by m s ++ (value_by m t ++ ((unlike_by s t, at m rule_is.TypeMismatch t.span) ∷ [])))

choice_plain : (m : ℕ) (c a b : Expr) → choice_tests m (plain c) (plain a) (plain b) ≡ choice_tests m c a b
choice_plain m c a b =
    ap (λ (r : Shown). choice_by m r (shown (plain a)) (shown (plain b))) (shown_plain c) ∙ ap (λ (s : Shown). choice_by m (shown c) s (shown (plain b))) (shown_plain a) ∙ ap (λ (t : Shown). choice_by m (shown c) (shown a) t) (shown_plain b)

-- rows
values_plain : (m : ℕ) (es : Exprs) → all_value_tests m (all_plain es) ≡ all_value_tests m es
values_plain m none = refl
values_plain m (more e es) =
    ap (λ (s : Shown). value_by m s ++ all_value_tests m (all_plain es)) (shown_plain e) ∙ ap (λ r. value_tests m e ++ r) (values_plain m es)

abbrev element_by : ℕ → Bool → Shown → Shown → List (Bool × Fault)
element_by m keyed f s =
    value_by m s ++ (wrong_by m (not keyed || is_key s.ty) s ∷ ((unlike_by f s, at m rule_is.TypeMismatch s.span) ∷ []))

element_plain : (m : ℕ) (keyed : Bool) (first e : Expr) → element_tests m keyed (plain first) (plain e) ≡ element_tests m keyed first e
element_plain m keyed first e =
    ap (λ (f : Shown). element_by m keyed f (shown (plain e))) (shown_plain first) ∙ ap (λ (s : Shown). element_by m keyed (shown first) s) (shown_plain e)

elements_plain : (m : ℕ) (keyed : Bool) (first : Expr) (es : Exprs) → elements_tests m keyed (plain first) (all_plain es) ≡ elements_tests m keyed first es
elements_plain m keyed first none = refl
elements_plain m keyed first (more e es) =
    ap (λ r. r ++ elements_tests m keyed (plain first) (all_plain es)) (element_plain m keyed first e) ∙ ap (λ r. element_tests m keyed first e ++ r) (elements_plain m keyed first es)

row_plain : (m : ℕ) (keyed : Bool) (span : Span) (es : Exprs) → row_tests m keyed span (all_plain es) ≡ row_tests m keyed span es
row_plain m keyed span none = refl
row_plain m keyed span (more e es) = elements_plain m keyed e (more e es)

entries_plain : (m : ℕ) (keyed : Bool) (key value : Expr) (es : Exprs) → entries_tests m keyed (plain key) (plain value) (all_plain es) ≡ entries_tests m keyed key value es
entries_plain m keyed key value none = refl
entries_plain m true key value (more e es) =
    ap (λ r. r ++ entries_tests m false (plain key) (plain value) (all_plain es)) (element_plain m true key e) ∙ ap (λ r. element_tests m true key e ++ r) (entries_plain m false key value es)
entries_plain m false key value (more e es) =
    ap (λ r. r ++ entries_tests m true (plain key) (plain value) (all_plain es)) (element_plain m false value e) ∙ ap (λ r. element_tests m false value e ++ r) (entries_plain m true key value es)

map_plain : (m : ℕ) (span : Span) (es : Exprs) → map_tests m span (all_plain es) ≡ map_tests m span es
map_plain m span none = refl
map_plain m span (more key none) = refl
map_plain m span (more key (more value es)) = entries_plain m true key value (more key (more value es))

-- calls
fits_plain : (o : Option Ty) (e : Expr) → argument_fits o (plain e) ≡ argument_fits o e
fits_plain None e = refl
fits_plain (Some t) e = ap (λ (s : Shown). not (past_by s) && (no_object_by s || goes s.ty t)) (shown_plain e)

all_fit_plain : (f g : ℕ → Option Ty) → ((n : ℕ) → f n ≡ g n) → (n : ℕ) (es : Exprs) → arguments_fit f n (all_plain es) ≡ arguments_fit g n es
all_fit_plain f g is n none = ap is_none (is n)
all_fit_plain f g is n (more e es) =
    ap (λ o. argument_fits o (plain e) && arguments_fit f (n + 1) (all_plain es)) (is n)
    ∙ ap (λ b. b && arguments_fit f (n + 1) (all_plain es)) (fits_plain (g n) e)
    ∙ ap (λ b. argument_fits (g n) e && b) (all_fit_plain f g is (n + 1) es)

arguments_plain : (m : ℕ) (starts : Bool) (es : Exprs) → argument_tests m starts (all_plain es) ≡ argument_tests m starts es
arguments_plain m starts none = refl
arguments_plain m starts (more e es) =
    ap (λ (s : Shown). (s.no_value && not (starts && is_new s.ty), at m rule_is.TypeMismatch s.span) ∷ argument_tests m starts (all_plain es)) (shown_plain e)
    ∙ ap (λ r. (is_no_value e && not (starts && is_new (type_of e)), at m rule_is.TypeMismatch (value_span e)) ∷ r) (arguments_plain m starts es)

converts_plain : (es : Exprs) → converts (all_plain es) ≡ converts es
converts_plain none = refl
converts_plain (more e none) = ap (λ (s : Shown). not (past_by s) && (not (is_known s.ty) || no_object_by s || is_integer s.ty)) (shown_plain e)
converts_plain (more e (more f es)) = refl

convert_plain : (m : ℕ) (span : Span) (es : Exprs) → convert_tests m span (all_plain es) ≡ convert_tests m span es
convert_plain m span es =
    ap (λ b. (not b, at m rule_is.WrongArguments span) ∷ argument_tests m false (all_plain es)) (converts_plain es) ∙ ap (λ r. (not (converts es), at m rule_is.WrongArguments span) ∷ r) (arguments_plain m false es)

connects_slot : (op : ManyOp) → connects (with_slot_of op None) ≡ connects op
connects_slot (many_is.Method m old) = refl
connects_slot _ = refl

uncalled_plain : (m : ℕ) (es : Exprs) → uncalled_tests m (all_plain es) ≡ uncalled_tests m es
uncalled_plain m none = refl
uncalled_plain m (more e es) =
    ap (λ (s : Shown). value_by m s ++ ((knows_by s, at m rule_is.TypeMismatch s.span) ∷ all_value_tests m (all_plain es))) (shown_plain e)
    ∙ ap (λ r. value_tests m e ++ ((knows_by (shown e), at m rule_is.TypeMismatch (value_span e)) ∷ r)) (values_plain m es)

pub word_slot : (op : ManyOp) → word_many (with_slot_of op None) ≡ word_many op
word_slot (many_is.Method m old) = refl
word_slot _ = refl

module _ (k : Known) where
  place_plain : (e : Expr) → is_place k (plain e) ≡ is_place k e
  place_plain (leaf h) = refl
  place_plain (one h a) = refl
  place_plain (two h a b) = ap (λ t. is_element h.op t && is_place k (plain a)) (type_plain a) ∙ ap (λ c. is_element h.op (type_of a) && c) (place_plain a)
  place_plain (three h a b c) = refl
  place_plain (many h es) = refl

  module _ (blind : IsBlind k) (m : ℕ) where
    index_plain : (t : Ty) (a i : Expr) → index_tests k m t (plain a) (plain i) ≡ index_tests k m t a i
    index_plain (made maker_is.Vector ts) a i = ap (λ (s : Shown). wrong_by m (is_unsigned s.ty) s ∷ []) (shown_plain i)
    index_plain (made maker_is.Tuple ts) a i =
        ap (λ c. item_by m c (shown (plain i))) (blind.constancy i) ∙ ap (λ (s : Shown). item_by m (k.constancy i) s) (shown_plain i)
    index_plain (made maker_is.Set ts) a i = ap (λ (s : Shown). (not (goes_by (key_of (made maker_is.Set ts)) s), at m rule_is.TypeMismatch s.span) ∷ []) (shown_plain i)
    index_plain (made maker_is.Map ts) a i = ap (λ (s : Shown). (not (goes_by (key_of (made maker_is.Map ts)) s), at m rule_is.TypeMismatch s.span) ∷ []) (shown_plain i)
    index_plain (word w) a i = ap (λ (s : Shown). wrong_by m false s ∷ []) (shown_plain a)

    two_plain : (op : TwoOp) (a b : Expr) → two_op_tests k m op (plain a) (plain b) ≡ two_op_tests k m op a b
    two_plain (two_is.Binary op) a b = operands_plain m (sort_of op) a b
    two_plain two_is.Index a b =
        ap (λ (s : Shown). value_by m s ++ (value_tests m (plain b) ++ index_tests k m s.ty (plain a) (plain b))) (shown_plain a)
        ∙ ap (λ (s : Shown). value_tests m a ++ (value_by m s ++ index_tests k m (type_of a) (plain a) (plain b))) (shown_plain b)
        ∙ ap (λ r. value_tests m a ++ (value_tests m b ++ r)) (index_plain (type_of a) a b)
    two_plain (two_is.Item n) a b =
        ap (λ (s : Shown). value_by m s ++ right_by m (is_unsigned (type_of (plain b))) (shown (plain b))) (shown_plain a) ∙ ap (λ (s : Shown). value_tests m a ++ right_by m (is_unsigned s.ty) s) (shown_plain b)

    call_plain : (op : ManyOp) (span : Span) (t : Ty) (es : Exprs) → call_tests k m (with_slot_of op None) span t (all_plain es) ≡ call_tests k m op span t es
    call_plain op span t es =
        ap (λ b. (not b, at m rule_is.WrongArguments span) ∷ argument_tests m (connects (with_slot_of op None)) (all_plain es)) (all_fit_plain (k.target (with_slot_of op None) t) (k.target op t) (blind.target op t) 0 es)
        ∙ ap (λ b. (not (arguments_fit (k.target op t) 0 es), at m rule_is.WrongArguments span) ∷ argument_tests m b (all_plain es)) (connects_slot op)
        ∙ ap (λ r. (not (arguments_fit (k.target op t) 0 es), at m rule_is.WrongArguments span) ∷ r) (arguments_plain m (connects op) es)

    receiver_plain : (op : ManyOp) (e : Expr) → receiver_tests k m (with_slot_of op None) (plain e) ≡ receiver_tests k m op e
    receiver_plain (many_is.Method method slot) e =
        ap (λ b. (changes method && not b, at m rule_is.NotAssignable (span_of (plain e))) ∷ []) (place_plain e) ∙ ap (λ (p : Span). (changes method && not (is_place k e), at m rule_is.NotAssignable p) ∷ []) (span_plain e)
    receiver_plain (many_is.OfUnit method name) e = ap (λ b. (is_of_self method && not b, at m rule_is.SelfOutside name) ∷ []) (itself_plain e)
    receiver_plain _ e = refl

    method_plain : (op : ManyOp) (span : Span) (es : Exprs) → method_tests k m (with_slot_of op None) span (all_plain es) ≡ method_tests k m op span es
    method_plain op span none = refl
    method_plain op span (more e es) =
        let slotless = with_slot_of op None in
        ap (λ (s : Shown). object_by m s ++ (receiver_tests k m slotless (plain e) ++ call_tests k m slotless span (seen_by s) (all_plain es))) (shown_plain e)
        ∙ ap (λ r. object_tests m e ++ (r ++ call_tests k m slotless span (seen e) (all_plain es))) (receiver_plain op e)
        ∙ ap (λ r. object_tests m e ++ (receiver_tests k m op e ++ r)) (call_plain op span (seen e) es)

    many_plain : (op : ManyOp) (span : Span) (es : Exprs) → many_op_tests k m (with_slot_of op None) span (all_plain es) ≡ many_op_tests k m op span es
    many_plain many_is.Tuple span es = values_plain m es
    many_plain many_is.Vector span es = row_plain m false span es
    many_plain many_is.Set span es = row_plain m true span es
    many_plain many_is.Map span es = map_plain m span es
    many_plain (many_is.Call n) span es = call_plain (many_is.Call n) span unknown es
    many_plain (many_is.Convert n) span es = convert_plain m span es
    many_plain (many_is.New of path) span es = call_plain (many_is.New of path) path unknown es
    many_plain (many_is.Method method slot) span es = method_plain (many_is.Method method slot) span es
    many_plain (many_is.OfUnit method name) span es = method_plain (many_is.OfUnit method name) span es
    many_plain (many_is.OfSink method) span es = method_plain (many_is.OfSink method) span es
    many_plain many_is.NoCall span es = uncalled_plain m es

    -- the tests at a node
    pub tests_plain : (e : Expr) → expr_tests k m (plain e) ≡ expr_tests k m e
    tests_plain (leaf h) = refl
    tests_plain (one h a) = one_plain m h.ty h.op a
    tests_plain (two h a b) = two_plain h.op a b
    tests_plain (three h c a b) = choice_plain m c a b
    tests_plain (many h es) = many_plain h.op h.span es
