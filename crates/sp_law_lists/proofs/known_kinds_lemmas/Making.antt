-- Each node that typing makes has the type that its form gives.
use Rattle.std.specs.Prelude.{ℕ, ◌+◌, ◌==◌, zero, suc, Bool, true, false, not, ◌&&◌, ◌||◌, if◌then◌else◌, List, [], ◌∷◌, ◌++◌, map, length, Option, Some, None, slice_get}
use Rattle.std.proofs.Common.{◌≡◌, refl, sym, ap, ◌∙◌, subst, arith}
use Rattle.std.proofs.lemmas.Bool.{and_parts, and_from}
use Rattle.std.proofs.lemmas.Bool.Decides.{nat_tests}
use Rattle.sp_base.specs.declared.places.Span.{Span}
use Rattle.sp_words.specs.declared.operators.UnaryOp.{UnaryOp}
use Rattle.sp_words.specs.declared.operators.UnaryOp.TheVariants as unary_is
use Rattle.sp_words.specs.declared.words.IntWord.{IntWord}
use Rattle.sp_words.specs.declared.words.IntWord.TheVariants as int
use Rattle.sp_ast.specs.Trees.{Tree}
use Rattle.sp_ast.specs.Trees as read
use Rattle.sp_types.specs.declared.words.Word.{Word}
use Rattle.sp_types.specs.declared.words.Word.TheVariants as word_is
use Rattle.sp_types.specs.declared.words.Maker.{Maker}
use Rattle.sp_types.specs.declared.words.Maker.TheVariants as maker_is
use Rattle.sp_types.specs.Types.{Ty, Tys, word, made, tys, same, widens}
use Rattle.sp_types.specs.Types as types
use Rattle.sp_types.proofs.Same.{same_itself}
use Rattle.sp_typed.specs.declared.words.LeafOp.{LeafOp}
use Rattle.sp_typed.specs.declared.words.LeafOp.TheVariants as leaf_is
use Rattle.sp_typed.specs.declared.words.OneOp.{OneOp}
use Rattle.sp_typed.specs.declared.words.OneOp.TheVariants as one_is
use Rattle.sp_typed.specs.declared.words.ManyOp.{ManyOp}
use Rattle.sp_typed.specs.declared.words.ManyOp.TheVariants as many_is
use Rattle.sp_typed.specs.declared.words.NewOf.{NewOf}
use Rattle.sp_typed.specs.declared.heads.Leaf.{Leaf}
use Rattle.sp_typed.specs.Exprs.{Expr, leaf, one, two, three, many, exprs, listed, span_of, is_literal, is_number, is_minus, number_leaf, retyped}
use Rattle.sp_typed.specs.Nodes.{holds}
use Rattle.sp_type_operands.specs.Operands.{unknown, is_integer, first_type, unary_type, result_type, sort_of, second_type}
use Rattle.sp_type_operands.specs.Literals.{signed_literal, can_take, taken, seen}
use Rattle.sp_type_operands.specs.Wholes.{row_type, map_type, tuple_type}
use Rattle.sp_type_context.specs.declared.context.Member.{Member}
use Rattle.sp_type_context.specs.Contexts.{Around as Names}
use Rattle.sp_type_context.specs.Typing.{typed, name_of, cast_type, signed_type, unary_op, choice_type, one_at, to_target, in_turn, map_of, member_at, set_op, set_member_at, part_at, item_of, item_at, index_at, callee_op, call_by, call_at, started, new_by, to_maybe, each_to}
use Rattle.sp_types.specs.Integers.{int_word}
use Rattle.sp_law_lists.specs.known_types.Full.{is_unknown}
use Rattle.sp_type_methods.specs.Methods.{method_gives, method_takes}
use Rattle.sp_rule_lists.specs.Told.{function_takes}
use Rattle.sp_law_lists.proofs.known_types_lemmas.Full.{never}
use Rattle.sp_law_lists.specs.made_nodes.Makes.{Makes}
use Rattle.sp_law_lists.proofs.made_nodes_lemmas.Nodes.{typed_holds}
use Rattle.sp_law_lists.specs.fit_expr.Around.{Around}
use Rattle.sp_law_lists.specs.fit_expr.Sorts.{Units}
use Rattle.sp_law_lists.specs.fit_expr.Lists.{part_is}
use Rattle.sp_law_lists.specs.fit_expr.Test.{is_sort, is_enum, tuple_has, has_member}
use Rattle.sp_law_lists.specs.known_kinds.Made.{is_targeted, element_made, is_even, maybe_targeted, are_targeted, given_by, receiver_sort, has_slot, callable_made, member_made, one_made, many_made, leaf_made, is_made, IsMade, AreMade}

taken_integer : (w : Word) → can_take w ≡ true → is_integer (word w) ≡ true
taken_integer (word_is.Uint w) e = refl
taken_integer (word_is.Int w) e = refl
taken_integer _ e = never e

word_integer : (w : IntWord) → is_integer (word (int_word w)) ≡ true
word_integer int.Uint8 = refl
word_integer int.Uint16 = refl
word_integer int.Uint32 = refl
word_integer int.Uint64 = refl
word_integer int.Int8 = refl
word_integer int.Int16 = refl
word_integer int.Int32 = refl
word_integer int.Int64 = refl

either_so : (a b : Bool) → a ≡ true → (a || b) ≡ true
either_so true b e = refl
either_so false b e = never e

cast_made : (t : Ty) → (is_integer (cast_type t) || is_unknown (cast_type t)) ≡ true
cast_made t = by (is_integer t) refl
  where
    by : (b : Bool) → is_integer t ≡ b → (is_integer (if b then t else word word_is.Unknown) || is_unknown (if b then t else word word_is.Unknown)) ≡ true
    by true e = either_so (is_integer t) (is_unknown t) e
    by false e = refl

-- a minus sign
negated : (e : Expr) (b : Bool) → (if b then is_integer (if b then word signed_literal else unary_type unary_is.Negate (seen e)) else same (if b then word signed_literal else unary_type unary_is.Negate (seen e)) (unary_type unary_is.Negate (seen e))) ≡ true
negated e true = refl
negated e false = same_itself (unary_type unary_is.Negate (seen e))

-- a list as a row and back
listed_is : (es : List Expr) → listed (exprs es) ≡ es
listed_is [] = refl
listed_is (e ∷ es) = ap (λ xs. e ∷ xs) (listed_is es)

-- what goes to a target needs no more widening
or_left : (a b : Bool) → a ≡ true → not (b && not a) ≡ true
or_left true b e = by b
  where
    by : (b : Bool) → not (b && false) ≡ true
    by true = refl
    by false = refl
or_left false b e = never e

pub targeted_made : (t : Ty) (e : Expr) → is_targeted t (to_target t e) ≡ true
targeted_made t e = by (widens (seen (taken t e)) t && not (same (seen (taken t e)) t)) refl
  where
    by : (b : Bool) → (widens (seen (taken t e)) t && not (same (seen (taken t e)) t)) ≡ b → is_targeted t (if b then one_at (span_of (taken t e)) t one_is.Widen (taken t e) else taken t e) ≡ true
    by true w = or_left (same t t) (widens t t) (same_itself t)
    by false w = ap not w

-- arguments that go to their targets
pub maybe_made : (o : Option Ty) (e : Expr) → maybe_targeted o (to_maybe o e) ≡ true
maybe_made None e = refl
maybe_made (Some t) e = targeted_made t e

each_targeted : (f g : ℕ → Option Ty) → ((i : ℕ) → f i ≡ g i) → (n : ℕ) (es : List Expr) → are_targeted g n (exprs (each_to f n es)) ≡ true
each_targeted f g is n [] = refl
each_targeted f g is n (e ∷ es) =
    and_from (maybe_targeted (g n) (to_maybe (f n) e)) (are_targeted g (suc n) (exprs (each_to f (suc n) es))) (subst (λ o. maybe_targeted o (to_maybe (f n) e) ≡ true) (is n) (maybe_made (f n) e)) (each_targeted f g is (suc n) es)

-- those that were left out stand behind the others
both_targeted : (f : ℕ → Option Ty) (n m : ℕ) (xs ys : List Expr) → n + length xs ≡ m → are_targeted f n (exprs xs) ≡ true → are_targeted f m (exprs ys) ≡ true → are_targeted f n (exprs (xs ++ ys)) ≡ true
both_targeted f n m [] ys at a b = (let e : m ≡ n = omega (arith, at) in subst (λ i. are_targeted f i (exprs ys) ≡ true) e b)
both_targeted f n m (x ∷ xs) ys at a b =
    let p = and_parts (maybe_targeted (f n) x) (are_targeted f (suc n) (exprs xs)) a in
    let next : suc n + length xs ≡ n + suc (length xs) = omega arith in
    and_from (maybe_targeted (f n) x) (are_targeted f (suc n) (exprs (xs ++ ys))) p.0 (both_targeted f (suc n) m xs ys (next ∙ at) p.1 b)

each_length : (f : ℕ → Option Ty) (n : ℕ) (es : List Expr) → length (each_to f n es) ≡ length es
each_length f n [] = refl
each_length f n (e ∷ es) = ap suc (each_length f (suc n) es)

-- members of tuples
part_found : (ts : Tys) (n : ℕ) (t : Ty) → part_at ts n ≡ Some t → part_is ts n t ≡ true
part_found types.none n t e = absurd (let z : ⊥ = cc in z)
part_found (types.more u us) zero t e = subst (λ x. same u x ≡ true) (let z : u ≡ t = cc in z) (same_itself u)
part_found (types.more u us) (suc n) t e = part_found us n t e

-- keys and values in turn
turn_even : (s t : Ty) (ps : List (Expr × Expr)) → is_even (exprs (in_turn s t ps)) ≡ true
turn_even s t [] = refl
turn_even s t (q ∷ ps) = turn_even s t ps

pub number_itself : (n : ℕ) → (n == n) ≡ true
number_itself n = grind (arith, nat_tests)

enum_itself : (k : ℕ) → is_enum k (word (word_is.Enum k)) ≡ true
enum_itself k = number_itself k

module _ (around : Around) where
  abbrev Made : Expr → Type 0
  Made e = is_made around e ≡ true

  unary_made : (op : UnaryOp) (e : Expr) → one_made around (unary_op op) (signed_type op e) e ≡ true
  unary_made unary_is.Not e = refl
  unary_made unary_is.Negate e = negated e (is_number e)
  unary_made unary_is.Complement e = same_itself (unary_type unary_is.Complement (seen e))

  -- members
  op_made : (op : OneOp) (t : Ty) (e : Expr) → member_made around op (seen e) t ≡ true → one_made around op t e ≡ true
  op_made (one_is.Field n) t e m = m
  op_made (one_is.Variable n) t e m = m
  op_made (one_is.Bit n) t e m = m
  op_made (one_is.SinkOf n) t e m = refl
  op_made _ t e m = never m

  member_found : (span name : Span) (o : Option Member) (e : Expr) → ((x : Member) → o ≡ Some x → member_made around x.op (seen e) x.ty ≡ true) → Made (member_at span name o e)
  member_found span name None e h = refl
  member_found span name (Some x) e h = op_made x.op x.ty e (h x refl)

  unit_sort : (s : Ty) (n : ℕ) (t : Ty) → has_member around s n t ≡ true → is_sort s Units ≡ true
  unit_sort (word (word_is.Unit u)) n t e = refl
  unit_sort (word _) n t e = never e
  unit_sort (made m ts) n t e = never e

  set_made : (op : OneOp) (name : Span) (t : Ty) (e : Expr) → member_made around op (seen e) t ≡ true → one_made around (set_op op name) (word word_is.Bool) e ≡ true
  set_made (one_is.Field n) name t e m = and_from (is_sort (seen e) Units) true (unit_sort (seen e) n t m) refl
  set_made _ name t e m = refl

  set_member_found : (span name : Span) (o : Option Member) (e : Expr) → ((x : Member) → o ≡ Some x → member_made around x.op (seen e) x.ty ≡ true) → Made (set_member_at span name o e)
  set_member_found span name None e h = refl
  set_member_found span name (Some x) e h = set_made x.op name x.ty e (h x refl)

  -- elements
  item_found : (span : Span) (us : Tys) (o : Option Ty) (n : ℕ) (a i : Expr) → made maker_is.Tuple us ≡ seen a → part_at us n ≡ o → Made (item_of span o n a i)
  item_found span us None n a i e at = subst (λ s. element_made s (word word_is.Unknown) i ≡ true) e refl
  item_found span us (Some t) n a i e at = subst (λ s. tuple_has s n t ≡ true) e (part_found us n t at)

  items_found : (span : Span) (us : Tys) (o : Option ℕ) (a i : Expr) → made maker_is.Tuple us ≡ seen a → Made (item_at span us o a i)
  items_found span us None a i e = subst (λ s. element_made s (word word_is.Unknown) i ≡ true) e refl
  items_found span us (Some n) a i e = item_found span us (part_at us n) n a i e refl

  index_found : (g : Names) (span : Span) (t : Ty) (a i : Expr) → t ≡ seen a → Made (index_at g span t a i)
  index_found g span (made maker_is.Vector ts) a i e = subst (λ s. element_made s (first_type ts) i ≡ true) e (same_itself (first_type ts))
  index_found g span (made maker_is.Map ts) a i e =
      subst (λ s. element_made s (second_type ts) (to_target (first_type ts) i) ≡ true) e
      (and_from (same (second_type ts) (second_type ts)) (is_targeted (first_type ts) (to_target (first_type ts) i)) (same_itself (second_type ts)) (targeted_made (first_type ts) i))
  index_found g span (made maker_is.Set ts) a i e = subst (λ s. element_made s (word word_is.Unknown) (to_target (first_type ts) i) ≡ true) e (targeted_made (first_type ts) i)
  index_found g span (made maker_is.Tuple ts) a i e = items_found span ts (g.item i) a i e
  index_found g span (word w) a i e = subst (λ s. element_made s (word word_is.Unknown) i ≡ true) e refl

  -- rows
  row_found : (maker : Maker) (es : List Expr) → same (row_type maker es) (row_type maker (listed (exprs es))) ≡ true
  row_found maker es = subst (λ xs. same (row_type maker es) (row_type maker xs) ≡ true) (sym (listed_is es)) (same_itself (row_type maker es))

  tuple_found : (es : List Expr) → same (tuple_type (map seen es)) (tuple_type (map seen (listed (exprs es)))) ≡ true
  tuple_found es = subst (λ xs. same (tuple_type (map seen es)) (tuple_type (map seen xs)) ≡ true) (sym (listed_is es)) (same_itself (tuple_type (map seen es)))

  map_found : (s t : Ty) (ps : List (Expr × Expr)) → Made (map_of (record { from = 0; to = 0 }) (in_turn s t ps))
  map_found s t ps =
      let es = in_turn s t ps in
      and_from (same (map_type es) (map_type (listed (exprs es)))) (is_even (exprs es)) (subst (λ xs. same (map_type es) (map_type xs) ≡ true) (sym (listed_is es)) (same_itself (map_type es))) (turn_even s t ps)

  -- calls of methods
  method_call : (g : Names) → AreMade around g → (op : ManyOp) (t : Ty) (span : Span) (object : Expr) (es : List Expr) → callable_made (seen object) op t ≡ true
      → many_made around op t (exprs (object ∷ (each_to (g.target op (seen object)) 0 es ++ g.left_out op span (length es)))) ≡ true
  method_call g known (many_is.Method m slot) t span object es c =
      let op = many_is.Method m slot in
      let s = seen object in
      let xs = each_to (g.target op s) 0 es in
      let ys = g.left_out op span (length es) in
      let takes : ℕ → Option Ty = slice_get (method_takes m s) in
      let p = and_parts (is_sort s (receiver_sort m) && same t (method_gives m s)) (not (has_slot slot)) c in
      let count : 0 + length xs ≡ length es = (let e : 0 + length xs ≡ length xs = omega arith in e ∙ each_length (g.target op s) 0 es) in
      let goes_on : are_targeted takes (length es) (exprs ys) ≡ true = known.filled op s span (length es) refl in
      and_from (is_sort s (receiver_sort m) && same t (method_gives m s)) (are_targeted takes 0 (exprs (xs ++ ys))) p.0 (both_targeted takes 0 (length es) xs ys count (each_targeted (g.target op s) takes (λ i. known.target op s i refl) 0 es) goes_on)
  method_call g known (many_is.OfUnit m name) t span object es c = c
  method_call g known (many_is.OfSink m) t span object es c = refl
  method_call g known _ t span object es c = never c

  -- calls of functions
  function_call : (g : Names) → AreMade around g → (span : Span) (f : ℕ) (callee : Expr) (es : List Expr) → Made (call_by g span (callee_op (leaf_is.Function f)) callee es)
  function_call g known span f callee es =
      let op = many_is.Call f in
      let found = slice_get around.list.functions f in
      and_from (same (g.result f) (given_by found)) (are_targeted (function_takes found) 0 (exprs (each_to (g.target op unknown) 0 es))) (subst (λ u. same (g.result f) u ≡ true) (known.result f) (same_itself (g.result f)))
      (each_targeted (g.target op unknown) (function_takes found) (λ i. known.target op unknown i refl) 0 es)

  type_call_found : (g : Names) (span : Span) (w : Word) (callee : Expr) (es : List Expr) → Made (call_by g span (callee_op (leaf_is.TypeName w)) callee es)
  type_call_found g span (word_is.Enum n) callee es = enum_itself n
  type_call_found g span _ callee es = refl

  leaf_call_found : (g : Names) → AreMade around g → (span : Span) (op : LeafOp) (callee : Expr) (es : List Expr) → Made (call_by g span (callee_op op) callee es)
  leaf_call_found g known span (leaf_is.Function n) callee es = function_call g known span n callee es
  leaf_call_found g known span (leaf_is.TypeName w) callee es = type_call_found g span w callee es
  leaf_call_found g known span _ callee es = refl

  call_found : (g : Names) → AreMade around g → (span : Span) (callee : Expr) (es : List Expr) → Made (call_at g span callee es)
  call_found g known span (leaf h) es = leaf_call_found g known span h.op (leaf h) es
  call_found g known span (one h a) es = refl
  call_found g known span (two h a b) es = refl
  call_found g known span (three h c a b) es = refl
  call_found g known span (many h fs) es = refl

  start_found : (g : Names) (span path : Span) (o : Option NewOf) (callee : Expr) (es : List Expr) → Made (new_by g span path o callee es)
  start_found g span path None callee es = refl
  start_found g span path (Some u) callee es = refl

  -- a literal that takes an integer type
  leaf_taken : (h : Leaf) (w : Word) (op : LeafOp) → number_leaf op ≡ true → can_take w ≡ true → leaf_made around op (word w) ≡ true
  leaf_taken h w (leaf_is.Number n) l may = taken_integer w may
  leaf_taken h w _ l may = never l

  minus_taken : (op : OneOp) (w : Word) (a : Expr) → is_minus op ≡ true → is_number a ≡ true → can_take w ≡ true → one_made around op (word w) a ≡ true
  minus_taken one_is.Negate w a m n may = by (is_number a) n
    where
      by : (b : Bool) → b ≡ true → (if b then is_integer (word w) else same (word w) (unary_type unary_is.Negate (seen a))) ≡ true
      by true e = taken_integer w may
      by false e = never e
  minus_taken _ w a m n may = never m

  pub literal_taken : (w : Word) (e : Expr) → is_literal e ≡ true → can_take w ≡ true → IsMade around e → IsMade around (retyped (word w) e)
  literal_taken w (leaf h) l may i = leaf_taken h w h.op l may
  literal_taken w (one h a) l may i =
      let p = and_parts (is_minus h.op) (is_number a) l in
      let q = and_parts (one_made around h.op h.ty a) (holds (is_made around) a) i in
      and_from (one_made around h.op (word w) a) (holds (is_made around) a) (minus_taken h.op w a p.0 p.1 may) q.1
  literal_taken w (two h a b) l may i = never l
  literal_taken w (three h c a b) l may i = never l
  literal_taken w (many h es) l may i = never l

  makes : (g : Names) → AreMade around g → Makes g (is_made around)
  makes g known = record {
    path = known.path;
    named = known.named;
    itself = known.itself;
    current = known.current;
    left_out = known.left_out;
    taken = literal_taken;
    truth = λ span. refl;
    falsehood = λ span. refl;
    number = λ span n. refl;
    text = λ span x. refl;
    bytes = λ span x. refl;
    regex = λ span x. refl;
    empty = λ span t w. refl;
    typed_number = λ span w n. word_integer w;
    no_expression = λ span. refl;
    widened = λ t e w. w;
    cast = λ span t w e. cast_made t;
    size = λ span e. refl;
    unary = λ span op e. unary_made op e;
    binary = λ span op a b. same_itself (result_type (sort_of op) (seen a) (seen b));
    choice = λ span c a b. same_itself (choice_type a b);
    tuple = λ span es. tuple_found es;
    vector = λ span es. row_found maker_is.Vector es;
    set = λ span es. row_found maker_is.Set es;
    entries = λ span key value ps. map_found key value ps;
    member = λ span name e. member_found span (read.span_of name) (g.member (seen e) (name_of name)) e (known.member (seen e) (name_of name));
    set_member = λ span name e. set_member_found span (read.span_of name) (g.member (seen e) (name_of name)) e (known.member (seen e) (name_of name));
    no_member = λ span name e. refl;
    index = λ span a i. index_found g span (seen a) a i refl;
    no_callee = λ span callee es. refl;
    call = λ span callee es. call_found g known span callee es;
    method = λ span at name found object es is. method_call g known found.op found.ty span object es (known.method (seen object) name at (map seen es) found is);
    start = λ span path callee es. start_found g span path (started callee) callee es;
  }

-- What is typed.
pub typed_made : (around : Around) (g : Names) → AreMade around g → (t : Tree) → IsMade around (typed g t)
typed_made around g known t = typed_holds g (is_made around) (makes around g known) t
