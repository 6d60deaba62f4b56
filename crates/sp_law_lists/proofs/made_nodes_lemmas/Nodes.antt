-- A test that holds of what is named and of each node round its parts holds at each node that typing makes.
use Rattle.std.specs.Prelude.{ℕ, suc, Bool, true, false, not, ◌&&◌, ◌||◌, if◌then◌else◌, cond, List, [], ◌∷◌, ◌++◌, map, length, Option, Some, None}
use Rattle.std.proofs.Common.{◌≡◌, refl}
use Rattle.std.proofs.lemmas.Bool.{and_parts, and_from}
use Rattle.sp_base.specs.declared.places.Span.{Span}
use Rattle.sp_words.specs.declared.operators.BinaryOp.{BinaryOp}
use Rattle.sp_words.specs.declared.operators.UnaryOp.{UnaryOp}
use Rattle.sp_ast.specs.Trees.{Tree, Trees, row, node, none, more}
use Rattle.sp_ast.specs.Trees as read
use Rattle.sp_ast.specs.declared.forms.Form.TheVariants as form_is
use Rattle.sp_ast.specs.declared.forms.ExprForm.TheVariants as expr_is
use Rattle.sp_types.specs.declared.words.Word.{Word}
use Rattle.sp_types.specs.declared.words.Word.TheVariants as word_is
use Rattle.sp_types.specs.declared.words.Maker.TheVariants as maker_is
use Rattle.sp_types.specs.Types.{Ty, Tys, word, made, tys, same, widens}
use Rattle.sp_typed.specs.declared.words.LeafOp.{LeafOp}
use Rattle.sp_typed.specs.declared.words.LeafOp.TheVariants as leaf_is
use Rattle.sp_typed.specs.declared.words.OneOp.{OneOp}
use Rattle.sp_typed.specs.declared.words.OneOp.TheVariants as one_is
use Rattle.sp_typed.specs.declared.words.TwoOp.TheVariants as two_is
use Rattle.sp_typed.specs.declared.words.ManyOp.{ManyOp}
use Rattle.sp_typed.specs.declared.words.ManyOp.TheVariants as many_is
use Rattle.sp_typed.specs.declared.words.NewOf.{NewOf}
use Rattle.sp_typed.specs.declared.heads.Leaf.{Leaf}
use Rattle.sp_typed.specs.declared.heads.One.{One}
use Rattle.sp_typed.specs.declared.heads.Two.{Two}
use Rattle.sp_typed.specs.declared.heads.Three.{Three}
use Rattle.sp_typed.specs.declared.heads.Many.{Many}
use Rattle.sp_typed.specs.Exprs.{Expr, leaf, one, two, three, many, exprs, span_of, is_literal, retyped, settled}
use Rattle.sp_typed.specs.Nodes.{holds, all_hold}
use Rattle.sp_type_operands.specs.Operands.{unknown, boolean, key_of, first_type, sort_of, result_type, second_type}
use Rattle.sp_type_operands.specs.Literals.{can_take, taken, is_negative, seen, literal_word}
use Rattle.sp_type_operands.specs.Wholes.{row_type, map_type, tuple_type}
use Rattle.sp_type_context.specs.declared.places.Place.TheVariants as place_is
use Rattle.sp_type_context.specs.declared.context.Member.{Member}
use Rattle.sp_type_context.specs.declared.context.Callable.{Callable}
use Rattle.sp_type_context.specs.Contexts.{Around}
use Rattle.sp_type_context.specs.Typing.{typed, typed_all, pairs_typed, name_of, number_in, one_at, size_type, cast_type, signed_type, unary_op, choice_type, empty_type, both_written, call_of, widened, to_target, to_maybe, each_to, alike, agreeing, leading, led, leading_half, in_turn, unary_at, joined, is_membership, binary_at, choice_at, member_at, set_op, set_member_at, part_at, item_of, item_at, index_at, no_call, callee_op, call_by, call_at, method_of, started, new_by}
use Rattle.sp_law_lists.specs.made_nodes.Makes.{Makes}

module _ (g : Around) (p : Expr → Bool) (makes : Makes g p) where
  abbrev Is : Expr → Type 0
  Is e = holds p e ≡ true

  abbrev AllAre : List Expr → Type 0
  AllAre es = all_hold p (exprs es) ≡ true

  by_bool : {X : Type 0} (P : X → Type 0) (b : Bool) (x y : X) → (b ≡ true → P x) → P y → P (if b then x else y)
  by_bool P true x y f h = f refl
  by_bool P false x y f h = h

  -- a node round its parts
  one_is_so : (h : One) (a : Expr) → p (one h a) ≡ true → Is a → Is (one h a)
  one_is_so h a n i = and_from (p (one h a)) (holds p a) n i

  two_is_so : (h : Two) (a b : Expr) → p (two h a b) ≡ true → Is a → Is b → Is (two h a b)
  two_is_so h a b n i j = and_from (p (two h a b)) (holds p a && holds p b) n (and_from (holds p a) (holds p b) i j)

  three_is_so : (h : Three) (a b c : Expr) → p (three h a b c) ≡ true → Is a → Is b → Is c → Is (three h a b c)
  three_is_so h a b c n i j l = and_from (p (three h a b c)) (holds p a && (holds p b && holds p c)) n (and_from (holds p a) (holds p b && holds p c) i (and_from (holds p b) (holds p c) j l))

  many_is_so : (h : Many) (es : List Expr) → p (many h (exprs es)) ≡ true → AllAre es → Is (many h (exprs es))
  many_is_so h es n i = and_from (p (many h (exprs es))) (all_hold p (exprs es)) n i

  leaf_is_so : (h : Leaf) → p (leaf h) ≡ true → Is (leaf h)
  leaf_is_so h n = n

  -- literals take types
  settled_is : (w : Word) (e : Expr) → can_take w ≡ true → Is e → Is (settled w e)
  settled_is w e may i = by (is_literal e) refl
    where
      by : (b : Bool) → is_literal e ≡ b → Is (cond b (retyped (word w) e) e)
      by true l = makes.taken w e l may i
      by false l = i

  taken_is : (t : Ty) (e : Expr) → Is e → Is (taken t e)
  taken_is (word w) e i = by_bool Is (is_literal e && can_take w) (settled w e) e (λ b. settled_is w e (and_parts (is_literal e) (can_take w) b).1 i) i
  taken_is (made maker ts) e i = i

  widened_is : (t : Ty) (e : Expr) → Is e → Is (widened t e)
  widened_is t e i = by_bool Is (widens (seen e) t && not (same (seen e) t)) (one_at (span_of e) t one_is.Widen e) e
      (λ b. one_is_so (record { span = span_of e; ty = t; op = one_is.Widen }) e (makes.widened t e (and_parts (widens (seen e) t) (not (same (seen e) t)) b).0) i) i

  target_is : (t : Ty) (e : Expr) → Is e → Is (to_target t e)
  target_is t e i = widened_is t (taken t e) (taken_is t e i)

  maybe_is : (t : Option Ty) (e : Expr) → Is e → Is (to_maybe t e)
  maybe_is None e i = i
  maybe_is (Some t) e i = target_is t e i

  abbrev Both : Expr × Expr → Type 0
  Both q = Is q.0 × Is q.1

  literals_take : (b : Bool) → can_take (literal_word b) ≡ true
  literals_take true = refl
  literals_take false = refl

  agreeing_is : (a b : Expr) → Is a → Is b → Both (agreeing a b)
  agreeing_is a b i j =
      let w = literal_word (is_negative a || is_negative b) in
      let may = literals_take (is_negative a || is_negative b) in
      by_bool Both (is_literal a && is_literal b) (alike a b) (taken (seen b) a, taken (seen a) b) (λ l. (settled_is w a may i, settled_is w b may j)) (taken_is (seen b) a i, taken_is (seen a) b j)

  -- rows
  more_are : (e : Expr) (es : List Expr) → Is e → AllAre es → AllAre (e ∷ es)
  more_are e es i j = and_from (holds p e) (all_hold p (exprs es)) i j

  first_is : (e : Expr) (es : List Expr) → AllAre (e ∷ es) → Is e
  first_is e es i = (and_parts (holds p e) (all_hold p (exprs es)) i).0

  rest_are : (e : Expr) (es : List Expr) → AllAre (e ∷ es) → AllAre es
  rest_are e es i = (and_parts (holds p e) (all_hold p (exprs es)) i).1

  each_is : (target : ℕ → Option Ty) (n : ℕ) (es : List Expr) → AllAre es → AllAre (each_to target n es)
  each_is target n [] i = refl
  each_is target n (e ∷ es) i = more_are (to_maybe (target n) e) (each_to target (suc n) es) (maybe_is (target n) e (first_is e es i)) (each_is target (suc n) es (rest_are e es i))

  all_taken : (t : Ty) (es : List Expr) → AllAre es → AllAre (map (taken t) es)
  all_taken t [] i = refl
  all_taken t (e ∷ es) i = more_are (taken t e) (map (taken t) es) (taken_is t e (first_is e es i)) (all_taken t es (rest_are e es i))

  led_are : (es : List Expr) → AllAre es → AllAre (led es)
  led_are es i = all_taken (leading es) es i

  both_are : (es fs : List Expr) → AllAre es → AllAre fs → AllAre (es ++ fs)
  both_are [] fs i j = j
  both_are (e ∷ es) fs i j = more_are e (es ++ fs) (first_is e es i) (both_are es fs (rest_are e es i) j)

  abbrev PairsAre : List (Expr × Expr) → Type 0
  PairsAre [] = Unit {0}
  PairsAre (q ∷ ps) = Both q × PairsAre ps

  turn_are : (s t : Ty) (ps : List (Expr × Expr)) → PairsAre ps → AllAre (in_turn s t ps)
  turn_are s t [] i = refl
  turn_are s t (q ∷ ps) i =
      more_are (taken s q.0) (taken t q.1 ∷ in_turn s t ps) (taken_is s q.0 i.0.0) (more_are (taken t q.1) (in_turn s t ps) (taken_is t q.1 i.0.1) (turn_are s t ps i.1))

  -- nodes
  unary_is_so : (span : Span) (op : UnaryOp) (e : Expr) → Is e → Is (unary_at span op e)
  unary_is_so span op e i = one_is_so (record { span = span; ty = signed_type op e; op = unary_op op }) e (makes.unary span op e) i

  joined_is : (span : Span) (op : BinaryOp) (a b : Expr) → Is a → Is b → Is (joined span op a b)
  joined_is span op a b i j = two_is_so (record { span = span; ty = result_type (sort_of op) (seen a) (seen b); op = two_is.Binary op }) a b (makes.binary span op a b) i j

  binary_is : (span : Span) (op : BinaryOp) (a b : Expr) → Is a → Is b → Is (binary_at span op a b)
  binary_is span op a b i j = by (is_membership (sort_of op))
    where
      by : (c : Bool) → Is (if c then joined span op (to_target (key_of (seen b)) a) b else joined span op (agreeing a b).0 (agreeing a b).1)
      by true = joined_is span op (to_target (key_of (seen b)) a) b (target_is (key_of (seen b)) a i) j
      by false = (let q = agreeing_is a b i j in joined_is span op (agreeing a b).0 (agreeing a b).1 q.0 q.1)

  choice_is : (span : Span) (c a b : Expr) → Is c → Is a → Is b → Is (choice_at span c a b)
  choice_is span c a b h i j =
      let q = agreeing_is a b i j in
      let x = (agreeing a b).0 in
      let y = (agreeing a b).1 in
      three_is_so (record { span = span; ty = choice_type x y }) c x y (makes.choice span c x y) h q.0 q.1

  found_is : (span name : Span) (o : Option Member) (e : Expr) → p (member_at span name o e) ≡ true → Is e → Is (member_at span name o e)
  found_is span name None e n i = one_is_so (record { span = span; ty = unknown; op = one_is.NoMember name }) e n i
  found_is span name (Some x) e n i = one_is_so (record { span = span; ty = x.ty; op = x.op }) e n i

  set_found_is : (span name : Span) (o : Option Member) (e : Expr) → p (set_member_at span name o e) ≡ true → Is e → Is (set_member_at span name o e)
  set_found_is span name None e n i = one_is_so (record { span = span; ty = boolean; op = one_is.NoMember name }) e n i
  set_found_is span name (Some x) e n i = one_is_so (record { span = span; ty = boolean; op = set_op x.op name }) e n i

  item_is : (span : Span) (o : Option Ty) (n : ℕ) (a i : Expr) → p (item_of span o n a i) ≡ true → Is a → Is i → Is (item_of span o n a i)
  item_is span None n a i is q r = two_is_so (record { span = span; ty = unknown; op = two_is.Index }) a i is q r
  item_is span (Some t) n a i is q r = two_is_so (record { span = span; ty = t; op = two_is.Item n }) a i is q r

  items_are : (span : Span) (ts : Tys) (o : Option ℕ) (a i : Expr) → p (item_at span ts o a i) ≡ true → Is a → Is i → Is (item_at span ts o a i)
  items_are span ts None a i is q r = two_is_so (record { span = span; ty = unknown; op = two_is.Index }) a i is q r
  items_are span ts (Some n) a i is q r = item_is span (part_at ts n) n a i is q r

  index_is : (span : Span) (t : Ty) (a i : Expr) → p (index_at g span t a i) ≡ true → Is a → Is i → Is (index_at g span t a i)
  index_is span (made maker_is.Vector ts) a i is q r = two_is_so (record { span = span; ty = first_type ts; op = two_is.Index }) a i is q r
  index_is span (made maker_is.Map ts) a i is q r =
      two_is_so (record { span = span; ty = second_type ts; op = two_is.Index }) a (to_target (first_type ts) i) is q (target_is (first_type ts) i r)
  index_is span (made maker_is.Set ts) a i is q r = two_is_so (record { span = span; ty = unknown; op = two_is.Index }) a (to_target (first_type ts) i) is q (target_is (first_type ts) i r)
  index_is span (made maker_is.Tuple ts) a i is q r = items_are span ts (g.item i) a i is q r
  index_is span (word w) a i is q r = two_is_so (record { span = span; ty = unknown; op = two_is.Index }) a i is q r

  no_call_is : (span : Span) (callee : Expr) (es : List Expr) → p (no_call span callee es) ≡ true → Is callee → AllAre es → Is (no_call span callee es)
  no_call_is span callee es is i j = many_is_so (record { span = span; ty = unknown; op = many_is.NoCall }) (callee ∷ es) is (more_are callee es i j)

  call_of_is : (span : Span) (op : ManyOp) (t : Ty) (es : List Expr) → p (call_of g span op t es) ≡ true → AllAre es → Is (call_of g span op t es)
  call_of_is span op t es is j = many_is_so (record { span = span; ty = t; op = op }) (each_to (g.target op unknown) 0 es) is (each_is (g.target op unknown) 0 es j)

  type_call_is : (span : Span) (w : Word) (callee : Expr) (es : List Expr) → p (call_by g span (callee_op (leaf_is.TypeName w)) callee es) ≡ true → Is callee → AllAre es → Is (call_by g span (callee_op (leaf_is.TypeName w)) callee es)
  type_call_is span (word_is.Enum n) callee es is i j = call_of_is span (many_is.Convert n) (word (word_is.Enum n)) es is j
  type_call_is span _ callee es is i j = no_call_is span callee es is i j

  leaf_call_is : (span : Span) (op : LeafOp) (callee : Expr) (es : List Expr) → p (call_by g span (callee_op op) callee es) ≡ true → Is callee → AllAre es → Is (call_by g span (callee_op op) callee es)
  leaf_call_is span (leaf_is.Function n) callee es is i j = call_of_is span (many_is.Call n) (g.result n) es is j
  leaf_call_is span (leaf_is.TypeName w) callee es is i j = type_call_is span w callee es is i j
  leaf_call_is span _ callee es is i j = no_call_is span callee es is i j

  call_is : (span : Span) (callee : Expr) (es : List Expr) → p (call_at g span callee es) ≡ true → Is callee → AllAre es → Is (call_at g span callee es)
  call_is span (leaf h) es is i j = leaf_call_is span h.op (leaf h) es is i j
  call_is span (one h a) es is i j = no_call_is span (one h a) es is i j
  call_is span (two h a b) es is i j = no_call_is span (two h a b) es is i j
  call_is span (three h c a b) es is i j = no_call_is span (three h c a b) es is i j
  call_is span (many h fs) es is i j = no_call_is span (many h fs) es is i j

  new_is : (span path : Span) (o : Option NewOf) (callee : Expr) (es : List Expr) → p (new_by g span path o callee es) ≡ true → Is callee → AllAre es → Is (new_by g span path o callee es)
  new_is span path None callee es is i j = no_call_is span callee es is i j
  new_is span path (Some u) callee es is i j = call_of_is span (many_is.New u path) (word word_is.New) es is j

  method_is : (span member at : Span) (name : List ℕ) (o : Option Callable) (object : Expr) (es : List Expr) → ((x : Callable) → o ≡ Some x → g.method (seen object) name at (map seen es) ≡ Some x) → Is object → AllAre es → Is (method_of g span member at o object es)
  method_is span member at name None object es found i j =
      let callee = one_at member unknown (one_is.NoMember at) object in
      no_call_is span callee es (makes.no_callee span callee es) (one_is_so (record { span = member; ty = unknown; op = one_is.NoMember at }) object (makes.no_member member at object) i) j
  method_is span member at name (Some x) object es found i j =
      let taken_as = each_to (g.target x.op (seen object)) 0 es in
      let left = g.left_out x.op span (length es) in
      many_is_so (record { span = span; ty = x.ty; op = x.op }) (object ∷ (taken_as ++ left)) (makes.method span at name x object es (found x refl)) (more_are object (taken_as ++ left) i (both_are taken_as left (each_is (g.target x.op (seen object)) 0 es j) (makes.left_out x.op span (length es))))

  mutual
    -- What is typed.
    pub typed_holds : (t : Tree) → holds p (typed g t) ≡ true
    typed_holds (node (form_is.Expr expr_is.Path) span (more path none)) = makes.path span path
    typed_holds (node (form_is.Expr expr_is.Itself) span none) = makes.itself span
    typed_holds (node (form_is.Expr expr_is.Current) span none) = makes.current span
    typed_holds (node (form_is.Expr expr_is.True) span none) = makes.truth span
    typed_holds (node (form_is.Expr expr_is.False) span none) = makes.falsehood span
    typed_holds (node (form_is.Expr (expr_is.Number n)) span none) = makes.number span n
    typed_holds (node (form_is.Expr (expr_is.String text)) span none) = makes.text span text
    typed_holds (node (form_is.Expr (expr_is.Bytes bytes)) span none) = makes.bytes span bytes
    typed_holds (node (form_is.Expr (expr_is.Regex text)) span none) = makes.regex span text
    typed_holds (node (form_is.Expr expr_is.Tuple) span ts) =
        let es = typed_all g ts in
        many_is_so (record { span = span; ty = tuple_type (map seen es); op = many_is.Tuple }) es (makes.tuple span es) (all_are ts)
    typed_holds (node (form_is.Expr expr_is.Vector) span ts) =
        let es = led (typed_all g ts) in
        many_is_so (record { span = span; ty = row_type maker_is.Vector es; op = many_is.Vector }) es (makes.vector span es) (led_are (typed_all g ts) (all_are ts))
    typed_holds (node (form_is.Expr expr_is.Set) span ts) =
        let es = led (typed_all g ts) in
        many_is_so (record { span = span; ty = row_type maker_is.Set es; op = many_is.Set }) es (makes.set span es) (led_are (typed_all g ts) (all_are ts))
    typed_holds (node (form_is.Expr expr_is.Map) span ts) =
        let ps = pairs_typed g ts in
        let es = in_turn (leading_half false ps) (leading_half true ps) ps in
        many_is_so (record { span = span; ty = map_type es; op = many_is.Map }) es (makes.entries span (leading_half false ps) (leading_half true ps) ps) (turn_are (leading_half false ps) (leading_half true ps) ps (pairs_are ts))
    typed_holds (node (form_is.Expr expr_is.EmptyVector) span (more t none)) = makes.empty span (empty_type maker_is.Vector (g.type_in place_is.Value t ∷ [])) (g.written place_is.Value t)
    typed_holds (node (form_is.Expr expr_is.EmptySet) span (more t none)) = makes.empty span (empty_type maker_is.Set (g.type_in place_is.Key t ∷ [])) (g.written place_is.Key t)
    typed_holds (node (form_is.Expr expr_is.EmptyMap) span (more s (more t none))) =
        makes.empty span (empty_type maker_is.Map (g.type_in place_is.Key s ∷ g.type_in place_is.Value t ∷ [])) (both_written (g.written place_is.Key s) (g.written place_is.Value t))
    typed_holds (node (form_is.Expr (expr_is.TypedNumber w)) span (more n none)) = makes.typed_number span w (number_in n)
    typed_holds (node (form_is.Expr expr_is.Cast) span (more t (more e none))) =
        one_is_so (record { span = span; ty = cast_type (g.type_in place_is.Whole t); op = one_is.Cast (g.written place_is.Whole t) }) (typed g e) (makes.cast span (g.type_in place_is.Whole t) (g.written place_is.Whole t) (typed g e)) (typed_holds e)
    typed_holds (node (form_is.Expr expr_is.New) span (more path (more (row ts) none))) =
        let callee = g.named (read.span_of path) path in
        new_is span (read.span_of path) (started callee) callee (typed_all g ts) (makes.start span (read.span_of path) callee (typed_all g ts)) (makes.named (read.span_of path) path) (all_are ts)
    typed_holds (node (form_is.Expr expr_is.Size) span (more e none)) = one_is_so (record { span = span; ty = size_type; op = one_is.Size }) (typed g e) (makes.size span (typed g e)) (typed_holds e)
    typed_holds (node (form_is.Expr expr_is.Choice) span (more c (more a (more b none)))) = choice_is span (typed g c) (typed g a) (typed g b) (typed_holds c) (typed_holds a) (typed_holds b)
    typed_holds (node (form_is.Expr expr_is.Member) span (more e (more name none))) =
        let x = name_of name in
        found_is span (read.span_of name) (g.member (seen (typed g e)) x) (typed g e) (makes.member span name (typed g e)) (typed_holds e)
    typed_holds (node (form_is.Expr expr_is.SetMember) span (more e (more name none))) =
        set_found_is span (read.span_of name) (g.member (seen (typed g e)) (name_of name)) (typed g e) (makes.set_member span name (typed g e)) (typed_holds e)
    typed_holds (node (form_is.Expr expr_is.Index) span (more e (more i none))) = index_is span (seen (typed g e)) (typed g e) (typed g i) (makes.index span (typed g e) (typed g i)) (typed_holds e) (typed_holds i)
    typed_holds (node (form_is.Expr expr_is.Call) span (more (node (form_is.Expr expr_is.Member) member (more e (more name none))) (more (row ts) none))) =
        let at = read.span_of name in
        method_is span member at (name_of name) (g.method (seen (typed g e)) (name_of name) at (map seen (typed_all g ts))) (typed g e) (typed_all g ts) (λ x found. found) (typed_holds e) (all_are ts)
    typed_holds (node (form_is.Expr expr_is.Call) span (more callee (more (row ts) none))) = call_is span (typed g callee) (typed_all g ts) (makes.call span (typed g callee) (typed_all g ts)) (typed_holds callee) (all_are ts)
    typed_holds (node (form_is.Expr (expr_is.Unary op)) span (more e none)) = unary_is_so span op (typed g e) (typed_holds e)
    typed_holds (node (form_is.Expr (expr_is.Binary op)) span (more a (more b none))) = binary_is span op (typed g a) (typed g b) (typed_holds a) (typed_holds b)
    typed_holds _ = makes.no_expression (record { from = 0; to = 0 })

    all_are : (ts : Trees) → AllAre (typed_all g ts)
    all_are none = refl
    all_are (more t ts) = more_are (typed g t) (typed_all g ts) (typed_holds t) (all_are ts)

    pairs_are : (ts : Trees) → PairsAre (pairs_typed g ts)
    pairs_are none = tt
    pairs_are (more (node form_is.Pair span (more s (more t none))) ts) = ((typed_holds s, typed_holds t), pairs_are ts)
    pairs_are (more _ ts) = pairs_are ts
