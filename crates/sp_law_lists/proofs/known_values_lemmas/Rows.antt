-- Rows, members and calls: what they are as constants fits their types.
use Rattle.std.specs.Prelude.{ℕ, Bool, true, false, not, ◌&&◌, ◌||◌, if◌then◌else◌, List, [], ◌∷◌, ◌++◌, length, map, Option, Some, None}
use Rattle.std.proofs.Common.{◌≡◌, refl, sym, ap, ◌∙◌}
use Rattle.std.proofs.lemmas.Bool.{and_parts, and_from}
use Rattle.std.specs.declared.cmp.Ordering.{Ordering}
use Rattle.std.specs.declared.cmp.Ordering.TheVariants.{Less, Equal, Greater}
use Rattle.std.specs.Ordering.{match_ordering}
use Rattle.sp_base.specs.declared.places.Span.{Span}
use Rattle.sp_value.specs.Val.{Val, Vals, Entries, no_vals, val, no_entries, entry, vals_of, list_of, entries_of, pairs_of}
use Rattle.sp_value.specs.Val as value
use Rattle.sp_value.specs.Order.{val_cmp}
use Rattle.sp_value.specs.Ascending.{own_key, entry_key, with_key}
use Rattle.sp_types.specs.declared.words.Maker.TheVariants as maker_is
use Rattle.sp_types.specs.Types.{Ty, made, tys, same}
use Rattle.sp_types.specs.Types as types
use Rattle.sp_types.proofs.Same.{same_is}
use Rattle.sp_typed.specs.declared.words.OneOp.{OneOp}
use Rattle.sp_typed.specs.declared.words.OneOp.TheVariants as one_is
use Rattle.sp_typed.specs.declared.words.ManyOp.{ManyOp}
use Rattle.sp_typed.specs.declared.words.ManyOp.TheVariants as many_is
use Rattle.sp_typed.specs.declared.words.NewOf.{NewOf}
use Rattle.sp_typed.specs.declared.words.LeafOp.{LeafOp}
use Rattle.sp_typed.specs.declared.words.LeafOp.TheVariants as leaf_is
use Rattle.sp_types.specs.declared.words.Word.TheVariants as word_is
use Rattle.sp_typed.specs.Exprs.{Expr, Exprs, leaf, one, two, three, many, exprs, type_of}
use Rattle.sp_typed.specs.Nodes.{holds, all_hold}
use Rattle.sp_type_context.specs.Contexts.{Around}
use Rattle.sp_type_context.specs.declared.context.Member.{Member}
use Rattle.sp_type_context.specs.declared.context.Callable.{Callable}
use Rattle.sp_type_operands.specs.Operands.{unknown, boolean}
use Rattle.sp_type_operands.specs.Literals.{taken, seen, is_past}
use Rattle.sp_type_operands.specs.Wholes.{may_hold, are_parts, tuple_type, all_of as whole_of, all_in_turn, first_seen, second_seen, row_type, map_type, are_entries}
use Rattle.sp_type_operands.specs.Wholes as wholes
use Rattle.sp_type_context.specs.Typing.{one_at, many_at, tuple_at, row_at, map_of, map_at, in_turn, leading_half, led, leading, member_at, set_op, set_member_at, call_by, callee_op, call_at, each_to, method_of, new_by, new_at, started}
use Rattle.sp_rule_bodies.specs.Known.{Known}
use Rattle.sp_rule_bodies.specs.ExprTests.{all_value_tests, elements_tests, entries_tests, row_tests, map_tests}
use Rattle.sp_type_constants.specs.Known.{Known as Values}
use Rattle.sp_type_constants.specs.declared.outcome.Outcome.{Outcome}
use Rattle.sp_type_constants.specs.declared.outcome.Outcome.TheVariants as outcome_is
use Rattle.sp_type_constants.specs.Outcomes.{of_all}
use Rattle.sp_type_constants.specs.Operations.{with_members, row_of, with_entries}
use Rattle.sp_type_constants.specs.Values.{all_values, many_value, value_of as constant_of}
use Rattle.sp_law_lists.specs.known_types.Full.{is_full, is_right}
use Rattle.sp_law_lists.specs.known_types.Clear.{is_clear}
use Rattle.sp_law_lists.specs.known_types.Given.{is_member_op, is_method_op}
use Rattle.sp_law_lists.proofs.known_types_lemmas.Full.{never}
use Rattle.sp_law_lists.proofs.known_types_lemmas.Tests.{Fine, Clear, first_fine, first_stands, seen_is}
use Rattle.sp_law_lists.specs.known_values.Values.{is_of, are_of, all_of, all_in, is_regex, fits}
use Rattle.sp_law_lists.proofs.known_values_lemmas.Outcomes.{FitAll, all_told, tuple_told as members_told}
use Rattle.sp_law_lists.proofs.known_values_lemmas.Nodes.{Told, Part, part, taken_told, Both}

-- members, and what is called, are no constants
member_value : (op : OneOp) (v : Values) (span : Span) (t : Ty) (e : Expr) → is_member_op op ≡ true → fits t (constant_of v (one_at span t op e)) ≡ true
member_value (one_is.Field n) v span t e i = refl
member_value (one_is.Variable n) v span t e i = refl
member_value (one_is.SinkOf n) v span t e i = refl
member_value (one_is.Bit n) v span t e i = refl
member_value _ v span t e i = never i

set_value : (op : OneOp) (v : Values) (span name : Span) (e : Expr) → fits boolean (constant_of v (one_at span boolean (set_op op name) e)) ≡ true
set_value (one_is.Field n) v span name e = refl
set_value _ v span name e = refl

method_value : (op : ManyOp) (v : Values) (t : Ty) (os : List Outcome) → is_method_op op ≡ true → fits t (many_value op os) ≡ true
method_value (many_is.Method n slot) v t os i = refl
method_value (many_is.OfUnit n name) v t os i = refl
method_value (many_is.OfSink n) v t os i = refl
method_value _ v t os i = never i

-- a map with one more entry
put_pairs : (s t : Ty) (x y : Val) (ps : List (Val × Val)) → is_of s x ≡ true → is_of t y ≡ true → all_in s t (entries_of ps) ≡ true → all_in s t (entries_of (with_key entry_key (x, y) ps)) ≡ true
put_pairs s t x y [] h i e = and_from (is_of s x) (is_of t y && true) h (and_from (is_of t y) true i refl)
put_pairs s t x y (p ∷ ps) h i e =
    let o = and_parts (is_of s p.0) (is_of t p.1 && all_in s t (entries_of ps)) e in
    let q = and_parts (is_of t p.1) (all_in s t (entries_of ps)) o.1 in
    by_order s t x y p ps (val_cmp p.0 x) h i o.0 q.0 q.1 (put_pairs s t x y ps h i q.1)
  where
    one : (s t : Ty) (a b : Val) (es : Entries) → is_of s a ≡ true → is_of t b ≡ true → all_in s t es ≡ true → (is_of s a && (is_of t b && all_in s t es)) ≡ true
    one s t a b es h i all = and_from (is_of s a) (is_of t b && all_in s t es) h (and_from (is_of t b) (all_in s t es) i all)

    by_order : (s t : Ty) (x y : Val) (p : Val × Val) (ps : List (Val × Val)) (o : Ordering) → is_of s x ≡ true → is_of t y ≡ true → is_of s p.0 ≡ true → is_of t p.1 ≡ true → all_in s t (entries_of ps) ≡ true → all_in s t (entries_of (with_key entry_key (x, y) ps)) ≡ true
        → all_in s t (entries_of (match_ordering o (p ∷ with_key entry_key (x, y) ps) ((x, y) ∷ ps) ((x, y) ∷ p ∷ ps))) ≡ true
    by_order s t x y p ps Less h i key is all more = one s t p.0 p.1 (entries_of (with_key entry_key (x, y) ps)) key is more
    by_order s t x y p ps Equal h i key is all more = one s t x y (entries_of ps) h i all
    by_order s t x y p ps Greater h i key is all more = one s t x y (entry p.0 p.1 (entries_of ps)) h i (one s t p.0 p.1 (entries_of ps) key is all)

same_entries : (s t : Ty) (es : Entries) → all_in s t es ≡ true → all_in s t (entries_of (pairs_of es)) ≡ true
same_entries s t no_entries e = refl
same_entries s t (entry k v es) e =
    let o = and_parts (is_of s k) (is_of t v && all_in s t es) e in
    let p = and_parts (is_of t v) (all_in s t es) o.1 in
    and_from (is_of s k) (is_of t v && all_in s t (entries_of (pairs_of es))) o.0 (and_from (is_of t v) (all_in s t (entries_of (pairs_of es))) p.0 (same_entries s t es p.1))

-- types in turn
turns : Ty → Ty → List Expr → List Ty
turns k t [] = []
turns k t (e ∷ []) = k ∷ []
turns k t (e ∷ d ∷ es) = k ∷ t ∷ turns k t es

entries_told : (k t : Ty) (es : List Expr) (vs : List Val) (xs : Entries) → are_of (tys (turns k t es)) (vals_of vs) ≡ true → all_in k t xs ≡ true → is_of (made maker_is.Map (types.more k (types.more t types.none))) (with_entries (value.map xs) vs) ≡ true
unfolding turns
entries_told k t [] [] xs e i = i
entries_told k t [] (v ∷ vs) xs e i = never e
entries_told k t (d ∷ []) [] xs e i = never e
entries_told k t (d ∷ []) (v ∷ []) xs e i = i
entries_told k t (d ∷ []) (v ∷ w ∷ vs) xs e i = never (and_parts (is_of k v) false e).1
entries_told k t (d ∷ c ∷ es) [] xs e i = never e
entries_told k t (d ∷ c ∷ es) (v ∷ []) xs e i = never (and_parts (is_of k v) false e).1
entries_told k t (d ∷ c ∷ es) (v ∷ w ∷ vs) xs e i =
    let p = and_parts (is_of k v) (is_of t w && are_of (tys (turns k t es)) (vals_of vs)) e in
    let q = and_parts (is_of t w) (are_of (tys (turns k t es)) (vals_of vs)) p.1 in
    entries_told k t es vs (entries_of (with_key entry_key (v, w) (pairs_of xs))) q.1 (put_pairs k t v w (pairs_of xs) p.0 q.0 (same_entries k t xs i))

-- a row of one type
EachIs : Ty → List Ty → Type 0
EachIs t [] = Unit {0}
EachIs t (u ∷ us) = (u ≡ t) × EachIs t us

each_is : (t : Ty) (es : List Expr) → EachIs t (map (λ (e : Expr). t) es)
unfolding EachIs
each_is t [] = tt
each_is t (e ∷ es) = (refl, each_is t es)

Items : Ty → List Ty → List Val → Type 0
Items t ts vs = EachIs t ts → all_of t (vals_of vs) ≡ true

add_item : (t u : Ty) (ts : List Ty) (v : Val) (vs : List Val) → is_of u v ≡ true → Items t ts vs → Items t (u ∷ ts) (v ∷ vs)
unfolding EachIs Items
add_item t u ts v vs e h is = and_from (is_of t v) (all_of t (vals_of vs)) (ap (λ x. is_of x v) (sym is.0) ∙ e) (h is.1)

items_told : (t : Ty) (es : List Expr) (os : List Outcome) → FitAll (map (λ (e : Expr). t) es) os → fits (made maker_is.Vector (types.more t types.none)) (of_all (row_of many_is.Vector) os) ≡ true
unfolding Items
items_told t es os f =
    all_told (Items t) (λ is. refl) (add_item t) (made maker_is.Vector (types.more t types.none)) (row_of many_is.Vector) (map (λ (e : Expr). t) es) os f (λ ws h. h (each_is t es))

-- a set with one more item, and with more
put_item : (t : Ty) (x : Val) (vs : List Val) → is_of t x ≡ true → all_of t (vals_of vs) ≡ true → all_of t (vals_of (with_key own_key x vs)) ≡ true
put_item t x [] i e = and_from (is_of t x) true i refl
put_item t x (v ∷ vs) i e =
    let q = and_parts (is_of t v) (all_of t (vals_of vs)) e in
    by_order (val_cmp v x) q.0 q.1 (put_item t x vs i q.1)
  where
    by_order : (o : Ordering) → is_of t v ≡ true → all_of t (vals_of vs) ≡ true → all_of t (vals_of (with_key own_key x vs)) ≡ true → all_of t (vals_of (match_ordering o (v ∷ with_key own_key x vs) (x ∷ vs) (x ∷ v ∷ vs))) ≡ true
    by_order Less is all more = and_from (is_of t v) (all_of t (vals_of (with_key own_key x vs))) is more
    by_order Equal is all more = and_from (is_of t x) (all_of t (vals_of vs)) i all
    by_order Greater is all more = and_from (is_of t x) (is_of t v && all_of t (vals_of vs)) i (and_from (is_of t v) (all_of t (vals_of vs)) is all)

same_items : (t : Ty) (vs : Vals) → all_of t vs ≡ true → all_of t (vals_of (list_of vs)) ≡ true
same_items t no_vals e = refl
same_items t (val v vs) e =
    let p = and_parts (is_of t v) (all_of t vs) e in
    and_from (is_of t v) (all_of t (vals_of (list_of vs))) p.0 (same_items t vs p.1)

grown : (t : Ty) (vs : List Val) (xs : Vals) → all_of t (vals_of vs) ≡ true → all_of t xs ≡ true → is_of (made maker_is.Set (types.more t types.none)) (with_members (value.set xs) vs) ≡ true
grown t [] xs e i = i
grown t (v ∷ vs) xs e i =
    let p = and_parts (is_of t v) (all_of t (vals_of vs)) e in
    grown t vs (vals_of (with_key own_key v (list_of xs))) p.1 (put_item t v (list_of xs) p.0 (same_items t xs i))

keys_told : (t : Ty) (es : List Expr) (os : List Outcome) → FitAll (map (λ (e : Expr). t) es) os → fits (made maker_is.Set (types.more t types.none)) (of_all (row_of many_is.Set) os) ≡ true
unfolding Items
keys_told t es os f =
    all_told (Items t) (λ is. refl) (add_item t) (made maker_is.Set (types.more t types.none)) (row_of many_is.Set) (map (λ (e : Expr). t) es) os f (λ ws h. grown t ws no_vals (h (each_is t es)) refl)

pairs_told : (k t : Ty) (es : List Expr) (os : List Outcome) → FitAll (turns k t es) os → fits (made maker_is.Map (types.more k (types.more t types.none))) (of_all (row_of many_is.Map) os) ≡ true
pairs_told k t es os f =
    all_told (λ ts vs. are_of (tys ts) (vals_of vs) ≡ true) refl (λ u ts v vs e h. and_from (is_of u v) (are_of (tys ts) (vals_of vs)) e h)
    (made maker_is.Map (types.more k (types.more t types.none))) (row_of many_is.Map) (turns k t es) os f (λ ws h. entries_told k t es ws no_entries h refl)

if_full : (b : Bool) (t : Ty) → is_full (if b then t else unknown) ≡ true → b ≡ true
if_full true t f = refl
if_full false t f = never f

module _ (only : OneOp → Bool) (k : Known) (m : ℕ) (v : Values) where
  -- some expressions of which each is told
  abbrev pub ToldAll : List Expr → Type 0
  ToldAll [] = Unit {0}
  ToldAll (e ∷ es) = Told only k m v e × ToldAll es

  abbrev pub ToldPairs : List (Expr × Expr) → Type 0
  ToldPairs [] = Unit {0}
  ToldPairs (p ∷ ps) = Both only k m v p × ToldPairs ps

  abbrev ClearAll : List Expr → Type 0
  ClearAll es = all_hold (is_clear only k m) (exprs es) ≡ true

  abbrev RightAll : List Expr → Type 0
  RightAll es = all_hold is_right (exprs es) ≡ true

  clear_of : (e : Expr) (es : List Expr) → ClearAll (e ∷ es) → Clear only k m e × ClearAll es
  clear_of e es c = and_parts (holds (is_clear only k m) e) (all_hold (is_clear only k m) (exprs es)) c

  right_of : (e : Expr) (es : List Expr) → RightAll (e ∷ es) → (holds is_right e ≡ true) × RightAll es
  right_of e es r = and_parts (holds is_right e) (all_hold is_right (exprs es)) r

  clear_parts : (span : Span) (t : Ty) (op : ManyOp) (es : List Expr) → Clear only k m (many_at span t op es) → ClearAll es
  clear_parts span t op es c = (and_parts (is_clear only k m (many_at span t op es)) (all_hold (is_clear only k m) (exprs es)) c).1

  right_parts : (span : Span) (t : Ty) (op : ManyOp) (es : List Expr) → holds is_right (many_at span t op es) ≡ true → (is_right (many_at span t op es) ≡ true) × RightAll es
  right_parts span t op es r = and_parts (is_right (many_at span t op es)) (all_hold is_right (exprs es)) r

  -- tuples
  members_fit : (es : List Expr) → ToldAll es → ClearAll es → RightAll es → Fine (all_value_tests m (exprs es)) → FitAll (map seen es) (all_values v (exprs es))
  members_fit [] h c r f = tt
  members_fit (e ∷ es) h c r f =
      let clear = clear_of e es c in
      let right = right_of e es r in
      let p = part only k m v e h.0 clear.0 right.0 f.0 f.1.0 in
      let is = seen_is e p.value.within in
      (ap (λ t. fits t (constant_of v e)) is ∙ p.fit, ap is_regex is ∙ p.plain, members_fit es h.1 clear.1 right.1 f.1.1)

  pub tuple_told : (span : Span) (es : List Expr) → ToldAll es → Told only k m v (tuple_at span es)
  tuple_told span es h c r p =
      let t = made maker_is.Tuple (tys (map seen es)) in
      let u = tuple_type (map seen es) in
      let os = all_values v (exprs es) in
      let right = right_parts span u many_is.Tuple es r in
      let whole = if_full (are_parts (map seen es)) t (and_parts true (is_full u) right.0).1 in
      ap (λ b. fits (if b then t else unknown) (many_value many_is.Tuple os)) whole
      ∙ members_told (map seen es) os (members_fit es h (clear_parts span u many_is.Tuple es c) right.1 (first_fine only k m (tuple_at span es) c))

  -- vectors and sets
  elements_fit : (keyed : Bool) (first : Expr) (t : Ty) (es : List Expr) → ToldAll es → ClearAll es → RightAll es → Fine (elements_tests m keyed first (exprs es)) → whole_of t es ≡ true → FitAll (map (λ (e : Expr). t) es) (all_values v (exprs es))
  elements_fit keyed first t [] h c r f w = tt
  elements_fit keyed first t (e ∷ es) h c r f w =
      let clear = clear_of e es c in
      let right = right_of e es r in
      let p = part only k m v e h.0 clear.0 right.0 f.0 f.1.0 in
      let all = and_parts (wholes.is_of t e) (whole_of t es) w in
      let is = same_is t (type_of e) (and_parts (same t (type_of e)) (not (is_past e)) all.0).0 in
      (ap (λ u. fits u (constant_of v e)) is ∙ p.fit, ap is_regex is ∙ p.plain, elements_fit keyed first t es h.1 clear.1 right.1 f.1.1.1.1 all.1)

  row_fits : (keyed : Bool) (t : Ty) (span : Span) (es : List Expr) → ToldAll es → ClearAll es → RightAll es → Fine (row_tests m keyed span (exprs es)) → whole_of t es ≡ true → FitAll (map (λ (e : Expr). t) es) (all_values v (exprs es))
  row_fits keyed t span [] h c r f w = never (sym f.0)
  row_fits keyed t span (e ∷ es) h c r f w = elements_fit keyed e t (e ∷ es) h c r f w

  pub vector_told : (span : Span) (es : List Expr) → ToldAll es → Told only k m v (row_at span maker_is.Vector many_is.Vector es)
  vector_told span es h c r p =
      let t = row_type maker_is.Vector es in
      let first = first_seen es in
      let right = right_parts span t many_is.Vector es r in
      let may = may_hold false first && whole_of first es in
      let whole = if_full may (made maker_is.Vector (types.more first types.none)) (and_parts true (is_full t) right.0).1 in
      let os = all_values v (exprs es) in
      let all = row_fits false first span es h (clear_parts span t many_is.Vector es c) right.1 (first_fine only k m (row_at span maker_is.Vector many_is.Vector es) c) (and_parts (may_hold false first) (whole_of first es) whole).1 in
      ap (λ b. fits (if b then made maker_is.Vector (types.more first types.none) else unknown) (many_value many_is.Vector os)) whole ∙ items_told first es os all

  pub set_told : (span : Span) (es : List Expr) → ToldAll es → Told only k m v (row_at span maker_is.Set many_is.Set es)
  set_told span es h c r p =
      let t = row_type maker_is.Set es in
      let first = first_seen es in
      let right = right_parts span t many_is.Set es r in
      let may = may_hold true first && whole_of first es in
      let whole = if_full may (made maker_is.Set (types.more first types.none)) (and_parts true (is_full t) right.0).1 in
      let os = all_values v (exprs es) in
      let all = row_fits true first span es h (clear_parts span t many_is.Set es c) right.1 (first_fine only k m (row_at span maker_is.Set many_is.Set es) c) (and_parts (may_hold true first) (whole_of first es) whole).1 in
      ap (λ b. fits (if b then made maker_is.Set (types.more first types.none) else unknown) (many_value many_is.Set os)) whole
      ∙ keys_told first es os all

  -- maps
  turn_fits : (x y : Ty) (e : Expr) (t : Ty) → Part only k m v e → wholes.is_of t e ≡ true → (fits t (constant_of v e) ≡ true) × (is_regex t ≡ false)
  turn_fits x y e t p w =
      let is = same_is t (type_of e) (and_parts (same t (type_of e)) (not (is_past e)) w).0 in
      (ap (λ u. fits u (constant_of v e)) is ∙ p.fit, ap is_regex is ∙ p.plain)

  entries_fit : (key value : Expr) (s t : Ty) (es : List Expr) → ToldAll es → ClearAll es → RightAll es → Fine (entries_tests m true key value (exprs es)) → all_in_turn true s t es ≡ true → FitAll (turns s t es) (all_values v (exprs es))
  unfolding turns
  entries_fit key value s t [] h c r f w = tt
  entries_fit key value s t (e ∷ []) h c r f w =
      let clear = clear_of e [] c in
      let right = right_of e [] r in
      let p = turn_fits s t e s (part only k m v e h.0 clear.0 right.0 f.0 f.1.0) (and_parts (wholes.is_of s e) true w).0 in
      (p.0, p.1, tt)
  entries_fit key value s t (e ∷ d ∷ es) h c r f w =
      let clear = clear_of e (d ∷ es) c in
      let right = right_of e (d ∷ es) r in
      let clear' = clear_of d es clear.1 in
      let right' = right_of d es right.1 in
      let all = and_parts (wholes.is_of s e) (wholes.is_of t d && all_in_turn true s t es) w in
      let all' = and_parts (wholes.is_of t d) (all_in_turn true s t es) all.1 in
      let g = f.1.1.1.1 in
      let p = turn_fits s t e s (part only k m v e h.0 clear.0 right.0 f.0 f.1.0) all.0 in
      let q = turn_fits s t d t (part only k m v d h.1.0 clear'.0 right'.0 g.0 g.1.0) all'.0 in
      (p.0, p.1, (q.0, q.1, entries_fit key value s t es h.1.1 clear'.1 right'.1 g.1.1.1.1 all'.1))

  map_fits : (s t : Ty) (span : Span) (es : List Expr) → ToldAll es → ClearAll es → RightAll es → Fine (map_tests m span (exprs es)) → all_in_turn true s t es ≡ true → FitAll (turns s t es) (all_values v (exprs es))
  map_fits s t span [] h c r f w = never (sym f.0)
  map_fits s t span (e ∷ []) h c r f w = never (sym f.0)
  map_fits s t span (e ∷ d ∷ es) h c r f w = entries_fit e d s t (e ∷ d ∷ es) h c r f w

  map_told_of : (span : Span) (es : List Expr) → ToldAll es → Told only k m v (map_of span es)
  map_told_of span es h c r p =
      let u = map_type es in
      let s = first_seen es in
      let t = second_seen es in
      let right = right_parts span u many_is.Map es r in
      let whole = if_full (are_entries s t es) (made maker_is.Map (types.more s (types.more t types.none))) (and_parts true (is_full u) right.0).1 in
      let turn = (and_parts (may_hold false t) (all_in_turn true s t es) (and_parts (may_hold true s) (may_hold false t && all_in_turn true s t es) whole).1).1 in
      let os = all_values v (exprs es) in
      let all = map_fits s t span es h (clear_parts span u many_is.Map es c) right.1 (first_fine only k m (map_of span es) c) turn in
      ap (λ b. fits (if b then made maker_is.Map (types.more s (types.more t types.none)) else unknown) (many_value many_is.Map os)) whole ∙ pairs_told s t es os all

  -- literals in rows take the type of the first that is none

  all_taken : (t : Ty) (es : List Expr) → ToldAll es → ToldAll (map (taken t) es)
  all_taken t [] h = tt
  all_taken t (e ∷ es) h = (taken_told only k m v t e h.0, all_taken t es h.1)

  pub led_told : (es : List Expr) → ToldAll es → ToldAll (led es)
  led_told es h = all_taken (leading es) es h

  turn_told : (s t : Ty) (ps : List (Expr × Expr)) → ToldPairs ps → ToldAll (in_turn s t ps)
  turn_told s t [] h = tt
  turn_told s t (p ∷ ps) h = (taken_told only k m v s p.0 h.0.0, (taken_told only k m v t p.1 h.0.1, turn_told s t ps h.1))

  pub map_told : (span : Span) (ps : List (Expr × Expr)) → ToldPairs ps → Told only k m v (map_at span ps)
  map_told span ps h = map_told_of span (in_turn (leading_half false ps) (leading_half true ps) ps) (turn_told (leading_half false ps) (leading_half true ps) ps h)

  -- members
  pub member_told : (span name : Span) (o : Option Member) (e : Expr) → ((x : Member) → o ≡ Some x → only x.op ≡ true → is_member_op x.op ≡ true) → Told only k m v (member_at span name o e)
  member_told span name None e is = λ c r p. refl
  member_told span name (Some x) e is = λ c r p. member_value x.op v span x.ty e (is x refl (first_stands only k m (one_at span x.ty x.op e) c))

  pub set_member_told : (span name : Span) (o : Option Member) (e : Expr) → Told only k m v (set_member_at span name o e)
  set_member_told span name None e = λ c r p. refl
  set_member_told span name (Some x) e = λ c r p. set_value x.op v span name e

  -- calls
  call_by_told : (g : Around) (span : Span) (callee : Expr) (es : List Expr) (op : LeafOp) → Told only k m v (call_by g span (callee_op op) callee es)
  call_by_told g span callee es (leaf_is.Function n) = λ c r p. refl
  call_by_told g span callee es (leaf_is.TypeName (word_is.Enum n)) = λ c r p. refl
  call_by_told g span callee es (leaf_is.TypeName _) = λ c r p. refl
  call_by_told g span callee es _ = λ c r p. refl

  pub call_told : (g : Around) (span : Span) (callee : Expr) (es : List Expr) → Told only k m v (call_at g span callee es)
  call_told g span (leaf h) es = call_by_told g span (leaf h) es h.op
  call_told g span (one h a) es = λ c r p. refl
  call_told g span (two h a b) es = λ c r p. refl
  call_told g span (three h a b d) es = λ c r p. refl
  call_told g span (many h ds) es = λ c r p. refl

  new_by_told : (g : Around) (span path : Span) (o : Option NewOf) (callee : Expr) (es : List Expr) → Told only k m v (new_by g span path o callee es)
  new_by_told g span path (Some u) callee es = λ c r p. refl
  new_by_told g span path None callee es = λ c r p. refl

  pub new_told : (g : Around) (span path : Span) (callee : Expr) (es : List Expr) → Told only k m v (new_at g span path callee es)
  new_told g span path callee es = new_by_told g span path (started callee) callee es

  pub method_told : (g : Around) (span member name : Span) (o : Option Callable) (object : Expr) (es : List Expr) → ((x : Callable) → o ≡ Some x → is_method_op x.op ≡ true) → Told only k m v (method_of g span member name o object es)
  method_told g span member name None object es is = λ c r p. refl
  method_told g span member name (Some x) object es is = λ c r p. method_value x.op v x.ty (all_values v (exprs (object ∷ (each_to (g.target x.op (seen object)) 0 es ++ g.left_out x.op span (length es))))) (is x refl)
