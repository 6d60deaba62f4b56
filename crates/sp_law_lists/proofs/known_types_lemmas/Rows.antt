-- Nodes with any number of parts: tuples, vectors, sets, maps, calls, and what can't be called.
use Rattle.std.specs.Prelude.{ℕ, Bool, true, false, not, ◌&&◌, ◌||◌, if◌then◌else◌, List, [], ◌∷◌, ◌++◌, map, length, Option, Some, None}
use Rattle.std.proofs.Common.{◌≡◌, inl, inr, refl, sym, ap, ◌∙◌}
use Rattle.std.proofs.lemmas.Bool.{and_parts, and_from}
use Rattle.sp_base.specs.declared.places.Span.{Span}
use Rattle.sp_types.specs.declared.words.Word.{Word}
use Rattle.sp_types.specs.declared.words.Word.TheVariants as word_is
use Rattle.sp_types.specs.declared.words.Maker.{Maker}
use Rattle.sp_types.specs.declared.words.Maker.TheVariants as maker_is
use Rattle.sp_types.specs.Types.{Ty, word, made, tys, same, is_known, is_key}
use Rattle.sp_types.specs.Types as types
use Rattle.sp_typed.specs.declared.words.OneOp.{OneOp}
use Rattle.sp_typed.specs.declared.words.OneOp.TheVariants as one_is
use Rattle.sp_typed.specs.declared.words.LeafOp.{LeafOp}
use Rattle.sp_typed.specs.declared.words.LeafOp.TheVariants as leaf_is
use Rattle.sp_typed.specs.declared.words.ManyOp.{ManyOp}
use Rattle.sp_typed.specs.declared.words.ManyOp.TheVariants as many_is
use Rattle.sp_typed.specs.declared.words.NewOf.{NewOf}
use Rattle.sp_typed.specs.Exprs.{Expr, leaf, one, two, three, many, exprs, type_of}
use Rattle.sp_typed.specs.Nodes.{holds, all_hold, word_many}
use Rattle.sp_type_context.specs.declared.context.Callable.{Callable}
use Rattle.sp_type_context.specs.Contexts.{Around}
use Rattle.sp_type_operands.specs.Operands.{unknown, is_valueless}
use Rattle.sp_type_operands.specs.Literals.{seen, is_past}
use Rattle.sp_type_operands.specs.Wholes.{may_hold, are_parts, tuple_type, is_of, all_of, has_keys_alone, row_type, all_in_turn, are_entries, map_type}
use Rattle.sp_type_context.specs.Typing.{one_at, many_at, each_to, row_at, in_turn, leading_half, map_of, map_at, tuple_at, no_call, callee_op, call_by, call_at, method_of, started, new_by, new_at}
use Rattle.sp_rule_bodies.specs.Known.{Known}
use Rattle.sp_rule_bodies.specs.Values.{is_no_value, knows, is_new}
use Rattle.sp_rule_bodies.specs.ExprTests.{unlike, all_value_tests, elements_tests, row_tests, entries_tests, map_tests, argument_tests, connects}
use Rattle.sp_law_lists.specs.known_types.Full.{has_value, have_values, is_full, are_full, is_right, is_bare}
use Rattle.sp_law_lists.specs.known_types.Clear.{is_clear}
use Rattle.sp_law_lists.specs.known_types.Given.{is_method_op}
use Rattle.sp_law_lists.proofs.known_types_lemmas.Full.{never, full_is_known, vector_full, set_full, keyed_full}
use Rattle.sp_law_lists.proofs.known_types_lemmas.Tests.{Fine, Good, Clear, Holds, Value, first_fine, object_of, value_of, bare_is_none, bare_is_unknown, valued_by, full_of, seen_is, seen_full, knows_it, whole_of, right_when, both_false, not_so, is_whole, inside, at_first}
use Rattle.sp_law_lists.proofs.known_types_lemmas.Kept.{HoldsAll, HoldsPairs, each_holds, turn_holds, joined_holds}
use Rattle.sp_law_lists.proofs.known_types_lemmas.Nodes.{no_member, chosen_full}
use Rattle.sp_law_lists.proofs.known_types_lemmas.Functions.{function_op, function_of}

module _ (only : OneOp → Bool) (k : Known) (m : ℕ) where
  -- no rule is broken in some
  abbrev ClearAll : List Expr → Type 0
  ClearAll es = all_hold (is_clear only k m) (exprs es) ≡ true

  first_of : (e : Expr) (es : List Expr) → ClearAll (e ∷ es) → Clear only k m e
  first_of e es c = (and_parts (holds (is_clear only k m) e) (all_hold (is_clear only k m) (exprs es)) c).0

  rest_of : (e : Expr) (es : List Expr) → ClearAll (e ∷ es) → ClearAll es
  rest_of e es c = (and_parts (holds (is_clear only k m) e) (all_hold (is_clear only k m) (exprs es)) c).1

  parts_of : (span : Span) (t : Ty) (op : ManyOp) (es : List Expr) → Clear only k m (many_at span t op es) → ClearAll es
  parts_of span t op es c = (and_parts (is_clear only k m (many_at span t op es)) (all_hold (is_clear only k m) (exprs es)) c).1

  -- values, one by one
  abbrev Values : List Expr → Type 0
  Values [] = Unit {0}
  Values (e ∷ es) = Value e × Values es

  whole_all : (es : List Expr) → Values es → all_hold is_right (exprs es) ≡ true
  whole_all [] v = refl
  whole_all (e ∷ es) v = and_from (holds is_right e) (all_hold is_right (exprs es)) (whole_of e v.0) (whole_all es v.1)

  many_good : (span : Span) (t : Ty) (op : ManyOp) (es : List Expr) → all_hold is_right (exprs es) ≡ true → word_many op ≡ false → is_full t ≡ true → Good (many_at span t op es)
  many_good span t op es r w f = (r, inl (and_from (not (word_many op)) (is_full t) (ap not w) f))

  -- tuples
  all_values : (es : List Expr) → HoldsAll only k m es → ClearAll es → Fine (all_value_tests m (exprs es)) → Values es
  all_values [] h c f = tt
  all_values (e ∷ es) h c f = (value_of only k m e h.0 (first_of e es c) f.0 f.1.0, all_values es h.1 (rest_of e es c) f.1.1)

  seen_all : (es : List Expr) → Values es → are_full (tys (map seen es)) ≡ true
  seen_all [] v = refl
  seen_all (e ∷ es) v = and_from (is_full (seen e)) (are_full (tys (map seen es))) (seen_full e v.0) (seen_all es v.1)

  -- a value is of a type of values
  valued_seen : (e : Expr) → Value e → is_no_value e ≡ false → has_value (seen e) ≡ true
  valued_seen e v n = ap has_value (seen_is e v.within) ∙ ap not (valued_by e n)

  all_valued : (es : List Expr) → Values es → Fine (all_value_tests m (exprs es)) → have_values (tys (map seen es)) ≡ true
  all_valued [] v f = refl
  all_valued (e ∷ es) v f = and_from (has_value (seen e)) (have_values (tys (map seen es))) (valued_seen e v.0 f.0) (all_valued es v.1 f.1.1)

  -- a value is of a type that parts may have
  may_of : (keyed : Bool) (e : Expr) → Value e → is_no_value e ≡ false → (not keyed || is_key (type_of e)) ≡ true → may_hold keyed (type_of e) ≡ true
  may_of keyed e v n s =
      let t = type_of e in
      let suits = not keyed || is_key t in
      and_from (is_known t) (not (is_valueless t) && suits) (full_is_known t (full_of e v)) (and_from (not (is_valueless t)) suits (ap not (valued_by e n)) s)

  parts_may : (es : List Expr) → Values es → Fine (all_value_tests m (exprs es)) → are_parts (map seen es) ≡ true
  parts_may [] v f = refl
  parts_may (e ∷ es) v f =
      and_from (may_hold false (seen e)) (are_parts (map seen es)) (ap (may_hold false) (seen_is e v.0.within) ∙ may_of false e v.0 f.0 refl) (parts_may es v.1 f.1.1)

  pub tuple_holds : (span : Span) (es : List Expr) → HoldsAll only k m es → Holds only k m (tuple_at span es)
  tuple_holds span es h c =
      let t = tuple_type (map seen es) in
      let f = first_fine only k m (tuple_at span es) c in
      let v = all_values es h (parts_of span t many_is.Tuple es c) f in
      many_good span t many_is.Tuple es (whole_all es v) refl
      (chosen_full (are_parts (map seen es)) (made maker_is.Tuple (tys (map seen es))) (parts_may es v f) (and_from (have_values (tys (map seen es))) (are_full (tys (map seen es))) (all_valued es v f) (seen_all es v)))

  -- vectors and sets
  elements_values : (keyed : Bool) (first : Expr) (es : List Expr) → HoldsAll only k m es → ClearAll es → Fine (elements_tests m keyed first (exprs es)) → Values es
  elements_values keyed first [] h c f = tt
  elements_values keyed first (e ∷ es) h c f =
      (value_of only k m e h.0 (first_of e es c) f.0 f.1.0, elements_values keyed first es h.1 (rest_of e es c) f.1.1.1.1)

  -- an element is of the type of the first, and that is one that an element may have
  element_of : (first e : Expr) → Value first → Value e → unlike first e ≡ false → is_of (type_of first) e ≡ true
  element_of first e v w u =
      let alike = same (type_of first) (type_of e) in
      and_from alike (not (is_past e)) (not_so alike (both_false (knows first && knows e) (not alike) u (and_from (knows first) (knows e) (knows_it first v) (knows_it e w)))) (ap not w.within)

  elements_of : (keyed : Bool) (first : Expr) (es : List Expr) → Value first → Values es → Fine (elements_tests m keyed first (exprs es)) → all_of (type_of first) es ≡ true
  elements_of keyed first [] v vs f = refl
  elements_of keyed first (e ∷ es) v vs f =
      and_from (is_of (type_of first) e) (all_of (type_of first) es) (element_of first e v vs.0 f.1.1.1.0) (elements_of keyed first es v vs.1 f.1.1.1.1)

  row_full : (maker : Maker) (e : Expr) (es : List Expr) → Values (e ∷ es) → Fine (elements_tests m (has_keys_alone maker) e (exprs (e ∷ es))) → (may_hold (has_keys_alone maker) (type_of e) ≡ true → is_full (made maker (types.more (type_of e) types.none)) ≡ true) → is_full (row_type maker (e ∷ es)) ≡ true
  row_full maker e es v f full =
      let all : List Expr = e ∷ es in
      let keyed = has_keys_alone maker in
      let may = may_of keyed e v.0 f.0 (right_when e (not keyed || is_key (type_of e)) v.0 f.1.1.0) in
      let row : Ty → Ty = λ t. if may_hold keyed t && all_of t all then made maker (types.more t types.none) else unknown in
      ap (λ t. is_full (row t)) (seen_is e v.0.within)
      ∙ chosen_full (may_hold keyed (type_of e) && all_of (type_of e) all) (made maker (types.more (type_of e) types.none))
      (and_from (may_hold keyed (type_of e)) (all_of (type_of e) all) may (elements_of keyed e all v.0 v f)) (full may)

  -- a vector of what may stand in one, and a set of types of keys
  row_of_parts : (t : Ty) → is_full t ≡ true → may_hold false t ≡ true → is_full (made maker_is.Vector (types.more t types.none)) ≡ true
  row_of_parts t f may = vector_full t (and_parts (has_value t) true (and_parts (is_known t) (has_value t && true) may).1).0 f

  set_of_keys : (t : Ty) → is_full t ≡ true → may_hold true t ≡ true → is_full (made maker_is.Set (types.more t types.none)) ≡ true
  set_of_keys t f may = set_full t (and_parts (has_value t) (is_key t) (and_parts (is_known t) (has_value t && is_key t) may).1).1 f

  row_values : (maker : Maker) (span : Span) (es : List Expr) → HoldsAll only k m es → ClearAll es → Fine (row_tests m (has_keys_alone maker) span (exprs es)) → ((t : Ty) → is_full t ≡ true → may_hold (has_keys_alone maker) t ≡ true → is_full (made maker (types.more t types.none)) ≡ true) → Values es × (is_full (row_type maker es) ≡ true)
  row_values maker span [] h c f full = never (sym f.0)
  row_values maker span (e ∷ es) h c f full =
      let v = elements_values (has_keys_alone maker) e (e ∷ es) h c f in
      (v, row_full maker e es v f (full (type_of e) (full_of e v.0)))

  pub vector_holds : (span : Span) (es : List Expr) → HoldsAll only k m es → Holds only k m (row_at span maker_is.Vector many_is.Vector es)
  vector_holds span es h c =
      let t = row_type maker_is.Vector es in
      let v = row_values maker_is.Vector span es h (parts_of span t many_is.Vector es c) (first_fine only k m (row_at span maker_is.Vector many_is.Vector es) c) row_of_parts in
      many_good span t many_is.Vector es (whole_all es v.0) refl v.1

  pub set_holds : (span : Span) (es : List Expr) → HoldsAll only k m es → Holds only k m (row_at span maker_is.Set many_is.Set es)
  set_holds span es h c =
      let t = row_type maker_is.Set es in
      let v = row_values maker_is.Set span es h (parts_of span t many_is.Set es c) (first_fine only k m (row_at span maker_is.Set many_is.Set es) c) set_of_keys in
      many_good span t many_is.Set es (whole_all es v.0) refl v.1

  -- maps
  entries_values : (keyed : Bool) (key value : Expr) (es : List Expr) → HoldsAll only k m es → ClearAll es → Fine (entries_tests m keyed key value (exprs es)) → Values es
  entries_values keyed key value [] h c f = tt
  entries_values keyed key value (e ∷ es) h c f =
      (value_of only k m e h.0 (first_of e es c) f.0 f.1.0, entries_values (not keyed) key value es h.1 (rest_of e es c) f.1.1.1.1)

  entries_of : (keyed : Bool) (key value : Expr) (es : List Expr) → Value key → Value value → Values es → Fine (entries_tests m keyed key value (exprs es)) → all_in_turn keyed (type_of key) (type_of value) es ≡ true
  entries_of keyed key value [] v w vs f = refl
  entries_of keyed key value (e ∷ es) v w vs f =
      and_from (is_of (if keyed then type_of key else type_of value) e) (all_in_turn (not keyed) (type_of key) (type_of value) es) (by keyed f.1.1.1.0) (entries_of (not keyed) key value es v w vs.1 f.1.1.1.1)
    where
      by : (b : Bool) → unlike (if b then key else value) e ≡ false → is_of (if b then type_of key else type_of value) e ≡ true
      by true u = element_of key e v vs.0 u
      by false u = element_of value e w vs.0 u

  map_full : (e d : Expr) (es : List Expr) → Values (e ∷ d ∷ es) → Fine (entries_tests m true e d (exprs (e ∷ d ∷ es))) → is_full (map_type (e ∷ d ∷ es)) ≡ true
  map_full e d es v f =
      let all : List Expr = e ∷ d ∷ es in
      let s = type_of e in
      let t = type_of d in
      let keyed = right_when e (is_key s) v.0 f.1.1.0 in
      let map_by : Ty → Ty → Ty = λ k v. if are_entries k v all then made maker_is.Map (types.more k (types.more v types.none)) else unknown in
      ap (λ k. is_full (map_by k (seen d))) (seen_is e v.0.within)
      ∙ ap (λ v. is_full (map_by s v)) (seen_is d v.1.0.within)
      ∙ chosen_full (are_entries s t all) (made maker_is.Map (types.more s (types.more t types.none)))
      (and_from (may_hold true s) (may_hold false t && all_in_turn true s t all) (may_of true e v.0 f.0 keyed) (and_from (may_hold false t) (all_in_turn true s t all) (may_of false d v.1.0 f.1.1.1.1.0 refl) (entries_of true e d all v.0 v.1.0 v f)))
      (keyed_full s t keyed (ap not (valued_by d f.1.1.1.1.0)) (full_of e v.0) (full_of d v.1.0))

  map_values : (span : Span) (es : List Expr) → HoldsAll only k m es → ClearAll es → Fine (map_tests m span (exprs es)) → Values es × (is_full (map_type es) ≡ true)
  map_values span [] h c f = never (sym f.0)
  map_values span (e ∷ []) h c f = never (sym f.0)
  map_values span (e ∷ d ∷ es) h c f =
      let v = entries_values true e d (e ∷ d ∷ es) h c f in
      (v, map_full e d es v f)

  map_holds : (span : Span) (es : List Expr) → HoldsAll only k m es → Holds only k m (map_of span es)
  map_holds span es h c =
      let t = map_type es in
      let v = map_values span es h (parts_of span t many_is.Map es c) (first_fine only k m (map_of span es) c) in
      many_good span t many_is.Map es (whole_all es v.0) refl v.1

  pub pairs_hold : (span : Span) (ps : List (Expr × Expr)) → HoldsPairs only k m ps → Holds only k m (map_at span ps)
  pairs_hold span ps h = map_holds span (in_turn (leading_half false ps) (leading_half true ps) ps) (turn_holds only k m (leading_half false ps) (leading_half true ps) ps h)

  -- arguments: of those that are right without a value of their own there are none
  bare_argument : (starts : Bool) (e : Expr) → is_bare e ≡ true → (is_no_value e && not (starts && is_new (type_of e))) ≡ true
  bare_argument starts e b =
      and_from (is_no_value e) (not (starts && is_new (type_of e))) (bare_is_none e b) (ap (λ t. not (starts && is_new t)) (bare_is_unknown e b) ∙ by starts)
    where
      by : (s : Bool) → not (s && false) ≡ true
      by true = refl
      by false = refl

  arguments_right : (starts : Bool) (es : List Expr) → HoldsAll only k m es → ClearAll es → Fine (argument_tests m starts (exprs es)) → all_hold is_right (exprs es) ≡ true
  arguments_right starts [] h c f = refl
  arguments_right starts (e ∷ es) h c f =
      let g = h.0 (first_of e es c) in
      let r : is_right e ≡ true = elim g.1 [
        | inl r ↦ r
        | inr b ↦ never (sym f.0 ∙ bare_argument starts e b)
      ] in
      and_from (holds is_right e) (all_hold is_right (exprs es)) (is_whole is_right e g.0 r) (arguments_right starts es h.1 (rest_of e es c) f.1)

  -- what can't be called
  pub no_call_holds : (span : Span) (callee : Expr) (es : List Expr) → Holds only k m callee → Holds only k m (no_call span callee es)
  no_call_holds span callee es h c =
      let f = first_fine only k m (no_call span callee es) c in
      let v = value_of only k m callee h (first_of callee es (parts_of span unknown many_is.NoCall (callee ∷ es) c)) f.0 f.1.0 in
      never (sym f.1.1.0 ∙ knows_it callee v)

  -- calls of functions, conversions to enums, and units that are started
  word_call_holds : (g : Around) (span : Span) (w : Word) (callee : Expr) (es : List Expr) → Holds only k m callee → HoldsAll only k m es → Holds only k m (call_by g span (callee_op (leaf_is.TypeName w)) callee es)
  word_call_holds g span (word_is.Enum n) callee es h hs c =
      let t = word (word_is.Enum n) in
      let all = each_to (g.target (many_is.Convert n) unknown) 0 es in
      let hold = each_holds only k m (g.target (many_is.Convert n) unknown) 0 es hs in
      let f = first_fine only k m (many_at span t (many_is.Convert n) all) c in
      many_good span t (many_is.Convert n) all (arguments_right false all hold (parts_of span t (many_is.Convert n) all c) f.1) refl refl
  word_call_holds g span _ callee es h hs c = no_call_holds span callee es h c

  leaf_call_holds : (g : Around) (span : Span) (op : LeafOp) (callee : Expr) (es : List Expr) → ((n : ℕ) → function_op op ≡ Some n → is_full (g.result n) ≡ true) → Holds only k m callee → HoldsAll only k m es → Holds only k m (call_by g span (callee_op op) callee es)
  leaf_call_holds g span (leaf_is.Function n) callee es gives h hs c =
      let all = each_to (g.target (many_is.Call n) unknown) 0 es in
      let hold = each_holds only k m (g.target (many_is.Call n) unknown) 0 es hs in
      let f = first_fine only k m (many_at span (g.result n) (many_is.Call n) all) c in
      many_good span (g.result n) (many_is.Call n) all (arguments_right false all hold (parts_of span (g.result n) (many_is.Call n) all c) f.1) refl (gives n refl)
  leaf_call_holds g span (leaf_is.TypeName w) callee es gives h hs c = word_call_holds g span w callee es h hs c
  leaf_call_holds g span _ callee es gives h hs c = no_call_holds span callee es h c

  pub call_holds : (g : Around) (span : Span) (callee : Expr) (es : List Expr) → ((n : ℕ) → function_of callee ≡ Some n → is_full (g.result n) ≡ true) → Holds only k m callee → HoldsAll only k m es → Holds only k m (call_at g span callee es)
  call_holds g span (leaf i) es gives h hs = leaf_call_holds g span i.op (leaf i) es gives h hs
  call_holds g span (one i a) es gives h hs = no_call_holds span (one i a) es h
  call_holds g span (two i a b) es gives h hs = no_call_holds span (two i a b) es h
  call_holds g span (three i x a b) es gives h hs = no_call_holds span (three i x a b) es h
  call_holds g span (many i fs) es gives h hs = no_call_holds span (many i fs) es h

  pub new_holds : (g : Around) (span path : Span) (callee : Expr) (es : List Expr) → Holds only k m callee → HoldsAll only k m es → Holds only k m (new_at g span path callee es)
  new_holds g span path callee es h hs = by (started callee)
    where
      by : (o : Option NewOf) → Holds only k m (new_by g span path o callee es)
      by None c = no_call_holds span callee es h c
      by (Some u) c =
          let op = many_is.New u path in
          let t = word word_is.New in
          let all = each_to (g.target op unknown) 0 es in
          let hold = each_holds only k m (g.target op unknown) 0 es hs in
          let f = first_fine only k m (many_at span t op all) c in
          many_good span t op all (arguments_right false all hold (parts_of span t op all c) f.1) refl refl

  -- methods
  right_holds : (es : List Expr) → all_hold is_right (exprs es) ≡ true → HoldsAll only k m es
  right_holds [] r = tt
  right_holds (e ∷ es) r =
      let p = and_parts (holds is_right e) (all_hold is_right (exprs es)) r in
      (λ c. (inside is_right e p.0, inl (at_first is_right e p.0)), right_holds es p.1)

  method_good : (span : Span) (t : Ty) (op : ManyOp) (object : Expr) (es : List Expr) → is_method_op op ≡ true → (Value object → is_full t ≡ true) → Holds only k m object → HoldsAll only k m es → Holds only k m (many_at span t op (object ∷ es))
  method_good span t (many_is.Method method slot) object es is full h hs c =
      let op = many_is.Method method slot in
      let f = first_fine only k m (many_at span t op (object ∷ es)) c in
      let all = parts_of span t op (object ∷ es) c in
      let v = object_of only k m object h (first_of object es all) f.0 f.1.0 in
      let r = arguments_right false es hs (rest_of object es all) f.1.1.1.1 in
      many_good span t op (object ∷ es) (and_from (holds is_right object) (all_hold is_right (exprs es)) (whole_of object v) r) refl (full v)
  method_good span t (many_is.OfUnit method name) object es is full h hs c =
      let op = many_is.OfUnit method name in
      let f = first_fine only k m (many_at span t op (object ∷ es)) c in
      let all = parts_of span t op (object ∷ es) c in
      let v = object_of only k m object h (first_of object es all) f.0 f.1.0 in
      let r = arguments_right (connects op) es hs (rest_of object es all) f.1.1.1.1 in
      many_good span t op (object ∷ es) (and_from (holds is_right object) (all_hold is_right (exprs es)) (whole_of object v) r) refl (full v)
  method_good span t (many_is.OfSink method) object es is full h hs c =
      let op = many_is.OfSink method in
      let f = first_fine only k m (many_at span t op (object ∷ es)) c in
      let all = parts_of span t op (object ∷ es) c in
      let v = object_of only k m object h (first_of object es all) f.0 f.1.0 in
      let r = arguments_right (connects op) es hs (rest_of object es all) f.1.1.1 in
      many_good span t op (object ∷ es) (and_from (holds is_right object) (all_hold is_right (exprs es)) (whole_of object v) r) refl (full v)
  method_good span t _ object es is full h hs c = never is

  pub method_holds : (g : Around) → ((op : ManyOp) (span : Span) (n : ℕ) → all_hold is_right (exprs (g.left_out op span n)) ≡ true) → (span member name : Span) (o : Option Callable) (object : Expr) (es : List Expr) → ((x : Callable) → o ≡ Some x → (is_method_op x.op ≡ true) × (is_full (seen object) ≡ true → is_full x.ty ≡ true)) → Holds only k m object → HoldsAll only k m es → Holds only k m (method_of g span member name o object es)
  method_holds g left_out span member name None object es is h hs =
      no_call_holds span (one_at member unknown (one_is.NoMember name) object) es (no_member only k m member unknown name object h)
  method_holds g left_out span member name (Some x) object es is h hs =
      let given = each_to (g.target x.op (seen object)) 0 es in
      let others = g.left_out x.op span (length es) in
      let hold = joined_holds only k m given others (each_holds only k m (g.target x.op (seen object)) 0 es hs) (right_holds others (left_out x.op span (length es))) in
      let p = is x refl in
      method_good span x.ty x.op object (given ++ others) p.0 (λ v. p.1 (seen_full object v)) h hold
