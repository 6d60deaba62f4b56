-- The constants of a list in which no rule is broken have values of their types.
use Rattle.std.specs.Prelude.{true, ◌&&◌}
use Rattle.std.specs.List.{list_all}
use Rattle.std.proofs.Common.{ℕ, ◌≡◌, suc, refl, sym, subst, ◌∙◌, List, [], ◌∷◌, Option, Some, slice_get}
use Rattle.std.proofs.lemmas.Bool.{and_parts, and_from}
use Rattle.sp_value.specs.Val.{Val, Vals, Entries, bool, uint, int, bytes, str, enum, tuple, vector, set, map, no_vals, val, no_entries, entry}
use Rattle.sp_ast.specs.Trees.{Tree}
use Rattle.sp_ast.specs.Slots.{is_formed}
use Rattle.sp_rules.specs.declared.fault.Fault.{Fault}
use Rattle.sp_types.specs.declared.words.Word.TheVariants as word_is
use Rattle.sp_types.specs.declared.words.Maker.TheVariants as maker_is
use Rattle.sp_types.specs.Types.{Ty, Tys, word, made}
use Rattle.sp_types.specs.Types as types
use Rattle.sp_typed_units.specs.declared.declarations.Constant.{Constant}
use Rattle.sp_typed_units.specs.declared.declarations.Typed.{Typed}
use Rattle.sp_solver.specs.Told.{told}
use Rattle.sp_type_constants.specs.declared.outcome.Outcome.{Outcome}
use Rattle.sp_type_constants.specs.declared.outcome.Outcome.TheVariants as outcome_is
use Rattle.sp_type_values.specs.Answers.{constant_type, constant_value}
use Rattle.sp_type_values.specs.TypedRows.{shown_value}
use Rattle.sp_type_answers.specs.Settled.{Answers}
use Rattle.sp_type_answers.specs.Lists.{typed_of}
use Rattle.sp_type_answers.specs.Rules.{Breaks}
use Rattle.sp_meaning.specs.Globals.{globals_of}
use Rattle.sp_law_lists.specs.known_types.Full.{have_values, is_full, are_full}
use Rattle.sp_law_lists.proofs.known_types_lemmas.Full.{never, vector_first, set_first, map_first, map_second}
use Rattle.sp_law_lists.specs.known_values.Values.{is_of, are_of, all_of, all_in, fits}
use Rattle.sp_law_lists.proofs.known_constants_lemmas.Places.{constant_typed, constant_fits}
use Rattle.sp_law_lists.proofs.known_constants_lemmas.Rounds.{constant_answered}
use Rattle.sp_law_lists.proofs.unbroken_list_lemmas.Lists.{are_unbroken}
use Rattle.sp_law_lists.proofs.whole_list_lemmas.Modules.{some_found}
use Rattle.sp_law_lists.specs.fit_expr.Constants.{value_has, members_have, items_have, entries_have, constant_passes, constants_pass}
use Rattle.sp_law_lists.specs.fit_expr.Passes.{ConstantsFit}
use Rattle.sp_law_lists.proofs.fit_expr_lemmas.OfValues.{constants_fit}
use Rattle.sp_law_lists.proofs.passing_list_lemmas.Constants.{constant_shown, constant_listed}

-- what is of a type as a constant is so in the test
mutual
  value_so : (t : Ty) (v : Val) → is_full t ≡ true → is_of t v ≡ true → value_has v t ≡ true
  value_so (word word_is.Bool) (bool b) f e = refl
  value_so (word (word_is.Uint x)) (uint w n) f e = refl
  value_so (word (word_is.Int x)) (int w n) f e = refl
  value_so (word word_is.Bytes) (bytes b) f e = refl
  value_so (word word_is.String) (str b) f e = refl
  value_so (word (word_is.Enum x)) (enum k n) f e = e
  value_so (made maker_is.Tuple ts) (tuple vs) f e = members_so ts vs (and_parts (have_values ts) (are_full ts) f).1 e
  value_so (made maker_is.Vector (types.more t types.none)) (vector vs) f e = items_so t types.none vs (vector_first (types.more t types.none) f) e
  value_so (made maker_is.Vector types.none) (vector vs) f e = never f
  value_so (made maker_is.Vector (types.more t (types.more u us))) (vector vs) f e = never f
  value_so (made maker_is.Set (types.more t types.none)) (set vs) f e = items_so t types.none vs (set_first (types.more t types.none) f) e
  value_so (made maker_is.Set types.none) (set vs) f e = never f
  value_so (made maker_is.Set (types.more t (types.more u us))) (set vs) f e = never f
  value_so (made maker_is.Map (types.more s (types.more t types.none))) (map es) f e = entries_so s t es (map_first s t f) (map_second (types.more s (types.more t types.none)) f) e
  value_so (made maker_is.Map types.none) (map es) f e = never f
  value_so (made maker_is.Map (types.more s types.none)) (map es) f e = never f
  value_so (made maker_is.Map (types.more s (types.more t (types.more u us)))) (map es) f e = never f
  value_so _ _ f e = never e

  members_so : (ts : Tys) (vs : Vals) → are_full ts ≡ true → are_of ts vs ≡ true → members_have vs ts ≡ true
  members_so types.none no_vals f e = refl
  members_so (types.more t ts) (val v vs) f e =
      let p = and_parts (is_full t) (are_full ts) f in
      let q = and_parts (is_of t v) (are_of ts vs) e in
      and_from (value_has v t) (members_have vs ts) (value_so t v p.0 q.0) (members_so ts vs p.1 q.1)
  members_so types.none (val v vs) f e = never e
  members_so (types.more t ts) no_vals f e = never e

  items_so : (t : Ty) (ts : Tys) (vs : Vals) → is_full t ≡ true → all_of t vs ≡ true → items_have vs (types.more t ts) ≡ true
  items_so t ts no_vals f e = refl
  items_so t ts (val v vs) f e =
      let q = and_parts (is_of t v) (all_of t vs) e in
      and_from (value_has v t) (items_have vs (types.more t ts)) (value_so t v f q.0) (items_so t ts vs f q.1)

  entries_so : (s t : Ty) (es : Entries) → is_full s ≡ true → is_full t ≡ true → all_in s t es ≡ true → entries_have es (types.more s (types.more t types.none)) ≡ true
  entries_so s t no_entries f g e = refl
  entries_so s t (entry k v es) f g e =
      let p = and_parts (is_of s k) (is_of t v && all_in s t es) e in
      let q = and_parts (is_of t v) (all_in s t es) p.1 in
      let ts = types.more s (types.more t types.none) in
      and_from (value_has k s && value_has v t) (entries_have es ts) (and_from (value_has k s) (value_has v t) (value_so s k f p.0) (value_so t v g q.0)) (entries_so s t es f g q.1)

outcome_so : (t : Ty) (o : Outcome) → is_full t ≡ true → fits t o ≡ true → constant_passes (shown_value o) t ≡ true
outcome_so t (outcome_is.Value v) f e = value_so t v f e
outcome_so t (outcome_is.Regex text) f e = refl
outcome_so t outcome_is.NotConstant f e = refl
outcome_so t outcome_is.Error f e = refl
outcome_so t outcome_is.Unknown f e = never e

all_pass : (cs : List Constant) → ((n : ℕ) (x : Constant) → slice_get cs n ≡ Some x → constant_passes x.value x.ty ≡ true) → constants_pass cs ≡ true
all_pass [] each = refl
all_pass (c ∷ cs) each = and_from (constant_passes c.value c.ty) (constants_pass cs) (each 0 c refl) (all_pass cs (λ n x at. each (suc n) x at))

module _ (list : List Tree) (a : Answers list) (formed_list : list_all is_formed list ≡ true) (unbroken : (x : Fault) → Breaks list x → ⊥) where
  abbrev f : ℕ → Option Ty
  f = told a.types

  abbrev t : Typed
  t = typed_of list a

  one_passes : (n : ℕ) (x : Constant) → slice_get t.constants n ≡ Some x → constant_passes x.value x.ty ≡ true
  one_passes n x at =
      let it = are_unbroken list a formed_list unbroken in
      let lt = constant_listed list f (told a.values) n x at in
      let answered = constant_answered list f (told a.values) t it n lt in
      let shown = constant_shown list f (told a.values) n lt in
      let same = some_found shown.one x (sym shown.is ∙ at) in
      let u = constant_type list f (told a.values) n in
      let o = constant_value list f (told a.values) n in
      let own = outcome_so u o (constant_typed list f (told a.values) n lt answered) (constant_fits list f (told a.values) n lt answered) in
      subst (λ (y : Constant). constant_passes y.value y.ty ≡ true) same
      (subst (λ v. constant_passes v shown.one.ty ≡ true) (sym shown.valued) (subst (λ w. constant_passes (shown_value o) w ≡ true) (sym shown.typed) own))

  -- All constants have values of their types.
  pub constants_so : ConstantsFit t
  constants_so = λ c x v at is units. constants_fit (globals_of t).ranges units t.constants c x v (all_pass t.constants one_passes) at is
