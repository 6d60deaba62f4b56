-- A constant whose parts are answered, where no rule is broken at it: its answer is of a full type, which its value fits.
use Rattle.std.specs.Prelude.{ℕ, suc, Bool, true, false, not, ◌&&◌, ◌||◌, if◌then◌else◌, List, [], ◌∷◌, ◌++◌, length, Option, Some, None, slice_get}
use Rattle.std.proofs.Common.{◌≡◌, ◌⊎◌, ◌<◌, ◌+◌, inl, inr, refl, sym, ap, ◌∙◌, subst, arith}
use Rattle.std.proofs.lemmas.Bool.{and_parts, and_from, not-true}
use Rattle.sp_ast.specs.Trees.{Tree}
use Rattle.sp_rules.specs.declared.fault.Fault.{Fault}
use Rattle.sp_base.specs.declared.places.Span.{Span}
use Rattle.sp_types.specs.Types.{Ty, is_known, same, widens, goes}
use Rattle.sp_types.proofs.Same.{same_is, same_itself}
use Rattle.sp_typed.specs.declared.words.OneOp.TheVariants as one_is
use Rattle.sp_typed.specs.declared.words.Written.{Written}
use Rattle.sp_typed.specs.Exprs.{Expr, span_of, type_of}
use Rattle.sp_typed.specs.Nodes.{holds}
use Rattle.sp_typed_units.specs.declared.declarations.Typed.{Typed}
use Rattle.sp_type_operands.specs.Literals.{seen, is_past, taken}
use Rattle.sp_type_context.specs.Typing.{typed, one_at, widened}
use Rattle.sp_solver.specs.Told.{told}
use Rattle.sp_names.specs.declared.sort.DeclSort.TheVariants as sort_is
use Rattle.sp_names.specs.declared.sort.DeclSort.{DeclSort}
use Rattle.sp_names.specs.declared.sort.Meaning.{Meaning}
use Rattle.sp_names.specs.declared.sort.Meaning.TheVariants as meaning_is
use Rattle.sp_names.specs.declared.rows.Declaration.{Declaration}
use Rattle.sp_names.specs.Declarations.{sort_of, sort_at}
use Rattle.sp_names.specs.Names.{path_means}
use Rattle.sp_names.specs.Types.{mentions_in}
use Rattle.sp_type_context.specs.declared.places.Place.TheVariants.{Value}
use Rattle.sp_type_modules.specs.Written.{type_at, written_in}
use Rattle.sp_type_modules.specs.Arounds.{stored_by, declared_at, meaning_at, slice_of}
use Rattle.sp_ast.specs.Views.{present}
use Rattle.sp_type_constants.specs.declared.outcome.Outcome.{Outcome}
use Rattle.sp_type_constants.specs.declared.outcome.Outcome.TheVariants as outcome_is
use Rattle.sp_type_constants.specs.Outcomes.{is_constant}
use Rattle.sp_type_constants.specs.Labels.{fitting, fits_written}
use Rattle.sp_type_constants.specs.Values.{value_of as constant_of}
use Rattle.sp_rule_bodies.specs.Known.{Known}
use Rattle.sp_rule_bodies.specs.Values.{is_regex, is_no_value, value_goes, written_tests, value_tests, target_tests}
use Rattle.sp_rule_lists.specs.Lists.{all_tests}
use Rattle.sp_rule_lists.specs.Names.{constant_names}
use Rattle.sp_rule_lists.specs.Bodies.{regex_tests, told_tests, declared_tests, lacks_value, inside_const, const_tests}
use Rattle.sp_type_values.specs.declared.valued.Valued.{Valued}
use Rattle.sp_type_values.specs.declared.answer.Answer.{Answer}
use Rattle.sp_type_values.specs.Valued.{written_tree, value_tree, written_type, constant_of as valued_constant, if_constant, constants_among, constants, valued, constant_place, needs_of}
use Rattle.sp_type_values.specs.Answers.{answer_at, value_or, type_or, written_of, written_or, constant_type, constant_value, known_values, number_of, here, constant_expr, constant_answer, answer_of}
use Rattle.sp_type_values.specs.TypedRows.{shown_value, maybe_written, declared_constant, next_constant, if_declared, constants_from}
use Rattle.sp_law_lists.specs.known_types.Full.{is_full, is_right}
use Rattle.sp_law_lists.specs.known_types.Clear.{none_hold}
use Rattle.sp_law_lists.specs.known_types.Trees.{is_expr}
use Rattle.sp_law_lists.specs.known_types.Given.{IsKnown}
use Rattle.sp_law_lists.proofs.known_types_lemmas.Full.{never, full_is_known}
use Rattle.sp_law_lists.proofs.known_types_lemmas.Tests.{Good, seen_is, both_false, not_so}
use Rattle.sp_law_lists.proofs.known_types_lemmas.Formed.{formed_expr}
use Rattle.sp_law_lists.proofs.known_types_lemmas.Typed.{typed_holds}
use Rattle.sp_law_lists.specs.known_values.Values.{fits}
use Rattle.sp_law_lists.specs.known_values.Given.{AreTold}
use Rattle.sp_law_lists.proofs.known_values_lemmas.Typed.{typed_told}
use Rattle.sp_law_lists.specs.whole_list.Types.{is_type}
use Rattle.sp_law_lists.proofs.whole_list_lemmas.None.{none_parts, expr_named}
use Rattle.sp_law_lists.proofs.whole_list_lemmas.Types.{type_full, each_has}
use Rattle.sp_law_lists.proofs.whole_list_lemmas.Modules.{member_op, paths_known}
use Rattle.sp_law_lists.proofs.whole_list_lemmas.Functions.{placed}
use Rattle.sp_law_lists.proofs.whole_list_lemmas.Decided.{decides}
use Rattle.sp_rule_lists.specs.Told.{values_of}
use Rattle.sp_law_lists.specs.known_constants.Good.{constant_op, is_good, are_answered, is_told}
use Rattle.sp_law_lists.specs.known_constants.Fine.{IsFine}
use Rattle.sp_law_lists.specs.known_constants.Given.{asked, facts_with, AreUnbroken}
use Rattle.sp_law_lists.proofs.known_constants_lemmas.Evaluated.{constant_stands}
use Rattle.sp_law_lists.proofs.known_constants_lemmas.Fine.{written}
use Rattle.sp_law_lists.proofs.known_constants_lemmas.Declarations.{AllOf, DeclaredFine, WrittenFine, ValueFine, is_constant_sort, constant_parts}
use Rattle.sp_law_lists.proofs.known_constants_lemmas.Places.{place_is}
use Rattle.sp_law_lists.proofs.known_constants_lemmas.Paths.{no_member, path_named, known_told, list_told}
use Rattle.sp_law_lists.proofs.known_constants_lemmas.Clear.{Stands, stands_by, full_when, stands_as_value, whole_when}
use Rattle.sp_law_lists.proofs.known_constants_lemmas.Spines.{is_three, Const, ConstClear, const_of, maybe_spine}
use Rattle.sp_law_lists.proofs.known_constants_lemmas.Typed.{typed_spine}

-- what holds of each of a row of what has a value, of which the first has the number n
abbrev pub EachFrom : (ℕ → Valued → Type 0) → ℕ → List Valued → Type 0
EachFrom P n [] = Unit {0}
EachFrom P n (v ∷ vs) = P n v × EachFrom P (suc n) vs

-- what is constant
shown_constant : (o : Outcome) → lacks_value (shown_value o) ≡ false → is_constant o ≡ true
shown_constant outcome_is.NotConstant e = never (sym e)
shown_constant _ e = refl

fitting_constant : (b : Bool) (o : Outcome) → is_constant (fitting b o) ≡ true → is_constant o ≡ true
fitting_constant true outcome_is.NotConstant e = never e
fitting_constant false outcome_is.NotConstant e = never e
fitting_constant _ _ e = refl

fitting_fits : (b : Bool) (t : Ty) (o : Outcome) → b ≡ true → fits t o ≡ true → fits t (fitting b o) ≡ true
fitting_fits true t o e f = f
fitting_fits false t o e f = never e

answer_type : (w : Option Ty) (a : Answer) → type_or w (Some a) ≡ a.ty
answer_type None a = refl
answer_type (Some t) a = refl

-- what goes to a target has its type
either_goes : (a b c d : Bool) → a ≡ true → b ≡ true → (not (a && b) || c || d) ≡ true → (c ≡ true) ⊎ (d ≡ true)
either_goes true true true d p q e = inl refl
either_goes true true false true p q e = inr refl
either_goes true true false false p q e = never e
either_goes true false c d p q e = never q
either_goes false b c d p q e = never p

target_same : (t : Ty) (x : Expr) → is_past (widened t x) ≡ false → (same (type_of (widened t x)) t ≡ true) ⊎ (widens (type_of (widened t x)) t ≡ true) → same (type_of (widened t x)) t ≡ true
target_same t x = by (widens (seen x) t && not (same (seen x) t)) refl
  where
    by : (b : Bool) → (widens (seen x) t && not (same (seen x) t)) ≡ b → is_past (if b then one_at (span_of x) t one_is.Widen x else x) ≡ false
        → (same (type_of (if b then one_at (span_of x) t one_is.Widen x else x)) t ≡ true) ⊎ (widens (type_of (if b then one_at (span_of x) t one_is.Widen x else x)) t ≡ true)
        → same (type_of (if b then one_at (span_of x) t one_is.Widen x else x)) t ≡ true
    by true is within goes = same_itself t
    by false is within goes = elim goes [
      | inl s ↦ s
      | inr w ↦ (
          let u : (widens (type_of x) t && not (same (type_of x) t)) ≡ false = sym (ap (λ s. widens s t && not (same s t)) (seen_is x within)) ∙ is in
          not_so (same (type_of x) t) (both_false (widens (type_of x) t) (not (same (type_of x) t)) u w)
          )
    ]

-- paths are no choices
declared_three : (list : List Tree) (f : ℕ → Option Ty) (constant : ℕ → Ty) (span : Span) (g : ℕ) (s : DeclSort) → is_three (declared_at list f constant span g s) ≡ false
declared_three list f constant span g sort_is.Constant = refl
declared_three list f constant span g sort_is.Function = refl
declared_three list f constant span g _ = refl

meaning_three : (list : List Tree) (f : ℕ → Option Ty) (constant : ℕ → Ty) (span : Span) (path : Tree) (w : Meaning) → is_three (meaning_at list f constant span path w) ≡ false
meaning_three list f constant span path (meaning_is.Declaration g) = declared_three list f constant span g (sort_at list g)
meaning_three list f constant span path (meaning_is.LibraryEnum n) = refl
meaning_three list f constant span path (meaning_is.Label owner n) = refl
meaning_three list f constant span path meaning_is.Decoder = refl
meaning_three list f constant span path (meaning_is.Nothing n) = refl

module _ (list : List Tree) (f : ℕ → Option Ty) (known : ℕ → Option Answer) (t : Typed) (it : AreUnbroken list f known t) where
  abbrev k : Known
  k = asked t

  -- what stands round the values of constants and labels of a module
  pub values_known : (m : ℕ) → IsKnown (here list f known m) constant_op k m (is_type list f m) (is_told list f known m)
  values_known m =
      let stored = stored_by list (told []) in
      let number = number_of list f known in
      let facts = facts_with list f known stored number in
      paths_known list facts constant_op k m m (is_told list f known m) it.types
      (λ u name found e may. no_member found.op (member_op list stored u name found e) may)
      (λ span path is. path_named list f known it.results m span path is)
      (decides t (values_of t) [] constant_op m (is_type list f m) (is_told list f known m) (here list f known m) (list_told list f known it.settled t it.constants_are it.enums_are constant_op k m m stored number))

  pub values_told : (m : ℕ) → AreTold (here list f known m) constant_op k m (known_values list f known) (is_told list f known m)
  values_told m = known_told list f known it.settled constant_op k m m (stored_by list (told [])) (number_of list f known)

  -- the tree of a value
  pub value_formed : (m : ℕ) (v : Tree) → ValueFine list f m v → is_told list f known m v ≡ true → is_expr (is_type list f m) (is_told list f known m) v ≡ true
  value_formed m v h n = formed_expr (is_type list f m) (is_told list f known m) v h.0 h.1.0 (written list f m known v h.1 n)

  value_const : (m : ℕ) (w : Option Ty) (v : Tree) → ValueFine list f m v → is_told list f known m v ≡ true → Const k m (known_values list f known) (constant_expr list f known m w v)
  value_const m w v h n =
      let g = here list f known m in
      let types = is_type list f m in
      let paths = is_told list f known m in
      let is = value_formed m v h n in
      let kv = known_values list f known in
      const_of k m kv (constant_expr list f known m w v)
      (maybe_spine k m kv w (typed g v) (typed_holds g constant_op k m types paths (values_known m) v is) (typed_told g constant_op k m kv types paths (values_told m) v is)
      (typed_spine g k m kv types paths (values_known m) (values_told m) (λ span path. meaning_three list f (constant_type list f known) (slice_of list span path (path_means list f m path)) path (path_means list f m path)) (λ span. refl) (λ span. refl) v is))

  -- a type that is written
  written_full : (m : ℕ) (w : Tree) → is_type list f m w ≡ true → none_hold (written_tests m (written_in list f m Value w)) ≡ true → is_full (type_at list f m Value w) ≡ true
  written_full m w is tests =
      type_full list f m Value w is (placed m (written_in list f m Value w).misplaced tests) (each_has list f m it.types (mentions_in list m w))

  -- an answer without a written type, and one with it
  abbrev Tests : ℕ → Ty → Option Written → Expr → Type 0
  Tests m u w e = none_hold (declared_tests m u w e) ≡ true

  abbrev Fitting : Expr → Type 0
  Fitting e = holds is_right e ≡ true → is_past e ≡ false → fits (type_of e) (constant_of (known_values list f known) e) ≡ true

  as_value : (m : ℕ) (u : Ty) (e : Expr) (b : Bool) → none_hold (if b then regex_tests m u None e else told_tests m u None e) ≡ true → none_hold (if b then [] else value_tests m e) ≡ true
  as_value m u e true h = h
  as_value m u e false h = h

  seen_stands : (m : ℕ) (u : Ty) (e : Expr) → Good e → Tests m u None e → Stands e
  seen_stands m u e g tests = stands_by m e g (as_value m u e (is_regex (type_of e)) tests)

  seen_good : (m : ℕ) (u : Ty) (e : Expr) → Good e → Fitting e → Tests m u None e → is_good (constant_answer list f known None e) ≡ true
  seen_good m u e g fit tests =
      let s = seen_stands m u e g tests in
      let o = constant_of (known_values list f known) e in
      let is = seen_is e s.within in
      and_from (is_full (seen e)) (fits (seen e) (fitting true o)) (ap is_full is ∙ full_when e s.right) (ap (λ x. fits x (fitting true o)) is ∙ fitting_fits true (type_of e) o refl (fit (whole_when e g s) s.within))

  written_stands : (m : ℕ) (w : Tree) (x : Expr) → is_type list f m w ≡ true → Good (widened (type_at list f m Value w) x) → Tests m (type_at list f m Value w) (Some (written_in list f m Value w)) (widened (type_at list f m Value w) x)
      → Stands (widened (type_at list f m Value w) x) × (is_full (type_at list f m Value w) ≡ true) × (type_of (widened (type_at list f m Value w) x) ≡ type_at list f m Value w)
  written_stands m w x is g tests = by (is_regex (type_of (widened (type_at list f m Value w) x))) tests
    where
      by : (b : Bool)
          → none_hold (if b then regex_tests m (type_at list f m Value w) (Some (written_in list f m Value w)) (widened (type_at list f m Value w) x) else told_tests m (type_at list f m Value w) (Some (written_in list f m Value w)) (widened (type_at list f m Value w) x)) ≡ true
          → Stands (widened (type_at list f m Value w) x) × (is_full (type_at list f m Value w) ≡ true) × (type_of (widened (type_at list f m Value w) x) ≡ type_at list f m Value w)
      by true h =
          let u = type_at list f m Value w in
          let p = none_parts (written_tests m (written_in list f m Value w)) _ h in
          let full = written_full m w is p.0 in
          never (sym (not-true (is_known u) (and_parts (not (is_known u)) true p.1).0) ∙ full_is_known u full)
      by false h =
          let u = type_at list f m Value w in
          let e = widened u x in
          let p = none_parts (written_tests m (written_in list f m Value w)) (target_tests m u e) h in
          let full = written_full m w is p.0 in
          let known_type = full_is_known u full in
          let a = and_parts (not (is_no_value e)) _ p.1 in
          let b = and_parts (not (is_known u && not (value_goes u e))) _ a.1 in
          let going = not_so (value_goes u e) (both_false (is_known u) (not (value_goes u e)) (not-true (is_known u && not (value_goes u e)) b.0) known_type) in
          let c = and_parts (not (is_past e)) (goes (type_of e) u) going in
          let within = not-true (is_past e) c.0 in
          let s = stands_as_value m e g (not-true (is_no_value e) a.0) within in
          let right = full_when e s.right in
          let same_type = target_same u x within (either_goes (is_known (type_of e)) (is_known u) (same (type_of e) u) (widens (type_of e) u) (full_is_known (type_of e) right) known_type c.1) in
          (s, full, same_is (type_of e) u same_type)

  written_good : (m : ℕ) (w : Tree) (x : Expr) → is_type list f m w ≡ true → Good (widened (type_at list f m Value w) x) → Fitting (widened (type_at list f m Value w) x) → Tests m (type_at list f m Value w) (Some (written_in list f m Value w)) (widened (type_at list f m Value w) x)
      → is_good (constant_answer list f known (Some (type_at list f m Value w)) (widened (type_at list f m Value w) x)) ≡ true
  written_good m w x is g fit tests =
      let u = type_at list f m Value w in
      let e = widened u x in
      let o = constant_of (known_values list f known) e in
      let r = written_stands m w x is g tests in
      and_from (is_full u) (fits u (fitting (same u (type_of e)) o)) r.1
      (fitting_fits (same u (type_of e)) u o (ap (same u) r.2 ∙ same_itself u) (subst (λ y. fits y o ≡ true) r.2 (fit (whole_when e g r.0) r.0.within)))

  -- the answer of a constant
  abbrev pub Answers : ℕ → Valued → Type 0
  Answers n v = known n ≡ Some (answer_of list f known n (Some v)) → are_answered known (needs_of list f n (Some v)) ≡ true → is_good (answer_of list f known n (Some v)) ≡ true

  answer_good : (m : ℕ) (w : Option Tree) (v : Tree) → WrittenFine list f m w → Good (constant_expr list f known m (written_type list f m w) v) → Fitting (constant_expr list f known m (written_type list f m w) v)
      → Tests m (written_or (written_type list f m w) (constant_expr list f known m (written_type list f m w) v)) (maybe_written list f known m w) (constant_expr list f known m (written_type list f m w) v)
      → is_good (constant_answer list f known (written_type list f m w) (constant_expr list f known m (written_type list f m w) v)) ≡ true
  answer_good m None v fine g fit tests = seen_good m (seen (typed (here list f known m) v)) (typed (here list f known m) v) g fit tests
  answer_good m (Some w) v fine g fit tests = written_good m w (taken (type_at list f m Value w) (typed (here list f known m) v)) fine g fit tests

  answer_stands : (m : ℕ) (w : Option Tree) (v : Tree) → WrittenFine list f m w → Good (constant_expr list f known m (written_type list f m w) v)
      → Tests m (written_or (written_type list f m w) (constant_expr list f known m (written_type list f m w) v)) (maybe_written list f known m w) (constant_expr list f known m (written_type list f m w) v)
      → Stands (constant_expr list f known m (written_type list f m w) v)
  answer_stands m None v fine g tests = seen_stands m (seen (typed (here list f known m) v)) (typed (here list f known m) v) g tests
  answer_stands m (Some w) v fine g tests = (written_stands m w (taken (type_at list f m Value w) (typed (here list f known m) v)) fine g tests).0

  -- the value of a constant, and what is asked of it under its answer
  abbrev value_in : Declaration → Expr
  value_in d = constant_expr list f known d.«module» (written_type list f d.«module» (present (written_tree d.tree))) (value_tree d.tree)

  abbrev Asked : Declaration → Type 0
  Asked d = Good (value_in d) × Fitting (value_in d) × Tests d.«module» (written_or (written_type list f d.«module» (present (written_tree d.tree))) (value_in d)) (maybe_written list f known d.«module» (present (written_tree d.tree))) (value_in d)

  constant_asked : (n : ℕ) (d : Declaration) → n < length (constants list f) → is_constant_sort (sort_of d.tree) ≡ true → IsFine list f d.«module» d.tree
      → none_hold (constant_names (declared_constant list f known n d)) ≡ true → none_hold (const_tests k (declared_constant list f known n d)) ≡ true
      → known n ≡ Some (answer_of list f known n (Some (valued_constant list f d))) → are_answered known (needs_of list f n (Some (valued_constant list f d))) ≡ true → Asked d
  constant_asked n d lt sort fine names tests is answered =
      let m = d.«module» in
      let v = value_tree d.tree in
      let kv = known_values list f known in
      let wt = written_type list f m (present (written_tree d.tree)) in
      let e = value_in d in
      let a = constant_answer list f known wt e in
      let c = declared_constant list f known n d in
      let w = written_of (slice_get (valued list f) n) in
      let found : answer_at known (constant_place list f n) ≡ Some a = ap (answer_at known) (place_is list f n lt) ∙ is in
      let typed_as : c.ty ≡ a.ty = ap (type_or w) found ∙ answer_type w a in
      let valued_as : constant_value list f known n ≡ a.value = ap value_or found in
      let p = none_parts (declared_tests m c.ty c.written e) _ tests in
      let q = and_parts (not (lacks_value c.value)) (none_hold (inside_const k m e)) p.1 in
      let constant_ = shown_constant a.value (sym (ap (λ o. lacks_value (shown_value o)) valued_as) ∙ not-true (lacks_value c.value) q.0) in
      let evaluated = fitting_constant (fits_written wt (type_of e)) (constant_of kv e) constant_ in
      let parts = constant_parts list f m d.tree sort fine in
      let clear : ConstClear k m kv e = (expr_named m e names, constant_stands kv e evaluated, q.1) in
      let good = value_const m wt v parts.1 answered clear in
      (good.0, good.1, subst (λ u. none_hold (declared_tests m u c.written e) ≡ true) typed_as p.0)

  constant_good : (n : ℕ) (d : Declaration) → n < length (constants list f) → is_constant_sort (sort_of d.tree) ≡ true → IsFine list f d.«module» d.tree
      → none_hold (constant_names (declared_constant list f known n d)) ≡ true → none_hold (const_tests k (declared_constant list f known n d)) ≡ true → Answers n (valued_constant list f d)
  constant_good n d lt sort fine names tests is answered =
      let m = d.«module» in
      let h = constant_asked n d lt sort fine names tests is answered in
      answer_good m (present (written_tree d.tree)) (value_tree d.tree) (constant_parts list f m d.tree sort fine).0 h.0 h.1 h.2

  -- the value of a constant is whole
  pub constant_whole : (n : ℕ) (d : Declaration) → n < length (constants list f) → is_constant_sort (sort_of d.tree) ≡ true → IsFine list f d.«module» d.tree
      → none_hold (constant_names (declared_constant list f known n d)) ≡ true → none_hold (const_tests k (declared_constant list f known n d)) ≡ true
      → known n ≡ Some (answer_of list f known n (Some (valued_constant list f d))) → are_answered known (needs_of list f n (Some (valued_constant list f d))) ≡ true → holds is_right (value_in d) ≡ true
  constant_whole n d lt sort fine names tests is answered =
      let m = d.«module» in
      let h = constant_asked n d lt sort fine names tests is answered in
      whole_when (value_in d) h.0 (answer_stands m (present (written_tree d.tree)) (value_tree d.tree) (constant_parts list f m d.tree sort fine).0 h.0 h.2)

  -- those of a row of declarations
  constant_each : (s : DeclSort) (d : Declaration) (ds : List Declaration) (n : ℕ) → sort_of d.tree ≡ s → IsFine list f d.«module» d.tree → n + length (if_constant list f d s ++ constants_among list f ds) ≡ length (constants list f)
      → none_hold (all_tests constant_names (if_declared list f known n d s ++ constants_from list f known (next_constant list f known n s) ds)) ≡ true
      → none_hold (all_tests (const_tests k) (if_declared list f known n d s ++ constants_from list f known (next_constant list f known n s) ds)) ≡ true
      → ((j : ℕ) → j + length (constants_among list f ds) ≡ length (constants list f) → none_hold (all_tests constant_names (constants_from list f known j ds)) ≡ true → none_hold (all_tests (const_tests k) (constants_from list f known j ds)) ≡ true
      → EachFrom Answers j (constants_among list f ds))
      → EachFrom Answers n (if_constant list f d s ++ constants_among list f ds)
  constant_each sort_is.Constant d ds n is fine many names tests rest =
      let c = declared_constant list f known n d in
      let a = none_parts (constant_names c) (all_tests constant_names (constants_from list f known (suc n) ds)) names in
      let b = none_parts (const_tests k c) (all_tests (const_tests k) (constants_from list f known (suc n) ds)) tests in
      (constant_good n d (omega (arith, many)) (ap is_constant_sort is) fine a.0 b.0, rest (suc n) (omega (arith, many)) a.1 b.1)
  constant_each _ d ds n is fine many names tests rest = rest n many names tests

  pub constants_each : (ds : List Declaration) (n : ℕ) → AllOf (DeclaredFine list f) ds → n + length (constants_among list f ds) ≡ length (constants list f)
      → none_hold (all_tests constant_names (constants_from list f known n ds)) ≡ true → none_hold (all_tests (const_tests k) (constants_from list f known n ds)) ≡ true → EachFrom Answers n (constants_among list f ds)
  constants_each [] n fine many names tests = tt
  constants_each (d ∷ ds) n fine many names tests = constant_each (sort_of d.tree) d ds n refl fine.0 many names tests (λ j e a b. constants_each ds j fine.1 e a b)
