-- What hooks are and see: their unit, its parameters, and those of their own.
use Rattle.std.specs.Prelude.{Bool, true, false, not, ◌||◌, ◌-◌, ◌≤◌, ◌==◌, if◌then◌else◌, nat_lt}
use Rattle.std.proofs.Common.{ℕ, ◌≡◌, ◌+◌, zero, suc, refl, sym, ap, subst, ◌∙◌, arith, List, [], ◌∷◌, Option, Some, None, slice_get}
use Rattle.std.proofs.lemmas.Bool.{and_parts}
use Rattle.std.proofs.lemmas.Bool.Decides.{nat_tests}
use Rattle.sp_words.specs.declared.words.HookName.{HookName}
use Rattle.sp_words.specs.declared.words.HookName.TheVariants as event_is
use Rattle.sp_ast.specs.Trees.{Tree, absent, row, node, none, more}
use Rattle.sp_ast.specs.declared.forms.Form.TheVariants as form_is
use Rattle.sp_types.specs.Types.{Ty}
use Rattle.sp_types.proofs.Same.{same_itself}
use Rattle.sp_typed.specs.declared.words.Standing.TheVariants as standing_is
use Rattle.sp_typed_units.specs.declared.declarations.HookOf.{HookOf}
use Rattle.sp_typed_units.specs.declared.declarations.HookOf.TheVariants as of_is
use Rattle.sp_typed_units.specs.declared.declarations.Parameter.{Parameter}
use Rattle.sp_typed_units.specs.declared.declarations.Typed.{Typed}
use Rattle.sp_type_functions.specs.Events.{event_tells, are_told, fits, is_of_sink, is_of_elements}
use Rattle.sp_type_functions.specs.Hooks.{self_type, self_standing, current_standing}
use Rattle.sp_rule_lists.specs.Names.{is_of_nothing}
use Rattle.sp_rule_bodies.specs.ExprTests.{is_unmeant}
use Rattle.sp_code_meaning.specs.Layouts.{Layout}
use Rattle.sp_meaning.specs.Hooks.{has_current, is_foreach}
use Rattle.sp_code_programs.specs.programs.Routines.{hook_unit}
use Rattle.sp_law_lists.proofs.known_types_lemmas.Full.{never}
use Rattle.sp_law_lists.specs.fit_expr.Around.{Around}
use Rattle.sp_law_lists.specs.fit_expr.Test.{is_unit, local_is, unit_parameter, seen_parameter, parameter_type, parameter_is}
use Rattle.sp_law_lists.specs.fit_list.Bodies.{is_each_unit, is_empty, takes_nothing}
use Rattle.sp_solver.specs.Told.{told}
use Rattle.sp_names.specs.declared.rows.Declaration.{Declaration}
use Rattle.sp_names.specs.declared.sort.DeclSort.TheVariants as sort_is
use Rattle.sp_names.specs.Declarations.{all_of, type_tree_of, declaration_at}
use Rattle.sp_names.specs.Names.{declaration_of}
use Rattle.sp_type_modules.specs.Members.{unit_in}
use Rattle.sp_type_scopes.specs.Parameters.{parameters_in}
use Rattle.sp_type_list_context.specs.Contexts.{in_module, parameter_trees as context_trees, parameters_of as unit_parameters_of, all_parameters_of, all_parameters}
use Rattle.sp_type_hooks.specs.Hooks.{or_none, parameters_of}
use Rattle.sp_type_units.specs.UnitRows.{parameter_trees as row_trees}
use Rattle.sp_type_answers.specs.Settled.{Answers}
use Rattle.sp_type_answers.specs.Lists.{typed_of}
use Rattle.sp_law_lists.proofs.whole_list_lemmas.Modules.{none_found}
use Rattle.sp_law_lists.specs.fit_expr.Lists.{is_type}
use Rattle.sp_law_lists.proofs.passing_list_lemmas.Members.{round_of, unit_found}

pub equal_itself : (n : ℕ) → (n == n) ≡ true
equal_itself n = grind (arith, nat_tests)

-- `self` is the unit of which a hook is
pub self_leaf : (of : HookOf) → is_of_nothing of ≡ false → (is_unmeant (self_standing of) || is_unit (hook_unit of) (self_type of)) ≡ true
self_leaf of_is.Nothing e = never (sym e)
self_leaf (of_is.Unit n h) e = by (is_of_sink (of_is.Unit n h))
  where
    by : (b : Bool) → (is_unmeant (if b then standing_is.Hidden else standing_is.Meant) || (n == n)) ≡ true
    by true = equal_itself n
    by false = equal_itself n
self_leaf (of_is.Field n k) e = equal_itself n
self_leaf (of_is.Elements n k) e = equal_itself n
self_leaf (of_is.Anonymous n) e = equal_itself n
self_leaf (of_is.AnonymousElements n) e = equal_itself n

-- a hook of an event has no `$$`
pub no_current : (of : HookOf) (b : Bool) → has_current of ≡ false → is_of_nothing of ≡ false → (is_unmeant (current_standing of) || b) ≡ true
no_current of_is.Nothing b h e = never (sym e)
no_current (of_is.Unit n x) b h e = refl
no_current (of_is.Field n k) b h e = never (sym h)
no_current (of_is.Elements n k) b h e = never (sym h)
no_current (of_is.Anonymous n) b h e = never (sym h)
no_current (of_is.AnonymousElements n) b h e = never (sym h)

-- a hook of a field has no parameters of its own
pub no_own : {X : Type 0} (of : HookOf) (each container : Bool) (p : Parameter) (ps : List Parameter) → has_current of ≡ true → is_of_elements of ≡ false → fits of each container (p ∷ ps) ≡ true → X
no_own of_is.Nothing each container p ps h w e = never h
no_own (of_is.Unit n x) each container p ps h w e = never h
no_own (of_is.Field n k) each container p ps h w e = never e
no_own (of_is.Elements n k) each container p ps h w e = never (sym w)
no_own (of_is.Anonymous n) each container p ps h w e = never e
no_own (of_is.AnonymousElements n) each container p ps h w e = never (sym w)

-- a hook that each unit has is handed nothing
none_told : (ps : List Parameter) → are_told [] ps ≡ true → is_empty ps ≡ true
none_told [] e = refl
none_told (p ∷ ps) e = never e

event_nothing : (x : HookName) (ps : List Parameter) → are_told (event_tells x) ps ≡ true → (not (is_each_unit x) || is_empty ps) ≡ true
event_nothing event_is.Init ps e = none_told ps e
event_nothing event_is.Done ps e = none_told ps e
event_nothing event_is.Error ps e = none_told ps e
event_nothing event_is.Finally ps e = none_told ps e
event_nothing _ ps e = refl

pub nothing_taken : (of : HookOf) (each container : Bool) (ps : List Parameter) → fits of each container ps ≡ true → takes_nothing of ps ≡ true
nothing_taken (of_is.Unit n x) each container ps e = event_nothing x ps (and_parts (not each) (are_told (event_tells x) ps) e).1
nothing_taken of_is.Nothing each container ps e = refl
nothing_taken (of_is.Field n k) each container ps e = refl
nothing_taken (of_is.Elements n k) each container ps e = refl
nothing_taken (of_is.Anonymous n) each container ps e = refl
nothing_taken (of_is.AnonymousElements n) each container ps e = refl

pub run_once : (of : HookOf) → is_of_elements of ≡ false → is_foreach of ≡ false
run_once (of_is.Elements n k) e = never (sym e)
run_once (of_is.AnonymousElements n) e = never (sym e)
run_once _ e = refl

-- parameters behind those of a body are those of its unit
pub seen_behind : (around : Around) (k n : ℕ) (t : Ty) → around.places.own ≡ k → unit_parameter around around.unit n t ≡ true → seen_parameter around (k + n) t ≡ true
seen_behind around k n t own is =
    let o = around.places.own in
    let above : o ≤ k + n = omega (arith, own) in
    let past : nat_lt (k + n) o ≡ false = grind (arith, nat_tests) in
    let rest : (k + n) - o ≡ n = omega (arith, own) in
    ap (λ b. if b then local_is around (k + n) t else unit_parameter around around.unit ((k + n) - o) t) past ∙ ap (λ i. unit_parameter around around.unit i t) rest ∙ is

-- The parameters of a unit are those that its hooks see.
parameter_trees_are : (u : Tree) → context_trees u ≡ row_trees u
parameter_trees_are (node form_is.Unit span (more (row ps) ts)) = refl
parameter_trees_are (node form_is.Unit span (more absent ts)) = refl
parameter_trees_are (node form_is.Unit span (more (node form at us) ts)) = refl
parameter_trees_are (node form_is.Unit span none) = refl
parameter_trees_are (node _ span ts) = refl
parameter_trees_are absent = refl
parameter_trees_are (row ts) = refl

module _ (list : List Tree) (a : Answers list) where
  abbrev f : ℕ → Option Ty
  f = told a.types

  abbrev t : Typed
  t = typed_of list a

  abbrev all_units : List (List Parameter)
  all_units = all_parameters list f (told a.values) (told a.stored)

  units_get : (gs : List ℕ) (u : ℕ) → or_none (slice_get (all_parameters_of list f (told a.values) (told a.stored) gs) u) ≡ unit_parameters_of list f (told a.values) (told a.stored) (declaration_of list (slice_get gs u))
  units_get [] u = refl
  units_get (g ∷ gs) zero = refl
  units_get (g ∷ gs) (suc u) = units_get gs u

  pub unit_keeps : (places : Layout) (locals : List Ty) (unit : Option ℕ) (n : ℕ) (p : Parameter) → slice_get (parameters_of all_units unit) n ≡ Some p → unit_parameter (round_of t places locals unit) unit n p.ty ≡ true
  unit_keeps places locals None n p e = none_found p e
  unit_keeps places locals (Some u) n p e = by (slice_get (all_of sort_is.Unit list) u) refl (sym (ap (λ ps. slice_get ps n) (units_get (all_of sort_is.Unit list) u)) ∙ e)
    where
      found : (g : ℕ) (o : Option Declaration) → slice_get (all_of sort_is.Unit list) u ≡ Some g → declaration_at list g ≡ o → slice_get (unit_parameters_of list f (told a.values) (told a.stored) o) n ≡ Some p → parameter_is (slice_get t.units u) n p.ty ≡ true
      found g None at is h = none_found p h
      found g (Some d) at is h =
          let home = in_module list f (told a.values) (told a.stored) d.«module» in
          let same : parameters_in home (context_trees (unit_in (type_tree_of d.tree))) ≡ parameters_in home (row_trees (unit_in (type_tree_of d.tree))) = ap (parameters_in home) (parameter_trees_are (unit_in (type_tree_of d.tree))) in
          let there = sym (ap (λ ps. slice_get ps n) same) ∙ h in
          subst (λ o. parameter_is o n p.ty ≡ true) (sym (unit_found list a u g d at is))
          (subst (λ o. is_type (parameter_type o) p.ty ≡ true) (sym there) (same_itself p.ty))

      by : (o : Option ℕ) → slice_get (all_of sort_is.Unit list) u ≡ o → slice_get (unit_parameters_of list f (told a.values) (told a.stored) (declaration_of list o)) n ≡ Some p → parameter_is (slice_get t.units u) n p.ty ≡ true
      by None at h = none_found p h
      by (Some g) at h = found g (declaration_at list g) at refl h
