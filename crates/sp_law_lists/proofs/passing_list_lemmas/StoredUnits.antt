-- The variables and fields of the units of a list in which no rule is broken and all is built store what their rows have, where fields
-- that have a body of a hook in common store the same.
use Rattle.std.specs.Prelude.{Bool, true, false, ◌&&◌}
use Rattle.std.specs.List.{list_all}
use Rattle.std.proofs.Common.{ℕ, ◌≡◌, refl, sym, ap, subst, ◌∙◌, List, Option, Some, None, slice_get}
use Rattle.std.proofs.lemmas.Bool.{and_parts, and_from}
use Rattle.sp_ast.specs.Trees.{Tree}
use Rattle.sp_ast.specs.Slots.{is_formed}
use Rattle.sp_rules.specs.declared.fault.Fault.{Fault}
use Rattle.sp_types.specs.Types.{Ty}
use Rattle.sp_typed_units.specs.declared.declarations.Hook.{Hook}
use Rattle.sp_typed_units.specs.declared.declarations.Typed.{Typed}
use Rattle.sp_typed_units.specs.declared.declarations.Unit.{Unit as TypedUnit}
use Rattle.sp_typed_units.specs.Parts.{Parts, field, choice, no_parts, more_parts, parts}
use Rattle.sp_solver.specs.Told.{told}
use Rattle.sp_names.specs.declared.rows.Declaration.{Declaration}
use Rattle.sp_names.specs.declared.sort.DeclSort.TheVariants as sort_is
use Rattle.sp_names.specs.Declarations.{rows, all_of, sort_of, declaration_at}
use Rattle.sp_type_context.specs.Contexts.{Around as Names}
use Rattle.sp_type_fields.specs.Values.{Values}
use Rattle.sp_type_fields.specs.Parts.{Fields, field_place}
use Rattle.sp_type_functions.specs.Events.{is_of_elements}
use Rattle.sp_type_hooks.specs.Fields.{seen_of}
use Rattle.sp_type_hooks.specs.Hooks.{ranks_of}
use Rattle.sp_rule_lists.specs.Lists.{all_tests}
use Rattle.sp_rule_lists.specs.Bodies.{parameter_tests, order_tests, variable_tests}
use Rattle.sp_type_hook_rows.specs.declared.rows.HookRow.{HookRow}
use Rattle.sp_type_hook_rows.specs.Sites.{sites}
use Rattle.sp_type_hook_rows.specs.HookRows.{hook_rows}
use Rattle.sp_type_hook_rows.specs.Places.{key_at}
use Rattle.sp_type_values.specs.Answers.{values}
use Rattle.sp_type_list_context.specs.Contexts.{in_modules, in_units, all_parameters}
use Rattle.sp_type_units.specs.UnitRows.{inside_unit}
use Rattle.sp_unbuilt.specs.Fields.{kinds_in_units}
use Rattle.sp_type_declarations.specs.FunctionsAndOrders.{ranks}
use Rattle.sp_type_answers.specs.Settled.{Answers}
use Rattle.sp_type_answers.specs.Lists.{typed_of}
use Rattle.sp_type_answers.specs.Rules.{Breaks}
use Rattle.sp_meaning.specs.Integers.{last_order, module_order}
use Rattle.sp_law_lists.specs.whole_list.Whole.{is_known_parameter, is_known_member, is_known_variable, is_known_unit, is_known_function}
use Rattle.sp_law_lists.proofs.whole_list_lemmas.None.{none_parts}
use Rattle.sp_law_lists.specs.known_constants.Given.{asked}
use Rattle.sp_law_lists.proofs.known_constants_lemmas.Declarations.{AllOf, at_all}
use Rattle.sp_law_lists.specs.known_members.Given.{unit_reads}
use Rattle.sp_law_lists.proofs.known_members_lemmas.Built.{nothing}
use Rattle.sp_law_lists.proofs.known_members_lemmas.Contexts.{home}
use Rattle.sp_law_lists.proofs.known_members_lemmas.Rounds.{NoneIsPassed}
use Rattle.sp_law_lists.proofs.known_members_lemmas.Shapes.{is_unit_sort}
use Rattle.sp_law_lists.proofs.known_members_lemmas.Units.{ps, fields, tests}
use Rattle.sp_law_lists.specs.fit_list.Bodies.{HookPasses}
use Rattle.sp_law_lists.specs.fit_list.Units.{is_read, stored_passes, store_passes, bodies_pass, field_passes, parts_pass}
use Rattle.sp_law_lists.proofs.passing_list_lemmas.Agreeing.{PartsAgree, FieldsAgree}
use Rattle.sp_law_lists.specs.passing_list.Built.{unit_built}
use Rattle.sp_law_lists.specs.passing_list.Stored.{variables_stored, UnitStores}
use Rattle.sp_law_lists.proofs.passing_list_lemmas.BuiltTrees.{IsBuilt}
use Rattle.sp_law_lists.proofs.passing_list_lemmas.FunctionBodies.{each_at}
use Rattle.sp_law_lists.proofs.passing_list_lemmas.Fields.{AllFields}
use Rattle.sp_law_lists.proofs.passing_list_lemmas.UnitRows.{row_found, of_row}
use Rattle.sp_law_lists.proofs.passing_list_lemmas.BuiltUnits.{the_row, all_fields}
use Rattle.sp_law_lists.proofs.passing_list_lemmas.Untaken.{MemberIs, PartsAre}
use Rattle.sp_law_lists.proofs.passing_list_lemmas.StoredTypes.{rows_stored, own_variables, own_fields}
use Rattle.sp_law_lists.proofs.passing_list_lemmas.OwnBodies.{IsHungOn, hung, hook_there, bodies_so}

module _ (list : List Tree) (a : Answers list) (formed_list : list_all is_formed list ≡ true) (unbroken : (x : Fault) → Breaks list x → ⊥) (reads : list_all unit_reads (typed_of list a).units ≡ true) (passed : NoneIsPassed)
    (single : AllOf (λ (r : HookRow). is_of_elements r.of ≡ false) (hook_rows list (told a.types)))
    (functions : list_all is_known_function (typed_of list a).functions ≡ true) (known : list_all is_known_unit (typed_of list a).units ≡ true) (all_built : list_all unit_built (typed_of list a).units ≡ true) (declarations : AllOf (λ (d : Declaration). IsBuilt d.tree) (rows list)) (kinds : nothing (kinds_in_units (typed_of list a).units) ≡ true)
    (hooks : (h : ℕ) (x : Hook) → slice_get (typed_of list a).hooks h ≡ Some x → (o : Option Ty) × HookPasses (typed_of list a) o x) where
  abbrev f : ℕ → Option Ty
  f = told a.types

  abbrev t : Typed
  t = typed_of list a

  abbrev worth : Values
  worth = values list f (told a.values)

  abbrev hooks_listed : List HookRow
  hooks_listed = hook_rows list f

  module _ (n g : ℕ) (d : Declaration) (at : slice_get (all_of sort_is.Unit list) n ≡ Some g) (is : declaration_at list g ≡ Some d) (sort : is_unit_sort (sort_of d.tree) ≡ true) where
    abbrev m : ℕ
    m = d.«module»

    abbrev inside : Names
    inside = inside_unit n (ps list a formed_list unbroken n g d at is sort) (home list a (told a.stored) m)

    abbrev its_fields : Fields
    its_fields = fields list a formed_list unbroken n g d at is sort

    abbrev row_ : TypedUnit
    row_ = the_row list a formed_list unbroken functions known all_built declarations kinds hooks n g d at is sort

    there : slice_get t.units n ≡ Some row_
    there = row_found list a formed_list unbroken n g d at is sort

    -- its variables
    variables_so : variables_stored row_.members row_.variables ≡ true
    variables_so =
        let k = asked t in
        let p = none_parts (all_tests (parameter_tests m) row_.parameters) _ (tests list a formed_list unbroken n g d at is sort) in
        let q = none_parts (all_tests (order_tests k) row_.orders) _ p.1 in
        let o = none_parts (all_tests (variable_tests k m row_.members) row_.variables) _ q.1 in
        let right = each_at is_known_unit t.units n row_ there known in
        let r = and_parts (list_all is_known_parameter row_.parameters) _ right in
        let s = and_parts (list_all is_known_member row_.members) _ r.1 in
        let u = and_parts (list_all is_known_variable row_.variables) _ s.1 in
        rows_stored inside worth its_fields k m row_.members row_.variables s.0 (own_variables list a formed_list unbroken reads passed n g d at is sort) u.0 o.0

    -- its fields
    store_so : (signed : Bool) (ty : Ty) (o : Option ℕ) → is_read signed ty ≡ true → MemberIs inside worth its_fields row_.members o ty → store_passes row_.members o signed ≡ true
    store_so signed ty None e own = refl
    store_so signed ty (Some k) e own = ap (λ y. stored_passes y signed) own.1 ∙ ap (is_read signed) own.2 ∙ e

    parts_so : (o : Option ℕ) (xs : Parts) → AllFields inside worth its_fields xs → PartsAre inside worth its_fields row_.members xs → PartsAgree t.units xs → parts_pass t n row_.members o xs ≡ true
    parts_so o no_parts all own agree = refl
    parts_so o (more_parts (field x) xs) all own agree =
        let it = all.0 in
        let form = it.reads o in
        let signed = form.0.signed in
        let place = (field_place it.span it.name).from in
        let hook_of = hook_there (in_modules list f (told a.values) (told a.stored)) (ranks list f (told a.values)) (seen_of list (in_units list f (told a.values) (told a.stored)) worth (sites list)) (all_parameters list f (told a.values) (told a.stored)) hooks_listed in
        let once = λ (h : ℕ) (r : HookRow) (e : slice_get hooks_listed h ≡ Some r). at_all (λ (y : HookRow). is_of_elements y.of ≡ false) hooks_listed h r single e in
        let all_hung = subst (AllOf (IsHungOn hooks_listed (key_at list (n, place) (sites list)))) (sym it.hooks_are) (hung hooks_listed (ranks_of t.hooks) (key_at list (n, place) (sites list))) in
        let bodies = bodies_so list (sites list) hooks_listed once t hook_of n place signed x.ty form.2 x.hooks all_hung agree.0 in
        let one = ap (λ w. field_passes t n row_.members w x) form.1 ∙ and_from (store_passes row_.members x.member signed) (bodies_pass t n signed x.hooks) (store_so signed x.ty x.member form.2 own.0) bodies in
        ap (λ b. b && parts_pass t n row_.members o xs) one ∙ parts_so o xs all.1 own.1 agree.1
    parts_so o (more_parts (choice span subject cases) xs) all own agree = absurd all

    row_stores : PartsAgree t.units (parts row_.parts) → UnitStores t n row_
    row_stores agree = record {
      variables = variables_so;
      parts = parts_so (last_order (module_order row_.«module» None t.orders) row_.orders) (parts row_.parts) (all_fields list a formed_list unbroken functions known all_built declarations kinds hooks n g d at is sort) (own_fields list a formed_list unbroken reads passed n g d at is sort) agree;
    }

  -- Each unit stores what its row has.
  pub units_store : FieldsAgree t → (n : ℕ) (x : TypedUnit) → slice_get t.units n ≡ Some x → UnitStores t n x
  units_store agree n x listed =
      let r = of_row list a formed_list unbroken n x listed in
      subst (UnitStores t n) r.same (row_stores n r.g r.d r.at r.is r.sort (agree n _ (there n r.g r.d r.at r.is r.sort)))
