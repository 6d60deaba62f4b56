-- The bodies of a list in which no rule is broken and all is built pass; and the list does, where its units pass, too.
use Rattle.std.specs.Prelude.{true, false, ◌&&◌}
use Rattle.std.specs.List.{list_all}
use Rattle.std.proofs.Common.{ℕ, ◌≡◌, ap, ◌∙◌, List, Option, Some, None, slice_get}
use Rattle.std.proofs.lemmas.Bool.{and_parts, and_from}
use Rattle.sp_ast.specs.Trees.{Tree}
use Rattle.sp_ast.specs.Slots.{is_formed}
use Rattle.sp_rules.specs.declared.fault.Fault.{Fault}
use Rattle.sp_types.specs.Types.{Ty}
use Rattle.sp_typed_units.specs.declared.declarations.Function.{Function}
use Rattle.sp_typed_units.specs.declared.declarations.Hook.{Hook}
use Rattle.sp_typed_units.specs.declared.declarations.Typed.{Typed}
use Rattle.sp_typed_units.specs.declared.declarations.Unit.{Unit as TypedUnit}
use Rattle.sp_solver.specs.Told.{told}
use Rattle.sp_names.specs.declared.rows.Declaration.{Declaration}
use Rattle.sp_names.specs.Declarations.{rows as declared_rows}
use Rattle.sp_names.specs.Types.{or_unknown}
use Rattle.sp_type_hook_rows.specs.declared.rows.HookRow.{HookRow}
use Rattle.sp_type_hook_rows.specs.HookRows.{hook_rows}
use Rattle.sp_type_functions.specs.Events.{is_of_elements}
use Rattle.sp_type_answers.specs.Settled.{Answers}
use Rattle.sp_type_answers.specs.Lists.{typed_of}
use Rattle.sp_type_answers.specs.Rules.{Breaks}
use Rattle.sp_unbuilt.specs.Fields.{kinds_in_units}
use Rattle.sp_unbuilt.specs.Unbuilt.{Texts, tests_from, unbuilt_tests, first_unbuilt}
use Rattle.sp_meaning.specs.Globals.{globals_of}
use Rattle.sp_law_programs.specs.finished_bodies.Built.{StmtIsBuilt}
use Rattle.sp_law_programs.specs.finished_units.Built.{UnitIsBuilt}
use Rattle.sp_lower_unit.specs.Values.{ValuesFit}
use Rattle.sp_lower_stmt.specs.Literals.{StmtLiteralsFit}
use Rattle.sp_law_programs.specs.whole_program.Laws.{MembersAreListed, FunctionsAreEntered, CurrentsAreListed}
use Rattle.sp_law_lists.specs.whole_list.Whole.{is_known_order, is_known_enum, is_known_constant, is_known_unit, is_known_function, is_known_hook, is_known_list}
use Rattle.sp_law_lists.proofs.known_constants_lemmas.Declarations.{AllOf, at_all}
use Rattle.sp_law_lists.specs.known_members.Given.{unit_reads}
use Rattle.sp_law_lists.proofs.known_members_lemmas.CanRead.{units_read}
use Rattle.sp_law_lists.proofs.known_members_lemmas.Rounds.{NoneIsPassed, members_known}
use Rattle.sp_law_lists.proofs.known_members_lemmas.Built.{nothing, two_parts, none_noted}
use Rattle.sp_law_lists.proofs.passing_list_lemmas.BuiltTrees.{IsBuilt, declarations_built, rows_whole}
use Rattle.sp_law_lists.proofs.known_hooks_lemmas.Lists.{list_known}
use Rattle.sp_law_lists.specs.fit_list.Passes.{Bodies, ListPasses}
use Rattle.sp_law_lists.specs.fit_list.Stored.{type_for}
use Rattle.sp_law_lists.specs.fit_list.Bodies.{current_of, FunctionPasses, HookPasses}
use Rattle.sp_law_lists.specs.fit_list.Units.{UnitPasses}
use Rattle.sp_law_lists.proofs.fit_list_lemmas.Whole.{list_passes}
use Rattle.sp_law_lists.specs.passing_list.Built.{function_built, hook_built, unit_built, list_built}
use Rattle.sp_law_lists.specs.field_places.Apart.{fields_apart}
use Rattle.sp_law_lists.specs.passing_list.Hooked.{seen_in, AreHooked}
use Rattle.sp_law_lists.specs.passing_list.Stored.{UnitStores}
use Rattle.sp_law_lists.proofs.passing_list_lemmas.ConstantValues.{constants_so}
use Rattle.sp_law_lists.proofs.passing_list_lemmas.BuiltLists.{functions_are_built, hooks_are_built, units_are_built}
use Rattle.sp_law_lists.proofs.passing_list_lemmas.BuiltUnits.{units_built, units_fit, units_pass}
use Rattle.sp_law_lists.proofs.passing_list_lemmas.FunctionBodies.{functions_pass}
use Rattle.sp_law_lists.proofs.passing_list_lemmas.Hooks.{told_current, passes_over, passes_so}
use Rattle.sp_law_lists.proofs.passing_list_lemmas.Hooked.{are_hooked}
use Rattle.sp_law_lists.proofs.passing_list_lemmas.StoredUnits.{units_store}
use Rattle.sp_law_lists.proofs.passing_list_lemmas.Alike.{fields_agree}

module _ (texts : Texts) (list : List Tree) (a : Answers list) (formed : list_all is_formed list ≡ true) (unbroken : (x : Fault) → Breaks list x → ⊥) (passed : NoneIsPassed) (all_built : first_unbuilt texts list (typed_of list a) ≡ None) where
  abbrev t : Typed
  t = typed_of list a

  abbrev rows : List HookRow
  rows = hook_rows list (told a.types)

  reads : list_all unit_reads t.units ≡ true
  reads = units_read list a formed unbroken

  single : AllOf (λ (r : HookRow). is_of_elements r.of ≡ false) rows
  single = rows_whole texts list a formed unbroken all_built

  known : is_known_list t ≡ true
  known = list_known list a formed unbroken reads passed

  record AllKnown : Type 0 where
    units : list_all is_known_unit t.units ≡ true
    functions : list_all is_known_function t.functions ≡ true
    hooks : list_all is_known_hook t.hooks ≡ true

  all_known : AllKnown
  all_known =
      let p = and_parts (list_all is_known_order t.orders) _ known in
      let q = and_parts (list_all is_known_enum t.enums) _ p.1 in
      let r = and_parts (list_all is_known_constant t.constants) _ q.1 in
      let s = and_parts (list_all is_known_unit t.units) _ r.1 in
      let u = and_parts (list_all is_known_function t.functions) (list_all is_known_hook t.hooks) s.1 in
      record { units = s.0; functions = u.0; hooks = u.1 }

  -- what is built as trees is built as nodes
  declarations : AllOf (λ (d : Declaration). IsBuilt d.tree) (declared_rows list)
  declarations = declarations_built texts list t all_built

  record AllBuilt : Type 0 where
    functions : list_all function_built t.functions ≡ true
    hooks : list_all hook_built t.hooks ≡ true
    units : list_all unit_built t.units ≡ true

  are_built : AllBuilt
  are_built = record {
    functions = functions_are_built list a unbroken declarations all_known.functions;
    hooks = hooks_are_built list a unbroken declarations all_known.hooks;
    units = units_are_built list a unbroken declarations all_known.units;
  }

  pub list_is_built : list_built t ≡ true
  list_is_built =
      and_from (list_all function_built t.functions) (list_all hook_built t.hooks && list_all unit_built t.units) are_built.functions
      (and_from (list_all hook_built t.hooks) (list_all unit_built t.units) are_built.hooks are_built.units)

  -- functions and hooks
  pub each_function : (n : ℕ) (x : Function) → slice_get t.functions n ≡ Some x → FunctionPasses t x
  each_function = functions_pass list a formed unbroken (members_known list a formed unbroken reads passed) all_known.functions are_built.functions

  pub each_hook : (n : ℕ) (x : Hook) → slice_get t.hooks n ≡ Some x → (o : Option Ty) × HookPasses t o x
  each_hook = passes_so list a formed unbroken reads passed single all_known.functions all_known.hooks are_built.hooks

  -- units
  kinds : nothing (kinds_in_units t.units) ≡ true
  kinds = (two_parts (tests_from texts 0 list) (kinds_in_units t.units) (none_noted (unbuilt_tests texts list t) all_built)).1

  pub each_unit : (n : ℕ) (x : TypedUnit) → slice_get t.units n ≡ Some x → UnitIsBuilt t n x
  each_unit = units_built list a formed unbroken all_known.functions all_known.units are_built.units declarations kinds each_hook

  pub each_values : (n : ℕ) (x : TypedUnit) → slice_get t.units n ≡ Some x → ValuesFit x.variables
  each_values = units_fit list a formed unbroken all_known.functions all_known.units are_built.units declarations kinds each_hook

  each_passing : (n : ℕ) (x : TypedUnit) → slice_get t.units n ≡ Some x → UnitStores t n x → UnitPasses t n x
  each_passing = units_pass list a formed unbroken all_known.functions all_known.units are_built.units declarations kinds each_hook

  pub bodies_built : Bodies t (StmtIsBuilt (globals_of t) t.functions)
  bodies_built = record { functions = λ n x at. (each_function n x at).built; hooks = λ n x at. (each_hook n x at).1.body.built }

  pub bodies_fit : Bodies t StmtLiteralsFit
  bodies_fit = record { functions = λ n x at. (each_function n x at).literals; hooks = λ n x at. (each_hook n x at).1.body.literals }

  -- where the field of each body stores what its hook sees
  hook_over : AreHooked list a → (n : ℕ) (x : Hook) → slice_get t.hooks n ≡ Some x → HookPasses t (type_for t n) x
  hook_over hooked n x at =
      passes_over list a formed unbroken reads passed single all_known.functions all_known.hooks are_built.hooks n x at (type_for t n)
      (λ r is has. (
      let seen = or_unknown (seen_in list a r).0 in
      ap (current_of r.of) (hooked n r is has) ∙ told_current r.of seen has (at_all (λ (y : HookRow). is_of_elements y.of ≡ false) rows n r single is)
      ))

  -- the list
  pub whole_passes : MembersAreListed → FunctionsAreEntered → CurrentsAreListed → list_all fields_apart list ≡ true → ListPasses t
  whole_passes members entered currents apart =
      let hooked = are_hooked list a formed unbroken apart single in
      let declared = declarations_built texts list t all_built in
      let agree = fields_agree list a formed unbroken apart reads passed all_known.functions all_known.units are_built.units declared kinds each_hook in
      let stores = units_store list a formed unbroken reads passed single all_known.functions all_known.units are_built.units declared kinds each_hook agree in
      list_passes members entered currents t (constants_so list a formed unbroken) each_function (hook_over hooked) (λ u x at. each_passing u x at (stores u x at))
