-- The units of a list in which no rule is broken and all is built are built of what has a meaning.
use Rattle.std.specs.Prelude.{Bool, true, false, ◌&&◌, length}
use Rattle.std.specs.List.{list_all}
use Rattle.std.proofs.Common.{ℕ, ◌≡◌, refl, sym, ap, subst, ◌∙◌, List, [], ◌∷◌, Option, Some, None, slice_get}
use Rattle.std.proofs.lemmas.Bool.{and_parts, and_from}
use Rattle.sp_ast.specs.Trees.{Tree, Trees}
use Rattle.sp_ast.specs.Slots.{is_formed}
use Rattle.sp_rules.specs.declared.fault.Fault.{Fault}
use Rattle.sp_types.specs.declared.words.Word.TheVariants as word_is
use Rattle.sp_types.specs.Types.{Ty, word}
use Rattle.sp_types.proofs.Same.{same_itself}
use Rattle.sp_typed.specs.declared.words.Standing.TheVariants as standing_is
use Rattle.sp_typed.specs.Exprs.{Expr, type_of}
use Rattle.sp_typed_units.specs.declared.declarations.Hook.{Hook}
use Rattle.sp_typed_units.specs.declared.declarations.Member.{Member}
use Rattle.sp_typed_units.specs.declared.declarations.Parameter.{Parameter}
use Rattle.sp_typed_units.specs.declared.declarations.Sink.{Sink}
use Rattle.sp_typed_units.specs.declared.declarations.Typed.{Typed}
use Rattle.sp_typed_units.specs.declared.declarations.Unit.{Unit as TypedUnit}
use Rattle.sp_typed_units.specs.declared.declarations.Variable.{Variable}
use Rattle.sp_typed_units.specs.Parts.{Parts, field, choice, no_parts, more_parts, parts}
use Rattle.sp_solver.specs.Told.{told}
use Rattle.sp_names.specs.declared.rows.Declaration.{Declaration}
use Rattle.sp_names.specs.declared.sort.DeclSort.TheVariants as sort_is
use Rattle.sp_names.specs.Declarations.{rows, all_of, sort_of, type_tree_of, declaration_at}
use Rattle.sp_type_context.specs.Contexts.{Around as Names}
use Rattle.sp_type_fields.specs.Parts.{Fields, field_place}
use Rattle.sp_type_scopes.specs.Parameters.{with_parameters}
use Rattle.sp_rule_lists.specs.Lists.{all_tests}
use Rattle.sp_rule_lists.specs.Names.{order_names, variable_names}
use Rattle.sp_rule_lists.specs.Bodies.{parameter_tests, order_tests, variable_tests}
use Rattle.sp_rule_lists.specs.Told.{values_of}
use Rattle.sp_type_hook_rows.specs.Sites.{sites}
use Rattle.sp_type_hook_rows.specs.HookRows.{hook_rows, keys_of}
use Rattle.sp_type_hook_rows.specs.Places.{key_at}
use Rattle.sp_type_values.specs.Answers.{values}
use Rattle.sp_type_list_context.specs.Contexts.{facts}
use Rattle.sp_type_units.specs.UnitRows.{inside_unit}
use Rattle.sp_unbuilt.specs.Fields.{kinds_in_unit, kinds_in_units}
use Rattle.sp_type_answers.specs.Settled.{Answers}
use Rattle.sp_type_answers.specs.Lists.{typed_of}
use Rattle.sp_type_answers.specs.Rules.{Breaks}
use Rattle.sp_meaning.specs.Units.{is_plain}
use Rattle.sp_meaning.specs.Integers.{last_order, module_order, integer_field}
use Rattle.sp_code_meaning.specs.Units.{unit_layout}
use Rattle.sp_law_programs.specs.finished_bodies.Built.{IsThere}
use Rattle.sp_law_programs.specs.finished_units.Built as built
use Rattle.sp_lower_unit.specs.Values as literals
use Rattle.sp_law_lists.specs.whole_list.Whole.{is_known_parameter, is_known_member, is_known_variable, is_known_unit, is_known_function}
use Rattle.sp_law_lists.proofs.whole_list_lemmas.None.{none_parts}
use Rattle.sp_law_lists.specs.known_constants.Given.{asked}
use Rattle.sp_law_lists.proofs.known_constants_lemmas.Declarations.{AllOf, at_all}
use Rattle.sp_law_lists.proofs.known_members_lemmas.Built.{nothing, two_parts}
use Rattle.sp_law_lists.proofs.known_members_lemmas.Contexts.{home}
use Rattle.sp_law_lists.proofs.known_members_lemmas.Shapes.{is_unit_sort, unit_tree}
use Rattle.sp_law_lists.proofs.known_members_lemmas.Units.{found_at, fine, items, ps, fields, row_here, suits, items_are_fine, tests, names}
use Rattle.sp_law_lists.proofs.passing_list_lemmas.BuiltTrees.{IsBuilt, AreBuilt, built_passes}
use Rattle.sp_law_lists.proofs.known_hooks_lemmas.Walks.{unit_passes, type_passes, declared_passes}
use Rattle.sp_law_lists.specs.fit_expr.Around.{Around}
use Rattle.sp_law_lists.specs.fit_expr.Lists.{is_type}
use Rattle.sp_law_lists.specs.fit_expr.Test.{parameter_type, parameter_is, expr_passes}
use Rattle.sp_law_lists.proofs.fit_expr_lemmas.Sound.{expr_sound}
use Rattle.sp_law_lists.specs.fit_list.Bodies.{HookPasses}
use Rattle.sp_law_lists.specs.fit_list.Locals.{unit_types}
use Rattle.sp_law_lists.specs.fit_list.Units.{has_member, unit_around, UnitPasses}
use Rattle.sp_law_lists.specs.fit_list.Units as fit
use Rattle.sp_law_lists.specs.known_kinds.Made.{AreMade}
use Rattle.sp_law_lists.proofs.known_kinds_lemmas.Names.{parameters_made, self_made}
use Rattle.sp_law_lists.specs.known_literals.Widened.{AreWidened}
use Rattle.sp_law_lists.specs.passing_list.Built.{unit_built}
use Rattle.sp_law_lists.specs.passing_list.Stored.{value_stored, variables_stored, UnitStores}
use Rattle.sp_law_lists.proofs.passing_list_lemmas.UnitRows.{row_found, of_row}
use Rattle.sp_law_lists.proofs.passing_list_lemmas.Names.{home_made, home_widens, parameters_widen, self_widens}
use Rattle.sp_law_lists.proofs.passing_list_lemmas.Bodies.{calls_asked}
use Rattle.sp_law_lists.proofs.passing_list_lemmas.FunctionBodies.{each_at}
use Rattle.sp_law_lists.proofs.passing_list_lemmas.Seen.{equal_itself, seen_behind}
use Rattle.sp_law_lists.proofs.passing_list_lemmas.Hung.{AllBelow, hooks_below}
use Rattle.sp_law_lists.proofs.passing_list_lemmas.Plain.{no_sinks, no_filters}
use Rattle.sp_law_lists.proofs.passing_list_lemmas.Owned.{AreOwned, module_owned, parameters_owned, self_owned}
use Rattle.sp_law_lists.proofs.passing_list_lemmas.Fields.{AllFields, items_so}
use Rattle.sp_law_lists.proofs.passing_list_lemmas.Units.{ValuePasses, VariablePasses, variables_are, each_passes}

plain_so : (filter : Bool) (sinks : List Sink) → filter ≡ false → sinks ≡ [] → is_plain filter sinks ≡ true
plain_so filter sinks f s = ap (λ b. is_plain b sinks) f ∙ ap (is_plain false) s

there : {A : Type 0} (o : Option A) (x : A) → o ≡ Some x → IsThere o
there o x e = subst IsThere (sym e) tt

each_nothing : (us : List TypedUnit) → nothing (kinds_in_units us) ≡ true → list_all (λ u. nothing (kinds_in_unit u)) us ≡ true
each_nothing [] e = refl
each_nothing (u ∷ us) e =
    let p = two_parts (kinds_in_unit u) (kinds_in_units us) e in
    and_from (nothing (kinds_in_unit u)) (list_all (λ x. nothing (kinds_in_unit x)) us) p.0 (each_nothing us p.1)

-- parameters of a unit
parameter_there : (xs : List Parameter) (n : ℕ) (p : Parameter) → slice_get xs n ≡ Some p → is_type (parameter_type (slice_get xs n)) p.ty ≡ true
parameter_there xs n p e = subst (λ o. is_type (parameter_type o) p.ty ≡ true) (sym e) (same_itself p.ty)

module _ (list : List Tree) (a : Answers list) (formed_list : list_all is_formed list ≡ true) (unbroken : (x : Fault) → Breaks list x → ⊥) (functions : list_all is_known_function (typed_of list a).functions ≡ true)
    (known : list_all is_known_unit (typed_of list a).units ≡ true) (all_built : list_all unit_built (typed_of list a).units ≡ true) (declarations : AllOf (λ (d : Declaration). IsBuilt d.tree) (rows list)) (kinds : nothing (kinds_in_units (typed_of list a).units) ≡ true)
    (hooks : (h : ℕ) (x : Hook) → slice_get (typed_of list a).hooks h ≡ Some x → (o : Option Ty) × HookPasses (typed_of list a) o x) where
  abbrev f : ℕ → Option Ty
  f = told a.types

  abbrev t : Typed
  t = typed_of list a

  -- hooks that hang on something
  each_there : (hs : List ℕ) → AllBelow (length t.hooks) hs → built.HooksAreBuilt t hs
  each_there [] all = tt
  each_there (h ∷ hs) all =
      let x = found_at t.hooks h all.0 in
      let passes = (hooks h x.0 x.1).1 in
      ((x.0, x.1, passes.once, passes.body.built), each_there hs all.1)

  module _ (n g : ℕ) (d : Declaration) (at : slice_get (all_of sort_is.Unit list) n ≡ Some g) (is : declaration_at list g ≡ Some d) (sort : is_unit_sort (sort_of d.tree) ≡ true) where
    abbrev m : ℕ
    m = d.«module»

    abbrev own : List Parameter
    own = ps list a formed_list unbroken n g d at is sort

    abbrev here : Trees
    here = items list a formed_list unbroken n g d at is sort

    abbrev known_fields : Fields
    known_fields = fields list a formed_list unbroken n g d at is sort

    abbrev pub the_row : TypedUnit
    the_row = row_here list a formed_list unbroken n g d at is sort

    abbrev outer : Names
    outer = home list a (told a.stored) m

    abbrev inside : Names
    inside = inside_unit n own outer

    abbrev pub around : Around
    around = unit_around t n

    row_at : slice_get t.units n ≡ Some the_row
    row_at = row_found list a formed_list unbroken n g d at is sort

    -- all that is named round its expressions is kept
    inside_made : AreMade around inside
    inside_made =
        let outer_made = home_made list a formed_list unbroken unit_layout unit_types (Some n) m in
        let kept = λ (k : ℕ) (p : Parameter) (e : slice_get own k ≡ Some p). seen_behind around 0 k p.ty refl (subst (λ o. parameter_is o k p.ty ≡ true) (sym row_at) (parameter_there own k p e)) in
        self_made around (with_parameters 0 false own outer) (word (word_is.Unit n)) standing_is.Meant (parameters_made around outer 0 false own outer_made kept) (equal_itself n)

    inside_wide : AreWidened inside
    inside_wide = self_widens (with_parameters 0 false own outer) (word (word_is.Unit n)) standing_is.Meant (parameters_widen outer 0 false own (home_widens list a formed_list unbroken m))

    inside_owned : AreOwned around inside
    inside_owned = self_owned around (with_parameters 0 false own outer) (word (word_is.Unit n)) standing_is.Meant (parameters_owned around outer 0 false own (module_owned around list (facts list f (told a.values) (told a.stored)) m))

    -- its variables
    pub variables_pass : AllOf (VariablePasses around) the_row.variables
    variables_pass =
        let k = asked t in
        let x = none_parts (all_tests order_names the_row.orders) _ (names list a formed_list unbroken n g d at is sort) in
        let y = none_parts (all_tests (variable_names m) the_row.variables) _ x.1 in
        let p = none_parts (all_tests (parameter_tests m) the_row.parameters) _ (tests list a formed_list unbroken n g d at is sort) in
        let q = none_parts (all_tests (order_tests k) the_row.orders) _ p.1 in
        let o = none_parts (all_tests (variable_tests k m the_row.members) the_row.variables) _ q.1 in
        let right = each_at is_known_unit t.units n the_row row_at known in
        let r = and_parts (list_all is_known_parameter the_row.parameters) _ right in
        let s = and_parts (list_all is_known_member the_row.members) _ r.1 in
        let u = and_parts (list_all is_known_variable the_row.variables) _ s.1 in
        each_passes around inside inside_made inside_wide inside_owned k m (calls_asked t (values_of t) [] unit_layout unit_types (Some n) functions) refl the_row.members the_row.variables (variables_are inside known_fields here)
        (each_at unit_built t.units n the_row row_at all_built) u.0 y.0 o.0

    -- nothing in its tree isn't built
    items_built : AreBuilt here
    items_built =
        let tree = at_all (λ (x : Declaration). IsBuilt x.tree) (rows list) g d declarations is in
        let whole = fine list a formed_list unbroken n g d at is sort in
        let unit = type_passes (λ m x. IsBuilt x) (λ m xs. AreBuilt xs) built_passes m n (type_tree_of d.tree) (declared_passes (λ m x. IsBuilt x) (λ m xs. AreBuilt xs) built_passes m n d.tree tree) in
        unit_passes (λ m x. IsBuilt x) (λ m xs. AreBuilt xs) built_passes m n (unit_tree whole.1.span whole.1.parameters whole.1.items) (subst IsBuilt whole.1.is unit)

    -- its fields
    pub all_fields : AllFields inside (values list f (told a.values)) known_fields (parts the_row.parts)
    all_fields =
        let k = each_at (λ u. nothing (kinds_in_unit u)) t.units n the_row row_at (each_nothing t.units kinds) in
        items_so inside (values list f (told a.values)) known_fields list f m m here (suits list a formed_list unbroken n g d at is sort).1 (items_are_fine list a formed_list unbroken n g d at is sort) items_built k

    -- each part is an integer, whatever the byte order
    parts_there : (o : Option ℕ) (xs : Parts) → AllFields inside (values list f (told a.values)) known_fields xs → built.PartsAreBuilt t o xs
    parts_there o no_parts all = tt
    parts_there o (more_parts (field x) xs) all =
        let own = all.0 in
        let form = own.reads o in
        let hung = subst (λ hs. AllBelow (length t.hooks) hs) (sym own.hooks_are) (hooks_below (keys_of (hook_rows list f)) t.hooks (key_at list (n, (field_place own.span own.name).from) (sites list))) in
        ((there (integer_field o x) form.0 form.1, each_there x.hooks hung), parts_there o xs all.1)
    parts_there o (more_parts (choice span subject rows) xs) all = absurd all

    values_built : (vs : List Variable) → AllOf (VariablePasses around) vs → built.VariablesAreBuilt t vs × literals.ValuesFit vs
    values_built [] all = (tt, tt)
    values_built (v ∷ vs) all =
        let rest = values_built vs all.1 in
        let one = by v.value all.0 in
        ((one.0, rest.0), (one.1, rest.1))
      where
        by : (o : Option Expr) → ValuePasses around o → built.ValueIsBuilt t o × literals.ValueFits o
        by None h = (tt, tt)
        by (Some e) h = (let sound = expr_sound around e h in (sound.built, sound.literals))

    -- variables that have their members pass
    variables_so : (members : List Member) (vs : List Variable) → AllOf (VariablePasses around) vs → variables_stored members vs ≡ true → fit.variables_pass around members vs ≡ true
    variables_so members [] all stored = refl
    variables_so members (v ∷ vs) all stored =
        let member = slice_get members v.member in
        let p = and_parts (has_member member) (value_stored member v.value && variables_stored members vs) stored in
        let q = and_parts (value_stored member v.value) (variables_stored members vs) p.1 in
        and_from (has_member member && fit.value_passes around members v.member v.value) (fit.variables_pass around members vs)
        (and_from (has_member member) (fit.value_passes around members v.member v.value) p.0 (by v.value all.0 q.0)) (variables_so members vs all.1 q.1)
      where
        by : (o : Option Expr) → ValuePasses around o → value_stored (slice_get members v.member) o ≡ true → fit.value_passes around members v.member o ≡ true
        by None h is = refl
        by (Some e) h is = and_from (expr_passes around e) (fit.member_is_of (slice_get members v.member) (type_of e)) h is

    row_passes : UnitStores t n the_row → UnitPasses t n the_row
    row_passes stores = record {
      plain = plain_so the_row.filter the_row.sinks (no_filters here items_built) (no_sinks known_fields here items_built);
      variables = variables_so the_row.members the_row.variables variables_pass stores.variables;
      parts = stores.parts;
    }

    row_built : built.UnitIsBuilt t n the_row
    row_built = record {
      plain = plain_so the_row.filter the_row.sinks (no_filters here items_built) (no_sinks known_fields here items_built);
      variables = (values_built the_row.variables variables_pass).0;
      parts = parts_there (last_order (module_order the_row.«module» None t.orders) the_row.orders) (parts the_row.parts) all_fields;
      hooks = λ name h y listed of. (hooks h y listed).1.body.built;
    }

    row_fits : literals.ValuesFit the_row.variables
    row_fits = (values_built the_row.variables variables_pass).1

  -- Units are built, and the literals in the values of their variables are of their types.
  pub units_built : (n : ℕ) (x : TypedUnit) → slice_get t.units n ≡ Some x → built.UnitIsBuilt t n x
  units_built n x listed = (let r = of_row list a formed_list unbroken n x listed in subst (built.UnitIsBuilt t n) r.same (row_built n r.g r.d r.at r.is r.sort))

  pub units_fit : (n : ℕ) (x : TypedUnit) → slice_get t.units n ≡ Some x → literals.ValuesFit x.variables
  units_fit n x listed = (let r = of_row list a formed_list unbroken n x listed in subst (λ (y : TypedUnit). literals.ValuesFit y.variables) r.same (row_fits n r.g r.d r.at r.is r.sort))

  -- Units pass where their variables and fields store what their rows have.
  pub units_pass : (n : ℕ) (x : TypedUnit) → slice_get t.units n ≡ Some x → UnitStores t n x → UnitPasses t n x
  units_pass n x listed =
      let r = of_row list a formed_list unbroken n x listed in
      subst (λ (y : TypedUnit). UnitStores t n y → UnitPasses t n y) r.same (row_passes n r.g r.d r.at r.is r.sort)
