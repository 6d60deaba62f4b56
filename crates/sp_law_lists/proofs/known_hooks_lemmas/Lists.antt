-- All is known of the hooks of a list in which no rule is broken, and so of the whole list.
use Rattle.std.specs.Prelude.{◌||◌, not, if◌then◌else◌, is_some}
use Rattle.std.specs.List.{list_all}
use Rattle.std.proofs.Common.{ℕ, ℤ, ◌≡◌, ◌+◌, Bool, true, false, refl, sym, ap, subst, ◌∙◌, arith, List, [], ◌∷◌, Option, Some, None, slice_get}
use Rattle.std.proofs.lemmas.Bool.{and_parts, and_from}
use Rattle.sp_ast.specs.Trees.{Tree, absent, row, node, none, more}
use Rattle.sp_ast.specs.Slots.{is_formed}
use Rattle.sp_ast.specs.declared.forms.Form.TheVariants as form_is
use Rattle.sp_ast.specs.declared.forms.DeclForm.TheVariants as decl_is
use Rattle.sp_ast.specs.declared.forms.TypeForm.TheVariants as type_is
use Rattle.sp_rules.specs.declared.fault.Fault.{Fault}
use Rattle.sp_types.specs.Types.{Ty}
use Rattle.sp_typed.specs.Exprs.{Expr}
use Rattle.sp_typed_units.specs.declared.declarations.Parameter.{Parameter}
use Rattle.sp_typed_units.specs.declared.declarations.Hook.{Hook}
use Rattle.sp_typed_units.specs.declared.declarations.HookOf.{HookOf}
use Rattle.sp_typed_units.specs.declared.declarations.HookOf.TheVariants as of_is
use Rattle.sp_typed_units.specs.declared.declarations.Typed.{Typed}
use Rattle.sp_typed_units.specs.Parts.{parts}
use Rattle.sp_type_context.specs.Contexts.{Around}
use Rattle.sp_type_fields.specs.Values.{Values}
use Rattle.sp_type_constants.specs.Known.{Known as Constants}
use Rattle.sp_solver.specs.Told.{told}
use Rattle.sp_names.specs.Types.{or_unknown}
use Rattle.sp_names.specs.declared.rows.Declaration.{Declaration}
use Rattle.sp_names.specs.Declarations.{type_sort, sort_of, type_tree_of, declaration_at, number_at}
use Rattle.sp_type_modules.specs.Members.{unit_in, unit_items}
use Rattle.sp_type_functions.specs.declared.site.Site.{Site}
use Rattle.sp_type_functions.specs.Events.{is_of_elements, fits}
use Rattle.sp_type_functions.specs.Hooks.{current_type, current_standing, hook_of_body, hook_on}
use Rattle.sp_rule_bodies.specs.ExprTests.{is_unmeant}
use Rattle.sp_rule_lists.specs.Lists.{all_tests}
use Rattle.sp_rule_lists.specs.Told.{known_in, values_of}
use Rattle.sp_rule_lists.specs.Names.{is_of_nothing, hook_names}
use Rattle.sp_rule_lists.specs.Bodies.{own_hook_tests, hook_tests}
use Rattle.sp_type_values.specs.Answers.{values}
use Rattle.sp_type_hook_rows.specs.declared.sites.Site.{Site as Place}
use Rattle.sp_type_hook_rows.specs.declared.rows.HookRow.{HookRow}
use Rattle.sp_type_hook_rows.specs.Sites.{sites_among, sites_of, sites}
use Rattle.sp_type_hook_rows.specs.HookRows.{key_of, hook_rows}
use Rattle.sp_type_list_context.specs.Contexts.{in_module, in_modules, all_parameters, in_units}
use Rattle.sp_type_hooks.specs.Fields.{mark_of, first_stored, elements_of, one_of, seen_of}
use Rattle.sp_type_hooks.specs.Hooks.{seen_at, current_of, site_of, parameters_of, seen_by, written_hook, hook_in, typed_hooks}
use Rattle.sp_typed_units.specs.Hooks.{unit_of}
use Rattle.sp_type_answers.specs.Settled.{Answers}
use Rattle.sp_type_answers.specs.Lists.{typed_of}
use Rattle.sp_type_declarations.specs.FunctionsAndOrders.{ranks}
use Rattle.sp_type_units.specs.UnitRows.{inside_unit}
use Rattle.sp_type_answers.specs.Rules.{Breaks}
use Rattle.sp_law_lists.specs.known_types.Full.{is_full}
use Rattle.sp_law_lists.specs.known_types.Clear.{none_hold, any_op}
use Rattle.sp_law_lists.specs.known_types.Given.{IsKnown}
use Rattle.sp_law_lists.proofs.known_types_lemmas.Full.{never}
use Rattle.sp_law_lists.specs.known_values.Given.{AreTold}
use Rattle.sp_law_lists.specs.whole_list.Whole.{is_known_parameter, is_known_member, is_known_variable, are_known_parts, is_known_order, is_known_enum, is_known_constant, is_known_unit, is_known_function, is_known_hook, is_known_list}
use Rattle.sp_law_lists.proofs.whole_list_lemmas.Heads.{parameters_full}
use Rattle.sp_law_lists.proofs.whole_list_lemmas.None.{none_parts}
use Rattle.sp_law_lists.proofs.known_constants_lemmas.Declarations.{AllOf, declaration_fine}
use Rattle.sp_law_lists.proofs.known_constants_lemmas.Whole.{all_constants_known, all_enums_known}
use Rattle.sp_law_lists.proofs.unbroken_list_lemmas.Split.{declared_names, are_named, are_asked}
use Rattle.sp_law_lists.proofs.unbroken_list_lemmas.Lists.{are_unbroken}
use Rattle.sp_law_lists.proofs.unbroken_list_lemmas.Orders.{all_orders_known}
use Rattle.sp_law_lists.proofs.unbroken_list_lemmas.Bodies.{module_told, module_is_known, all_functions_known}
use Rattle.sp_law_lists.specs.known_members.Given.{unit_reads}
use Rattle.sp_law_lists.proofs.known_members_lemmas.Shapes.{is_unit_sort}
use Rattle.sp_law_lists.proofs.known_members_lemmas.Contexts.{home}
use Rattle.sp_law_lists.proofs.known_members_lemmas.Units.{k, suits, items_are_fine, items, fine, ps, fields, unit_at, row_here}
use Rattle.sp_law_lists.proofs.known_members_lemmas.Rounds.{NoneIsPassed, members_known}
use Rattle.sp_law_lists.proofs.known_units_lemmas.Units.{reads_sound, elements_full, units_known}
use Rattle.sp_law_lists.proofs.known_hooks_lemmas.Numbers.{unit_stands}
use Rattle.sp_law_lists.proofs.known_hooks_lemmas.Marks.{SiteFull, some_marked, first_there, element_full}
use Rattle.sp_law_lists.proofs.known_hooks_lemmas.Walks.{declared, all_places}
use Rattle.sp_law_lists.proofs.known_hooks_lemmas.Sites.{SiteFine, places_fine}
use Rattle.sp_law_lists.proofs.known_hooks_lemmas.Fields.{items_full}
use Rattle.sp_law_lists.proofs.known_hooks_lemmas.Seen.{unit_is, IsSeen, all_own}
use Rattle.sp_law_lists.proofs.known_hooks_lemmas.Contexts.{module_is, row_full, unit_here, all_full}
use Rattle.sp_law_lists.proofs.known_hooks_lemmas.Bodies.{types, paths, HookWritten}
use Rattle.sp_law_lists.proofs.known_hooks_lemmas.Rows.{RowGood, rows_good}
use Rattle.sp_law_lists.proofs.known_hooks_lemmas.Hooks.{behind_known, on_known}

-- a hook is of what its place says
pub of_body : (g : Around) (worth : Expr → Option ℤ) (s : Site) (units own : List Parameter) (x : Tree) → (hook_of_body g worth s units own x).of ≡ s.of
of_body g worth s units own (node (form_is.HookBody each) span (more priority (more body none))) = refl
of_body g worth s units own _ = refl

of_on : (g : Around) (worth : Expr → Option ℤ) (s : Site) (units : List Parameter) (x : Tree) → (hook_on g worth s units x).of ≡ s.of
of_on g worth s units (node form_is.Hook span (more (row own) (more body none))) = of_body g worth s units _ body
of_on g worth s units _ = refl

pub of_written : (g : Around) (worth : Expr → Option ℤ) (s : Site) (units : List Parameter) (hook : Option Tree) (body : Tree) → (written_hook g worth s units hook body).of ≡ s.of
of_written g worth s units (Some hook) body = of_on g worth s units hook
of_written g worth s units None body = of_body g worth s units [] body

-- one of elements stands on a container where it is written as it has to be
on_container : (of : HookOf) (each container : Bool) (own : List Parameter) → fits of each container own ≡ true → is_of_elements of ≡ true → container ≡ true
on_container of_is.Nothing each container own e elements = never elements
on_container (of_is.Unit n h) each container own e elements = never elements
on_container (of_is.Field n k) each container own e elements = never elements
on_container (of_is.Elements n k) each container own e elements = (and_parts container _ e).0
on_container (of_is.Anonymous n) each container own e elements = never elements
on_container (of_is.AnonymousElements n) each container own e elements = (and_parts container _ e).0

body_on : (g : Around) (worth : Expr → Option ℤ) (s : Site) (units own : List Parameter) (x : Tree) → (hook_of_body g worth s units own x).fits ≡ true → is_of_elements s.of ≡ true → s.container ≡ true
body_on g worth s units own (node (form_is.HookBody each) span (more priority (more body none))) e elements = on_container s.of each s.container own e elements
body_on g worth s units own _ e elements = on_container s.of false s.container [] e elements

hook_on_container : (g : Around) (worth : Expr → Option ℤ) (s : Site) (units : List Parameter) (x : Tree) → (hook_on g worth s units x).fits ≡ true → is_of_elements s.of ≡ true → s.container ≡ true
hook_on_container g worth s units (node form_is.Hook span (more (row own) (more body none))) e elements = body_on g worth s units _ body e elements
hook_on_container g worth s units _ e elements = on_container s.of false s.container [] e elements

pub written_on : (g : Around) (worth : Expr → Option ℤ) (s : Site) (units : List Parameter) (hook : Option Tree) (body : Tree) → (written_hook g worth s units hook body).fits ≡ true → is_of_elements s.of ≡ true → s.container ≡ true
written_on g worth s units (Some hook) body e elements = hook_on_container g worth s units hook e elements
written_on g worth s units None body e elements = body_on g worth s units [] body e elements

-- a hook that is of something is written as it has to be, and is asked
pub own_tests : (t : Typed) (worth : Constants) (h : Hook) → none_hold (hook_names h) ≡ true → none_hold (hook_tests t worth h) ≡ true → (is_of_nothing h.of ≡ false) × (h.fits ≡ true) × (none_hold (own_hook_tests t worth h) ≡ true)
own_tests t worth h names tests = by (is_of_nothing h.of) refl h.fits refl (and_parts (not (is_of_nothing h.of || not h.fits)) _ names).0 tests
  where
    by : (b : Bool) → is_of_nothing h.of ≡ b → (c : Bool) → h.fits ≡ c → not (b || not c) ≡ true → none_hold (if b then [] else own_hook_tests t worth h) ≡ true → (is_of_nothing h.of ≡ false) × (h.fits ≡ true) × (none_hold (own_hook_tests t worth h) ≡ true)
    by true is c fit n e = never n
    by false is true fit n e = (is, fit, e)
    by false is false fit n e = never n

module _ (list : List Tree) (a : Answers list) (formed_list : list_all is_formed list ≡ true) (unbroken : (x : Fault) → Breaks list x → ⊥) (reads : list_all unit_reads (typed_of list a).units ≡ true) (passed : NoneIsPassed) where
  abbrev f : ℕ → Option Ty
  f = told a.types

  abbrev t : Typed
  t = typed_of list a

  abbrev worth : Values
  worth = values list f (told a.values)

  abbrev units : List Around
  units = in_units list f (told a.values) (told a.stored)

  abbrev Full : Place → Type 0
  Full s = SiteFull units worth s

  -- the places of hooks in a declaration
  module _ (g : ℕ) (d : Declaration) (is : declaration_at list g ≡ Some d) where
    abbrev m : ℕ
    m = d.«module»

    place_fine : AllOf (SiteFine list f) (sites_of m (number_at list g) d.tree)
    place_fine = places_fine list f m (number_at list g) d.tree (declaration_fine list f formed_list (declared_names list a unbroken) g d is)

    unit_full : is_unit_sort (sort_of d.tree) ≡ true → AllOf Full (sites_among m (number_at list g) (unit_items (unit_in (type_tree_of d.tree))))
    unit_full sort =
        let n = number_at list g in
        let at = unit_stands list g d is (unit_is (sort_of d.tree) sort) in
        let whole = fine list a formed_list unbroken n g d at is sort in
        let here = items list a formed_list unbroken n g d at is sort in
        let u = row_here list a formed_list unbroken n g d at is sort in
        let known : is_known_unit u ≡ true = unit_at list a formed_list unbroken is_known_unit n g d whole.1 at is (units_known list a formed_list unbroken reads passed) in
        let p = and_parts (list_all is_known_parameter u.parameters) _ known in
        let q = and_parts (list_all is_known_member u.members) _ p.1 in
        let r = and_parts (list_all is_known_variable u.variables) _ q.1 in
        let s = and_parts (are_known_parts (parts u.parts)) (list_all is_known_order u.orders) r.1 in
        let inside = inside_unit n (ps list a formed_list unbroken n g d at is sort) (home list a (told a.stored) m) in
        let sound = reads_sound list a formed_list unbroken reads passed n g d at is sort in
        let full = items_full list f m n inside worth (fields list a formed_list unbroken n g d at is sort) (k list a formed_list unbroken) units (unit_here list a formed_list unbroken n g d at is sort) (elements_full list a formed_list unbroken reads passed n g d at is sort)
        here (suits list a formed_list unbroken n g d at is sort).1 (items_are_fine list a formed_list unbroken n g d at is sort) (s.0, sound.0, sound.1, sound.2) in
        subst (λ x. AllOf Full (sites_among m n (unit_items x))) (sym whole.1.is) full

    no_unit : (x : Tree) → is_unit_sort (type_sort x) ≡ false → unit_items (unit_in x) ≡ none
    no_unit (node (form_is.Type type_is.Unit) span ts) e = never (sym e)
    no_unit (node (form_is.Type _) span ts) e = refl
    no_unit (node _ span ts) e = refl
    no_unit absent e = refl
    no_unit (row ts) e = refl

    no_items : (x : Tree) → is_unit_sort (sort_of x) ≡ false → unit_items (unit_in (type_tree_of x)) ≡ none
    no_items (node (form_is.Decl (decl_is.Type public)) span (more name (more type ts))) e = no_unit type e
    no_items (node (form_is.Decl (decl_is.Type public)) span none) e = refl
    no_items (node (form_is.Decl (decl_is.Type public)) span (more name none)) e = refl
    no_items (node (form_is.Decl _) span ts) e = refl
    no_items (node (form_is.Type form) span ts) e = no_unit (node (form_is.Type form) span ts) e
    no_items (node _ span ts) e = refl
    no_items absent e = refl
    no_items (row ts) e = refl

    place_full : AllOf Full (sites_of m (number_at list g) d.tree)
    place_full = declared m (number_at list g) Full d.tree tt (by (is_unit_sort (sort_of d.tree)) refl)
      where
        by : (b : Bool) → is_unit_sort (sort_of d.tree) ≡ b → AllOf Full (sites_among m (number_at list g) (unit_items (unit_in (type_tree_of d.tree))))
        by true e = unit_full e
        by false e = subst (λ xs. AllOf Full (sites_among m (number_at list g) xs)) (sym (no_items d.tree e)) tt

  pub all_fine : AllOf (SiteFine list f) (sites list)
  all_fine = all_places list (SiteFine list f) place_fine

  all_stored : AllOf Full (sites list)
  all_stored = all_places list Full place_full

  -- `$$` of what a hook is of
  abbrev Sees : HookOf → Option ℕ → Option Ty × Option Ty
  Sees of place = seen_at (seen_of list units worth (sites list)) (mark_of (key_of of place))

  field_stored : (x : ℕ × ℕ × ℕ) → some_marked list x (sites list) ≡ true → is_full (or_unknown (first_stored list units worth x (sites list))) ≡ true
  field_stored x e =
      let first = first_there list units worth x (sites list) all_stored e in
      ap (λ o. is_full (or_unknown o)) first.is ∙ first.full

  element_seen : (x : ℕ × ℕ × ℕ) → is_some (one_of (elements_of list units worth x (sites list))) ≡ true → is_full (or_unknown (one_of (elements_of list units worth x (sites list)))) ≡ true
  element_seen x e = element_full list units worth x (sites list) all_stored e

  pub current_full : (of : HookOf) (place : Option ℕ) → is_of_nothing of ≡ false → IsSeen list of place → (is_of_elements of ≡ true → is_some (Sees of place).1 ≡ true) → (is_unmeant (current_standing of) || is_full (current_type of (current_of of (Sees of place).0 (Sees of place).1))) ≡ true
  current_full of_is.Nothing place something seen element = never (sym something)
  current_full (of_is.Unit n h) place something seen element = refl
  current_full (of_is.Field n k) place something seen element = field_stored (1, n, k) seen
  current_full (of_is.Elements n k) place something seen element = element_seen (1, n, k) (element refl)
  current_full (of_is.Anonymous n) None something seen element = absurd seen
  current_full (of_is.Anonymous n) (Some place) something seen element = field_stored (2, n, place) seen
  current_full (of_is.AnonymousElements n) None something seen element = never (element refl)
  current_full (of_is.AnonymousElements n) (Some place) something seen element = element_seen (2, n, place) (element refl)

  -- the parameters of what a hook is of
  pub unit_parameters : (o : Option ℕ) → parameters_full (parameters_of (all_parameters list f (told a.values) (told a.stored)) o) ≡ true
  unit_parameters None = refl
  unit_parameters (Some n) = row_full (all_parameters list f (told a.values) (told a.stored)) n (all_full list a formed_list unbroken)

  abbrev rank : Expr → Option ℤ
  rank = ranks list f (told a.values)

  abbrev all_units : List (List Parameter)
  all_units = all_parameters list f (told a.values) (told a.stored)

  -- a hook of a row
  module _ (r : HookRow) (good : RowGood list a formed_list unbroken r) where
    -- what it sees of its field
    abbrev own_seen : Option Ty × Option Ty
    own_seen = seen_by (seen_of list units worth (sites list)) r

    abbrev site_ : Site
    site_ = site_of own_seen r

    abbrev own_units : List Parameter
    own_units = parameters_of all_units (unit_of r.of)

    abbrev env : Around
    env = in_module list f (told a.values) (told a.stored) r.«module»

    pub env_known : (slots : List ℕ) → IsKnown env any_op (known_in t (values_of t) slots) r.«module» (types list a formed_list unbroken r.«module») (paths list a formed_list unbroken r.«module»)
    env_known slots = module_is_known list a formed_list unbroken (told a.stored) (members_known list a formed_list unbroken reads passed) slots r.«module»

    pub env_told : (slots : List ℕ) → AreTold env any_op (known_in t (values_of t) slots) r.«module» (values_of t) (paths list a formed_list unbroken r.«module»)
    env_told slots = module_told list a formed_list unbroken (told a.stored) slots r.«module»

    row_known : none_hold (hook_names (written_hook env rank site_ own_units r.hook r.body)) ≡ true → none_hold (hook_tests t (values_of t) (written_hook env rank site_ own_units r.hook r.body)) ≡ true → is_known_hook (written_hook env rank site_ own_units r.hook r.body) ≡ true
    row_known names tests =
        let asked = own_tests t (values_of t) (written_hook env rank site_ own_units r.hook r.body) names tests in
        let something : is_of_nothing r.of ≡ false = sym (ap is_of_nothing (of_written env rank site_ own_units r.hook r.body)) ∙ asked.0 in
        let current = current_full r.of r.field something good.1 (written_on env rank site_ own_units r.hook r.body asked.1) in
        by something current r.hook r.body good.0 names asked.2
      where
        by : is_of_nothing r.of ≡ false → (is_unmeant (current_standing r.of) || is_full (current_type r.of site_.current)) ≡ true → (hook : Option Tree) (body : Tree) → HookWritten list a formed_list unbroken r.«module» hook body → none_hold (hook_names (written_hook env rank site_ own_units hook body)) ≡ true → none_hold (own_hook_tests t (values_of t) (written_hook env rank site_ own_units hook body)) ≡ true
            → is_known_hook (written_hook env rank site_ own_units hook body) ≡ true
        by something current (Some hook) body written names tests =
            on_known t (values_of t) env site_ (types list a formed_list unbroken r.«module») (paths list a formed_list unbroken r.«module») env_known env_told own_units something (unit_parameters (unit_of r.of)) current rank hook written names tests
        by something current None body written names tests =
            behind_known t (values_of t) env site_ (types list a formed_list unbroken r.«module») (paths list a formed_list unbroken r.«module») env_known env_told own_units something (unit_parameters (unit_of r.of)) current rank body written names tests

    -- in the context of its module, if it has one
    pub one_known : (o : Option Around) → slice_get (in_modules list f (told a.values) (told a.stored)) r.«module» ≡ o → none_hold (hook_names (hook_in o rank all_units r (own_seen))) ≡ true → none_hold (hook_tests t (values_of t) (hook_in o rank all_units r (own_seen))) ≡ true
        → is_known_hook (hook_in o rank all_units r (own_seen)) ≡ true
    one_known None at names tests = refl
    one_known (Some g) at names tests =
        let z : 0 + r.«module» ≡ r.«module» = omega arith in
        let same : env ≡ g = ap (in_module list f (told a.values) (told a.stored)) (sym z) ∙ module_is list f (told a.values) (told a.stored) 0 list r.«module» g at in
        subst (λ x. none_hold (hook_names (written_hook x rank site_ own_units r.hook r.body)) ≡ true → none_hold (hook_tests t (values_of t) (written_hook x rank site_ own_units r.hook r.body)) ≡ true → is_known_hook (written_hook x rank site_ own_units r.hook r.body) ≡ true) same row_known names tests

  abbrev hooks_of : List HookRow → List Hook
  hooks_of rs = typed_hooks (in_modules list f (told a.values) (told a.stored)) rank (seen_of list units worth (sites list)) all_units rs

  each_known : (rs : List HookRow) → AllOf (RowGood list a formed_list unbroken) rs → none_hold (all_tests hook_names (hooks_of rs)) ≡ true → none_hold (all_tests (hook_tests t (values_of t)) (hooks_of rs)) ≡ true → list_all is_known_hook (hooks_of rs) ≡ true
  each_known [] good names tests = refl
  each_known (r ∷ rs) good names tests =
      let h = hook_in (slice_get (in_modules list f (told a.values) (told a.stored)) r.«module») rank all_units r (own_seen r good.0) in
      let n = none_parts (hook_names h) (all_tests hook_names (hooks_of rs)) names in
      let q = none_parts (hook_tests t (values_of t) h) (all_tests (hook_tests t (values_of t)) (hooks_of rs)) tests in
      and_from (is_known_hook h) (list_all is_known_hook (hooks_of rs)) (one_known r good.0 (slice_get (in_modules list f (told a.values) (told a.stored)) r.«module») refl n.0 q.0) (each_known rs good.1 n.1 q.1)

  pub hooks_known : list_all is_known_hook t.hooks ≡ true
  hooks_known =
      each_known (hook_rows list f) (rows_good list a formed_list unbroken all_fine (all_own list)) (are_named list a unbroken).hooks (are_asked list a unbroken).hooks

  -- All is known of the list.
  pub list_known : is_known_list t ≡ true
  list_known =
      let it = are_unbroken list a formed_list unbroken in
      and_from (list_all is_known_order t.orders) _ (all_orders_known list a formed_list unbroken)
      (and_from (list_all is_known_enum t.enums) _ (all_enums_known list f (told a.values) t it)
      (and_from (list_all is_known_constant t.constants) _ (all_constants_known list f (told a.values) t it)
      (and_from (list_all is_known_unit t.units) _ (units_known list a formed_list unbroken reads passed)
      (and_from (list_all is_known_function t.functions) (list_all is_known_hook t.hooks) (all_functions_known list a formed_list unbroken (members_known list a formed_list unbroken reads passed)) hooks_known))))
