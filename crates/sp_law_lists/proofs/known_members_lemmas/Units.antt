-- The units of a list in which no rule is broken: their rows by their trees, in which no test holds, and their parameters.
use Rattle.std.specs.Prelude.{◌==◌, if◌then◌else◌}
use Rattle.std.specs.List.{list_all}
use Rattle.std.proofs.Common.{ℕ, ◌≡◌, ◌+◌, ◌<◌, zero, suc, Bool, true, false, ◌&&◌, refl, ap, subst, ◌∙◌, arith, List, [], ◌∷◌, length, Option, Some, None, slice_get}
use Rattle.std.proofs.lemmas.Bool.{and_parts, and_from}
use Rattle.sp_base.specs.declared.places.Span.{Span}
use Rattle.sp_ast.specs.Trees.{Tree, Trees, row, none, more}
use Rattle.sp_ast.specs.Slots.{is_formed}
use Rattle.sp_ast.specs.Groups.{are_of}
use Rattle.sp_ast.specs.declared.groups.Group.TheVariants as group_is
use Rattle.sp_ast.specs.declared.forms.Form.TheVariants as form_is
use Rattle.sp_rules.specs.declared.fault.Fault.{Fault}
use Rattle.sp_types.specs.Types.{Ty}
use Rattle.sp_typed_units.specs.declared.declarations.Parameter.{Parameter}
use Rattle.sp_typed_units.specs.declared.declarations.Unit.{Unit}
use Rattle.sp_typed_units.specs.declared.declarations.Hook.{Hook}
use Rattle.sp_typed_units.specs.declared.declarations.Typed.{Typed}
use Rattle.sp_typed_units.specs.Parts.{parts}
use Rattle.sp_type_context.specs.Contexts.{Around}
use Rattle.sp_type_fields.specs.Values.{Values}
use Rattle.sp_type_fields.specs.Parts.{Fields}
use Rattle.sp_type_scopes.specs.Parameters.{parameters_in, with_parameters}
use Rattle.sp_solver.specs.Told.{told}
use Rattle.sp_names.specs.declared.rows.Declaration.{Declaration}
use Rattle.sp_names.specs.declared.sort.DeclSort.{DeclSort}
use Rattle.sp_names.specs.declared.sort.DeclSort.TheVariants as sort_is
use Rattle.sp_names.specs.Declarations.{rows, all_from, all_of, is_sort, sort_number, sort_of, type_tree_of, declaration_at}
use Rattle.sp_names.specs.Names.{declaration_of}
use Rattle.sp_names.specs.Types.{or_unknown}
use Rattle.sp_type_modules.specs.Members.{unit_in, unit_declaration}
use Rattle.sp_rule_bodies.specs.Known.{Known}
use Rattle.sp_rule_lists.specs.Lists.{all_tests}
use Rattle.sp_rule_lists.specs.Told.{values_of}
use Rattle.sp_rule_lists.specs.Names.{unit_names}
use Rattle.sp_rule_lists.specs.Bodies.{parameter_tests}
use Rattle.sp_rule_lists.specs.Wholes.{unit_tests}
use Rattle.sp_type_values.specs.declared.answer.Answer.{Answer}
use Rattle.sp_type_values.specs.Answers.{values}
use Rattle.sp_type_hook_rows.specs.declared.sites.Site.{Site}
use Rattle.sp_type_hook_rows.specs.declared.rows.HookRow.{HookRow}
use Rattle.sp_type_hook_rows.specs.Sites.{sites}
use Rattle.sp_type_hook_rows.specs.HookRows.{hook_rows}
use Rattle.sp_type_modules.specs.Sources.{units, questions}
use Rattle.sp_type_units.specs.UnitRows.{unit_row, row_after, declared_row, fields_in, inside_unit, parameter_trees as trees_of_parameters}
use Rattle.sp_type_list_context.specs.Contexts.{in_module, at_home, homes_of, all_parameters_of, parameters_of, seeing, seeing_parameters}
use Rattle.sp_type_answers.specs.Settled.{Answers}
use Rattle.sp_type_answers.specs.Lists.{calls_of, by_keys, hooks_in, units_from, typed_of}
use Rattle.sp_type_answers.specs.Rules.{Breaks}
use Rattle.sp_law_lists.specs.known_types.Full.{is_full}
use Rattle.sp_law_lists.specs.known_types.Clear.{none_hold}
use Rattle.sp_law_lists.proofs.known_types_lemmas.Full.{never}
use Rattle.sp_law_lists.specs.whole_list.Types.{is_type}
use Rattle.sp_law_lists.proofs.whole_list_lemmas.Blind.{known_blind}
use Rattle.sp_law_lists.proofs.whole_list_lemmas.Functions.{parameters_whole}
use Rattle.sp_law_lists.proofs.whole_list_lemmas.Heads.{parameters_full}
use Rattle.sp_law_lists.proofs.whole_list_lemmas.Modules.{none_found, some_found}
use Rattle.sp_law_lists.proofs.whole_list_lemmas.None.{none_parts, none_all}
use Rattle.sp_law_lists.specs.known_constants.Good.{is_told}
use Rattle.sp_law_lists.specs.known_constants.Given.{asked}
use Rattle.sp_law_lists.specs.known_constants.Fine.{IsFine, AreFine}
use Rattle.sp_law_lists.proofs.known_constants_lemmas.Fine.{inside as parts_fine, first, rest, formed}
use Rattle.sp_law_lists.proofs.known_constants_lemmas.Declarations.{AllOf, declaration_fine}
use Rattle.sp_rule_units.specs.Faults.{each}
use Rattle.sp_rule_units.specs.Units.{unit_tests as unit_rules_of}
use Rattle.sp_law_lists.proofs.unbroken_list_lemmas.Split.{unit_rules, declared_names, are_named, are_asked}
use Rattle.sp_law_lists.proofs.unbroken_list_lemmas.Bodies.{parameters_fine, module_is_known}
use Rattle.sp_law_lists.proofs.known_members_lemmas.Shapes.{unit_tree, IsUnit, is_unit_sort, declared_fine}
use Rattle.sp_law_lists.proofs.known_members_lemmas.Contexts.{FullMembers, home, parameters_alike}
use Rattle.sp_law_lists.proofs.known_members_lemmas.Fields.{filled, filled_full}
use Rattle.sp_law_lists.proofs.known_members_lemmas.Ranges.{full_members}

unit_is : (s : DeclSort) → (sort_number s == 3) ≡ true → is_unit_sort s ≡ true
unit_is sort_is.Unit e = refl
unit_is _ e = never e

-- the units of a list are declared
module _ (list : List Tree) where
  abbrev pub IsDeclared : ℕ → Type 0
  IsDeclared g = (d : Declaration) × (declaration_at list g ≡ Some d) × (is_unit_sort (sort_of d.tree) ≡ true)

  units_are : (h : ℕ) (ds : List Declaration) → ((j : ℕ) → slice_get (rows list) (h + j) ≡ slice_get ds j) → AllOf IsDeclared (all_from sort_is.Unit h ds)
  units_are h [] at = tt
  units_are h (d ∷ ds) at = by (is_sort sort_is.Unit d) refl (units_are (suc h) ds (λ j. (let e : suc h + j ≡ h + suc j = omega arith in ap (slice_get (rows list)) e ∙ at (suc j))))
    where
      by : (b : Bool) → is_sort sort_is.Unit d ≡ b → AllOf IsDeclared (all_from sort_is.Unit (suc h) ds) → AllOf IsDeclared (if b then h ∷ all_from sort_is.Unit (suc h) ds else all_from sort_is.Unit (suc h) ds)
      by true is next =
          let e : h ≡ h + 0 = omega arith in
          ((d, ap (slice_get (rows list)) e ∙ at 0, unit_is (sort_of d.tree) is), next)
      by false is next = next

  pub all_declared : AllOf IsDeclared (all_of sort_is.Unit list)
  all_declared = units_are 0 (rows list) (λ j. (let e : 0 + j ≡ j = omega arith in ap (slice_get (rows list)) e))

pub found_at : {A : Type 0} (xs : List A) (n : ℕ) → n < length xs → (x : A) × (slice_get xs n ≡ Some x)
found_at [] n lt = absurd (let z : ⊥ = omega (arith, lt) in z)
found_at (x ∷ xs) zero lt = (x, refl)
found_at (x ∷ xs) (suc n) lt = found_at xs n (omega (arith, lt))

module _ (list : List Tree) (f : ℕ → Option Ty) (known : ℕ → Option Answer) (s : ℕ → Option Ty) where
  home_at : (gs : List ℕ) (n g : ℕ) (d : Declaration) → slice_get gs n ≡ Some g → declaration_at list g ≡ Some d → slice_get (homes_of list f known s gs) n ≡ Some (in_module list f known s d.«module»)
  home_at [] n g d e at = none_found g e
  home_at (x ∷ gs) zero g d e at = ap (λ o. Some (at_home list f known s o)) (ap (declaration_at list) (some_found x g e) ∙ at)
  home_at (x ∷ gs) (suc n) g d e at = home_at gs n g d e at

  pub context_at : (gs : List ℕ) (n g : ℕ) (d : Declaration) → slice_get gs n ≡ Some g → declaration_at list g ≡ Some d
      → slice_get (seeing (homes_of list f known s gs) (all_parameters_of list f known s gs)) n ≡ Some (with_parameters 0 false (parameters_of list f known s (Some d)) (in_module list f known s d.«module»))
  context_at [] n g d e at = none_found g e
  context_at (x ∷ gs) zero g d e at = ap (λ o. Some (with_parameters 0 false (parameters_of list f known s o) (at_home list f known s o))) (ap (declaration_at list) (some_found x g e) ∙ at)
  context_at (x ∷ gs) (suc n) g d e at = context_at gs n g d e at

-- the tests at each of a list
none_each : {X : Type 0} (tests : X → List (Bool × Fault)) (xs : List X) → none_hold (each tests xs) ≡ true → list_all (λ x. none_hold (tests x)) xs ≡ true
none_each tests [] e = refl
none_each tests (x ∷ xs) e =
    let p = none_parts (tests x) (each tests xs) e in
    and_from (none_hold (tests x)) (list_all (λ y. none_hold (tests y)) xs) p.0 (none_each tests xs p.1)

module _ (list : List Tree) (a : Answers list) (formed_list : list_all is_formed list ≡ true) (unbroken : (x : Fault) → Breaks list x → ⊥) where
  abbrev pub f : ℕ → Option Ty
  f = told a.types

  abbrev pub t : Typed
  t = typed_of list a

  abbrev pub k : Known
  k = asked t

  abbrev pub v : Values
  v = values list f (told a.values)

  abbrev pub contexts : List Around
  contexts = seeing_parameters list f (told a.values) (told [])

  abbrev pub count : ℕ
  count = length (questions list)

  abbrev pub ss : List Site
  ss = sites list

  abbrev pub rs : List HookRow
  rs = hook_rows list f

  abbrev pub hs : List Hook
  hs = hooks_in list f (told a.values) a.stored ss rs

  -- what holds of each unit, by its number
  pub row_at : (p : Unit → Bool) (h : ℕ) (gs : List Around) (j : ℕ) (g : Around) → slice_get gs j ≡ Some g → list_all p (units_from list f (told a.values) a.stored ss rs hs h gs) ≡ true
      → p (unit_row list (told a.stored) ss (by_keys rs hs) v (calls_of hs (h + j)) g (h + j)) ≡ true
  row_at p h [] j g at e = none_found g at
  row_at p h (x ∷ gs) zero g at e =
      let s : h ≡ h + 0 = omega arith in
      let one = (and_parts (p (unit_row list (told a.stored) ss (by_keys rs hs) v (calls_of hs h) x h)) (list_all p (units_from list f (told a.values) a.stored ss rs hs (suc h) gs)) e).0 in
      subst (λ i. p (unit_row list (told a.stored) ss (by_keys rs hs) v (calls_of hs i) g i) ≡ true) s
      (subst (λ y. p (unit_row list (told a.stored) ss (by_keys rs hs) v (calls_of hs h) y h) ≡ true) (some_found x g at) one)
  row_at p h (x ∷ gs) (suc j) g at e =
      let s : suc h + j ≡ h + suc j = omega arith in
      subst (λ i. p (unit_row list (told a.stored) ss (by_keys rs hs) v (calls_of hs i) g i) ≡ true) s
      (row_at p (suc h) gs j g at (and_parts (p (unit_row list (told a.stored) ss (by_keys rs hs) v (calls_of hs h) x h)) (list_all p (units_from list f (told a.values) a.stored ss rs hs (suc h) gs)) e).1)

  -- the row of a unit by its tree
  abbrev pub row_of : ℕ → Declaration → Span → Trees → Trees → Unit
  row_of n d span pts items =
      row_after list (told a.stored) ss (by_keys rs hs) v (calls_of hs n) n d (unit_tree span pts items) (home list a (told a.stored) d.«module») (parameters_in (home list a (told a.stored) d.«module») pts)

  pub row_is : (n g : ℕ) (d : Declaration) (u : IsUnit (unit_in (type_tree_of d.tree))) → slice_get (all_of sort_is.Unit list) n ≡ Some g → declaration_at list g ≡ Some d
      → unit_row list (told a.stored) ss (by_keys rs hs) v (calls_of hs n) (home list a (told a.stored) d.«module») n ≡ row_of n d u.span u.parameters u.items
  row_is n g d u at is =
      let there : unit_declaration list n ≡ Some d = ap (declaration_of list) at ∙ is in
      let env = home list a (told a.stored) d.«module» in
      ap (declared_row list (told a.stored) ss (by_keys rs hs) v (calls_of hs n) env n) there
      ∙ ap (λ x. row_after list (told a.stored) ss (by_keys rs hs) v (calls_of hs n) n d x env (parameters_in env (trees_of_parameters x))) u.is

  pub unit_at : (p : Unit → Bool) (n g : ℕ) (d : Declaration) (u : IsUnit (unit_in (type_tree_of d.tree))) → slice_get (all_of sort_is.Unit list) n ≡ Some g → declaration_at list g ≡ Some d → list_all p t.units ≡ true
      → p (row_of n d u.span u.parameters u.items) ≡ true
  unit_at p n g d u at is e =
      let s : 0 + n ≡ n = omega arith in
      let env = home list a (told a.stored) d.«module» in
      let one = row_at p 0 (homes_of list f (told a.values) (told a.stored) (all_of sort_is.Unit list)) n env (home_at list f (told a.values) (told a.stored) (all_of sort_is.Unit list) n g d at is) e in
      subst (λ x. p x ≡ true) (row_is n g d u at is) (subst (λ i. p (unit_row list (told a.stored) ss (by_keys rs hs) v (calls_of hs i) env i) ≡ true) s one)

  -- any types of members that are full
  pub members_full : (s : ℕ → Option Ty) → ((i : ℕ) → is_full (or_unknown (s i)) ≡ true) → FullMembers list s
  members_full s all = full_members list a unbroken s (λ n k x e. all _)

  abbrev nothing_told : ℕ → Option Ty
  nothing_told i = None

  abbrev some_told : ℕ → Option Ty
  some_told = filled nothing_told

  module _ (n g : ℕ) (d : Declaration) (at : slice_get (all_of sort_is.Unit list) n ≡ Some g) (is : declaration_at list g ≡ Some d) (sort : is_unit_sort (sort_of d.tree) ≡ true) where
    abbrev pub m : ℕ
    m = d.«module»

    pub fine : IsFine list f m (unit_in (type_tree_of d.tree)) × IsUnit (unit_in (type_tree_of d.tree))
    fine = declared_fine list f m d.tree sort (declaration_fine list f formed_list (declared_names list a unbroken) g d is)

    abbrev pub pts : Trees
    pts = fine.1.parameters

    abbrev pub items : Trees
    items = fine.1.items

    abbrev pub ps : List Parameter
    ps = parameters_in (home list a (told a.stored) m) pts

    abbrev pub fields : Fields
    fields = fields_in list (told a.stored) ss (by_keys rs hs) v n (unit_tree fine.1.span pts items) (inside_unit n ps (home list a (told a.stored) m))

    abbrev pub row_here : Unit
    row_here = row_of n d fine.1.span pts items

    tree_fine : IsFine list f m (unit_tree fine.1.span pts items)
    tree_fine = subst (λ x. IsFine list f m x) fine.1.is fine.0

    -- its parts stand where they may
    pub suits : (are_of group_is.Parameters pts ≡ true) × (are_of group_is.Items items ≡ true)
    suits =
        let p = and_parts (are_of group_is.Parameters pts) (are_of group_is.Items items && true) (formed list f m form_is.Unit fine.1.span (more (row pts) (more (row items) none)) tree_fine) in
        (p.0, (and_parts (are_of group_is.Items items) true p.1).0)

    parameters_are_fine : AreFine list f m pts
    parameters_are_fine = first list f m (row pts) (more (row items) none) (parts_fine list f m form_is.Unit fine.1.span (more (row pts) (more (row items) none)) tree_fine)

    pub items_are_fine : AreFine list f m items
    items_are_fine = first list f m (row items) none (rest list f m (row pts) (more (row items) none) (parts_fine list f m form_is.Unit fine.1.span (more (row pts) (more (row items) none)) tree_fine))

    -- no test holds in it
    pub tests : none_hold (unit_tests k row_here) ≡ true
    tests = unit_at (λ u. none_hold (unit_tests k u)) n g d fine.1 at is (none_all (unit_tests k) t.units (are_asked list a unbroken).units)

    pub names : none_hold (unit_names row_here) ≡ true
    names = unit_at (λ u. none_hold (unit_names u)) n g d fine.1 at is (none_all unit_names t.units (are_named list a unbroken).units)

    pub rules : none_hold (unit_rules_of t.units row_here) ≡ true
    rules = unit_at (λ u. none_hold (unit_rules_of t.units u)) n g d fine.1 at is (none_each (unit_rules_of t.units) t.units (none_parts (each (unit_rules_of t.units) t.units) _ (unit_rules list a unbroken)).0)

    pub parameters_are_full : parameters_full ps ≡ true
    parameters_are_full =
        let p = none_parts (all_tests (parameter_tests m) ps) _ tests in
        let types = is_type list f m in
        let paths = is_told list f (told a.values) m in
        let known = module_is_known list a formed_list unbroken some_told (members_full some_told (filled_full nothing_told (λ i u e. none_found u e))) [] m in
        let same = parameters_alike list a (told a.stored) some_told m pts in
        ap parameters_full same
        ∙ parameters_whole k m types paths (known_blind t (values_of t) []) (home list a some_told m) known pts (parameters_fine list f m pts parameters_are_fine)
        (subst (λ xs. none_hold (all_tests (parameter_tests m) xs) ≡ true) same p.0)
