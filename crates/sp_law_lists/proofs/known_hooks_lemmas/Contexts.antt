-- What stands round the hooks of a list in which no rule is broken: their modules, the parameters of their units, and their units.
use Rattle.std.specs.List.{list_all}
use Rattle.std.proofs.Common.{ℕ, ◌≡◌, ◌+◌, zero, suc, Bool, true, refl, sym, ap, ◌∙◌, arith, List, [], ◌∷◌, Option, Some, None, slice_get}
use Rattle.std.proofs.lemmas.Bool.{and_parts, and_from}
use Rattle.sp_ast.specs.Trees.{Tree}
use Rattle.sp_ast.specs.Slots.{is_formed}
use Rattle.sp_rules.specs.declared.fault.Fault.{Fault}
use Rattle.sp_types.specs.Types.{Ty, word}
use Rattle.sp_types.specs.declared.words.Word.TheVariants as word_is
use Rattle.sp_typed.specs.declared.words.Standing.TheVariants as standing_is
use Rattle.sp_typed_units.specs.declared.declarations.Parameter.{Parameter}
use Rattle.sp_type_context.specs.Contexts.{Around}
use Rattle.sp_type_scopes.specs.Decorators.{with_self}
use Rattle.sp_type_scopes.specs.Parameters.{parameters_in}
use Rattle.sp_solver.specs.Told.{told}
use Rattle.sp_names.specs.declared.rows.Declaration.{Declaration}
use Rattle.sp_names.specs.declared.sort.DeclSort.TheVariants as sort_is
use Rattle.sp_names.specs.Declarations.{all_of, sort_of, declaration_at}
use Rattle.sp_names.specs.Names.{declaration_of}
use Rattle.sp_type_values.specs.declared.answer.Answer.{Answer}
use Rattle.sp_type_list_context.specs.Contexts.{in_module, modules_from, in_modules, parameter_trees, parameters_of, all_parameters_of, all_parameters, seeing, seeing_parameters, unit_types, being, in_units}
use Rattle.sp_type_hooks.specs.Hooks.{or_none}
use Rattle.sp_type_units.specs.UnitRows.{inside_unit}
use Rattle.sp_type_answers.specs.Settled.{Answers}
use Rattle.sp_type_answers.specs.Rules.{Breaks}
use Rattle.sp_law_lists.proofs.whole_list_lemmas.Heads.{parameters_full}
use Rattle.sp_law_lists.proofs.whole_list_lemmas.Modules.{none_found, some_found}
use Rattle.sp_law_lists.proofs.known_constants_lemmas.Declarations.{AllOf}
use Rattle.sp_law_lists.proofs.known_members_lemmas.Shapes.{is_unit_sort}
use Rattle.sp_law_lists.proofs.known_members_lemmas.Contexts.{home}
use Rattle.sp_law_lists.proofs.known_members_lemmas.Units.{IsDeclared, all_declared, context_at, fine, ps, parameters_are_full}

module _ (list : List Tree) (f : ℕ → Option Ty) (known : ℕ → Option Answer) (stored : ℕ → Option Ty) where
  -- the module of a number
  pub module_is : (h : ℕ) (ts : List Tree) (j : ℕ) (g : Around) → slice_get (modules_from list f known stored h ts) j ≡ Some g → in_module list f known stored (h + j) ≡ g
  module_is h [] j g e = none_found g e
  module_is h (t ∷ ts) zero g e = (let z : h + 0 ≡ h = omega arith in ap (in_module list f known stored) z ∙ some_found (in_module list f known stored h) g e)
  module_is h (t ∷ ts) (suc j) g e = (let z : h + suc j ≡ suc h + j = omega arith in ap (in_module list f known stored) z ∙ module_is (suc h) ts j g e)

-- where `self` is the unit of a number
being_at : (h n : ℕ) (gs : List ℕ) (cs : List Around) (x : ℕ) (c : Around) → slice_get gs n ≡ Some x → slice_get cs n ≡ Some c → slice_get (being (unit_types h gs) cs) n ≡ Some (with_self (word (word_is.Unit (h + n))) standing_is.Meant c)
being_at h n [] cs x c at is = none_found x at
being_at h n (y ∷ gs) [] x c at is = none_found c is
being_at h zero (y ∷ gs) (d ∷ cs) x c at is =
    let z : h ≡ h + 0 = omega arith in
    ap (λ i. Some (with_self (word (word_is.Unit i)) standing_is.Meant d)) z ∙ ap (λ e. Some (with_self (word (word_is.Unit (h + 0))) standing_is.Meant e)) (some_found d c is)
being_at h (suc n) (y ∷ gs) (d ∷ cs) x c at is =
    let z : suc h + n ≡ h + suc n = omega arith in
    being_at (suc h) n gs cs x c at is ∙ ap (λ i. Some (with_self (word (word_is.Unit i)) standing_is.Meant c)) z

-- those of a unit that isn't there are none
pub row_full : (rows : List (List Parameter)) (n : ℕ) → list_all parameters_full rows ≡ true → parameters_full (or_none (slice_get rows n)) ≡ true
row_full [] n e = refl
row_full (ps ∷ rows) zero e = (and_parts (parameters_full ps) (list_all parameters_full rows) e).0
row_full (ps ∷ rows) (suc n) e = row_full rows n (and_parts (parameters_full ps) (list_all parameters_full rows) e).1

module _ (list : List Tree) (a : Answers list) (formed_list : list_all is_formed list ≡ true) (unbroken : (x : Fault) → Breaks list x → ⊥) where
  abbrev f : ℕ → Option Ty
  f = told a.types

  abbrev stored : ℕ → Option Ty
  stored = told a.stored

  abbrev rows_of : List ℕ → List (List Parameter)
  rows_of gs = all_parameters_of list f (told a.values) stored gs

  module _ (n g : ℕ) (d : Declaration) (at : slice_get (all_of sort_is.Unit list) n ≡ Some g) (is : declaration_at list g ≡ Some d) (sort : is_unit_sort (sort_of d.tree) ≡ true) where
    own : parameters_of list f (told a.values) stored (Some d) ≡ ps list a formed_list unbroken n g d at is sort
    own = ap (λ x. parameters_in (home list a stored d.«module») (parameter_trees x)) (fine list a formed_list unbroken n g d at is sort).1.is

    -- what stands round the expressions of a unit
    pub unit_here : slice_get (in_units list f (told a.values) stored) n ≡ Some (inside_unit n (ps list a formed_list unbroken n g d at is sort) (home list a stored d.«module»))
    unit_here =
        let z : 0 + n ≡ n = omega arith in
        let c = context_at list f (told a.values) stored (all_of sort_is.Unit list) n g d at is in
        being_at 0 n (all_of sort_is.Unit list) (seeing_parameters list f (told a.values) stored) g _ at c
        ∙ ap (λ i. Some (inside_unit i (parameters_of list f (told a.values) stored (Some d)) (home list a stored d.«module»))) z
        ∙ ap (λ qs. Some (inside_unit n qs (home list a stored d.«module»))) own

    unit_full : parameters_full (parameters_of list f (told a.values) stored (Some d)) ≡ true
    unit_full = ap parameters_full own ∙ parameters_are_full list a formed_list unbroken n g d at is sort

  each_full : (h : ℕ) (gs : List ℕ) → ((j : ℕ) → slice_get (all_of sort_is.Unit list) (h + j) ≡ slice_get gs j) → AllOf (IsDeclared list) gs → list_all parameters_full (rows_of gs) ≡ true
  each_full h [] at are = refl
  each_full h (g ∷ gs) at are =
      let d = are.0.0 in
      let e : h ≡ h + 0 = omega arith in
      let one = unit_full h g d (ap (slice_get (all_of sort_is.Unit list)) e ∙ at 0) are.0.1 are.0.2 in
      and_from (parameters_full (parameters_of list f (told a.values) stored (declaration_of list (Some g)))) (list_all parameters_full (rows_of gs)) (ap (λ o. parameters_full (parameters_of list f (told a.values) stored o)) are.0.1 ∙ one)
      (each_full (suc h) gs (λ j. (let z : suc h + j ≡ h + suc j = omega arith in ap (slice_get (all_of sort_is.Unit list)) z ∙ at (suc j))) are.1)

  -- the parameters of each unit
  pub all_full : list_all parameters_full (all_parameters list f (told a.values) stored) ≡ true
  all_full = each_full 0 (all_of sort_is.Unit list) (λ j. (let z : 0 + j ≡ j = omega arith in ap (slice_get (all_of sort_is.Unit list)) z)) (all_declared list)
