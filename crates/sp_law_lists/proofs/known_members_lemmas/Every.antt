-- What holds of the row of each unit by its tree holds of all units of the typed list.
use Rattle.std.specs.List.{list_all}
use Rattle.std.proofs.Common.{ℕ, ◌≡◌, ◌+◌, zero, suc, Bool, true, refl, sym, ap, subst, ◌∙◌, arith, List, [], ◌∷◌, Option, Some, slice_get}
use Rattle.std.proofs.lemmas.Bool.{and_from}
use Rattle.sp_ast.specs.Trees.{Tree}
use Rattle.sp_ast.specs.Slots.{is_formed}
use Rattle.sp_rules.specs.declared.fault.Fault.{Fault}
use Rattle.sp_types.specs.Types.{Ty}
use Rattle.sp_typed_units.specs.declared.declarations.Unit.{Unit}
use Rattle.sp_typed_units.specs.declared.declarations.Hook.{Hook}
use Rattle.sp_typed_units.specs.declared.declarations.Typed.{Typed}
use Rattle.sp_type_context.specs.Contexts.{Around}
use Rattle.sp_type_fields.specs.Values.{Values}
use Rattle.sp_solver.specs.Told.{told}
use Rattle.sp_names.specs.declared.rows.Declaration.{Declaration}
use Rattle.sp_names.specs.declared.sort.DeclSort.TheVariants as sort_is
use Rattle.sp_names.specs.Declarations.{all_of, sort_of, declaration_at}
use Rattle.sp_names.specs.Names.{declaration_of}
use Rattle.sp_type_values.specs.declared.answer.Answer.{Answer}
use Rattle.sp_type_values.specs.Answers.{values}
use Rattle.sp_type_hook_rows.specs.declared.sites.Site.{Site}
use Rattle.sp_type_hook_rows.specs.declared.rows.HookRow.{HookRow}
use Rattle.sp_type_modules.specs.Sources.{units}
use Rattle.sp_type_units.specs.UnitRows.{unit_row}
use Rattle.sp_type_list_context.specs.Contexts.{at_home, homes_of}
use Rattle.sp_type_answers.specs.Settled.{Answers}
use Rattle.sp_type_answers.specs.Lists.{calls_of, by_keys, units_from, typed_of}
use Rattle.sp_type_answers.specs.Rules.{Breaks}
use Rattle.sp_law_lists.proofs.whole_list_lemmas.Modules.{none_found, some_found}
use Rattle.sp_law_lists.proofs.known_constants_lemmas.Declarations.{at_all}
use Rattle.sp_law_lists.proofs.known_members_lemmas.Shapes.{is_unit_sort}
use Rattle.sp_law_lists.proofs.known_members_lemmas.Contexts.{home}
use Rattle.sp_law_lists.proofs.known_members_lemmas.Units.{IsDeclared, all_declared, v, ss, rs, hs, row_is, fine, row_here}

-- a home is that of a unit
home_back : (list : List Tree) (f : ℕ → Option Ty) (known : ℕ → Option Answer) (s : ℕ → Option Ty) (gs : List ℕ) (n : ℕ) (env : Around) → slice_get (homes_of list f known s gs) n ≡ Some env → (g : ℕ) × (slice_get gs n ≡ Some g) × (at_home list f known s (declaration_of list (Some g)) ≡ env)
home_back list f known s [] n env e = none_found env e
home_back list f known s (x ∷ gs) zero env e = (x, refl, some_found (at_home list f known s (declaration_of list (Some x))) env e)
home_back list f known s (x ∷ gs) (suc n) env e = home_back list f known s gs n env e

module _ (list : List Tree) (a : Answers list) (formed_list : list_all is_formed list ≡ true) (unbroken : (x : Fault) → Breaks list x → ⊥) (p : Unit → Bool) where
  abbrev f : ℕ → Option Ty
  f = told a.types

  abbrev known_list : Typed
  known_list = typed_of list a

  abbrev all_sites : List Site
  all_sites = ss list a formed_list unbroken

  abbrev all_rows : List HookRow
  all_rows = rs list a formed_list unbroken

  abbrev all_hooks : List Hook
  all_hooks = hs list a formed_list unbroken

  abbrev worth : Values
  worth = v list a formed_list unbroken

  each_row : (h : ℕ) (gs : List Around) → ((j : ℕ) (env : Around) → slice_get gs j ≡ Some env → p (unit_row list (told a.stored) all_sites (by_keys all_rows all_hooks) worth (calls_of all_hooks (h + j)) env (h + j)) ≡ true)
      → list_all p (units_from list f (told a.values) a.stored all_sites all_rows all_hooks h gs) ≡ true
  each_row h [] rows_hold = refl
  each_row h (env ∷ gs) rows_hold =
      let s : h + 0 ≡ h = omega arith in
      and_from (p (unit_row list (told a.stored) all_sites (by_keys all_rows all_hooks) worth (calls_of all_hooks h) env h)) (list_all p (units_from list f (told a.values) a.stored all_sites all_rows all_hooks (suc h) gs))
      (subst (λ i. p (unit_row list (told a.stored) all_sites (by_keys all_rows all_hooks) worth (calls_of all_hooks i) env i) ≡ true) s (rows_hold 0 env refl))
      (each_row (suc h) gs (λ j x e. (
      let z : h + suc j ≡ suc h + j = omega arith in
      subst (λ i. p (unit_row list (told a.stored) all_sites (by_keys all_rows all_hooks) worth (calls_of all_hooks i) x i) ≡ true) z (rows_hold (suc j) x e)
      )))

  pub every_unit : ((n g : ℕ) (d : Declaration) (at : slice_get (all_of sort_is.Unit list) n ≡ Some g) (is : declaration_at list g ≡ Some d) (sort : is_unit_sort (sort_of d.tree) ≡ true) → p (row_here list a formed_list unbroken n g d at is sort) ≡ true)
      → list_all p known_list.units ≡ true
  every_unit rows_hold =
      each_row 0 (homes_of list f (told a.values) (told a.stored) (all_of sort_is.Unit list)) (λ j env e. (
      let s : j ≡ 0 + j = omega arith in
      let b = home_back list f (told a.values) (told a.stored) (all_of sort_is.Unit list) j env e in
      let g = b.0 in
      let declared = at_all (IsDeclared list) (all_of sort_is.Unit list) j g (all_declared list) b.1 in
      let d = declared.0 in
      let home_is : home list a (told a.stored) d.«module» ≡ env = sym (ap (at_home list f (told a.values) (told a.stored)) declared.1) ∙ b.2 in
      let row_ = ap p (row_is list a formed_list unbroken j g d (fine list a formed_list unbroken j g d b.1 declared.1 declared.2).1 b.1 declared.1) ∙ rows_hold j g d b.1 declared.1 declared.2 in
      subst (λ i. p (unit_row list (told a.stored) all_sites (by_keys all_rows all_hooks) worth (calls_of all_hooks i) env i) ≡ true) s
      (subst (λ x. p (unit_row list (told a.stored) all_sites (by_keys all_rows all_hooks) worth (calls_of all_hooks j) x j) ≡ true) home_is row_)
      ))
