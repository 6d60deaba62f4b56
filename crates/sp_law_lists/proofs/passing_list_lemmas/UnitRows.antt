-- Units by their numbers: each is the row of its declaration.
use Rattle.std.specs.Prelude.{true}
use Rattle.std.specs.List.{list_all}
use Rattle.std.proofs.Common.{ℕ, ◌≡◌, zero, suc, refl, sym, ap, ◌∙◌, List, [], ◌∷◌, Option, Some, None, slice_get}
use Rattle.sp_ast.specs.Trees.{Tree}
use Rattle.sp_ast.specs.Slots.{is_formed}
use Rattle.sp_rules.specs.declared.fault.Fault.{Fault}
use Rattle.sp_types.specs.Types.{Ty}
use Rattle.sp_typed_units.specs.declared.declarations.Hook.{Hook}
use Rattle.sp_typed_units.specs.declared.declarations.Typed.{Typed}
use Rattle.sp_typed_units.specs.declared.declarations.Unit.{Unit as TypedUnit}
use Rattle.sp_solver.specs.Told.{told}
use Rattle.sp_names.specs.declared.rows.Declaration.{Declaration}
use Rattle.sp_names.specs.declared.sort.DeclSort.TheVariants as sort_is
use Rattle.sp_names.specs.Declarations.{all_of, sort_of, declaration_at}
use Rattle.sp_type_hook_rows.specs.declared.rows.HookRow.{HookRow}
use Rattle.sp_type_hook_rows.specs.Sites.{sites}
use Rattle.sp_type_hook_rows.specs.HookRows.{hook_rows}
use Rattle.sp_type_list_context.specs.Contexts.{homes_of}
use Rattle.sp_type_answers.specs.Settled.{Answers}
use Rattle.sp_type_answers.specs.Lists.{hooks_in, units_from, typed_of}
use Rattle.sp_type_answers.specs.Rules.{Breaks}
use Rattle.sp_law_lists.proofs.whole_list_lemmas.Modules.{none_found, some_found}
use Rattle.sp_law_lists.proofs.known_constants_lemmas.Declarations.{at_all}
use Rattle.sp_law_lists.proofs.known_members_lemmas.Shapes.{is_unit_sort}
use Rattle.sp_law_lists.proofs.known_members_lemmas.Units.{IsDeclared, all_declared, fine, row_here, row_is}
use Rattle.sp_law_lists.proofs.passing_list_lemmas.Members.{unit_get}

module _ (list : List Tree) (a : Answers list) (formed_list : list_all is_formed list ≡ true) (unbroken : (x : Fault) → Breaks list x → ⊥) where
  abbrev f : ℕ → Option Ty
  f = told a.types

  abbrev t : Typed
  t = typed_of list a

  abbrev rs : List HookRow
  rs = hook_rows list f

  abbrev hs : List Hook
  hs = hooks_in list f (told a.values) a.stored (sites list) rs

  -- the unit of a number
  pub row_found : (n g : ℕ) (d : Declaration) (at : slice_get (all_of sort_is.Unit list) n ≡ Some g) (is : declaration_at list g ≡ Some d) (sort : is_unit_sort (sort_of d.tree) ≡ true) → slice_get t.units n ≡ Some (row_here list a formed_list unbroken n g d at is sort)
  row_found n g d at is sort =
      unit_get list f (told a.values) a.stored (sites list) rs hs n g d at is ∙ ap Some (row_is list a formed_list unbroken n g d (fine list a formed_list unbroken n g d at is sort).1 at is)

  -- a unit is the row of its declaration
  pub record IsOfRow (n : ℕ) (x : TypedUnit) : Type 0 where
    pub g : ℕ
    pub d : Declaration
    pub at : slice_get (all_of sort_is.Unit list) n ≡ Some g
    pub is : declaration_at list g ≡ Some d
    pub sort : is_unit_sort (sort_of d.tree) ≡ true
    pub same : row_here list a formed_list unbroken n g d at is sort ≡ x

  rows_end : (h : ℕ) (gs : List ℕ) (n : ℕ) → slice_get gs n ≡ None → slice_get (units_from list f (told a.values) a.stored (sites list) rs hs h (homes_of list f (told a.values) (told a.stored) gs)) n ≡ None
  rows_end h [] n e = refl
  rows_end h (g ∷ gs) zero e = none_found g (sym e)
  rows_end h (g ∷ gs) (suc n) e = rows_end (suc h) gs n e

  pub of_row : (n : ℕ) (x : TypedUnit) → slice_get t.units n ≡ Some x → IsOfRow n x
  of_row n x listed = by (slice_get (all_of sort_is.Unit list) n) refl
    where
      by : (o : Option ℕ) → slice_get (all_of sort_is.Unit list) n ≡ o → IsOfRow n x
      by None e = none_found x (sym (rows_end 0 (all_of sort_is.Unit list) n e) ∙ listed)
      by (Some g) e =
          let w = at_all (IsDeclared list) (all_of sort_is.Unit list) n g (all_declared list) e in
          record { g = g; d = w.0; at = e; is = w.1; sort = w.2; same = some_found (row_here list a formed_list unbroken n g w.0 e w.1 w.2) x (sym (row_found n g w.0 e w.1 w.2) ∙ listed) }
