-- The tests of hooks that hang on no types: a hook of no unit or field, and `foreach` on a field without `[ ]`.
use Rattle.std.specs.Prelude.{ℕ, nat_eq, Bool, true, false, not, ◌&&◌, ◌||◌, List, [], ◌∷◌, ◌++◌, Option, Some, None}
use Rattle.std.specs.List.{list_any}
use Rattle.sp_ast.specs.Trees.{Tree, row, node, more}
use Rattle.sp_ast.specs.declared.forms.Form.TheVariants as form_is
use Rattle.sp_rules.specs.declared.fault.Fault.{Fault}
use Rattle.sp_rules.specs.declared.rule.Rule.TheVariants as rule_is
use Rattle.sp_typed_units.specs.declared.declarations.HookOf.{HookOf}
use Rattle.sp_typed_units.specs.declared.declarations.HookOf.TheVariants as of_is
use Rattle.sp_type_hook_rows.specs.declared.sites.Holder.{Holder}
use Rattle.sp_type_hook_rows.specs.declared.sites.Holder.TheVariants as holder_is
use Rattle.sp_type_hook_rows.specs.declared.sites.Site.{Site}
use Rattle.sp_type_hook_rows.specs.declared.rows.HookRow.{HookRow}
use Rattle.sp_type_hook_rows.specs.HookRows.{field_number}

-- the unit and the number of a field that has a name and `[ ]`
abbrev pub one_container : ℕ → Option ℕ → List (ℕ × ℕ)
one_container n None = []
one_container n (Some k) = (n, k) ∷ []

abbrev pub field_container : List Tree → ℕ → Tree → List (ℕ × ℕ)
field_container list n (node form_is.Field span (more (node (form_is.Name x) s us) (more base (more (row (more count counts)) ts)))) = one_container n (field_number list n x)
field_container list n _ = []

abbrev pub site_container : List Tree → ℕ → Holder → List (ℕ × ℕ)
site_container list n (holder_is.Field t) = field_container list n t
site_container list n _ = []

-- the members of units that some field with `[ ]` has
abbrev pub containers : List Tree → List Site → List (ℕ × ℕ)
containers list [] = []
containers list (s ∷ ss) = site_container list s.unit s.holder ++ containers list ss

abbrev pub are_equal : ℕ × ℕ → ℕ × ℕ → Bool
are_equal a b = nat_eq a.0 b.0 && nat_eq a.1 b.1

-- a hook of nothing, or of the elements of a field that has none
abbrev pub is_of_none : List (ℕ × ℕ) → HookOf → Bool
is_of_none found of_is.Nothing = true
is_of_none found (of_is.Elements n k) = not (list_any (are_equal (n, k)) found)
is_of_none found _ = false

abbrev pub hook_fault : HookRow → Fault
hook_fault r = record { rule = rule_is.UnknownHook; «module» = r.«module»; span = r.span }

-- the test of each hook, with the fault where it holds
abbrev pub hook_tests : List (ℕ × ℕ) → List HookRow → List (Bool × Fault)
hook_tests found [] = []
hook_tests found (r ∷ rs) = (r.bare || is_of_none found r.of, hook_fault r) ∷ hook_tests found rs
