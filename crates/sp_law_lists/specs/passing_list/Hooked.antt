-- Lists in which each body of a hook hangs on a field that stores what the body sees as `$$`.
use Rattle.std.specs.Prelude.{ℕ, ◌≡◌, true, List, Option, Some, slice_get}
use Rattle.sp_ast.specs.Trees.{Tree}
use Rattle.sp_types.specs.Types.{Ty}
use Rattle.sp_solver.specs.Told.{told}
use Rattle.sp_names.specs.Types.{or_unknown}
use Rattle.sp_type_values.specs.Answers.{values}
use Rattle.sp_type_hook_rows.specs.Sites.{sites}
use Rattle.sp_type_list_context.specs.Contexts.{in_units}
use Rattle.sp_type_hook_rows.specs.declared.rows.HookRow.{HookRow}
use Rattle.sp_type_hook_rows.specs.HookRows.{hook_rows}
use Rattle.sp_type_hooks.specs.Fields.{seen_of}
use Rattle.sp_type_hooks.specs.Hooks.{seen_by}
use Rattle.sp_type_answers.specs.Settled.{Answers}
use Rattle.sp_type_answers.specs.Lists.{typed_of}
use Rattle.sp_meaning.specs.Hooks.{has_current}
use Rattle.sp_law_lists.specs.fit_list.Stored.{type_for}

-- what a hook sees of its field: what it stores, and what an element is
abbrev pub seen_in : (list : List Tree) → Answers list → HookRow → Option Ty × Option Ty
seen_in list a r =
    seen_by (seen_of list (in_units list (told a.types) (told a.values) (told a.stored)) (values list (told a.types) (told a.values)) (sites list)) r

-- the first field of the typed list that has the body stores what the body's hook sees
abbrev pub AreHooked : (list : List Tree) → Answers list → Type 0
AreHooked list a =
    (n : ℕ) (r : HookRow) → slice_get (hook_rows list (told a.types)) n ≡ Some r → has_current r.of ≡ true → type_for (typed_of list a) n ≡ Some (or_unknown (seen_in list a r).0)
