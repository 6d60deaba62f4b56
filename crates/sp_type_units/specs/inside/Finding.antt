-- What a table of fields must tell, so that the hooks of each field are found.
use Rattle.std.specs.Prelude.{ℕ, ℤ, ◌≡◌, List, Option}
use Rattle.sp_ast.specs.Trees.{Tree}
use Rattle.sp_type_hook_order.specs.declared.keys.HookKey.{HookKey}
use Rattle.sp_type_hook_rows.specs.declared.sites.Site.{Site}
use Rattle.sp_type_hook_rows.specs.declared.places.FieldKeys.{FieldKeys}
use Rattle.sp_type_hook_rows.specs.Places.{key_at}
use Rattle.sp_type_hook_rows.specs.inside.Keyed.{key_told}
use Rattle.sp_type_units.specs.Fields.{hooks_by}

-- the hooks of what it tells of a place are those of what hangs on the place
abbrev pub FindHooks : List Tree → List Site → List (Option HookKey) × List ℤ → FieldKeys → Type 0
FindHooks list ss hooks table = (x : ℕ × ℕ) → hooks_by hooks (key_told table x) ≡ hooks_by hooks (key_at list x ss)
