-- What a table of fields holds.
use Rattle.std.specs.Prelude.{ℕ, ◌≡◌, List, Option}
use Rattle.indexmap.specs.IndexMap.{get}
use Rattle.sp_ast.specs.Trees.{Tree}
use Rattle.sp_type_hook_order.specs.declared.keys.HookKey.{HookKey}
use Rattle.sp_type_hook_rows.specs.declared.sites.Site.{Site}
use Rattle.sp_type_hook_rows.specs.declared.places.FieldKeys.{FieldKeys}
use Rattle.sp_type_hook_rows.specs.Tests.{are_equal}
use Rattle.sp_type_hook_rows.specs.Places.{key_at}

-- what a table tells of a unit and a place
abbrev pub key_told : FieldKeys → ℕ × ℕ → Option HookKey
key_told table x = get are_equal table.keys x

-- a table tells of each place what hangs on it
abbrev pub AreKeys : List Tree → List Site → FieldKeys → Type 0
AreKeys list ss table = (x : ℕ × ℕ) → key_told table x ≡ key_at list x ss
