-- What a unit knows of its fields.
use Rattle.std.specs.Prelude.{ℕ, ℤ, List, [], Option, Some, None}
use Rattle.sp_base.specs.declared.places.Span.{Span}
use Rattle.sp_ast.specs.Trees.{Tree}
use Rattle.sp_type_fields.specs.Parts.{Fields}
use Rattle.sp_type_modules.specs.Members.{UnitMember, numbered}
use Rattle.sp_type_modules.specs.Taken.{has_place}
use Rattle.sp_type_hook_order.specs.declared.keys.HookKey.{HookKey}
use Rattle.sp_type_hook_order.specs.Keys.{hooks_of}
use Rattle.sp_type_hook_rows.specs.declared.sites.Site.{Site}
use Rattle.sp_type_hook_rows.specs.Places.{key_at}

-- each name of a field has a number, so that nothing hangs on the other one
abbrev pub number_or : Option ℕ → ℕ
number_or None = 0
number_or (Some k) = k

-- the hooks that hang on something: what each of all hangs on, and their ranks, are given
abbrev pub hooks_by : List (Option HookKey) × List ℤ → Option HookKey → List ℕ
hooks_by hooks None = []
hooks_by hooks (Some key) = hooks_of hooks.0 hooks.1 key

-- the hooks of the field of the unit n whose name or colon stands here
abbrev pub field_hooks : List Tree → List Site → List (Option HookKey) × List ℤ → ℕ → Span → List ℕ
field_hooks list ss hooks n at = hooks_by hooks (key_at list (n, at.from) ss)

-- What the unit n knows of its fields, where these are its members, and names that come twice stand at these places.
abbrev pub unit_fields : List Tree → List Site → List (Option HookKey) × List ℤ → ℕ → List UnitMember → List Span → Fields
unit_fields list ss hooks n ms places = record {
  number = λ x. number_or (numbered x 0 ms);
  taken = λ at. has_place at places;
  hooks = λ at. field_hooks list ss hooks n at;
}
