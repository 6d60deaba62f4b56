-- Of which units hooks are.
use Rattle.std.specs.Prelude.{ℕ, Option, Some, None}
use Rattle.sp_typed_units.specs.declared.declarations.HookOf.{HookOf}
use Rattle.sp_typed_units.specs.declared.declarations.HookOf.TheVariants as of_is

-- the unit of which a hook is
abbrev pub unit_of : HookOf → Option ℕ
unit_of of_is.Nothing = None
unit_of (of_is.Unit n h) = Some n
unit_of (of_is.Field n k) = Some n
unit_of (of_is.Elements n k) = Some n
unit_of (of_is.Anonymous n) = Some n
unit_of (of_is.AnonymousElements n) = Some n
