-- What a table tells of a member, as the number of a field.
use Rattle.std.proofs.Common.{ℕ, ◌≡◌, refl, List, Option, Some, None}
use Rattle.std.specs.Prelude.{slice_get}
use Rattle.sp_types.specs.Types.{Ty}
use Rattle.sp_typed_units.specs.declared.declarations.MemberKind.{MemberKind}
use Rattle.sp_typed_units.specs.declared.declarations.MemberKind.TheVariants as kind_is
use Rattle.sp_type_modules.specs.Members.{UnitMember, kinds_of}
use Rattle.sp_type_modules.specs.Arounds.{unit_member, some_member}
use Rattle.sp_type_hook_rows.specs.HookRows.{field_among, if_field}
use Rattle.sp_type_hook_rows.specs.inside.Numbers.{number_of}

kind_number : (stored : ℕ → Ty) (k : ℕ) (o : Option MemberKind) → number_of (some_member stored k o) ≡ if_field k o
kind_number stored k None = refl
kind_number stored k (Some kind_is.Field) = refl
kind_number stored k (Some kind_is.Variable) = refl
kind_number stored k (Some kind_is.Sink) = refl

pub field_is : (stored : ℕ → Ty) (ms : List UnitMember) (o : Option ℕ) → number_of (unit_member stored ms o) ≡ field_among ms o
field_is stored ms None = refl
field_is stored ms (Some k) = kind_number stored k (slice_get (kinds_of ms) k)
