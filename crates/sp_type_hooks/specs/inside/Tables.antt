-- What the tables hold.
use Rattle.std.specs.Prelude.{ℕ, ◌≡◌, true, false, Bool, if◌then◌else◌, List, [], ◌∷◌, Option, Some, None}
use Rattle.indexmap.specs.IndexMap.{get}
use Rattle.indexmap.specs.IndexSet.{contains}
use Rattle.sp_types.specs.Types.{Ty}
use Rattle.sp_type_modules.specs.Taken.{differ}
use Rattle.sp_type_hook_order.specs.declared.keys.HookKey.{HookKey}
use Rattle.sp_type_hook_order.specs.Keys.{are_same}
use Rattle.sp_type_hooks.specs.declared.marks.Marks.{Marks}
use Rattle.sp_type_hooks.specs.declared.table.TypeTable.{TypeTable}
use Rattle.sp_type_hooks.specs.declared.table.FieldTypes.{FieldTypes}
use Rattle.sp_type_hooks.specs.Fields.{one_of, is_asked}

abbrev pub has_mark : Marks → ℕ × ℕ × ℕ → Bool
has_mark marks x = contains are_same marks.all x

-- what a table of types tells of a mark
abbrev pub type_told : TypeTable → ℕ × ℕ × ℕ → Option Ty
type_told table x = get are_same table.of x

-- whether a type is another than the first, if there is one
abbrev pub is_another : Option Ty → Ty → Bool
is_another None t = false
is_another (Some s) t = differ s t

-- the one type of some, where they have a first and differ, and others
abbrev pub with_first : Option Ty → List Ty → List Ty
with_first None ts = ts
with_first (Some t) ts = t ∷ ts

abbrev pub joined : Option Ty → Bool → List Ty → Option Ty
joined first mixed ts = if mixed then None else one_of (with_first first ts)

-- what tables tell of the elements of a mark, where these are more of them
abbrev pub elements_told : FieldTypes → ℕ × ℕ × ℕ → List Ty → Option Ty
elements_told table x ts = joined (type_told table.elements x) (has_mark table.mixed x) ts

-- what tables tell of a mark
abbrev pub seen_told : FieldTypes → ℕ × ℕ × ℕ → Option Ty × Option Ty
seen_told table x = (type_told table.stored x, elements_told table x [])

-- tables tell of the marks of these keys what `f` does
abbrev pub Tells : List (Option HookKey) → (ℕ × ℕ × ℕ → Option Ty × Option Ty) → FieldTypes → Type 0
Tells keys f table = (x : ℕ × ℕ × ℕ) → is_asked keys x ≡ true → seen_told table x ≡ f x
