-- What the places that want a constant take of it, and the rule that it breaks.
use Rattle.std.specs.Prelude.{ℕ, ℤ, ◌^◌, Bool, true, false, List, nat_lt, Option, Some, None, if◌then◌else◌}
use Rattle.sp_value.specs.Val.{Val, uint, enum}
use Rattle.sp_value.specs.Parts.{bytes_in, signed_in}
use Rattle.sp_type_constants.specs.declared.outcome.Outcome.{Outcome}
use Rattle.sp_type_constants.specs.declared.outcome.Outcome.TheVariants.{Value, Regex, NotConstant, Error, Unknown}

-- whether a place that wants a constant is refused one: it is none, or its value is an error
abbrev pub is_refused : Outcome → Bool
is_refused NotConstant = true
is_refused Error = true
is_refused _ = false

abbrev pub part_in : {A : Type 0} → (Val → Option A) → Outcome → Option A
part_in f (Value v) = f v
part_in f _ = None

-- the index of a tuple: an unsigned integer; no tuple has 2 to the power of 32 members
abbrev pub index_in : Val → Option ℕ
index_in (uint w n) = if nat_lt n (2 ^ 32) then Some n else None
index_in _ = None

-- the number of a label, such as that of a byte order
abbrev pub number_in : Val → Option ℕ
number_in (enum kind n) = Some n
number_in _ = None

abbrev pub index_of : Outcome → Option ℕ
index_of o = part_in index_in o

abbrev pub number_of : Outcome → Option ℕ
number_of o = part_in number_in o

-- the bytes of a delimiter
abbrev pub bytes_of : Outcome → Option (List ℕ)
bytes_of o = part_in bytes_in o

-- the priority of a hook
abbrev pub signed_of : Outcome → Option ℤ
signed_of o = part_in signed_in o
