-- How integers stand in the input: their width, their sign and the byte order, which the nearest attribute, the unit or the module says.
use Rattle.std.specs.Prelude.{ℕ, zero, ◌+◌, ◌==◌, Bool, true, false, List, [], ◌∷◌, Option, Some, None, if◌then◌else◌}
use Rattle.sp_numbers.specs.declared.width.Width.{Width}
use Rattle.sp_words.specs.declared.words.AttributeName.{AttributeName}
use Rattle.sp_words.specs.declared.words.AttributeName.TheVariants.{ByteOrder}
use Rattle.sp_types.specs.declared.words.Word.TheVariants as word_is
use Rattle.sp_types.specs.Types.{Ty, word}
use Rattle.sp_typed.specs.Exprs.{Expr}
use Rattle.sp_typed_units.specs.declared.attributes.Attribute.{Attribute}
use Rattle.sp_typed_units.specs.declared.declarations.OrderProperty.{OrderProperty}
use Rattle.sp_typed_units.specs.declared.items.Field.{Field}
use Rattle.sp_typed_units.specs.declared.readings.ReadOp.{ReadOp}
use Rattle.sp_typed_units.specs.declared.readings.ReadOp.TheVariants as read_is
use Rattle.sp_typed_units.specs.Specs.{Spec, read, group_read}
use Rattle.sp_meaning_states.specs.States.{Reading, State, Result, ends, Gives, fails, go}
use Rattle.sp_meaning_states.specs.Reads.{Ask, Read, Bytes, on_read}
use Rattle.sp_base.specs.declared.kinds.PKind.TheVariants.{NoMatch}
use Rattle.sp_value.specs.Integers.{integer_of}

-- how an integer stands in the input
pub record IntegerForm : Type 0 where
  pub width : Width
  pub signed : Bool
  pub little : Bool

-- The first label of the library's byte orders is that in which the first byte counts least. The others are that of the network, which
-- is also that of what has none.
abbrev pub is_little : Option ℕ → Bool
is_little (Some zero) = true
is_little o = false

-- of several properties the last counts, and where there is none, what stands outside
abbrev pub last_order : Option ℕ → List OrderProperty → Option ℕ
last_order o [] = o
last_order o (x ∷ xs) = last_order x.number xs

-- the order of a module, of all that modules have
abbrev pub module_order : ℕ → Option ℕ → List OrderProperty → Option ℕ
module_order m o [] = o
module_order m o (x ∷ xs) = module_order m (if x.«module» == m then x.number else o) xs

-- the byte order of what has these attributes, where they are byte orders alone
abbrev pub unless_other : AttributeName → Option (Option ℕ) → Option (Option ℕ)
unless_other ByteOrder o = o
unless_other name o = None

-- of several the last counts
abbrev pub only_orders : Option ℕ → List Attribute → Option (Option ℕ)
only_orders o [] = Some o
only_orders o (a ∷ rest) = unless_other a.name (only_orders a.number rest)

-- what is made of something, where it is there
abbrev pub where_known : {A : Type 0} {B : Type 0} → Option A → (A → Option B) → Option B
where_known (Some x) go = go x
where_known None go = None

-- an integer of a type
abbrev pub integer_type : Option ℕ → Ty → Option IntegerForm
integer_type o (word (word_is.Uint w)) = Some (record { width = w; signed = false; little = is_little o })
integer_type o (word (word_is.Int w)) = Some (record { width = w; signed = true; little = is_little o })
integer_type o t = None

-- what is read as one, if it is an integer
abbrev pub integer_read : Option ℕ → ReadOp → Ty → Option IntegerForm
integer_read o read_is.Int t = integer_type o t
integer_read o op t = None

-- a reading that is an integer, which may stand in parentheses; the byte order is the one that stands nearest
abbrev pub integer_spec : Option ℕ → Spec → Option IntegerForm
integer_spec o (read r) = integer_read o r.op r.ty
integer_spec o (group_read span s attributes) = where_known (only_orders o attributes) (λ o. integer_spec o s)
integer_spec o s = None

-- what has neither a condition nor a sink
abbrev pub without_either : {A : Type 0} → Option Expr → Option Expr → Option A → Option A
without_either None None x = x
without_either a b x = None

-- a field that is an integer and has no condition, no sink, and no attribute but a byte order
abbrev pub integer_field : Option ℕ → Field → Option IntegerForm
integer_field o f = without_either f.condition f.sink (where_known (only_orders o f.attributes) (λ o. integer_spec o f.spec))

-- an integer of so many bytes: it is read whole, or it is Short, or it waits
abbrev pub integer_means : (Reading → Ask → Read) → ℕ → Bool → Bool → State → Result
integer_means reads size little signed st =
    on_read (reads st.now (Bytes size)) (λ t n bs st. ends (Gives (integer_of little signed bs)) (go (st.now.place + n) st)) (fails NoMatch) st
