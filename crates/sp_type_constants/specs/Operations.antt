-- What operators make of constants. Where an operator doesn't take the values, another rule is broken, and nothing is known.
use Rattle.std.specs.Prelude.{ℕ, ◌==◌, ℤ, pos, neg_ℤ, Bool, true, false, List, [], ◌∷◌, Option, Some, None, Result, Ok, Err, slice_get, if◌then◌else◌}
use Rattle.sp_base.specs.declared.kinds.PKind.{PKind}
use Rattle.sp_base.specs.declared.kinds.PKind.TheVariants.{CastRange}
use Rattle.sp_numbers.specs.declared.width.Width.TheVariants.{W64}
use Rattle.sp_numbers.specs.Numbers.{unsigned_or, signed_or}
use Rattle.sp_value.specs.Val.{Val, bool, uint, int, tuple, vector, set, map, no_vals, no_entries, vals_of, list_of}
use Rattle.sp_value.specs.Changes.{value_at, with_member, with_entry}
use Rattle.sp_words.specs.declared.operators.BinaryOp.{BinaryOp}
use Rattle.sp_words.specs.declared.operators.UnaryOp.{UnaryOp}
use Rattle.sp_operators.specs.declared.plain_type.PlainType.{PlainType}
use Rattle.sp_operators.specs.declared.plain_type.PlainType.TheVariants as plain_is
use Rattle.sp_operators.specs.Operands.{takes, takes_one, has_size, is_cast}
use Rattle.sp_operators.specs.Operators.{binary, unary, size_of, cast}
use Rattle.sp_types.specs.Types.{Ty, word, made}
use Rattle.sp_types.specs.declared.words.Word.TheVariants as word_is
use Rattle.sp_types.specs.declared.words.Maker.TheVariants as maker_is
use Rattle.sp_typed.specs.declared.words.ManyOp.{ManyOp}
use Rattle.sp_typed.specs.declared.words.ManyOp.TheVariants as many_is
use Rattle.sp_type_constants.specs.declared.outcome.Outcome.{Outcome}
use Rattle.sp_type_constants.specs.declared.outcome.Outcome.TheVariants.{Value, NotConstant, Error, Unknown}
use Rattle.sp_type_constants.specs.Outcomes.{answered}

-- an operator between two values
abbrev pub operated : BinaryOp → Val → Val → Outcome
operated op a b = if takes op a b then answered (binary op a b) else Unknown

-- an operator on one value
abbrev pub operated_on : UnaryOp → Val → Outcome
operated_on op a = if takes_one op a then answered (unary op a) else Unknown

-- `|x|`
abbrev pub sized : Val → Outcome
sized a = if has_size a then Value (uint W64 (size_of a)) else Unknown

-- the integer type to which a value is cast, and void where there is none
abbrev pub integer_type : Ty → PlainType
integer_type (word (word_is.Uint w)) = plain_is.Uint w
integer_type (word (word_is.Int w)) = plain_is.Int w
integer_type _ = plain_is.Void

abbrev pub cast_to : Ty → Val → Outcome
cast_to t a = if is_cast a (integer_type t) then answered (cast a (integer_type t)) else Unknown

-- A literal has the type of its place, or the one that is written before it. One past its type breaks another rule, and has no value.
abbrev pub if_within : {A : Type 0} → (A → Val) → Result A PKind → Outcome
if_within make (Ok n) = Value (make n)
if_within make (Err error) = Unknown

abbrev pub literal : Ty → ℕ → Outcome
literal (word (word_is.Uint w)) n = if_within (uint w) (unsigned_or CastRange w (pos n))
literal (word (word_is.Int w)) n = if_within (int w) (signed_or CastRange w (pos n))
literal _ n = Unknown

-- and a literal with a minus sign; an unsigned type has none of these but a zero
abbrev pub negative_literal : Ty → ℕ → Outcome
negative_literal (word (word_is.Uint w)) n = if n == 0 then literal (word (word_is.Uint w)) 0 else Unknown
negative_literal (word (word_is.Int w)) n = if_within (int w) (signed_or CastRange w (neg_ℤ (pos n)))
negative_literal _ n = Unknown

-- `vector<T>()`, `set<T>()`, `map<K, V>()`
abbrev pub empty : Ty → Outcome
empty (made maker_is.Vector ts) = Value (vector no_vals)
empty (made maker_is.Set ts) = Value (set no_vals)
empty (made maker_is.Map ts) = Value (map no_entries)
empty _ = Unknown

-- `v[i]` of a vector, `m[k]` of a map
abbrev pub or_error : Option Val → Outcome
or_error (Some v) = Value v
or_error None = Error

abbrev pub indexed : Val → Val → Outcome
indexed (vector vs) (uint w n) = or_error (slice_get (list_of vs) n)
indexed (map es) k = or_error (value_at (map es) k)
indexed _ _ = Unknown

-- `t[n]` of a tuple
abbrev pub or_unknown : Option Val → Outcome
or_unknown (Some v) = Value v
or_unknown None = Unknown

abbrev pub member : ℕ → Val → Outcome
member n (tuple vs) = or_unknown (slice_get (list_of vs) n)
member n _ = Unknown

-- the members of a set, added one after another, and the entries of a map, keys and values in turn
abbrev pub with_members : Val → List Val → Val
with_members s [] = s
with_members s (v ∷ vs) = with_members (with_member s v) vs

abbrev pub with_entries : Val → List Val → Val
with_entries m (k ∷ (v ∷ vs)) = with_entries (with_entry m k v) vs
with_entries m _ = m

abbrev pub makes_row : ManyOp → Bool
makes_row many_is.Tuple = true
makes_row many_is.Vector = true
makes_row many_is.Set = true
makes_row many_is.Map = true
makes_row _ = false

abbrev pub row_of : ManyOp → List Val → Outcome
row_of many_is.Tuple vs = Value (tuple (vals_of vs))
row_of many_is.Vector vs = Value (vector (vals_of vs))
row_of many_is.Set vs = Value (with_members (set no_vals) vs)
row_of many_is.Map vs = Value (with_entries (map no_entries) vs)
row_of _ vs = NotConstant
