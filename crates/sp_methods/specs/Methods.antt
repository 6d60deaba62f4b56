-- The table of methods: what each makes of its operands, of which kinds they and its results are.
use Rattle.std.specs.Prelude.{ℕ, Bool, true, false, List, [], ◌∷◌, Some, None, Result, Ok, Err}
use Rattle.sp_base.specs.declared.kinds.PKind.{PKind}
use Rattle.sp_numbers.specs.declared.width.Width.TheVariants.{W64}
use Rattle.sp_value.specs.Val.{Val, bool, uint, int, bytes, str, enum, tuple, vector, map as map_of, vals_of}
use Rattle.sp_value.specs.Changes.{with_last}
use Rattle.sp_operators.specs.Operators.{value_or_error}
use Rattle.sp_operators.specs.Parts.{begins_with}
use Rattle.sp_words.specs.declared.methods.Method.{Method}
use Rattle.sp_words.specs.declared.methods.Method.TheVariants.{ToUint, ToInt, ToUintOrder, ToIntOrder, Sub, StartsWith, Split, Split1, Lower, Upper, Decode, Encode, PushBack, PopBack, Front, Back, Get, GetOr}
use Rattle.sp_methods.specs.Kinds.{Kind, Bools, Unsigned, Signed, Bytes, Text, EnumOf, TupleOf, VectorOf, MapOf, kinds_of}
use Rattle.sp_methods.specs.Conversions.{to_uint, to_int, to_uint_order, to_int_order, sub, lower, upper}
use Rattle.sp_methods.specs.Separated.{split, split1}
use Rattle.sp_methods.specs.Decoding.{decode}
use Rattle.sp_methods.specs.Taken.{front, back, popped, got}

-- one value, or an error in its place
abbrev pub alone : Result Val PKind → Result (List Val) PKind
alone (Ok v) = Ok (v ∷ [])
alone (Err error) = Err error

-- two values, the first on top
abbrev pub in_two : Result (Val × Val) PKind → Result (List Val) PKind
in_two (Ok vs) = Ok (vs.0 ∷ vs.1 ∷ [])
in_two (Err error) = Err error

abbrev pub pair_of_bytes : List ℕ × List ℕ → Val
pair_of_bytes two = tuple (vals_of (bytes two.0 ∷ bytes two.1 ∷ []))

-- what a method makes of its operands, the last argument first and the receiver last; a method that changes its receiver gives
-- the receiver as it is then, and behind it the result, if there is one. Other operands come to no method
abbrev pub method : Method → List Val → Result (List Val) PKind
method ToUint (uint _ base ∷ bytes x ∷ []) = alone (value_or_error (uint W64) (to_uint x base))
method ToInt (uint _ base ∷ bytes x ∷ []) = alone (value_or_error (int W64) (to_int x base))
method ToUintOrder (enum _ order ∷ bytes x ∷ []) = alone (value_or_error (uint W64) (to_uint_order x order))
method ToIntOrder (enum _ order ∷ bytes x ∷ []) = alone (value_or_error (int W64) (to_int_order x order))
method Sub (uint _ b ∷ uint _ a ∷ bytes x ∷ []) = alone (value_or_error bytes (sub x a b))
method StartsWith (bytes y ∷ bytes x ∷ []) = Ok (bool (begins_with x y) ∷ [])
method Split (bytes d ∷ bytes x ∷ []) = alone (value_or_error (λ vs. vector (vals_of vs)) (split x d))
method Split1 (bytes d ∷ bytes x ∷ []) = alone (value_or_error pair_of_bytes (split1 x d))
method Lower (bytes x ∷ []) = Ok (bytes (lower x) ∷ [])
method Upper (bytes x ∷ []) = Ok (bytes (upper x) ∷ [])
method Decode (enum _ strategy ∷ enum _ charset ∷ bytes x ∷ []) = alone (value_or_error str (decode x charset strategy))
method Encode (str s ∷ []) = Ok (bytes s ∷ [])
method PushBack (x ∷ v ∷ []) = Ok (with_last v x ∷ [])
method PopBack (v ∷ []) = in_two (popped v)
method Front (v ∷ []) = alone (front v)
method Back (v ∷ []) = alone (back v)
method Get (k ∷ m ∷ []) = alone (got m k None)
method GetOr (d ∷ k ∷ m ∷ []) = alone (got m k (Some d))
method _ _ = Ok []

-- whether the call of a method may be made with these operands
abbrev pub suits : Method → List Val → Bool
suits ToUint (uint _ _ ∷ bytes _ ∷ []) = true
suits ToInt (uint _ _ ∷ bytes _ ∷ []) = true
suits ToUintOrder (enum _ _ ∷ bytes _ ∷ []) = true
suits ToIntOrder (enum _ _ ∷ bytes _ ∷ []) = true
suits Sub (uint _ _ ∷ uint _ _ ∷ bytes _ ∷ []) = true
suits StartsWith (bytes _ ∷ bytes _ ∷ []) = true
suits Split (bytes _ ∷ bytes _ ∷ []) = true
suits Split1 (bytes _ ∷ bytes _ ∷ []) = true
suits Lower (bytes _ ∷ []) = true
suits Upper (bytes _ ∷ []) = true
suits Decode (enum _ _ ∷ enum _ _ ∷ bytes _ ∷ []) = true
suits Encode (str _ ∷ []) = true
suits PushBack (_ ∷ vector _ ∷ []) = true
suits PopBack (vector _ ∷ []) = true
suits Front (vector _ ∷ []) = true
suits Back (vector _ ∷ []) = true
suits Get (_ ∷ map_of _ ∷ []) = true
suits GetOr (_ ∷ _ ∷ map_of _ ∷ []) = true
suits _ _ = false

-- the kinds of what a method takes and of what it gives, in the order of `method`
pub data IsMethod : Method → List Kind → List Kind → Type 0 where
  to_uint_takes : IsMethod ToUint (Unsigned ∷ Bytes ∷ []) (Unsigned ∷ [])
  to_int_takes : IsMethod ToInt (Unsigned ∷ Bytes ∷ []) (Signed ∷ [])
  to_uint_order_takes : (k : ℕ) → IsMethod ToUintOrder (EnumOf k ∷ Bytes ∷ []) (Unsigned ∷ [])
  to_int_order_takes : (k : ℕ) → IsMethod ToIntOrder (EnumOf k ∷ Bytes ∷ []) (Signed ∷ [])
  sub_takes : IsMethod Sub (Unsigned ∷ Unsigned ∷ Bytes ∷ []) (Bytes ∷ [])
  starts_with_takes : IsMethod StartsWith (Bytes ∷ Bytes ∷ []) (Bools ∷ [])
  split_takes : IsMethod Split (Bytes ∷ Bytes ∷ []) (VectorOf Bytes ∷ [])
  split1_takes : IsMethod Split1 (Bytes ∷ Bytes ∷ []) (TupleOf (kinds_of (Bytes ∷ Bytes ∷ [])) ∷ [])
  lower_takes : IsMethod Lower (Bytes ∷ []) (Bytes ∷ [])
  upper_takes : IsMethod Upper (Bytes ∷ []) (Bytes ∷ [])
  decode_takes : (j k : ℕ) → IsMethod Decode (EnumOf k ∷ EnumOf j ∷ Bytes ∷ []) (Text ∷ [])
  encode_takes : IsMethod Encode (Text ∷ []) (Bytes ∷ [])
  push_back_takes : (k : Kind) → IsMethod PushBack (k ∷ VectorOf k ∷ []) (VectorOf k ∷ [])
  pop_back_takes : (k : Kind) → IsMethod PopBack (VectorOf k ∷ []) (VectorOf k ∷ k ∷ [])
  front_takes : (k : Kind) → IsMethod Front (VectorOf k ∷ []) (k ∷ [])
  back_takes : (k : Kind) → IsMethod Back (VectorOf k ∷ []) (k ∷ [])
  get_takes : (j k : Kind) → IsMethod Get (j ∷ MapOf j k ∷ []) (k ∷ [])
  get_or_takes : (j k : Kind) → IsMethod GetOr (k ∷ j ∷ MapOf j k ∷ []) (k ∷ [])
