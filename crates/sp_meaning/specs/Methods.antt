-- What a method of the library makes of its receiver and its arguments.
use Rattle.std.specs.Prelude.{List, [], ◌∷◌, Some, None, Result, Ok}
use Rattle.sp_base.specs.declared.kinds.PKind.{PKind}
use Rattle.sp_numbers.specs.declared.width.Width.TheVariants.{W64}
use Rattle.sp_words.specs.declared.methods.Method.{Method}
use Rattle.sp_words.specs.declared.methods.Method.TheVariants.{ToUint, ToInt, ToUintOrder, ToIntOrder, Sub, StartsWith, Split, Split1, Lower, Upper, Decode, Encode, PushBack, PopBack, Front, Back, Get, GetOr}
use Rattle.sp_value.specs.Val.{Val, bool, uint, int, bytes, str, enum, vector, vals_of}
use Rattle.sp_value.specs.Changes.{with_last}
use Rattle.sp_operators.specs.Operators.{value_or_error}
use Rattle.sp_operators.specs.Parts.{begins_with}
use Rattle.sp_methods.specs.Conversions.{to_uint, to_int, to_uint_order, to_int_order, sub, lower, upper}
use Rattle.sp_methods.specs.Separated.{split, split1}
use Rattle.sp_methods.specs.Decoding.{decode}
use Rattle.sp_methods.specs.Taken.{front, back, popped, got}
use Rattle.sp_methods.specs.Methods.{alone, in_two, pair_of_bytes}

-- A method that changes its receiver gives the receiver as it is then, and behind it the result, if there is one. Other values come to no
-- method.
abbrev pub applied : Method → List Val → Result (List Val) PKind
applied ToUint (bytes x ∷ uint _ base ∷ []) = alone (value_or_error (uint W64) (to_uint x base))
applied ToInt (bytes x ∷ uint _ base ∷ []) = alone (value_or_error (int W64) (to_int x base))
applied ToUintOrder (bytes x ∷ enum _ order ∷ []) = alone (value_or_error (uint W64) (to_uint_order x order))
applied ToIntOrder (bytes x ∷ enum _ order ∷ []) = alone (value_or_error (int W64) (to_int_order x order))
applied Sub (bytes x ∷ uint _ a ∷ uint _ b ∷ []) = alone (value_or_error bytes (sub x a b))
applied StartsWith (bytes x ∷ bytes y ∷ []) = Ok (bool (begins_with x y) ∷ [])
applied Split (bytes x ∷ bytes d ∷ []) = alone (value_or_error (λ vs. vector (vals_of vs)) (split x d))
applied Split1 (bytes x ∷ bytes d ∷ []) = alone (value_or_error pair_of_bytes (split1 x d))
applied Lower (bytes x ∷ []) = Ok (bytes (lower x) ∷ [])
applied Upper (bytes x ∷ []) = Ok (bytes (upper x) ∷ [])
applied Decode (bytes x ∷ enum _ charset ∷ enum _ strategy ∷ []) = alone (value_or_error str (decode x charset strategy))
applied Encode (str s ∷ []) = Ok (bytes s ∷ [])
applied PushBack (v ∷ x ∷ []) = Ok (with_last v x ∷ [])
applied PopBack (v ∷ []) = in_two (popped v)
applied Front (v ∷ []) = alone (front v)
applied Back (v ∷ []) = alone (back v)
applied Get (m ∷ k ∷ []) = alone (got m k None)
applied GetOr (m ∷ k ∷ d ∷ []) = alone (got m k (Some d))
applied m vs = Ok []
