-- A method makes the same of its receiver and its arguments as of operands, the last argument first.
use Rattle.std.proofs.Common.{◌≡◌, ◌≤◌, Bool, true, false, List, [], ◌∷◌, length, reverse, Ok, refl, sym, ◌∙◌, arith}
use Rattle.std.proofs.lemmas.List.{length-reverse}
use Rattle.sp_words.specs.declared.methods.Method.{Method}
use Rattle.sp_words.specs.declared.methods.Method.TheVariants.{ToUint, ToInt, ToUintOrder, ToIntOrder, Sub, StartsWith, Split, Split1, Lower, Upper, Decode, Encode, PushBack, PopBack, Front, Back, Get, GetOr}
use Rattle.sp_value.specs.Val.{Val, uint, bytes, str, enum}
use Rattle.sp_methods.specs.Methods.{method}
use Rattle.sp_meaning.specs.Methods.{applied}

of_one : (m : Method) (a : Val) → applied m (a ∷ []) ≡ method m (a ∷ [])
of_one Lower (bytes _) = refl
of_one Upper (bytes _) = refl
of_one Encode (str _) = refl
of_one ToUint (bytes _) = refl
of_one ToUint (uint _ _) = refl
of_one ToInt (bytes _) = refl
of_one ToInt (uint _ _) = refl
of_one ToUintOrder (bytes _) = refl
of_one ToUintOrder (enum _ _) = refl
of_one ToIntOrder (bytes _) = refl
of_one ToIntOrder (enum _ _) = refl
of_one StartsWith (bytes _) = refl
of_one Split (bytes _) = refl
of_one Split1 (bytes _) = refl
of_one Sub (bytes _) = refl
of_one Sub (uint _ _) = refl
of_one Decode (bytes _) = refl
of_one Decode (enum _ _) = refl
of_one PushBack _ = refl
of_one PopBack _ = refl
of_one Front _ = refl
of_one Back _ = refl
of_one Get _ = refl
of_one GetOr _ = refl
of_one _ _ = refl

of_two : (m : Method) (a b : Val) → applied m (a ∷ b ∷ []) ≡ method m (b ∷ a ∷ [])
of_two Lower (bytes _) (bytes _) = refl
of_two Lower _ (bytes _) = refl
of_two Lower _ _ = refl
of_two Upper (bytes _) (bytes _) = refl
of_two Upper _ (bytes _) = refl
of_two Upper _ _ = refl
of_two Encode (str _) (str _) = refl
of_two Encode _ (str _) = refl
of_two Encode _ _ = refl
of_two ToUint (bytes _) (uint _ _) = refl
of_two ToUint _ (uint _ _) = refl
of_two ToUint _ _ = refl
of_two ToInt (bytes _) (uint _ _) = refl
of_two ToInt _ (uint _ _) = refl
of_two ToInt _ _ = refl
of_two ToUintOrder (bytes _) (enum _ _) = refl
of_two ToUintOrder _ (enum _ _) = refl
of_two ToUintOrder _ _ = refl
of_two ToIntOrder (bytes _) (enum _ _) = refl
of_two ToIntOrder _ (enum _ _) = refl
of_two ToIntOrder _ _ = refl
of_two StartsWith (bytes _) (bytes _) = refl
of_two StartsWith _ (bytes _) = refl
of_two StartsWith _ _ = refl
of_two Split (bytes _) (bytes _) = refl
of_two Split _ (bytes _) = refl
of_two Split _ _ = refl
of_two Split1 (bytes _) (bytes _) = refl
of_two Split1 _ (bytes _) = refl
of_two Split1 _ _ = refl
of_two Sub (bytes _) (uint _ _) = refl
of_two Sub (uint _ _) (uint _ _) = refl
of_two Sub _ (uint _ _) = refl
of_two Sub _ _ = refl
of_two Decode (bytes _) (enum _ _) = refl
of_two Decode (enum _ _) (enum _ _) = refl
of_two Decode _ (enum _ _) = refl
of_two Decode _ _ = refl
of_two PushBack _ _ = refl
of_two PopBack _ _ = refl
of_two Front _ _ = refl
of_two Back _ _ = refl
of_two Get _ _ = refl
of_two GetOr _ _ = refl

abbrev takes_three : Method → Bool
takes_three Sub = true
takes_three Decode = true
takes_three GetOr = true
takes_three m = false

-- of three values and more, most methods make nothing
of_more : (m : Method) (a b c : Val) (vs : List Val) → takes_three m ≡ false → applied m (a ∷ b ∷ c ∷ vs) ≡ Ok []
of_more Lower (bytes _) _ _ _ e = refl
of_more Lower _ _ _ _ e = refl
of_more Upper (bytes _) _ _ _ e = refl
of_more Upper _ _ _ _ e = refl
of_more Encode (str _) _ _ _ e = refl
of_more Encode _ _ _ _ e = refl
of_more ToUint (bytes _) (uint _ _) _ _ e = refl
of_more ToUint _ _ _ _ e = refl
of_more ToInt (bytes _) (uint _ _) _ _ e = refl
of_more ToInt _ _ _ _ e = refl
of_more ToUintOrder (bytes _) (enum _ _) _ _ e = refl
of_more ToUintOrder _ _ _ _ e = refl
of_more ToIntOrder (bytes _) (enum _ _) _ _ e = refl
of_more ToIntOrder _ _ _ _ e = refl
of_more StartsWith (bytes _) (bytes _) _ _ e = refl
of_more StartsWith _ _ _ _ e = refl
of_more Split (bytes _) (bytes _) _ _ e = refl
of_more Split _ _ _ _ e = refl
of_more Split1 (bytes _) (bytes _) _ _ e = refl
of_more Split1 _ _ _ _ e = refl
of_more PushBack _ _ _ _ e = refl
of_more PopBack _ _ _ _ e = refl
of_more Front _ _ _ _ e = refl
of_more Back _ _ _ _ e = refl
of_more Get _ _ _ _ e = refl
of_more Sub a b c vs e = absurd (let q : true ≡ false = e in cc)
of_more Decode a b c vs e = absurd (let q : true ≡ false = e in cc)
of_more GetOr a b c vs e = absurd (let q : true ≡ false = e in cc)

also_of_more : (m : Method) (a b c : Val) (vs : List Val) → takes_three m ≡ false → method m (a ∷ b ∷ c ∷ vs) ≡ Ok []
also_of_more Lower (bytes _) _ _ _ e = refl
also_of_more Lower _ _ _ _ e = refl
also_of_more Upper (bytes _) _ _ _ e = refl
also_of_more Upper _ _ _ _ e = refl
also_of_more Encode (str _) _ _ _ e = refl
also_of_more Encode _ _ _ _ e = refl
also_of_more ToUint (uint _ _) (bytes _) _ _ e = refl
also_of_more ToUint _ _ _ _ e = refl
also_of_more ToInt (uint _ _) (bytes _) _ _ e = refl
also_of_more ToInt _ _ _ _ e = refl
also_of_more ToUintOrder (enum _ _) (bytes _) _ _ e = refl
also_of_more ToUintOrder _ _ _ _ e = refl
also_of_more ToIntOrder (enum _ _) (bytes _) _ _ e = refl
also_of_more ToIntOrder _ _ _ _ e = refl
also_of_more StartsWith (bytes _) (bytes _) _ _ e = refl
also_of_more StartsWith _ _ _ _ e = refl
also_of_more Split (bytes _) (bytes _) _ _ e = refl
also_of_more Split _ _ _ _ e = refl
also_of_more Split1 (bytes _) (bytes _) _ _ e = refl
also_of_more Split1 _ _ _ _ e = refl
also_of_more PushBack _ _ _ _ e = refl
also_of_more PopBack _ _ _ _ e = refl
also_of_more Front _ _ _ _ e = refl
also_of_more Back _ _ _ _ e = refl
also_of_more Get _ _ _ _ e = refl
also_of_more Sub a b c vs e = absurd (let q : true ≡ false = e in cc)
also_of_more Decode a b c vs e = absurd (let q : true ≡ false = e in cc)
also_of_more GetOr a b c vs e = absurd (let q : true ≡ false = e in cc)

sub_of : (a b c : Val) → applied Sub (a ∷ b ∷ c ∷ []) ≡ method Sub (c ∷ b ∷ a ∷ [])
sub_of (bytes _) (uint _ _) (uint _ _) = refl
sub_of (bytes _) _ (uint _ _) = refl
sub_of _ (uint _ _) (uint _ _) = refl
sub_of _ _ (uint _ _) = refl
sub_of _ _ _ = refl

decode_of : (a b c : Val) → applied Decode (a ∷ b ∷ c ∷ []) ≡ method Decode (c ∷ b ∷ a ∷ [])
decode_of (bytes _) (enum _ _) (enum _ _) = refl
decode_of (bytes _) _ (enum _ _) = refl
decode_of _ (enum _ _) (enum _ _) = refl
decode_of _ _ (enum _ _) = refl
decode_of _ _ _ = refl

of_three : (m : Method) (a b c : Val) → applied m (a ∷ b ∷ c ∷ []) ≡ method m (c ∷ b ∷ a ∷ [])
of_three Sub a b c = sub_of a b c
of_three Decode a b c = decode_of a b c
of_three GetOr a b c = refl
of_three m a b c = of_more m a b c [] refl ∙ sym (also_of_more m c b a [] refl)

-- and of four and more each does
too_many : (m : Method) (a b c d : Val) (vs : List Val) → applied m (a ∷ b ∷ c ∷ d ∷ vs) ≡ Ok []
too_many Sub (bytes _) (uint _ _) (uint _ _) _ _ = refl
too_many Sub _ _ _ _ _ = refl
too_many Decode (bytes _) (enum _ _) (enum _ _) _ _ = refl
too_many Decode _ _ _ _ _ = refl
too_many GetOr _ _ _ _ _ = refl
too_many m a b c d vs = of_more m a b c (d ∷ vs) refl

also_too_many : (m : Method) (a b c d : Val) (vs : List Val) → method m (a ∷ b ∷ c ∷ d ∷ vs) ≡ Ok []
also_too_many Sub (uint _ _) (uint _ _) (bytes _) _ _ = refl
also_too_many Sub _ _ _ _ _ = refl
also_too_many Decode (enum _ _) (enum _ _) (bytes _) _ _ = refl
also_too_many Decode _ _ _ _ _ = refl
also_too_many GetOr _ _ _ _ _ = refl
also_too_many m a b c d vs = also_of_more m a b c (d ∷ vs) refl

of_many : (m : Method) (vs : List Val) → 4 ≤ length vs → method m vs ≡ Ok []
of_many m [] l = absurd (omega (arith, l))
of_many m (a ∷ []) l = absurd (omega (arith, l))
of_many m (a ∷ b ∷ []) l = absurd (omega (arith, l))
of_many m (a ∷ b ∷ c ∷ []) l = absurd (omega (arith, l))
of_many m (a ∷ b ∷ c ∷ d ∷ vs) l = also_too_many m a b c d vs

of_none : (m : Method) → applied m [] ≡ method m []
of_none Lower = refl
of_none Upper = refl
of_none Encode = refl
of_none ToUint = refl
of_none ToInt = refl
of_none ToUintOrder = refl
of_none ToIntOrder = refl
of_none StartsWith = refl
of_none Split = refl
of_none Split1 = refl
of_none Sub = refl
of_none Decode = refl
of_none PushBack = refl
of_none PopBack = refl
of_none Front = refl
of_none Back = refl
of_none Get = refl
of_none GetOr = refl

pub applied_is : (m : Method) (vs : List Val) → applied m vs ≡ method m (reverse vs)
applied_is m [] = of_none m
applied_is m (a ∷ []) = of_one m a
applied_is m (a ∷ b ∷ []) = of_two m a b
applied_is m (a ∷ b ∷ c ∷ []) = of_three m a b c
applied_is m (a ∷ b ∷ c ∷ d ∷ vs) =
    too_many m a b c d vs ∙ sym (of_many m (reverse (a ∷ b ∷ c ∷ d ∷ vs)) (omega (arith, length-reverse (a ∷ b ∷ c ∷ d ∷ vs))))
