-- How many operands methods take, and which change their receiver.
use Rattle.std.specs.Prelude.{ℕ, Bool, true, false}
use Rattle.sp_words.specs.declared.methods.Method.{Method}
use Rattle.sp_words.specs.declared.methods.Method.TheVariants.{ToUint, ToInt, ToUintOrder, ToIntOrder, Sub, StartsWith, Split, Split1, Lower, Upper, Decode, Encode, PushBack, PopBack, Front, Back, Get, GetOr}

-- how many operands a method takes, its receiver among them
abbrev pub arity : Method → ℕ
arity ToUint = 2
arity ToInt = 2
arity ToUintOrder = 2
arity ToIntOrder = 2
arity Sub = 3
arity StartsWith = 2
arity Split = 2
arity Split1 = 2
arity Lower = 1
arity Upper = 1
arity Decode = 3
arity Encode = 1
arity PushBack = 2
arity PopBack = 1
arity Front = 1
arity Back = 1
arity Get = 2
arity GetOr = 3

-- whether a method changes its receiver
abbrev pub changes : Method → Bool
changes PushBack = true
changes PopBack = true
changes _ = false
