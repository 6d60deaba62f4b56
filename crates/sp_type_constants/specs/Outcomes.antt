-- What an expression is as a constant, by what its parts are. What has a part that is not constant is not constant; else
-- what needs a part whose value is an error is an error, also where nothing is known of another part; else what needs a part of
-- which nothing is known is not known.
use Rattle.std.specs.Prelude.{Bool, true, false, not, List, [], ◌∷◌, ◌++◌, Result, Ok, Err, if◌then◌else◌}
use Rattle.sp_base.specs.declared.kinds.PKind.{PKind}
use Rattle.sp_value.specs.Val.{Val, bool}
use Rattle.sp_type_constants.specs.declared.outcome.Outcome.{Outcome}
use Rattle.sp_type_constants.specs.declared.outcome.Outcome.TheVariants.{Value, Regex, NotConstant, Error, Unknown}
use Rattle.sp_type_constants.specs.declared.lack.Lack.{Lack}
use Rattle.sp_type_constants.specs.declared.lack.Lack.TheVariants as lack_is

-- what an expression lacks to be a value
abbrev pub lack_of : Outcome → Lack
lack_of (Value v) = lack_is.Nothing
lack_of Error = lack_is.Value
lack_of (Regex t) = lack_is.Known
lack_of Unknown = lack_is.Known
lack_of NotConstant = lack_is.Constant

-- what lacks something is no value
abbrev pub lacking : Lack → Outcome
lacking lack_is.Nothing = Unknown
lacking lack_is.Value = Error
lacking lack_is.Known = Unknown
lacking lack_is.Constant = NotConstant

-- the worse of two
abbrev pub worse : Lack → Lack → Lack
worse lack_is.Nothing b = b
worse lack_is.Known lack_is.Nothing = lack_is.Known
worse lack_is.Known b = b
worse lack_is.Value lack_is.Constant = lack_is.Constant
worse lack_is.Value b = lack_is.Value
worse lack_is.Constant b = lack_is.Constant

-- the worst of all
abbrev pub worst : List Outcome → Lack
worst [] = lack_is.Nothing
worst (o ∷ os) = worse (lack_of o) (worst os)

-- the values of those that are values
abbrev pub kept : Outcome → List Val
kept (Value v) = v ∷ []
kept _ = []

abbrev pub values : List Outcome → List Val
values [] = []
values (o ∷ os) = kept o ++ values os

-- what is made of a value
abbrev pub of_one : (Val → Outcome) → Outcome → Outcome
of_one f (Value v) = f v
of_one f (Regex t) = Unknown
of_one f o = o

-- what is made of two values
abbrev pub of_two : (Val → Val → Outcome) → Outcome → Outcome → Outcome
of_two f (Value a) (Value b) = f a b
of_two f a b = lacking (worse (lack_of a) (lack_of b))

-- what is made of all values of a row
abbrev pub made : (List Val → Outcome) → Lack → List Val → Outcome
made f lack_is.Nothing vs = f vs
made f lack vs = lacking lack

abbrev pub of_all : (List Val → Outcome) → List Outcome → Outcome
of_all f os = made f (worst os) (values os)

-- the value or the error that an operator has
abbrev pub answered : Result Val PKind → Outcome
answered (Ok v) = Value v
answered (Err error) = Error

abbrev pub is_constant : Outcome → Bool
is_constant NotConstant = false
is_constant _ = true

-- where a part is not constant, the whole is not, also where that part is not needed
abbrev pub if_constant : Outcome → Outcome → Outcome
if_constant o whole = if is_constant o then whole else NotConstant

-- a truth
abbrev pub truth : Val → Outcome
truth (bool b) = Value (bool b)
truth _ = Unknown

abbrev pub is_true : Outcome → Bool
is_true (Value (bool b)) = b
is_true _ = false

abbrev pub is_false : Outcome → Bool
is_false (Value (bool b)) = not b
is_false _ = false

-- `&&` and `||` need the right side only where the left one leaves it open
abbrev pub both_hold : Outcome → Outcome → Outcome
both_hold a b = if is_true a then of_one truth b else of_one truth a

abbrev pub either_holds : Outcome → Outcome → Outcome
either_holds a b = if is_false a then of_one truth b else of_one truth a

-- `c ? a : b` needs the one that is chosen
abbrev pub chosen : Outcome → Outcome → Outcome → Outcome
chosen c a b = if is_true c then a else (if is_false c then b else lacking (lack_of c))

-- what a name stands for: one that has no value for whatever reason is an error where it is used
abbrev pub used : Outcome → Outcome
used NotConstant = Error
used o = o
