-- Rows on which the values of constants are run: sides that aren't needed, errors, what isn't constant, literals past their
-- types, labels.
use Rattle.std.specs.Prelude.{ℕ, zero, suc, ◌≡◌, ◌-◌, ◌^◌, pos, neg_ℤ, true, false, List, [], ◌∷◌, codes, refl}
use Rattle.sp_base.specs.declared.places.Span.{Span}
use Rattle.sp_words.specs.declared.operators.BinaryOp.{BinaryOp}
use Rattle.sp_words.specs.declared.operators.BinaryOp.TheVariants as op_is
use Rattle.sp_numbers.specs.declared.width.Width.TheVariants.{W8, W64}
use Rattle.sp_value.specs.Val.{Val, bool, uint, int, enum}
use Rattle.sp_types.specs.Types.{Ty, word, made, none}
use Rattle.sp_types.specs.declared.words.Word.TheVariants as word_is
use Rattle.sp_types.specs.declared.words.Maker.TheVariants as maker_is
use Rattle.sp_typed.specs.declared.words.LeafOp.{LeafOp}
use Rattle.sp_typed.specs.declared.words.LeafOp.TheVariants as leaf_is
use Rattle.sp_typed.specs.declared.words.OneOp.{OneOp}
use Rattle.sp_typed.specs.declared.words.OneOp.TheVariants as one_is
use Rattle.sp_typed.specs.declared.words.TwoOp.TheVariants as two_is
use Rattle.sp_typed.specs.declared.words.ManyOp.{ManyOp}
use Rattle.sp_typed.specs.declared.words.ManyOp.TheVariants as many_is
use Rattle.sp_typed.specs.declared.words.Standing.TheVariants as standing_is
use Rattle.sp_typed.specs.Exprs.{Expr, leaf, one, two, three, many, exprs}
use Rattle.sp_type_constants.specs.declared.outcome.Outcome.{Outcome}
use Rattle.sp_type_constants.specs.declared.outcome.Outcome.TheVariants.{Value, NotConstant, Error, Unknown}
use Rattle.sp_type_constants.specs.Known.{Known}
use Rattle.sp_type_constants.specs.Values.{value_of}
use Rattle.sp_type_constants.specs.Labels.{label_value, next_label}

abbrev here : Span
here = record { from = 0; to = 0 }

abbrev byte : Ty
byte = word (word_is.Uint W8)

abbrev long : Ty
long = word (word_is.Uint W64)

abbrev truth : Ty
truth = word word_is.Bool

-- the first constant is 3, the second an error, and all others are not constant
abbrev constant_at : ℕ → Outcome
constant_at zero = Value (uint W64 3)
constant_at (suc zero) = Error
constant_at _ = NotConstant

abbrev known : Known
known = record { constant = constant_at; label = λ owner label. Value (enum owner label) }

abbrev leaf_of : Ty → LeafOp → Expr
leaf_of t op = leaf (record { span = here; ty = t; op = op })

abbrev number : ℕ → Expr
number n = leaf_of long (leaf_is.Number n)

abbrev small : ℕ → Expr
small n = leaf_of byte (leaf_is.TypedNumber n)

abbrev minus : Ty → ℕ → Expr
minus t n = one (record { span = here; ty = t; op = one_is.Negate }) (number n)

abbrev binary : BinaryOp → Expr → Expr → Expr
binary op a b = two (record { span = here; ty = long; op = two_is.Binary op }) a b

abbrev index : Expr → Expr → Expr
index a i = two (record { span = here; ty = long; op = two_is.Index }) a i

abbrev row : ManyOp → List Expr → Expr
row op es = many (record { span = here; ty = long; op = op }) (exprs es)

abbrev yes_leaf : Expr
yes_leaf = leaf_of truth leaf_is.True

abbrev no_leaf : Expr
no_leaf = leaf_of truth leaf_is.False

-- `1 / 0`, `"x" + 1`, `1 / 0 == 1`, `f()` and `self`
abbrev by_nothing : Expr
by_nothing = binary op_is.Divide (number 1) (number 0)

abbrev mixed : Expr
mixed = binary op_is.Add (leaf_of (word word_is.String) (leaf_is.Text [])) (number 1)

abbrev failing : Expr
failing = binary op_is.Equal (binary op_is.Divide (number 1) (number 0)) (number 1)

abbrev call : Expr
call = row (many_is.Call 0) []

abbrev itself : Expr
itself = leaf_of (word word_is.Unknown) (leaf_is.Itself standing_is.Unmeant)

sum : value_of known (binary op_is.Add (number 1) (number 2)) ≡ Value (uint W64 3)
sum = refl

past : value_of known (binary op_is.Add (small 200) (small 100)) ≡ Error
past = refl

by_zero : value_of known failing ≡ Error
by_zero = refl

-- the right side of `&&` isn't needed, but has to be constant
not_needed : value_of known (binary op_is.And no_leaf failing) ≡ Value (bool false)
not_needed = refl

needed : value_of known (binary op_is.And yes_leaf failing) ≡ Error
needed = refl

not_constant : value_of known (binary op_is.And no_leaf call) ≡ NotConstant
not_constant = refl

open_side : value_of known (binary op_is.Or no_leaf yes_leaf) ≡ Value (bool true)
open_side = refl

chosen : value_of known (three (record { span = here; ty = long }) yes_leaf (number 1) (binary op_is.Divide (number 1) (number 0))) ≡ Value (uint W64 1)
chosen = refl

-- what is not constant comes before what breaks another rule
before_others : value_of known (binary op_is.Add itself (binary op_is.Add (number 1) yes_leaf)) ≡ NotConstant
before_others = refl

no_operand : value_of known (binary op_is.Add (number 1) yes_leaf) ≡ Unknown
no_operand = refl

-- and so does a part whose value is an error, on either side of one that breaks another rule: `(1 / 0) + ("x" + 1)`,
-- `("x" + 1) + (1 / 0)`, `[D, "x" + 1]` where D has no value
broken_behind : value_of known (binary op_is.Add by_nothing mixed) ≡ Error
broken_behind = refl

broken_before : value_of known (binary op_is.Add mixed by_nothing) ≡ Error
broken_before = refl

broken_beside : value_of known (row many_is.Vector (leaf_of long (leaf_is.Constant 2) ∷ mixed ∷ [])) ≡ Error
broken_beside = refl

-- but not one that isn't needed: `True || D`
spared : value_of known (binary op_is.Or yes_leaf (leaf_of truth (leaf_is.Constant 2))) ≡ Value (bool true)
spared = refl

-- names that are no constants and no labels, whatever stands beside them: `1 + f`, `1 + U`, `1 + M`
names_function : value_of known (binary op_is.Add (number 1) (leaf_of (word word_is.Unknown) (leaf_is.Function 0))) ≡ NotConstant
names_function = refl

names_type : value_of known (binary op_is.Add (number 1) (leaf_of (word word_is.Unknown) (leaf_is.TypeName (word_is.Unit 0)))) ≡ NotConstant
names_type = refl

names_module : value_of known (binary op_is.Add (number 1) (leaf_of (word word_is.Unknown) leaf_is.Module)) ≡ NotConstant
names_module = refl

-- uses of constants
used_three : value_of known (leaf_of long (leaf_is.Constant 0)) ≡ Value (uint W64 3)
used_three = refl

used_failing : value_of known (leaf_of long (leaf_is.Constant 2)) ≡ Error
used_failing = refl

-- literals and their types
least_byte : value_of known (minus (word (word_is.Int W8)) 128) ≡ Value (int W8 (neg_ℤ (pos 128)))
least_byte = refl

past_least : value_of known (minus (word (word_is.Int W8)) 129) ≡ Unknown
past_least = refl

past_byte : value_of known (leaf_of byte (leaf_is.Number 256)) ≡ Unknown
past_byte = refl

-- a number past the type that is written before it has no value, and nor has what it is part of: `uint8(256)`, `uint8(1) + uint8(256)`,
-- `~uint8(256)`
typed_past_byte : value_of known (small 256) ≡ Unknown
typed_past_byte = refl

beside_past_byte : value_of known (binary op_is.Add (small 1) (small 256)) ≡ Unknown
beside_past_byte = refl

round_past_byte : value_of known (one (record { span = here; ty = byte; op = one_is.Complement }) (small 256)) ≡ Unknown
round_past_byte = refl

signed_zero : value_of known (minus byte 0) ≡ Value (uint W8 0)
signed_zero = refl

below_zero : value_of known (minus byte 1) ≡ Unknown
below_zero = refl

too_wide : value_of known (one (record { span = here; ty = byte; op = one_is.Widen }) (number 65535)) ≡ Error
too_wide = refl

-- elements
second : value_of known (index (row many_is.Vector (number 1 ∷ number 2 ∷ [])) (number 1)) ≡ Value (uint W64 2)
second = refl

no_item : value_of known (index (row many_is.Vector (number 1 ∷ [])) (number 1)) ≡ Error
no_item = refl

no_key : value_of known (index (row many_is.Map (number 1 ∷ yes_leaf ∷ [])) (number 2)) ≡ Error
no_key = refl

once : value_of known (one (record { span = here; ty = long; op = one_is.Size }) (row many_is.Set (number 1 ∷ number 1 ∷ []))) ≡ Value (uint W64 1)
once = refl

-- labels count on from the one before, up to 2 to the power of 64
counted : next_label 5 (label_value 5 (Value (uint W8 7))) ≡ Value (enum 5 8)
counted = refl

past_last : next_label 5 (Value (enum 5 (2 ^ 64 - 1))) ≡ Unknown
past_last = refl

no_number : label_value 5 (Value (bool true)) ≡ Unknown
no_number = refl
