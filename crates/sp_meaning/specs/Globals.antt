-- What a list of modules declares that its expressions ask for: constants, labels and ranges.
use Rattle.std.specs.Prelude.{ℕ, List, [], ◌∷◌, length, Option, Some, None, slice_get, unwrap_or}
use Rattle.sp_value.specs.Val.{Val, enum}
use Rattle.sp_typed_units.specs.declared.declarations.Typed.{Typed}
use Rattle.sp_typed_units.specs.declared.declarations.Constant.{Constant}
use Rattle.sp_typed_units.specs.declared.declarations.ConstantValue.{ConstantValue}
use Rattle.sp_typed_units.specs.declared.declarations.ConstantValue.TheVariants as constant_is
use Rattle.sp_typed_units.specs.declared.declarations.Enum.{Enum}
use Rattle.sp_typed_units.specs.declared.declarations.Label.{Label}
use Rattle.sp_typed_units.specs.declared.declarations.LabelNumber.{LabelNumber}
use Rattle.sp_typed_units.specs.declared.declarations.LabelNumber.TheVariants as number_is
use Rattle.sp_typed_units.specs.declared.declarations.Bitfield.{Bitfield}

-- the value of each constant, the numbers of the labels of each enum, and how many ranges each bitfield has
pub record Globals : Type 0 where
  pub constants : List (Option Val)
  pub labels : List (List ℕ)
  pub ranges : List ℕ

abbrev pub constant_value : ConstantValue → Option Val
constant_value (constant_is.Value v) = Some v
constant_value c = None

abbrev pub constant_values : List Constant → List (Option Val)
constant_values [] = []
constant_values (c ∷ cs) = constant_value c.value ∷ constant_values cs

-- a label without a number breaks a rule
abbrev pub number_of : LabelNumber → ℕ
number_of (number_is.Number n) = n
number_of n = 0

abbrev pub label_numbers : List Label → List ℕ
label_numbers [] = []
label_numbers (l ∷ ls) = number_of l.number ∷ label_numbers ls

abbrev pub enum_labels : List Enum → List (List ℕ)
enum_labels [] = []
enum_labels (e ∷ es) = label_numbers e.labels ∷ enum_labels es

abbrev pub range_counts : List Bitfield → List ℕ
range_counts [] = []
range_counts (b ∷ bs) = length b.ranges ∷ range_counts bs

abbrev pub globals_of : Typed → Globals
globals_of list = record { constants = constant_values list.constants; labels = enum_labels list.enums; ranges = range_counts list.bitfields }

-- a label by the numbers of its enum and of itself
abbrev pub label_value : Globals → ℕ → ℕ → Val
label_value globals k l = enum k (unwrap_or (slice_get (unwrap_or (slice_get globals.labels k) []) l) 0)
