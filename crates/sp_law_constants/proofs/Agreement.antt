-- What a typed list tells the checker of constants and labels is what its bodies have for them.
use Rattle.std.specs.Prelude.{ℕ, zero, suc, List, [], ◌∷◌, Some, slice_get, unwrap_or}
use Rattle.std.proofs.Common.{◌≡◌, ap}
use Rattle.sp_value.specs.Val.{Val, enum}
use Rattle.sp_typed_units.specs.declared.declarations.Constant.{Constant}
use Rattle.sp_typed_units.specs.declared.declarations.ConstantValue.{ConstantValue}
use Rattle.sp_typed_units.specs.declared.declarations.ConstantValue.TheVariants as constant_is
use Rattle.sp_typed_units.specs.declared.declarations.Enum.{Enum}
use Rattle.sp_typed_units.specs.declared.declarations.Label.{Label}
use Rattle.sp_typed_units.specs.declared.declarations.LabelNumber.{LabelNumber}
use Rattle.sp_typed_units.specs.declared.declarations.LabelNumber.TheVariants as number_is
use Rattle.sp_type_constants.specs.declared.outcome.Outcome.TheVariants.{Value}
use Rattle.sp_rule_lists.specs.Told.{constant_outcome, constant_told, label_outcome, label_told, label_in}
use Rattle.sp_meaning.specs.Globals.{constant_value, constant_values, number_of, label_numbers, enum_labels}
use Rattle.sp_law_constants.specs.Lists.{ListsAgree}

value_kept : (c : ConstantValue) (v : Val) → constant_outcome c ≡ Value v → constant_value c ≡ Some v
value_kept (constant_is.Value w) v e = cc
value_kept (constant_is.Regex text) v e = cc
value_kept constant_is.NotConstant v e = cc
value_kept constant_is.Unknown v e = cc

constant_at : (cs : List Constant) (n : ℕ) (v : Val) → constant_told (slice_get cs n) ≡ Value v → slice_get (constant_values cs) n ≡ Some (Some v)
constant_at [] n v e = cc
constant_at (c ∷ cs) zero v e = ap Some (value_kept c.value v e)
constant_at (c ∷ cs) (suc n) v e = constant_at cs n v e

number_kept : (owner : ℕ) (l : LabelNumber) (v : Val) → label_outcome owner l ≡ Value v → enum owner (number_of l) ≡ v
number_kept owner (number_is.Number n) v e = cc
number_kept owner number_is.NotConstant v e = cc
number_kept owner number_is.Past v e = cc
number_kept owner number_is.Unknown v e = cc

label_at : (owner : ℕ) (ls : List Label) (n : ℕ) (v : Val) → label_told owner (slice_get ls n) ≡ Value v → enum owner (unwrap_or (slice_get (label_numbers ls) n) 0) ≡ v
label_at owner [] n v e = cc
label_at owner (l ∷ ls) zero v e = number_kept owner l.number v e
label_at owner (l ∷ ls) (suc n) v e = label_at owner ls n v e

enum_at : (owner : ℕ) (es : List Enum) (j n : ℕ) (v : Val) → label_in owner n (slice_get es j) ≡ Value v → enum owner (unwrap_or (slice_get (unwrap_or (slice_get (enum_labels es) j) []) n) 0) ≡ v
enum_at owner [] j n v e = cc
enum_at owner (x ∷ es) zero n v e = label_at owner x.labels n v e
enum_at owner (x ∷ es) (suc j) n v e = enum_at owner es j n v e

pub lists_agree : ListsAgree
lists_agree t = record {
  constants = λ n v e. constant_at t.constants n v e;
  labels = λ owner n v e. enum_at owner t.enums owner n v e;
}
