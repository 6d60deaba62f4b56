-- The test of constants: that their values are of their types.
use Rattle.std.specs.Prelude.{ℕ, zero, suc, Bool, true, false, ◌&&◌, List, [], ◌∷◌}
use Rattle.sp_value.specs.Val.{Val, Vals, Entries, bool, uint, int, bytes, str, enum, tuple, vector, set, map, no_vals, val, no_entries, entry}
use Rattle.sp_types.specs.declared.words.Maker.TheVariants as maker_is
use Rattle.sp_types.specs.Types.{Ty, Tys, made, none, more}
use Rattle.sp_typed_units.specs.declared.declarations.Constant.{Constant}
use Rattle.sp_typed_units.specs.declared.declarations.ConstantValue.{ConstantValue}
use Rattle.sp_typed_units.specs.declared.declarations.ConstantValue.TheVariants as constant_is
use Rattle.sp_law_lists.specs.fit_expr.Sorts.{Bools, Unsigned, Signed, Bytes, Text}
use Rattle.sp_law_lists.specs.fit_expr.Test.{is_sort, is_enum}

-- the part at a place is there, and a test holds of it
abbrev pub nth_has : Tys → ℕ → (Ty → Bool) → Bool
nth_has none n f = false
nth_has (more t ts) zero f = f t
nth_has (more t ts) (suc n) f = nth_has ts n f

abbrev mutual
  -- a value is of a type; there are no constant bitfields, units and places
  pub value_has : Val → Ty → Bool
  value_has (bool b) t = is_sort t Bools
  value_has (uint w n) t = is_sort t Unsigned
  value_has (int w n) t = is_sort t Signed
  value_has (bytes b) t = is_sort t Bytes
  value_has (str b) t = is_sort t Text
  value_has (enum k n) t = is_enum k t
  value_has (tuple vs) (made maker_is.Tuple ts) = members_have vs ts
  value_has (vector vs) (made maker_is.Vector ts) = items_have vs ts
  value_has (set vs) (made maker_is.Set ts) = items_have vs ts
  value_has (map es) (made maker_is.Map ts) = entries_have es ts
  value_has v t = false

  -- each value is of the type at its place, and there are as many
  pub members_have : Vals → Tys → Bool
  members_have no_vals none = true
  members_have (val v vs) (more t ts) = value_has v t && members_have vs ts
  members_have vs ts = false

  -- each value is of the first of these types
  pub items_have : Vals → Tys → Bool
  items_have no_vals ts = true
  items_have (val v vs) ts = nth_has ts 0 (value_has v) && items_have vs ts

  -- each key is of the first of these types, and each value of the second
  pub entries_have : Entries → Tys → Bool
  entries_have no_entries ts = true
  entries_have (entry k v es) ts = nth_has ts 0 (value_has k) && nth_has ts 1 (value_has v) && entries_have es ts

-- a constant that has a value has one of its type
abbrev pub constant_passes : ConstantValue → Ty → Bool
constant_passes (constant_is.Value v) t = value_has v t
constant_passes c t = true

-- each of several does
abbrev pub constants_pass : List Constant → Bool
constants_pass [] = true
constants_pass (c ∷ cs) = constant_passes c.value c.ty && constants_pass cs
