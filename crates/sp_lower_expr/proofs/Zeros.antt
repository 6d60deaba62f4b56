-- The first values of types, one after another.
use Rattle.std.proofs.Common.{◌≡◌, ℕ, List, [], ◌∷◌, map, refl}
use Rattle.sp_value.specs.Val.{vals_of}
use Rattle.sp_types.specs.Types.{Ty, tys}
use Rattle.sp_meaning_states.specs.Types.{zero_value, zero_values}

pub values_of_each : (ranges : List ℕ) (ts : List Ty) → vals_of (map (zero_value ranges) ts) ≡ zero_values ranges (tys ts)
values_of_each ranges [] = refl
values_of_each ranges (t ∷ ts) = let others = values_of_each ranges ts in cc
