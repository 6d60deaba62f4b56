-- Numbers that are shared, as their list.
use Rattle.std.specs.Prelude.{ℕ, List, [], ◌∷◌}
use Rattle.sp_typed_units.specs.declared.numbers.Kept.{Kept}
use Rattle.sp_typed_units.specs.declared.numbers.Kept.TheVariants as kept_is

-- the numbers that are kept
abbrev pub listed : Kept → List ℕ
listed kept_is.Nothing = []
listed (kept_is.One n) = n ∷ []
listed (kept_is.Many list) = list.value.items
