-- Rows on which the definitions are run: two fields of one body, of which the first counts.
use Rattle.std.specs.Prelude.{◌≡◌, [], ◌∷◌, Some, None, refl}
use Rattle.std.proofs.Common.{arith}
use Rattle.sp_methods.specs.Kinds.{Bools, Unsigned}
use Rattle.sp_typed_units.specs.declared.items.Field.{Field}
use Rattle.sp_lower_tables.specs.Numbers.{AreNumbersOf}
use Rattle.sp_lower_tables.specs.inside.Fields.{field_if, field_among}

-- the second kind of a table, twice
second_twice : AreNumbersOf (Unsigned ∷ Bools ∷ []) (Bools ∷ Bools ∷ []) (1 ∷ 1 ∷ [])
second_twice = record { below = (omega arith, (omega arith, tt)); are = refl }

-- a number past the table
nothing_is_past : AreNumbersOf (Unsigned ∷ []) (Unsigned ∷ []) (1 ∷ []) → ⊥
nothing_is_past is = omega (arith, is.below.0)

one_of_its_bodies : (f : Field) → field_among f (3 ∷ 5 ∷ []) 5 ≡ Some f
one_of_its_bodies f = refl

none_of_its_bodies : (f : Field) → field_among f (3 ∷ 5 ∷ []) 4 ≡ None
none_of_its_bodies f = refl

not_another_body : (f : Field) → field_if f 3 4 ≡ None
not_another_body f = refl
