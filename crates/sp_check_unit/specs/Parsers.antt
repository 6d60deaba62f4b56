-- The numbers of units.
use Rattle.std.specs.Prelude.{Bool, nat_le, List, length}
use Rattle.sp_typed_units.specs.declared.declarations.Unit.{Unit}

-- There are so few units that each has a number.
abbrev pub have_numbers : List Unit → Bool
have_numbers us = nat_le (length us) 4294967295
