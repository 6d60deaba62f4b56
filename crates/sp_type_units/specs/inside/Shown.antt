-- What a unit names, as members.
use Rattle.std.specs.Prelude.{List, [], ◌∷◌}
use Rattle.sp_type_modules.specs.Members.{UnitMember}
use Rattle.sp_type_units.specs.declared.named.Named.{Named}

abbrev pub shown_one : Named → UnitMember
shown_one n = record { name = n.name.now; kind = n.kind }

abbrev pub shown : List Named → List UnitMember
shown [] = []
shown (n ∷ ns) = shown_one n ∷ shown ns
