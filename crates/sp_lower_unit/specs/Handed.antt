-- What a hook hands to each of its bodies.
use Rattle.std.specs.Prelude.{ℕ, List, [], ◌∷◌}
use Rattle.sp_code_meaning.specs.Units.{offset_slot, value_slot}
use Rattle.sp_lower_unit.specs.declared.hooks.Handed.{Handed}
use Rattle.sp_lower_unit.specs.declared.hooks.Handed.TheVariants as hands

-- the locals that have it, the first value first
abbrev pub handed_locals : Handed → List ℕ
handed_locals hands.Nothing = []
handed_locals (hands.Current signed) = value_slot signed ∷ offset_slot ∷ []
