-- The types of the locals of bodies.
use Rattle.std.specs.Prelude.{List, [], ◌∷◌}
use Rattle.sp_numbers.specs.declared.width.Width.TheVariants.{W64}
use Rattle.sp_types.specs.declared.words.Word.TheVariants as word_is
use Rattle.sp_types.specs.Types.{Ty, word}
use Rattle.sp_typed_units.specs.declared.declarations.Parameter.{Parameter}

abbrev pub parameter_types : List Parameter → List Ty
parameter_types [] = []
parameter_types (x ∷ xs) = x.ty ∷ parameter_types xs

-- an offset, and `$$` without a sign and with one
abbrev pub unit_types : List Ty
unit_types = word (word_is.Uint W64) ∷ word (word_is.Uint W64) ∷ word (word_is.Int W64) ∷ []
