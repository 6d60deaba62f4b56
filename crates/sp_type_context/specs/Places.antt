-- Where a type is written, and which types can stand there.
use Rattle.std.specs.Prelude.{Bool, true, false, not, ◌||◌, if◌then◌else◌}
use Rattle.sp_types.specs.Types.{Ty, word, is_known, is_plain, is_key}
use Rattle.sp_types.specs.declared.words.Word.TheVariants as word_is
use Rattle.sp_type_operands.specs.Operands.{unknown}
use Rattle.sp_type_context.specs.declared.places.Place.{Place}
use Rattle.sp_type_context.specs.declared.places.Place.TheVariants as place_is

abbrev pub is_unit : Ty → Bool
is_unit (word (word_is.Unit n)) = true
is_unit _ = false

-- Whether a type can stand at a place. Values are kept where their type is plain; a key is of a type of keys; a parameter with
-- `inout` is a unit; a local with a value is plain, or a unit. An unknown type can stand everywhere: nothing is asked of it.
abbrev pub suits : Place → Ty → Bool
suits place_is.Whole t = true
suits place_is.Value t = is_plain t
suits place_is.Key t = is_key t
suits place_is.Inout t = is_unit t || not (is_known t)
suits place_is.Local t = is_plain t || is_unit t

-- The type of what is declared with a type that is written at a place: unknown where that can't stand there, so that nothing is
-- asked of what is declared with it.
abbrev pub standing : Place → Ty → Ty
standing place t = if suits place t then t else unknown

-- where the type of a parameter stands, which has `inout` or not
abbrev pub parameter_place : Bool → Place
parameter_place true = place_is.Inout
parameter_place false = place_is.Value
