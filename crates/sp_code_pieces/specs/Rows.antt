-- The rows of the meaning of units, on which its pieces are computed: both tell the same, and end alike.
use Rattle.std.specs.Prelude.{◌≡◌, ℕ, true, false, List, [], ◌∷◌, Some, None, refl}
use Rattle.sp_base.specs.Input.{Close, held_open, ended}
use Rattle.sp_words.specs.declared.words.AttributeName.TheVariants as name_is
use Rattle.sp_events.specs.declared.event.What.{What}
use Rattle.sp_types.specs.declared.words.Word.TheVariants as word_is
use Rattle.sp_types.specs.Types.{word}
use Rattle.sp_numbers.specs.declared.width.Width.TheVariants.{W64}
use Rattle.sp_typed_units.specs.declared.declarations.Hook.{Hook}
use Rattle.sp_typed_units.specs.declared.declarations.HookOf.TheVariants as hook_of
use Rattle.sp_typed_units.specs.declared.declarations.Unit.{Unit as TypedUnit}
use Rattle.sp_typed_units.specs.Parts.{Part}
use Rattle.sp_meaning_states.specs.States.{first}
use Rattle.sp_meaning_states.specs.Reads.{NoToken, reads}
use Rattle.sp_meaning_units.specs.Rows.{byte, short, number, offset, plain, valued, ordering, integer, raw, list_of, in_group, the_field, named, prints, unit_of, listed, names, limits, Stand, told_of, of_list, sized, minus, until, at_most, made_sure, where_one, bits, counted, to_end, tested, from_bytes, nested, switched, itself_again}
use Rattle.sp_code_pieces.specs.Units.{unit_means}

abbrev by_pieces : List TypedUnit → List Hook → List ℕ → Close → (List What) × Stand
by_pieces us hooks s close = told_of (unit_means names [] (listed us hooks) limits (reads (λ set w over. NoToken) s close) 20 0 [] first)

abbrev Agree : List Part → List ℕ → Close → Type 0
Agree ps s close = by_pieces (unit_of ps ∷ []) [] s close ≡ of_list (unit_of ps ∷ []) [] s close

abbrev AgreeIn : List TypedUnit → List Hook → List ℕ → Close → Type 0
AgreeIn us hooks s close = by_pieces us hooks s close ≡ of_list us hooks s close

size : Agree sized (1 ∷ 2 ∷ 3 ∷ []) held_open × Agree sized (1 ∷ []) held_open × Agree sized (1 ∷ []) ended
size = (refl, refl, refl)

negative : Agree (named 0 raw (valued name_is.Size minus ∷ []) ∷ []) (1 ∷ []) held_open
negative = refl

delimiters : Agree (until name_is.Until) (1 ∷ 10 ∷ 10 ∷ 10 ∷ []) held_open × Agree (until name_is.UntilIncluding) (1 ∷ 10 ∷ 10 ∷ 5 ∷ []) held_open × Agree (until name_is.Until) (1 ∷ 10 ∷ []) ended
delimiters = (refl, refl, refl)

views : Agree at_most (1 ∷ 10 ∷ []) held_open × Agree at_most (1 ∷ 2 ∷ 10 ∷ []) held_open × Agree at_most (1 ∷ 2 ∷ 3 ∷ []) held_open × Agree at_most (1 ∷ 2 ∷ []) ended
views = (refl, refl, refl, refl)

left_in_a_view : Agree (named 0 (integer byte) (valued name_is.Size (number 2) ∷ []) ∷ []) (1 ∷ []) held_open
left_in_a_view = refl

in_parentheses : Agree (named 0 (in_group (integer short) (valued name_is.Size (number 2) ∷ [])) (valued name_is.MaxSize (number 0) ∷ []) ∷ []) (1 ∷ 2 ∷ []) held_open
in_parentheses = refl

conversions : Agree made_sure (2 ∷ []) held_open × Agree made_sure (3 ∷ []) held_open
conversions = (refl, refl)

conditions : Agree where_one (1 ∷ 7 ∷ []) held_open × Agree where_one (2 ∷ []) held_open
conditions = (refl, refl)

orders : Agree (bits 0 (ordering name_is.BitOrder 1 ∷ [])) (165 ∷ []) held_open × Agree (bits 1 (ordering name_is.ByteOrder 0 ∷ [])) (18 ∷ 53 ∷ []) held_open
orders = (refl, refl)

counts : Agree counted (2 ∷ 7 ∷ 8 ∷ []) held_open × Agree counted (0 ∷ []) held_open × Agree counted (2 ∷ 7 ∷ []) held_open
counts = (refl, refl, refl)

ends : Agree to_end (0 ∷ 1 ∷ 2 ∷ []) held_open × Agree (named 0 (list_of (integer byte) None) (plain name_is.Eod ∷ []) ∷ []) (1 ∷ []) held_open × Agree (named 0 (list_of (integer byte) None) (plain name_is.Eod ∷ []) ∷ []) (1 ∷ []) ended
ends = (refl, refl, refl)

tests : Agree (tested name_is.Until 0) (1 ∷ 2 ∷ 0 ∷ []) held_open × Agree (tested name_is.While 1) (1 ∷ 2 ∷ []) held_open × Agree (tested name_is.UntilIncluding 0) (1 ∷ 0 ∷ []) held_open
tests = (refl, refl, refl)

turns : Agree (named 0 (list_of (in_group (integer byte) []) (Some (number 20))) [] ∷ []) (1 ∷ 2 ∷ []) ended
turns = refl

bodies_of_fields : AgreeIn (unit_of (the_field None (integer byte) [] None [] ∷ the_field (Some 0) (integer short) [] None (0 ∷ []) ∷ []) ∷ []) (prints (hook_of.Field 0 0) ∷ []) (9 ∷ 0 ∷ 5 ∷ []) held_open
bodies_of_fields = refl

bodies_of_elements : AgreeIn (unit_of (the_field None (integer byte) [] None [] ∷ the_field (Some 0) (list_of (integer byte) (Some (number 2))) [] None (0 ∷ []) ∷ []) ∷ []) (prints (hook_of.Elements 0 0) ∷ []) (9 ∷ 5 ∷ 6 ∷ []) held_open
bodies_of_elements = refl

from_other_bytes : Agree (from_bytes (integer short)) (1 ∷ 2 ∷ 3 ∷ []) held_open × Agree (from_bytes (integer (word (word_is.Uint W64)))) (1 ∷ 2 ∷ 3 ∷ []) held_open × Agree (from_bytes (list_of (integer byte) (Some offset))) (1 ∷ 2 ∷ 3 ∷ []) held_open
from_other_bytes = (refl, refl, refl)

units_in_units : AgreeIn nested (prints (hook_of.Field 1 0) ∷ []) (7 ∷ 8 ∷ []) held_open × AgreeIn itself_again [] [] held_open
units_in_units = (refl, refl)

switches : Agree (switched true) (2 ∷ 0 ∷ 9 ∷ []) held_open × Agree (switched true) (3 ∷ 9 ∷ []) held_open × Agree (switched false) (3 ∷ 9 ∷ []) held_open
switches = (refl, refl, refl)
