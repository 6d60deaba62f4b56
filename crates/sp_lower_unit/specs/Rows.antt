-- What the definitions say of a few forms, hooks and variables.
use Rattle.std.specs.Prelude.{◌≡◌, zero, true, false, [], ◌∷◌, Some, None, refl}
use Rattle.sp_numbers.specs.declared.width.Width.TheVariants.{W16}
use Rattle.sp_words.specs.declared.words.AttributeName.TheVariants.{ByteOrder, Size}
use Rattle.sp_types.specs.declared.words.Word.TheVariants as word_is
use Rattle.sp_types.specs.Types.{word}
use Rattle.sp_code.specs.declared.program.RoundRow.TheVariants as round_is
use Rattle.sp_meaning.specs.Integers.{integer_type}
use Rattle.sp_lower_unit.specs.declared.hooks.Handed.TheVariants as hands
use Rattle.sp_lower_unit.specs.Handed.{handed_locals}
use Rattle.sp_lower_unit.specs.Forms.{read_as, is_order, neither}
use Rattle.sp_lower_unit.specs.Rounds.{IsOfUnit}

-- `$$` comes first, from a local of its own for each sign
signed : handed_locals (hands.Current true) ≡ 2 ∷ 0 ∷ []
signed = refl

unsigned : handed_locals (hands.Current false) ≡ 1 ∷ 0 ∷ []
unsigned = refl

-- a form in an instruction and in the definitions
little : integer_type (Some zero) (word (word_is.Int W16)) ≡ read_as (Some (record { width = W16; signed = true; little = true }))
little = refl

no_integer : integer_type None (word word_is.Bytes) ≡ read_as None
no_integer = refl

order : is_order ByteOrder ≡ true
order = refl

other : is_order Size ≡ false
other = refl

nothing : neither None None ≡ true
nothing = refl

not_of_unit : IsOfUnit (round_is.Hook false) → ⊥
not_of_unit h = h
