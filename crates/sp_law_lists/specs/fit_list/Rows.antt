-- What the definitions say of a few hooks and types.
use Rattle.std.specs.Prelude.{◌≡◌, true, false, [], Some, None, refl}
use Rattle.sp_numbers.specs.declared.width.Width.TheVariants.{W8, W16}
use Rattle.sp_words.specs.declared.words.HookName.TheVariants.{Init, Gap}
use Rattle.sp_types.specs.declared.words.Word.TheVariants as word_is
use Rattle.sp_types.specs.Types.{Ty, word}
use Rattle.sp_typed_units.specs.declared.declarations.HookOf.TheVariants as hook_of
use Rattle.sp_law_lists.specs.fit_list.Bodies.{is_each_unit, takes_nothing, current_of}
use Rattle.sp_law_lists.specs.fit_list.Units.{is_read, is_own, value_is, body_passes}

abbrev byte : Ty
byte = word (word_is.Uint W8)

abbrev short : Ty
short = word (word_is.Int W16)

-- `$$` is what the field of a body stores, and the body of a hook of a unit has none
stored : current_of (hook_of.Field 0 3) (Some short) ≡ short
stored = refl

no_current : current_of (hook_of.Unit 0 Init) (Some short) ≡ word word_is.Void
no_current = refl

each : is_each_unit Init ≡ true
each = refl

not_each : is_each_unit Gap ≡ false
not_each = refl

handed : takes_nothing (hook_of.Unit 0 Init) [] ≡ true
handed = refl

-- an integer with a sign is of a type with one
signed : is_read true short ≡ true
signed = refl

unsigned : is_read true byte ≡ false
unsigned = refl

-- a body of a field of this unit, and of another one
own : is_own 2 (hook_of.Anonymous 2) ≡ true
own = refl

foreign : is_own 2 (hook_of.Field 1 0) ≡ false
foreign = refl

unknown : value_is None true ≡ false
unknown = refl

nowhere : body_passes None (Some byte) 0 false ≡ false
nowhere = refl
