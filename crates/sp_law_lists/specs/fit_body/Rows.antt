-- What the tests say of a few types.
use Rattle.std.specs.Prelude.{◌≡◌, true, false, refl}
use Rattle.sp_numbers.specs.declared.width.Width.TheVariants.{W8, W16, W32}
use Rattle.sp_words.specs.declared.operators.AssignOp.TheVariants as assign_is
use Rattle.sp_types.specs.declared.words.Word.TheVariants as word_is
use Rattle.sp_types.specs.declared.words.Maker.TheVariants as maker_is
use Rattle.sp_types.specs.Types.{Ty, word, made, none, more}
use Rattle.sp_law_lists.specs.fit_body.Bodies as returns
use Rattle.sp_law_lists.specs.fit_body.Test.{goes_over, set_of, keyed_by, equals, assigns, returns_nothing}

abbrev byte : Ty
byte = word (word_is.Uint W8)

abbrev text : Ty
text = word word_is.String

abbrev numbers : Ty
numbers = made maker_is.Map (more text (more byte none))

-- a `for` over bytes has integers, and one over a map has pairs of keys and values
over_bytes : goes_over (word word_is.Bytes) byte ≡ true
over_bytes = refl

over_map : goes_over numbers (made maker_is.Tuple (more text (more byte none))) ≡ true
over_map = refl

-- not the other way round, and none over a text or over elements of another type
turned : goes_over numbers (made maker_is.Tuple (more byte (more text none))) ≡ false
turned = refl

over_text : goes_over text byte ≡ false
over_text = refl

of_another : goes_over (made maker_is.Vector (more (word (word_is.Uint W16)) none)) byte ≡ false
of_another = refl

-- keys are put into sets, and taken from maps, too
put : set_of (made maker_is.Set (more text none)) text ≡ true
put = refl

not_put : set_of numbers text ≡ false
not_put = refl

taken : keyed_by numbers text ≡ true
taken = refl

-- integers are equal whatever their widths, and no unit is equal to another
widths : equals byte (word (word_is.Uint W32)) ≡ true
widths = refl

signs : equals byte (word (word_is.Int W8)) ≡ false
signs = refl

units : equals (word (word_is.Unit 1)) (word (word_is.Unit 1)) ≡ false
units = refl

-- a value is assigned to a target of its type
same_type : assigns assign_is.Set byte byte ≡ true
same_type = refl

narrower : assigns assign_is.Set byte (word (word_is.Uint W16)) ≡ false
narrower = refl

joined : assigns assign_is.Add text text ≡ true
joined = refl

less : assigns assign_is.Subtract text text ≡ false
less = refl

dropped : returns_nothing (returns.Hook true) ≡ true
dropped = refl
