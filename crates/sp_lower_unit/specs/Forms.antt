-- Integers as the code reads them.
use Rattle.std.specs.Prelude.{Bool, true, false, Option, Some, None}
use Rattle.sp_numbers.specs.declared.width.Width.{Width}
use Rattle.sp_words.specs.declared.words.AttributeName.{AttributeName}
use Rattle.sp_words.specs.declared.words.AttributeName.TheVariants.{ByteOrder}
use Rattle.sp_typed.specs.Exprs.{Expr}
use Rattle.sp_meaning.specs.Integers.{IntegerForm}
use Rattle.sp_code.specs.declared.instr.IntForm.{IntForm}

-- a form by its parts
abbrev pub form_with : Width → Bool → Bool → IntegerForm
form_with w signed little = record { width = w; signed = signed; little = little }

-- the same form in the definitions
abbrev pub form_of : IntForm → IntegerForm
form_of f = record { width = f.width; signed = f.signed; little = f.little }

abbrev pub read_as : Option IntForm → Option IntegerForm
read_as None = None
read_as (Some f) = Some (form_of f)

-- an attribute that is a byte order
abbrev pub is_order : AttributeName → Bool
is_order ByteOrder = true
is_order name = false

-- neither of two expressions
abbrev pub neither : Option Expr → Option Expr → Bool
neither None None = true
neither a b = false
