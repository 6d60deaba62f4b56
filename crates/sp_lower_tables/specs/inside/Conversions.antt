-- What a `&convert` makes of what is read.
use Rattle.std.specs.Prelude.{Bool, true, false, Option, Some, None, if◌then◌else◌}
use Rattle.sp_words.specs.declared.words.AttributeName.{AttributeName}
use Rattle.sp_words.specs.declared.words.AttributeName.TheVariants.{Convert}
use Rattle.sp_types.specs.Types.{Ty}
use Rattle.sp_typed.specs.Exprs.{Expr, type_of}

abbrev pub is_convert : AttributeName → Bool
is_convert Convert = true
is_convert name = false

-- the type of an expression that is written, where one is
abbrev pub written_type : Option Expr → Option Ty
written_type (Some e) = Some (type_of e)
written_type None = None

-- the type of what an attribute makes, if it makes something
abbrev pub conversion : AttributeName → Option Expr → Option Ty
conversion name value = if is_convert name then written_type value else None
