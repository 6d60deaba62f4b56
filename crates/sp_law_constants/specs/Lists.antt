-- What a typed list tells of its constants and its labels.
use Rattle.sp_typed_units.specs.declared.declarations.Typed.{Typed}
use Rattle.sp_rule_lists.specs.Told.{values_of}
use Rattle.sp_meaning.specs.Globals.{globals_of}
use Rattle.sp_law_constants.specs.Constants.{ConstantsGive}

-- What a typed list tells the checker of constants and labels is what it gives its bodies.
abbrev pub ListsAgree : Type 0
ListsAgree = (t : Typed) → ConstantsGive (values_of t) (globals_of t)
