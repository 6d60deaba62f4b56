-- What a unit of a list of modules means, from the list alone.
use Rattle.std.specs.Prelude.{ℕ, List}
use Rattle.sp_base.specs.declared.places.Limits.{Limits}
use Rattle.sp_value.specs.Val.{Val}
use Rattle.sp_typed_units.specs.declared.declarations.Typed.{Typed}
use Rattle.sp_meaning_states.specs.States.{Reading, Result, first}
use Rattle.sp_meaning_states.specs.Reads.{Ask, Read}
use Rattle.sp_code_meaning.specs.Units.{unit_means}
use Rattle.sp_meaning.specs.Names.{hook_names_of, value_names_of}

-- What the unit u means within limits with these arguments, the last first, from the first state on; at most n calls and rounds are inside
-- one another.
abbrev pub list_means : Typed → Limits → (Reading → Ask → Read) → ℕ → ℕ → List Val → Result
list_means list limits reads n u ws = unit_means (value_names_of list) (hook_names_of list) list limits reads n u ws first
