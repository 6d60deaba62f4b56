-- What the code of a unit asks: each call in its expressions has as many values as its function takes, and each body of a hook takes
-- what its hook hands to it.
use Rattle.std.specs.Prelude.{◌≡◌, ℕ, List, [], ◌∷◌, Option, Some, None, slice_get}
use Rattle.sp_words.specs.declared.words.HookName.{HookName}
use Rattle.sp_words.specs.declared.words.HookName.TheVariants.{Init, Done, Error, Finally}
use Rattle.sp_typed.specs.Exprs.{Expr}
use Rattle.sp_typed_units.specs.declared.declarations.Typed.{Typed}
use Rattle.sp_typed_units.specs.declared.declarations.Unit.{Unit as TypedUnit}
use Rattle.sp_typed_units.specs.declared.declarations.Variable.{Variable}
use Rattle.sp_typed_units.specs.Parts.{Part, Parts, field, no_parts, more_parts, parts}
use Rattle.sp_meaning.specs.Hooks.{hook_bodies, is_of_unit}
use Rattle.sp_code.specs.Machine.{Plain}
use Rattle.sp_law_code.specs.exprs.Parts.{AreCounted}
use Rattle.sp_law_code.specs.bodies.Laws.{AllTake}

-- the value of a variable
abbrev pub ValueIsCounted : Plain → Option Expr → Type 0
ValueIsCounted p (Some e) = AreCounted p e
ValueIsCounted p None = Unit {0}

abbrev pub VariablesAreCounted : Plain → List Variable → Type 0
VariablesAreCounted p [] = Unit {0}
VariablesAreCounted p (v ∷ vs) = ValueIsCounted p v.value × VariablesAreCounted p vs

-- the hooks of a field hand on its value and its offset
abbrev pub PartIsCounted : Typed → Part → Type 0
PartIsCounted list (field f) = AllTake list 2 f.hooks
PartIsCounted list p = Unit {0}

abbrev pub PartsAreCounted : Typed → Parts → Type 0
PartsAreCounted list no_parts = Unit {0}
PartsAreCounted list (more_parts p ps) = PartIsCounted list p × PartsAreCounted list ps

-- a hook that each unit has hands on nothing
abbrev pub HookTakesNothing : Typed → ℕ → HookName → Type 0
HookTakesNothing list u name = AllTake list 0 (hook_bodies (is_of_unit u name) list.hooks)

pub record UnitIsCounted (p : Plain) (list : Typed) (u : ℕ) (x : TypedUnit) : Type 0 where
  pub variables : VariablesAreCounted p x.variables
  pub parts : PartsAreCounted list (parts x.parts)
  pub init : HookTakesNothing list u Init
  pub done : HookTakesNothing list u Done
  pub error : HookTakesNothing list u Error
  pub finally : HookTakesNothing list u Finally

-- so it is in all units of a list of modules
abbrev pub UnitsAreCounted : Plain → Typed → Type 0
UnitsAreCounted p list = (u : ℕ) (x : TypedUnit) → slice_get list.units u ≡ Some x → UnitIsCounted p list u x
