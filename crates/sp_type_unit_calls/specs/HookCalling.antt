-- Of which units hooks call a method of a unit.
use Rattle.std.specs.Prelude.{ℕ, ◌==◌, Bool, true, false, ◌||◌, List, [], ◌∷◌, ◌++◌, Option, Some}
use Rattle.sp_typed.specs.declared.words.UnitMethod.{UnitMethod}
use Rattle.sp_typed_units.specs.declared.declarations.HookOf.TheVariants as of_is
use Rattle.sp_typed_units.specs.declared.declarations.Hook.{Hook}
use Rattle.sp_type_unit_calls.specs.Calls.{option_calls}
use Rattle.sp_type_unit_calls.specs.StmtCalls.{stmt_calls}
use Rattle.sp_typed_units.specs.Hooks.{unit_of}

-- a call in the priority or in the body of a hook
abbrev pub hook_calls : UnitMethod → Hook → Bool
hook_calls k h = option_calls k h.priority || stmt_calls k h.body

-- a unit, if there is one and its hook calls
abbrev pub if_calls : Bool → Option ℕ → List ℕ
if_calls true (Some n) = n ∷ []
if_calls _ _ = []

-- the units of hooks that call the method, in the order of the hooks
abbrev pub callers : UnitMethod → List Hook → List ℕ
callers k [] = []
callers k (h ∷ hs) = if_calls (hook_calls k h) (unit_of h.of) ++ callers k hs

abbrev pub has : ℕ → List ℕ → Bool
has n [] = false
has n (m ∷ ms) = m == n || has n ms

-- whether a hook of a unit calls the method
abbrev pub hooks_call : UnitMethod → ℕ → List Hook → Bool
hooks_call k n hs = has n (callers k hs)
