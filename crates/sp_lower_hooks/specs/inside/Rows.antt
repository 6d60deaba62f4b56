-- The bodies of a hook that each unit has, by units.
use Rattle.std.specs.Prelude.{ℕ, zero, suc, ◌≡◌, ◌<◌, List, [], ◌∷◌, ◌++◌, length, map, slice_get, unwrap_or, if◌then◌else◌}
use Rattle.std.proofs.Common.{Global}
use Rattle.std.specs.declared.vec.Vec.{Vec}
use Rattle.sp_words.specs.declared.words.HookName.{HookName}
use Rattle.sp_words.specs.declared.words.HookName.TheVariants as name_is
use Rattle.sp_typed_units.specs.declared.declarations.Hook.{Hook}
use Rattle.sp_typed_units.specs.declared.declarations.HookOf.{HookOf}
use Rattle.sp_typed_units.specs.declared.declarations.HookOf.TheVariants as hook_of
use Rattle.sp_typed_units.specs.declared.declarations.Typed.{Typed}
use Rattle.sp_meaning.specs.Hooks.{hook_bodies, is_hook, is_of_unit}
use Rattle.sp_lower_hooks.specs.declared.keys.BodyKey.{BodyKey}
use Rattle.sp_lower_hooks.specs.inside.Turns.{Turn, turn, turn_of, sorted, turn_numbers}

-- a hook that not each unit has
abbrev pub IsOther : HookName → Type 0
IsOther name_is.Init = ⊥
IsOther name_is.Done = ⊥
IsOther name_is.Error = ⊥
IsOther name_is.Finally = ⊥
IsOther name = Unit {0}

-- what the keys of a unit say
abbrev pub turns_of : Vec BodyKey Global → List Turn
turns_of v = map turn_of v.items

-- what those of all units say
abbrev pub turns_in : List (Vec BodyKey Global) → List (List Turn)
turns_in vs = map turns_of vs

-- one more at the end of the row of a unit, where there is that unit
abbrev pub noted : ℕ → Turn → List (List Turn) → List (List Turn)
noted u t [] = []
noted zero t (r ∷ rs) = (r ++ t ∷ []) ∷ rs
noted (suc u) t (r ∷ rs) = r ∷ noted u t rs

-- where the body is of the hook of this name
abbrev pub noted_hook : HookName → HookOf → Turn → List (List Turn) → List (List Turn)
noted_hook name (hook_of.Unit u other) t rs = if is_hook name other then noted u t rs else rs
noted_hook name of t rs = rs

-- all of a list, of which the first has this number
abbrev pub all_noted : HookName → ℕ → List Hook → List (List Turn) → List (List Turn)
all_noted name n [] rs = rs
all_noted name n (x ∷ xs) rs = all_noted name (suc n) xs (noted_hook name x.of (turn (n, x)) rs)

-- the numbers of the bodies of a unit, in order
abbrev pub row_numbers : Vec BodyKey Global → List ℕ
row_numbers v = turn_numbers (sorted (turns_of v))

-- rows without their capacities
abbrev pub list_of : Vec ℕ Global → List ℕ
list_of v = v.items

abbrev pub lists : List (Vec ℕ Global) → List (List ℕ)
lists vs = map list_of vs

abbrev pub row_at : List (List ℕ) → ℕ → List ℕ
row_at rows u = unwrap_or (slice_get rows u) []

-- the row of each unit of a list is the bodies of its hook of this name
abbrev pub AreRows : HookName → Typed → List (Vec ℕ Global) → Type 0
AreRows name list rows = (u : ℕ) → u < length list.units → row_at (lists rows) u ≡ hook_bodies (is_of_unit u name) list.hooks
