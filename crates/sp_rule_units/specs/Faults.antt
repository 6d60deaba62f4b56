-- The tests at each of a list.
use Rattle.std.specs.Prelude.{Bool, List, [], ◌∷◌, ◌++◌}
use Rattle.sp_rules.specs.declared.fault.Fault.{Fault}

-- the tests at each of a list, in turn
abbrev pub each : {X : Type 0} → (X → List (Bool × Fault)) → List X → List (Bool × Fault)
each tests [] = []
each tests (x ∷ xs) = tests x ++ each tests xs
