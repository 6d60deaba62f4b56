-- What is asked of rows.
use Rattle.std.specs.Prelude.{Bool, List, [], ◌∷◌, ◌++◌, Option, Some, None}
use Rattle.sp_rules.specs.declared.fault.Fault.{Fault}

-- the tests at each of a list
abbrev pub all_tests : {X : Type 0} → (X → List (Bool × Fault)) → List X → List (Bool × Fault)
all_tests tests [] = []
all_tests tests (x ∷ xs) = tests x ++ all_tests tests xs

-- the tests at what may be left out
abbrev pub option_tests : {X : Type 0} → (X → List (Bool × Fault)) → Option X → List (Bool × Fault)
option_tests tests None = []
option_tests tests (Some x) = tests x
