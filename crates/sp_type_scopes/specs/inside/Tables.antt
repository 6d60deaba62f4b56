-- The table of the first parameter of each name.
use Rattle.std.specs.Prelude.{ℕ, ◌≡◌, List, Option, Some, None}
use Rattle.sp_typed_units.specs.declared.declarations.Parameter.{Parameter}
use Rattle.sp_type_scopes.specs.Parameters.{numbered}

abbrev pub AreNumbered : List Parameter → (List ℕ → Option ℕ) → Type 0
AreNumbered ps told = (x : List ℕ) → told x ≡ numbered x 0 ps

-- the first of two answers that is there
abbrev pub earlier : Option ℕ → Option ℕ → Option ℕ
earlier None y = y
earlier (Some n) y = Some n

-- a table of all before some parameters, and these themselves, mean the same as a table of all
abbrev pub LeadsTo : List Parameter → ℕ → List Parameter → (List ℕ → Option ℕ) → Type 0
LeadsTo all k left told = (x : List ℕ) → earlier (told x) (numbered x k left) ≡ numbered x 0 all
