-- The first construct of a list of modules that isn't built yet.
use Rattle.std.specs.Prelude.{ℕ, ◌+◌, Bool, List, [], ◌∷◌, ◌++◌, Option, None}
use Rattle.sp_base.specs.declared.places.Diag.{Diag}
use Rattle.sp_ast.specs.Trees.{Tree, Trees, absent, row, node, none, more}
use Rattle.sp_typed_units.specs.declared.declarations.Typed.{Typed}
use Rattle.sp_unbuilt.specs.First.{noted}
use Rattle.sp_unbuilt.specs.Next.{saturated}
use Rattle.sp_unbuilt.specs.Constructs.{tests_at}
use Rattle.sp_unbuilt.specs.Fields.{kinds_in_units}

-- what isn't built at a tree and at all in it
abbrev mutual
  pub tests_in : List ℕ → ℕ → Tree → List (Bool × Diag)
  tests_in text m absent = []
  tests_in text m (row ts) = tests_among text m ts
  tests_in text m (node form span ts) = tests_at text m (node form span ts) ++ tests_among text m ts

  pub tests_among : List ℕ → ℕ → Trees → List (Bool × Diag)
  tests_among text m none = []
  tests_among text m (more t ts) = tests_in text m t ++ tests_among text m ts

-- the texts of modules, by their numbers
abbrev pub Texts : Type 0
Texts = ℕ → List ℕ

-- what isn't built in modules of which the first has the number m
abbrev pub tests_from : Texts → ℕ → List Tree → List (Bool × Diag)
tests_from texts m [] = []
tests_from texts m (t ∷ ts) = tests_in (texts (saturated m)) (saturated m) t ++ tests_from texts (m + 1) ts

-- all that isn't built: in the trees of the modules, and by what the fields of their units read
abbrev pub unbuilt_tests : Texts → List Tree → Typed → List (Bool × Diag)
unbuilt_tests texts list t = tests_from texts 0 list ++ kinds_in_units t.units

-- the first of it
abbrev pub first_unbuilt : Texts → List Tree → Typed → Option Diag
first_unbuilt texts list t = noted None (unbuilt_tests texts list t)
