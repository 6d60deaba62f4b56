-- A list before its unit runs.
use Rattle.std.specs.Prelude.{ℕ, ◌≡◌, List, Option, Some, None}
use Rattle.sp_base.specs.declared.places.Limits.{Limits}
use Rattle.sp_ast.specs.Trees.{Tree}
use Rattle.sp_command.specs.declared.refusal.Refusal.{Refusal}
use Rattle.sp_load.specs.declared.sources.Source.{Source}
use Rattle.sp_typed_units.specs.declared.declarations.Typed.{Typed}
use Rattle.sp_typed_units.specs.declared.declarations.Unit.{Unit as TypedUnit}
use Rattle.sp_unbuilt.specs.Unbuilt.{Texts, first_unbuilt}
use Rattle.sp_law_lists.specs.fit_list.Passes.{ListPasses}
use Rattle.sp_code.specs.declared.program.Program.{Program}
use Rattle.sp_choose.specs.Choices.{chosen}
use Rattle.sp_session.specs.Session as session
use Rattle.sp_driver.specs.declared.compile.Compiled.{Compiled}
use Rattle.sp_driver.specs.declared.exits.Unready.{Unready}
use Rattle.sp_driver.specs.Lists.{CannotRun, IsChosen}

-- no unit is the one that runs, or there was no memory for its number
abbrev pub IsNotChosen : Option (List ℕ) → List TypedUnit → Unready → Type 0
IsNotChosen name us Unready.NoParser = chosen name us ≡ None
IsNotChosen name us (Unready.Unbuilt r) = ⊥
IsNotChosen name us Unready.NoMemory = Unit {0}

-- it is this refusal, or there was no memory for it
abbrev pub IsRefusalOrNoMemory : Refusal → Unready → Type 0
IsRefusalOrNoMemory r Unready.NoParser = ⊥
IsRefusalOrNoMemory r (Unready.Unbuilt s) = s ≡ r
IsRefusalOrNoMemory r Unready.NoMemory = Unit {0}

-- the list can't be run yet, or there was no memory to tell whether it can
abbrev pub IsHindered : List Source → List Tree → Typed → Unready → Type 0
IsHindered ss ts t Unready.NoParser = ⊥
IsHindered ss ts t (Unready.Unbuilt r) = CannotRun ss ts t r
IsHindered ss ts t Unready.NoMemory = Unit {0}

-- where all of the list is built, it passes
abbrev pub PassesWhereBuilt : List Tree → Typed → Type 0
PassesWhereBuilt ts t = (texts : Texts) → first_unbuilt texts ts t ≡ None → ListPasses t

-- a program runs a unit of a list, within whatever limits
abbrev pub AlwaysRuns : Typed → Program → ℕ → Type 0
AlwaysRuns t p u = (limits : Limits) → session.Runs t p limits u

-- a program runs each unit of a list that may be chosen
abbrev pub RunsWhatIsChosen : Typed → Program → Type 0
RunsWhatIsChosen t p = (name : Option (List ℕ)) (u : ℕ) → chosen name t.units ≡ Some u → AlwaysRuns t p u

-- the program of a list, and the unit in it that runs
pub record IsReady (name : Option (List ℕ)) (ss : List Source) (ts : List Tree) (t : Typed) (c : Compiled) : Type 0 where
  pub unit : IsChosen name ss ts t c.unit
  pub runs : AlwaysRuns t c.program c.unit
