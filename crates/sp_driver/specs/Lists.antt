-- The list of modules that the words name, and what is wrong with it before a unit of it runs.
use Rattle.std.specs.Prelude.{ℕ, ◌≡◌, List, [], Option, Some, None, slice_get}
use Rattle.sp_base.specs.declared.places.Diag.{Diag}
use Rattle.sp_ast.specs.Trees.{Tree}
use Rattle.sp_command.specs.Directories.{directories_of}
use Rattle.sp_command.specs.declared.refusal.Refusal.{Refusal}
use Rattle.sp_front.specs.declared.entries.ModuleFile.{ModuleFile}
use Rattle.sp_front.specs.Lists.{Files}
use Rattle.sp_load.specs.Loads.{IsLoaded, trees_of, refusal_of}
use Rattle.sp_load.specs.declared.sources.Source.{Source}
use Rattle.sp_type_answers.specs.NameRules.{IsTyped}
use Rattle.sp_typed_units.specs.declared.declarations.Typed.{Typed}
use Rattle.sp_choose.specs.Choices.{chosen}
use Rattle.sp_unbuilt.specs.Unbuilt.{first_unbuilt}
use Rattle.sp_driver_args.specs.Words.{Words}
use Rattle.sp_driver.specs.declared.exits.Unready.{Unready}

-- The words name these files, in whose modules no rule is broken, and this is what is typed of them.
abbrev pub IsListed : Files → Words → List ModuleFile → Typed → Type 0
IsListed files w fs t = IsLoaded files w.files (directories_of w.directories) fs × IsTyped (trees_of fs) t

-- the text of the file with a number, or nothing where there are no more
abbrev pub text_of : Option Source → List ℕ
text_of None = []
text_of (Some s) = s.text

abbrev pub text_at : List Source → ℕ → List ℕ
text_at ss n = text_of (slice_get ss n)

-- the first construct in a list, by file and place, that isn't built
abbrev pub unbuilt_in : List Source → List Tree → Typed → Option Diag
unbuilt_in ss ts t = first_unbuilt (text_at ss) ts t

-- A list can't be run yet: it is refused at the first construct that isn't built.
abbrev pub CannotRun : List Source → List Tree → Typed → Refusal → Type 0
CannotRun ss ts t r = (d : Diag) × (unbuilt_in ss ts t ≡ Some d) × (r ≡ refusal_of ss d)

-- Why no unit of a list runs: no unit, or more than one, is the one that is asked for; or, where one is, the list can't be run yet. Where
-- there was no memory nothing is said.
abbrev pub IsUnready : Option (List ℕ) → List Source → List Tree → Typed → Unready → Type 0
IsUnready name ss ts t Unready.NoParser = chosen name t.units ≡ None
IsUnready name ss ts t (Unready.Unbuilt r) = (u : ℕ) × (chosen name t.units ≡ Some u) × CannotRun ss ts t r
IsUnready name ss ts t Unready.NoMemory = Unit {0}

-- The unit with this number runs: it is the one that is asked for, and all of the list is built.
pub record IsChosen (name : Option (List ℕ)) (ss : List Source) (ts : List Tree) (t : Typed) (u : ℕ) : Type 0 where
  pub unit : chosen name t.units ≡ Some u
  pub built : unbuilt_in ss ts t ≡ None
