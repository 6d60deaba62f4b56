-- What is named in a unit joins a table one by one: each whose name none before it has.
use Rattle.std.specs.Prelude.{ℕ, ◌≡◌, if◌then◌else◌, is_some, List, [], ◌∷◌, ◌++◌}
use Rattle.sp_name_tables.specs.Tables.{told_by}
use Rattle.sp_type_members.specs.declared.tables.SourceTable.{SourceTable}
use Rattle.sp_ast.specs.Trees.{Tree}
use Rattle.sp_type_modules.specs.declared.sources.Question.{Question}
use Rattle.sp_type_modules.specs.Sources.{Named, numbered, sources_of, questions, units, firsts_before}

abbrev pub joined : List Named → Named → List Named
joined held d = if is_some (numbered d.name 0 held) then held else held ++ d ∷ []

abbrev pub all_joined : List Named → List Named → List Named
all_joined held [] = held
all_joined held (d ∷ ds) = all_joined (joined held d) ds

-- a table holds these
pub record Holds (table : SourceTable) (held : List Named) : Type 0 where
  pub names_are : (x : List ℕ) → told_by table.names x ≡ numbered x 0 held
  pub sources_are : table.sources.items ≡ sources_of held

-- a table that held any now holds them and these
abbrev pub Joins : SourceTable → SourceTable → List Named → Type 0
Joins old new ds = (held : List Named) → Holds old held → Holds new (all_joined held ds)

-- whatever joins a table besides, in the end these have joined the first
abbrev pub LeadsOn : SourceTable → SourceTable → List Named → List Named → Type 0
LeadsOn first now left all = (later : SourceTable) → Joins now later left → Joins first later all

-- the members of all units in one row, and where those of each unit begin
pub record AreRows (list : List Tree) (begins : List ℕ) (all : List Question) : Type 0 where
  pub begins_are : begins ≡ firsts_before list (units list)
  pub all_are : all ≡ questions list
