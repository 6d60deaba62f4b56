-- Loading: the list of modules that named files and their imports make, and in which no rule is broken; or why there is none.
use Rattle.std.specs.Prelude.{◌≡◌, ◌⊎◌, ℕ, List, [], map, Option, Some, None, Result, Ok, Err, slice_get}
use Rattle.sp_base.specs.declared.kinds.MKind.{MKind}
use Rattle.sp_base.specs.declared.places.Diag.{Diag}
use Rattle.sp_ast.specs.Trees.{Tree}
use Rattle.sp_command.specs.declared.refusal.Refusal.{Refusal}
use Rattle.sp_read_file.specs.Files.{place_in, refused_at}
use Rattle.sp_front.specs.declared.entries.ModuleFile.{ModuleFile}
use Rattle.sp_front.specs.Lists.{Files, nowhere, IsList, IsListRefused}
use Rattle.sp_rules.specs.declared.fault.Fault.{Fault}
use Rattle.sp_rules.specs.Rules.{diag_of}
use Rattle.sp_rules.specs.Least.{IsLeast}
use Rattle.sp_type_answers.specs.NameRules.{IsTyped}
use Rattle.sp_typed_units.specs.declared.declarations.Typed.{Typed}
use Rattle.sp_type_answers.specs.Rules.{Breaks}
use Rattle.sp_load.specs.declared.sources.Source.{Source}

abbrev pub tree_of : ModuleFile → Tree
tree_of f = f.«module»

-- a file without its tree
abbrev pub source_of : ModuleFile → Source
source_of f = record { path = f.path; text = f.text }

-- the trees of the files of a list, in its order; and their paths with their texts
abbrev pub trees_of : List ModuleFile → List Tree
trees_of fs = map tree_of fs

abbrev pub sources_of : List ModuleFile → List Source
sources_of fs = map source_of fs

-- a refusal of a file, at the line and the column of a byte of its text
abbrev pub refusal_in : Option Source → ℕ → MKind → Refusal
refusal_in (Some s) from kind = refused_at s.path (place_in s.text from) kind
refusal_in None from kind = refused_at [] nowhere kind

-- A refusal of the module with a number: that of the file with this number, where the slice of its text begins. Where there were
-- none, it would have no path and no place.
abbrev pub refusal_of : List Source → Diag → Refusal
refusal_of ss d = refusal_in (slice_get ss d.«module») d.span.from d.kind

-- These files are the list, and no rule is broken in it.
abbrev pub IsLoaded : Files → List (List ℕ) → List (List ℕ) → List ModuleFile → Type 0
IsLoaded files names dirs fs = IsList files names dirs fs × IsLeast (Breaks (trees_of fs)) None

-- The refusal is that of the least of the rules that are broken in these modules.
abbrev pub IsLeastRefusal : List Source → List Tree → Refusal → Type 0
IsLeastRefusal ss ts r = (b : Fault) × IsLeast (Breaks ts) (Some b) × (r ≡ refusal_of ss (diag_of b))

-- There is a list, and a rule is broken in it.
abbrev pub IsBroken : Files → List (List ℕ) → List (List ℕ) → Refusal → Type 0
IsBroken files names dirs r =
    (fs : List ModuleFile) × IsList files names dirs fs × IsLeastRefusal (sources_of fs) (trees_of fs) r

-- Loading is refused: there is no list, or a rule is broken in it.
abbrev pub IsLoadRefused : Files → List (List ℕ) → List (List ℕ) → Refusal → Type 0
IsLoadRefused files names dirs r = IsListRefused files names dirs r ⊎ IsBroken files names dirs r

-- What is typed of these modules where no rule is broken in them, or the least rule that is.
abbrev pub IsVerdict : List Tree → Result Typed Diag → Type 0
IsVerdict ts (Ok t) = IsTyped ts t × IsLeast (Breaks ts) None
IsVerdict ts (Err d) = (b : Fault) × IsLeast (Breaks ts) (Some b) × (d ≡ diag_of b)
