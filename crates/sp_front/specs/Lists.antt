-- The list of modules: the named files in order, then each further import in the order of its first mention, the list being gone
-- through from its front.
use Rattle.std.specs.Prelude.{◌≡◌, ◌⊎◌, ◌<◌, ◌≤◌, ℕ, Bool, true, false, ◌||◌, not, nat_le, List, [], ◌∷◌, ◌++◌, length, filter, take, drop, Option, Some, None, map}
use Rattle.sp_base.specs.declared.kinds.MKind.{MKind}
use Rattle.sp_base.specs.declared.kinds.MKind.TheVariants.{ModuleNotFound, ModuleTwice, TooMany}
use Rattle.sp_base.specs.declared.places.Place.{Place}
use Rattle.sp_ast.specs.Trees.{Tree, span_of}
use Rattle.sp_command.specs.declared.refusal.Refusal.{Refusal}
use Rattle.sp_command.specs.Files.{Holds}
use Rattle.sp_read_file.specs.Files.{IsModuleOf, IsRefused, Refuses, refused_at, place_in}
use Rattle.sp_names.specs.Declarations.{module_name}
use Rattle.sp_names.specs.Names.{is_name}
use Rattle.sp_names.specs.Faults.{is_reserved, module_name_tree}
use Rattle.sp_front.specs.declared.entries.ModuleFile.{ModuleFile}
use Rattle.sp_front.specs.declared.entries.Import.{Import}
use Rattle.sp_front.specs.declared.entries.Entry.{Entry}
use Rattle.sp_front.specs.declared.entries.Entry.TheVariants.{Held, Refused}
use Rattle.sp_front.specs.Imports.{imports_of, paths_of}

-- the files, where they are told
abbrev pub Files : Type 0
Files = Option (List ℕ → Option (List ℕ))

-- A list has at most so many modules.
abbrev pub most_modules : ℕ
most_modules = 256

abbrev pub nowhere : Place
nowhere = record { line = 0; col = 0 }

-- the name of an entry: that of its module, or that by which a file was imported which holds none
abbrev pub entry_name : Entry → Option (List ℕ)
entry_name (Held f) = Some (module_name f.«module»)
entry_name (Refused x r) = x

abbrev pub is_in : List ℕ → List Entry → Bool
is_in x [] = false
is_in x (e ∷ es) = is_name x (entry_name e) || is_in x es

-- a refusal at a place in the text of a file
abbrev pub at : ModuleFile → ℕ → MKind → Refusal
at f n kind = refused_at f.path (place_in f.text n) kind

-- Two named files hold modules of one name, or the file's module has a name of the library: the refusal is at its name.
abbrev pub is_taken : List Entry → ModuleFile → Bool
is_taken before f = is_reserved (module_name f.«module») || is_in (module_name f.«module») before

abbrev pub name_place : Tree → ℕ
name_place t = let span = span_of (module_name_tree t) in span.from

abbrev pub twice : ModuleFile → Refusal
twice f = at f (name_place f.«module») ModuleTwice

-- the file at the path holds this module
abbrev pub Holding : Files → List ℕ → ModuleFile → Type 0
Holding files path f = (f.path ≡ path) × Holds files path (Some f.text) × IsModuleOf f.text f.«module»

-- What a named file is, behind those before it.
abbrev pub IsNamed : Files → List Entry → List ℕ → Entry → Type 0
IsNamed files before path (Held f) = Holding files path f × (is_taken before f ≡ false)
IsNamed files before path (Refused x r) =
    (x ≡ None) × (Refuses files path r ⊎ ((f : ModuleFile) × Holding files path f × (is_taken before f ≡ true) × (r ≡ twice f)))

abbrev pub AreNamed : Files → List Entry → List (List ℕ) → List Entry → Type 0
AreNamed files before [] [] = Unit {0}
AreNamed files before (path ∷ paths) (e ∷ es) = IsNamed files before path e × AreNamed files (before ++ e ∷ []) paths es
AreNamed files before _ _ = ⊥

-- The first file past the greatest number of modules is refused, and none behind it is looked at.
abbrev pub first_over : List (List ℕ) → List Entry
first_over [] = []
first_over (path ∷ paths) = Refused None (refused_at path nowhere TooMany) ∷ []

-- the file at the first of these paths that is there, and the text that it holds
abbrev pub IsFirst : Files → List (List ℕ) → List ℕ → List ℕ → Type 0
IsFirst files [] path text = ⊥
IsFirst files (p ∷ ps) path text = ((path ≡ p) × Holds files p (Some text)) ⊎ (Holds files p None × IsFirst files ps path text)

abbrev pub IsNone : Files → List (List ℕ) → Type 0
IsNone files [] = Unit {0}
IsNone files (p ∷ ps) = Holds files p None × IsNone files ps

-- What the file of an import is: a module of this name, or a file that holds none.
abbrev pub IsImported : Files → List (List ℕ) → List ℕ → Entry → Type 0
IsImported files dirs x (Held f) = IsFirst files (paths_of dirs x) f.path f.text × IsModuleOf f.text f.«module» × (module_name f.«module» ≡ x)
IsImported files dirs x (Refused y r) =
    (y ≡ Some x) × ((path text : List ℕ) × IsFirst files (paths_of dirs x) path text × IsRefused path (Some text) r)

-- The file of an import is not there, or holds another module.
abbrev pub IsNotFound : Files → List (List ℕ) → List ℕ → Type 0
IsNotFound files dirs x =
    IsNone files (paths_of dirs x) ⊎ ((path text : List ℕ) × (t : Tree) × IsFirst files (paths_of dirs x) path text × IsModuleOf text t × (¬ (module_name t ≡ x)))

-- the module of an import is neither in the list nor one of the library
abbrev pub is_missing : List Entry → Import → Bool
is_missing es i = not (is_reserved i.name || is_in i.name es)

abbrev pub missing : List Entry → List Import → List Import
missing es is = filter (λ i. is_missing es i) is

-- what is in the way of a list: nothing, a refused file, or an import whose module is missing
pub data Stop : Type 0 where
  clear : Stop
  refused : Refusal → Stop
  asks : ModuleFile → Import → Stop

abbrev pub first_asked : ModuleFile → List Import → Stop
first_asked f [] = clear
first_asked f (i ∷ is) = asks f i

-- the imports of a file whose modules are missing; in a list with too many modules no import is asked
abbrev pub asked_of : Bool → List Entry → ModuleFile → List Import
asked_of true es f = missing es (imports_of f.«module»)
asked_of false es f = []

abbrev pub stop_at : Bool → List Entry → Entry → Stop
stop_at asked es (Refused x r) = refused r
stop_at asked es (Held f) = first_asked f (asked_of asked es f)

abbrev pub or_else : Stop → Stop → Stop
or_else clear s = s
or_else s _ = s

abbrev pub first_stop : Bool → List Entry → List Entry → Stop
first_stop asked es [] = clear
first_stop asked es (e ∷ rest) = or_else (stop_at asked es e) (first_stop asked es rest)

abbrev pub is_asked : List Entry → Bool
is_asked es = nat_le (length es) most_modules

-- the first thing that is in the way, by entry, and in an entry by place
abbrev pub stop : List Entry → Stop
stop es = first_stop (is_asked es) es es

-- The next entry of a list is the file of the first import whose module is missing.
abbrev pub IsNext : Files → List (List ℕ) → List Entry → Entry → Type 0
IsNext files dirs es e =
    (f : ModuleFile) × (i : Import) × (stop es ≡ asks f i) × (length es < most_modules) × IsImported files dirs i.name e

abbrev pub AreNext : Files → List (List ℕ) → List Entry → List Entry → Type 0
AreNext files dirs es [] = Unit {0}
AreNext files dirs es (e ∷ more) = IsNext files dirs es e × AreNext files dirs (es ++ e ∷ []) more

-- The first entries of a list are the named files.
abbrev pub AreNamedFiles : Files → List (List ℕ) → List Entry → Type 0
AreNamedFiles files names es =
    (named : List Entry) × AreNamed files [] (take most_modules names) named × (es ≡ named ++ first_over (drop most_modules names))

-- the entries of the named files, and of imports that were followed so far
abbrev pub AreEntries : Files → List (List ℕ) → List (List ℕ) → List Entry → Type 0
AreEntries files names dirs es = (named more : List Entry) × AreNamedFiles files names named × AreNext files dirs named more × (es ≡ named ++ more)

abbrev pub entries_of : List ModuleFile → List Entry
entries_of [] = []
entries_of (f ∷ fs) = Held f ∷ entries_of fs

-- the paths of the files of a list
abbrev pub path_of : ModuleFile → List ℕ
path_of f = f.path

abbrev pub paths_in : List ModuleFile → List (List ℕ)
paths_in fs = map path_of fs

-- These files are the list: all named files and all imports are modules, and none is missing.
abbrev pub IsList : Files → List (List ℕ) → List (List ℕ) → List ModuleFile → Type 0
IsList files names dirs fs = AreEntries files names dirs (entries_of fs) × (stop (entries_of fs) ≡ clear)

-- the text of a file is that of its module
abbrev pub IsRead : ModuleFile → Type 0
IsRead f = IsModuleOf f.text f.«module»

-- why an import stops a list: there is no room for one more module, or its file isn't there or holds another module
abbrev pub IsAskedInVain : Files → List (List ℕ) → List Entry → ModuleFile → Import → Refusal → Type 0
IsAskedInVain files dirs es f i r =
    ((most_modules ≤ length es) × (r ≡ at f i.at TooMany))
    ⊎ ((length es < most_modules) × IsNotFound files dirs i.name × (r ≡ at f i.at ModuleNotFound))

abbrev pub IsStop : Files → List (List ℕ) → List Entry → Stop → Refusal → Type 0
IsStop files dirs es clear r = ⊥
IsStop files dirs es (refused s) r = r ≡ s
IsStop files dirs es (asks f i) r = IsAskedInVain files dirs es f i r

-- The list is refused: so far there are these entries, and this is in the way.
abbrev pub IsListRefused : Files → List (List ℕ) → List (List ℕ) → Refusal → Type 0
IsListRefused files names dirs r = (es : List Entry) × AreEntries files names dirs es × IsStop files dirs es (stop es) r
