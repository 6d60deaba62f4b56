-- Which files are read: the named ones in order, then for each import in turn the paths at which its module is looked for, up to the
-- first at which there is a file. No other path is asked, and none again but where a list asks for it again.
use Rattle.std.specs.Prelude.{◌≡◌, ◌⊎◌, ℕ, nat_lt, List, [], ◌∷◌, ◌++◌, length, take, flat_map, Option, Some, None, is_some, if◌then◌else◌}
use Rattle.sp_io.specs.Asked.{also_asked}
use Rattle.sp_command.specs.declared.refusal.Refusal.{Refusal}
use Rattle.sp_front.specs.declared.entries.ModuleFile.{ModuleFile}
use Rattle.sp_front.specs.declared.entries.Entry.{Entry}
use Rattle.sp_front.specs.Imports.{paths_of}
use Rattle.sp_front.specs.Lists.{Files, Stop, clear, refused, asks, stop, most_modules, entry_name, entries_of, AreNamedFiles, AreNext, IsStop, IsList}

-- the files, by their paths
abbrev pub Told : Type 0
Told = List ℕ → Option (List ℕ)

-- one path after another, up to the first at which there is a file
abbrev pub asked_along : Told → List (List ℕ) → List (List ℕ)
asked_along files [] = []
asked_along files (p ∷ ps) = p ∷ (if is_some (files p) then [] else asked_along files ps)

-- what is asked for the module of a name
abbrev pub asked_for : Told → List (List ℕ) → List ℕ → List (List ℕ)
asked_for files dirs x = asked_along files (paths_of dirs x)

abbrev pub asked_for_name : Told → List (List ℕ) → Option (List ℕ) → List (List ℕ)
asked_for_name files dirs None = []
asked_for_name files dirs (Some x) = asked_for files dirs x

-- what is asked for an entry that was imported
abbrev pub asked_for_entry : Told → List (List ℕ) → Entry → List (List ℕ)
asked_for_entry files dirs e = asked_for_name files dirs (entry_name e)

abbrev pub asked_for_all : Told → List (List ℕ) → List Entry → List (List ℕ)
asked_for_all files dirs es = flat_map (λ e. asked_for_entry files dirs e) es

-- what is asked for one more module behind so many; nothing where there is no room for it
abbrev pub asked_behind : Told → List (List ℕ) → ℕ → List ℕ → List (List ℕ)
asked_behind files dirs n x = if nat_lt n most_modules then asked_for files dirs x else []

abbrev pub asked_at_stop : Told → List (List ℕ) → ℕ → Stop → List (List ℕ)
asked_at_stop files dirs n clear = []
asked_at_stop files dirs n (refused r) = []
asked_at_stop files dirs n (asks f i) = asked_behind files dirs n i.name

-- what is asked next behind these entries: that of the first import whose module is missing
abbrev pub asked_next : Told → List (List ℕ) → List Entry → List (List ℕ)
asked_next files dirs es = asked_at_stop files dirs (length es) (stop es)

-- These are the entries of the named files, and of imports that were followed so far, and these paths were asked for them.
abbrev pub AreAskedFor : Told → List (List ℕ) → List (List ℕ) → List Entry → List (List ℕ) → Type 0
AreAskedFor files names dirs es asked =
    (named more : List Entry) × AreNamedFiles (Some files) names named × AreNext (Some files) dirs named more
    × (es ≡ named ++ more) × (asked ≡ take most_modules names ++ asked_for_all files dirs more)

-- These paths are asked for this list.
abbrev pub AsksList : Told → List (List ℕ) → List (List ℕ) → List ModuleFile → List (List ℕ) → Type 0
AsksList files names dirs list asked = AreAskedFor files names dirs (entries_of list) asked

-- These paths are asked where the list is refused so: those for the entries before that, and all that is asked next.
abbrev pub AsksRefused : Told → List (List ℕ) → List (List ℕ) → Refusal → List (List ℕ) → Type 0
AsksRefused files names dirs r asked =
    (es : List Entry) × (done : List (List ℕ)) × AreAskedFor files names dirs es done × IsStop (Some files) dirs es (stop es) r × (asked ≡ done ++ asked_next files dirs es)

-- These are all paths that are asked for these names: those for their list, or for its refusal.
abbrev pub AsksAll : Told → List (List ℕ) → List (List ℕ) → List (List ℕ) → Type 0
AsksAll files names dirs asked =
    ((list : List ModuleFile) × IsList (Some files) names dirs list × AsksList files names dirs list asked)
    ⊎ ((r : Refusal) × AsksRefused files names dirs r asked)

-- These paths are a front of those that are asked: the first named files; or what was asked for the first entries of a list, and a
-- front of what is asked next.
abbrev pub AsksNoMore : Told → List (List ℕ) → List (List ℕ) → List (List ℕ) → Type 0
AsksNoMore files names dirs asked =
    ((n : ℕ) × (asked ≡ take n (take most_modules names)))
    ⊎ ((es : List Entry) × (done : List (List ℕ)) × (n : ℕ) × AreAskedFor files names dirs es done × (asked ≡ done ++ take n (asked_next files dirs es)))

-- Where the files are told, the paths that were asked between two states are such ones.
abbrev pub Asks : Files → Option (List (List ℕ)) → Option (List (List ℕ)) → (Told → List (List ℕ) → Type 0) → Type 0
Asks None before now Are = Unit {0}
Asks (Some files) before now Are = (paths : List (List ℕ)) × (now ≡ also_asked before paths) × Are files paths
