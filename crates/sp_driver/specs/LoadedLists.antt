-- Lists that are loaded and pass.
use Rattle.std.specs.Prelude.{◌≡◌, ℕ, List, None}
use Rattle.sp_front.specs.Lists.{Files}
use Rattle.sp_front.specs.declared.entries.ModuleFile.{ModuleFile}
use Rattle.sp_load.specs.Loads.{IsLoaded, trees_of}
use Rattle.sp_type_answers.specs.NameRules.{IsTyped}
use Rattle.sp_typed_units.specs.declared.declarations.Typed.{Typed}
use Rattle.sp_unbuilt.specs.Unbuilt.{Texts, first_unbuilt}
use Rattle.sp_law_lists.specs.fit_list.Passes.{ListPasses}

-- Where these files are the list that is loaded, and all of it is built, what is typed of it passes.
abbrev pub LoadedListsPass : Type 0
LoadedListsPass =
    (texts : Texts) (files : Files) (names directories : List (List ℕ)) (fs : List ModuleFile) (t : Typed)
    → IsLoaded files names directories fs → IsTyped (trees_of fs) t → first_unbuilt texts (trees_of fs) t ≡ None → ListPasses t
