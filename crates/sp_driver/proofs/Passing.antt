-- A list that is loaded passes where all of it is built.
use Rattle.std.specs.Prelude.{IfOk, Result, Ok, Err}
use Rattle.std.proofs.Common.{◌≡◌, ℕ, List, None, subst}
use Rattle.sp_front.specs.Lists.{Files}
use Rattle.sp_front.specs.declared.entries.ModuleFile.{ModuleFile}
use Rattle.sp_read_file.specs.declared.unread.Unread.{Unread}
use Rattle.sp_load.specs.Loads.{IsLoaded, sources_of, trees_of}
use Rattle.sp_load.specs.declared.loaded.Loaded.{Loaded}
use Rattle.sp_type_answers.specs.NameRules.{IsTyped}
use Rattle.sp_unbuilt.specs.Unbuilt.{first_unbuilt}
use Rattle.sp_driver.specs.LoadedLists.{LoadedListsPass}
use Rattle.sp_driver.specs.inside.Ready.{PassesWhereBuilt}

pub loaded_passes : LoadedListsPass → (files : Files) (names directories : List (List ℕ)) (r : Result Loaded Unread)
    → IfOk r (λ l. (fs : List ModuleFile) × IsLoaded files names directories fs × (l.sources.items ≡ sources_of fs) × (l.modules.items ≡ trees_of fs))
    → IfOk r (λ l. IsTyped l.modules.items l.typed) → IfOk r (λ l. PassesWhereBuilt l.modules.items l.typed)
loaded_passes law files names directories (Ok l) loaded typed = λ texts built.
    law texts files names directories loaded.0 l.typed loaded.1 (subst (λ ts. IsTyped ts l.typed) loaded.3 typed) (subst (λ ts. first_unbuilt texts ts l.typed ≡ None) loaded.3 built)
loaded_passes law files names directories (Err e) loaded typed = tt
