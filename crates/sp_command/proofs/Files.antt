-- What a read tells of a file.
use Rattle.std.proofs.Common.{◌≡◌, ℕ, List, Option, Some, None, refl}
use Rattle.sp_command.specs.Files.{Holds}

-- the content that was read is that of the file, where the files are told
pub holds_by : (files : Option (List ℕ → Option (List ℕ))) (path : List ℕ) (content : Option (List ℕ)) → ((map : List ℕ → Option (List ℕ)) → files ≡ Some map → content ≡ map path) → Holds files path content
holds_by None path content told = tt
holds_by (Some map) path content told = told map refl
