-- What a set of members holds.
use Rattle.std.specs.Prelude.{ℕ, ◌≡◌, List, [], ◌∷◌, Option, Some, None}
use Rattle.std.specs.List.{list_any}
use Rattle.indexmap.specs.IndexSet.{contains}
use Rattle.sp_type_hook_rows.specs.declared.containers.MemberSet.{MemberSet}
use Rattle.sp_type_hook_rows.specs.Tests.{are_equal}

-- one or none
abbrev pub among : Option (ℕ × ℕ) → List (ℕ × ℕ)
among None = []
among (Some p) = p ∷ []

abbrev pub AreFound : List (ℕ × ℕ) → MemberSet → Type 0
AreFound all found = (x : ℕ × ℕ) → contains are_equal found.members x ≡ list_any (are_equal x) all
