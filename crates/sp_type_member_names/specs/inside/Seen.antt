-- What a walk through a unit has seen.
use Rattle.std.specs.Prelude.{ℕ, ◌+◌, ◌==◌, nat_eq, nat_lt, Bool, false, if◌then◌else◌, cond, List, [], ◌∷◌, Option, Some, None}
use Rattle.indexmap.specs.IndexMap.{get}
use Rattle.sp_types.specs.Types.{Ty, is_known}
use Rattle.sp_type_modules.specs.Taken.{differ}
use Rattle.sp_type_member_names.specs.declared.near.NearTable.{NearTable}
use Rattle.sp_type_member_names.specs.declared.stored.Stored.{Stored}
use Rattle.sp_type_member_names.specs.declared.stored.Stored.TheVariants as stored_is
use Rattle.sp_type_member_names.specs.declared.stored.StoredTable.{StoredTable}

abbrev pub count_or : Option ℕ → ℕ
count_or None = 0
count_or (Some n) = n

-- how often a member was named
abbrev pub told_count : NearTable → ℕ → ℕ
told_count table k = count_or (get nat_eq table.counts k)

abbrev pub how_many : ℕ → List ℕ → ℕ
how_many k [] = 0
how_many k (j ∷ js) = cond (j == k) 1 0 + how_many k js

abbrev pub is_counted : NearTable → Option ℕ → Bool
is_counted table None = false
is_counted table (Some k) = nat_lt 0 (told_count table k)

-- whether another known type was kept
abbrev pub entry_differs : Option Stored → Ty → Bool
entry_differs None t = false
entry_differs (Some (stored_is.One s)) t = differ s t
entry_differs (Some stored_is.Mixed) t = is_known t

abbrev pub stored_with : Option Stored → Ty → Stored
stored_with None t = stored_is.One t
stored_with (Some (stored_is.One s)) t = if differ s t then stored_is.Mixed else stored_is.One t
stored_with (Some stored_is.Mixed) t = stored_is.Mixed

abbrev pub kept_differs : StoredTable → ℕ → Ty → Bool
kept_differs table k t = entry_differs (get nat_eq table.of k) t

abbrev pub number_told : StoredTable → Option ℕ → Ty → Bool
number_told table None t = false
number_told table (Some k) t = kept_differs table k t
