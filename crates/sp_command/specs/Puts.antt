-- What was put where not all could be put.
use Rattle.std.specs.Prelude.{◌≡◌, ◌<◌, ℕ, List, ◌++◌, Option}
use Rattle.sp_io.specs.Moved.{appended}
use Rattle.sp_io.specs.declared.traits.OutFault.{OutFault}
use Rattle.sp_io.specs.declared.traits.OutFault.TheVariants as out_fault

-- xs stands at the front of ys
abbrev pub IsFront : List ℕ → List ℕ → Type 0
IsFront xs ys = (rest : List ℕ) × (ys ≡ xs ++ rest)

-- a front of these bytes was put
abbrev pub IsPartPut : Option (List ℕ) → Option (List ℕ) → List ℕ → Type 0
IsPartPut before after bytes = (front : List ℕ) × IsFront front bytes × (after ≡ appended before front)

-- whether the count of faults rose where a text was not put
abbrev pub PutCause : ℕ → ℕ → OutFault → Type 0
PutCause before after out_fault.Failed = before < after
PutCause before after out_fault.NoMemory = after ≡ before

-- the status where an output was not written
abbrev pub failure_status : OutFault → ℕ
failure_status out_fault.Failed = 5
failure_status out_fault.NoMemory = 7
