-- Which faults come with which status.
use Rattle.std.specs.Prelude.{◌≡◌, ◌≢◌, ◌<◌, ◌⊎◌, ℕ}

-- how often the modules, the output and the output for messages failed
pub record Counts : Type 0 where
  pub modules : ℕ
  pub out : ℕ
  pub err : ℕ

-- the modules failed, and no output did
pub record IsReadFault (before after : Counts) : Type 0 where
  pub read : before.modules < after.modules
  pub out : after.out ≡ before.out
  pub err : after.err ≡ before.err

-- an output failed
abbrev pub IsWriteFault : Counts → Counts → Type 0
IsWriteFault before after = (before.out < after.out) ⊎ (before.err < after.err)

-- nothing failed
pub record IsQuiet (before after : Counts) : Type 0 where
  pub modules : after.modules ≡ before.modules
  pub out : after.out ≡ before.out
  pub err : after.err ≡ before.err

-- status 4 comes with a fault of reading alone, status 5 with one of writing alone, and they come there
-- unless there was no memory, which is 7; all other statuses come where nothing failed
pub record IsCausedBy (before after : Counts) (status : ℕ) : Type 0 where
  pub read_fault : status ≡ 4 → IsReadFault before after
  pub write_fault : status ≡ 5 → IsWriteFault before after
  pub quiet : status ≢ 4 → status ≢ 5 → status ≢ 7 → IsQuiet before after
  pub read_fault_tells : IsReadFault before after → (status ≡ 4) ⊎ (status ≡ 7)
  pub write_fault_tells : IsWriteFault before after → (status ≡ 5) ⊎ (status ≡ 7)
