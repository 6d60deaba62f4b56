-- When a call may answer that its object failed.
use Rattle.std.specs.Prelude.{◌≡◌, ◌≤◌, ◌<◌, ◌⊎◌, ◌-◌, ◌^◌, ℕ}
use Rattle.sp_io.specs.declared.traits.OutFault as out
use Rattle.sp_io.specs.declared.traits.SourceFault as source
use Rattle.sp_io.specs.declared.traits.ModulesFault as modules

-- the count of faults never falls, and it rose or stands at the end of its range
pub record Rose (before now : ℕ) : Type 0 where
  pub never_falls : before ≤ now
  pub rose : (before < now) ⊎ (now ≡ 2 ^ 64 - 1)

-- a failed put raised the count; want of memory left it
abbrev pub OutCause : ℕ → ℕ → out.OutFault → Type 0
OutCause before now out.TheVariants.Failed = Rose before now
OutCause before now out.TheVariants.NoMemory = now ≡ before

-- a failed take raised the count; want of memory left it
abbrev pub SourceCause : ℕ → ℕ → source.SourceFault → Type 0
SourceCause before now source.TheVariants.Failed = Rose before now
SourceCause before now source.TheVariants.NoMemory = now ≡ before

-- a failed read of a module raised the count; want of memory left it
abbrev pub ModulesCause : ℕ → ℕ → modules.ModulesFault → Type 0
ModulesCause before now modules.TheVariants.Failed = Rose before now
ModulesCause before now modules.TheVariants.NoMemory = now ≡ before
