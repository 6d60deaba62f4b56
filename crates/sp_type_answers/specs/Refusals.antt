-- What a check of a list refuses.
use Rattle.std.specs.Prelude.{◌≡◌, Some}
use Rattle.sp_rules.specs.declared.fault.Fault.{Fault}
use Rattle.sp_rules.specs.Rules.{diag_of}
use Rattle.sp_rules.specs.Least.{IsLeast}
use Rattle.sp_type_answers.specs.declared.fault.CheckFault.{CheckFault}
use Rattle.sp_type_answers.specs.declared.fault.CheckFault.TheVariants as fault_is

-- A list is refused at the least of the rules of a group that are broken.
abbrev pub IsRefused : (Fault → Type 0) → CheckFault → Type 0
IsRefused Breaks (fault_is.Diag d) = (f : Fault) × IsLeast Breaks (Some f) × (d ≡ diag_of f)
IsRefused Breaks fault_is.NoMemory = Unit {0}
