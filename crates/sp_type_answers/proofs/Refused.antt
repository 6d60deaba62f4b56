-- What a list is refused at.
use Rattle.std.proofs.Common.{◌≡◌, Some}
use Rattle.sp_base.specs.declared.places.Diag.{Diag}
use Rattle.sp_rules.specs.declared.fault.Fault.{Fault}
use Rattle.sp_rules.specs.Rules.{diag_of}
use Rattle.sp_rules.specs.Least.{IsLeast}
use Rattle.sp_type_answers.specs.declared.fault.CheckFault.TheVariants as fault_is
use Rattle.sp_type_answers.specs.Refusals.{IsRefused}

pub refused_at : (Breaks : Fault → Type 0) (f : Fault) (d : Diag) → IsLeast Breaks (Some f) → d ≡ diag_of f → IsRefused Breaks (fault_is.Diag d)
refused_at Breaks f d least is = (f, least, is)
