-- What is put of an exit.
use Rattle.std.proofs.Common.{◌≡◌, ℕ, inl, inr}
use Rattle.sp_io.specs.Moved.{appended}
use Rattle.sp_io.specs.declared.traits.OutFault.{OutFault}
use Rattle.sp_io.specs.declared.traits.OutFault.TheVariants as fault
use Rattle.sp_command.specs.Puts.{IsPartPut, PutCause, failure_status}
use Rattle.sp_command.proofs.PartPuts.{nothing_put, all_put}
use Rattle.sp_spicyc.specs.declared.exits.Exit.{Exit}
use Rattle.sp_spicyc.specs.Command.{Outputs, Reported, output_of, message_of}

-- the output was not written
pub output_failed : (exit : Exit) (before after : Outputs) (f : OutFault) (status : ℕ) → status ≡ failure_status f → IsPartPut before.out after.out (output_of exit) → PutCause before.out_faults after.out_faults f
    → after.err ≡ before.err → after.err_faults ≡ before.err_faults → Reported exit before after status
output_failed exit before after fault.Failed status is part rose err same = inr (inl (is, (part, nothing_put before.err after.err (message_of exit) err), inl rose))
output_failed exit before after fault.NoMemory status is part kept err same = inr (inr (is, (part, nothing_put before.err after.err (message_of exit) err), (kept, same)))

-- the message was not written
pub message_failed : (exit : Exit) (before after : Outputs) (f : OutFault) (status : ℕ) → status ≡ failure_status f → after.out ≡ appended before.out (output_of exit) → after.out_faults ≡ before.out_faults
    → IsPartPut before.err after.err (message_of exit) → PutCause before.err_faults after.err_faults f → Reported exit before after status
message_failed exit before after fault.Failed status is put same part rose = inr (inl (is, (all_put before.out after.out (output_of exit) put, part), inr rose))
message_failed exit before after fault.NoMemory status is put same part kept = inr (inr (is, (all_put before.out after.out (output_of exit) put, part), (same, kept)))
