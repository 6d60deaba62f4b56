-- The causes of the statuses.
use Rattle.std.proofs.Common.{◌≡◌, ◌≢◌, ◌<◌, ◌⊎◌, ℕ, sym, ◌∙◌, refl, arith, inl, inr, ⊎_elim}
use Rattle.sp_spicyc.specs.declared.exits.Exit.{Exit}
use Rattle.sp_read_file.specs.declared.unread.Unread.{Unread}
use Rattle.sp_spicyc.specs.Causes.{Counts, IsCausedBy}
use Rattle.sp_spicyc.specs.Command.{ExitCause, Outputs, Reported, status_of}

-- what an exit's status has to do with the count of the modules
data Kind (before after : ℕ) (code : ℕ) : Type 0 where
  calm : after ≡ before → code ≢ 4 → code ≢ 5 → Kind before after code
  reading : before < after → code ≡ 4 → Kind before after code

kind_of : (before after : ℕ) (exit : Exit) → ExitCause before after exit → Kind before after (status_of exit)
kind_of before after Exit.Usage c = calm c (λ e. omega arith) (λ e. omega arith)
kind_of before after (Exit.Done text) c = calm c (λ e. omega arith) (λ e. omega arith)
kind_of before after (Exit.Unread (Unread.Refused r)) c = calm c (λ e. omega arith) (λ e. omega arith)
kind_of before after (Exit.Unread Unread.ModulesFault) c = reading c refl
kind_of before after (Exit.Unread Unread.NoMemory) c = calm c (λ e. omega arith) (λ e. omega arith)

-- the texts were put
told_whole : (before after : Counts) (code status : ℕ) → Kind before.modules after.modules code → status ≡ code → after.out ≡ before.out → after.err ≡ before.err → IsCausedBy before after status
told_whole before after code status (calm m not4 not5) is o same = record {
  read_fault = λ e. absurd (not4 (sym is ∙ e));
  write_fault = λ e. absurd (not5 (sym is ∙ e));
  quiet = λ a b c. record { modules = m; out = o; err = same };
  read_fault_tells = λ f. absurd (omega (arith, f.read));
  write_fault_tells = λ f. absurd (⊎_elim (λ r. omega arith) (λ r. omega arith) f);
}
told_whole before after code status (reading r e) is o same = record {
  read_fault = λ _. record { read = r; out = o; err = same };
  write_fault = λ five. absurd (omega arith);
  quiet = λ a b c. absurd (a (is ∙ e));
  read_fault_tells = λ f. inl (is ∙ e);
  write_fault_tells = λ f. absurd (⊎_elim (λ r. omega arith) (λ r. omega arith) f);
}

-- an output failed
told_failing : (before after : Counts) (status : ℕ) → status ≡ 5 → (before.out < after.out) ⊎ (before.err < after.err) → IsCausedBy before after status
told_failing before after status five rose = record {
  read_fault = λ e. absurd (omega arith);
  write_fault = λ _. rose;
  quiet = λ a b c. absurd (b five);
  read_fault_tells = λ f. absurd (⊎_elim (λ r. omega (arith, f.out)) (λ r. omega (arith, f.err)) rose);
  write_fault_tells = λ f. inl five;
}

-- no memory for the texts
told_in_vain : (before after : Counts) (status : ℕ) → status ≡ 7 → IsCausedBy before after status
told_in_vain before after status seven = record {
  read_fault = λ e. absurd (omega arith);
  write_fault = λ e. absurd (omega arith);
  quiet = λ a b c. absurd (c seven);
  read_fault_tells = λ f. inr seven;
  write_fault_tells = λ f. inr seven;
}

abbrev counts : ℕ → Outputs → Counts
counts modules outputs = record { modules = modules; out = outputs.out_faults; err = outputs.err_faults }

pub caused_by : (modules_before modules_after : ℕ) (before after : Outputs) (exit : Exit) (status : ℕ) → ExitCause modules_before modules_after exit
    → Reported exit before after status → IsCausedBy (counts modules_before before) (counts modules_after after) status
caused_by modules_before modules_after before after exit status cause told =
    let now = counts modules_before before in let later = counts modules_after after in
    ⊎_elim
    (λ whole. told_whole now later (status_of exit) status (kind_of modules_before modules_after exit cause) whole.0 whole.3.0 whole.3.1)
    (λ part. ⊎_elim (λ failed. told_failing now later status failed.0 failed.2) (λ vain. told_in_vain now later status vain.0) part)
    told
