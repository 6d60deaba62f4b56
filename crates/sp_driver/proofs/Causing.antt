-- The causes of the statuses.
use Rattle.std.specs.Prelude.{◌⊎◌}
use Rattle.std.proofs.Common.{◌≡◌, ◌≢◌, ◌<◌, ℕ, sym, ◌∙◌, refl, arith, inl, inr, ⊎_elim}
use Rattle.sp_read_file.specs.declared.unread.Unread.{Unread}
use Rattle.sp_driver.specs.declared.exits.Exit.{Exit}
use Rattle.sp_driver.specs.declared.exits.RunExit.{RunExit}
use Rattle.sp_driver.specs.declared.exits.Unready.{Unready}
use Rattle.sp_driver.specs.Causes.{Counts, IsCausedBy}
use Rattle.sp_driver.specs.Driver.{Faults, Messages, ExitCause, Reported, status_of}

-- what an exit's status has to do with the counts, the messages aside
data Kind (before after : Counts) (code : ℕ) : Type 0 where
  calm : after.modules ≡ before.modules → after.input ≡ before.input → after.out ≡ before.out → code ≢ 4 → code ≢ 5 → Kind before after code
  reading : (before.modules < after.modules) ⊎ (before.input < after.input) → after.out ≡ before.out → code ≡ 4 → Kind before after code
  writing : after.modules ≡ before.modules → after.input ≡ before.input → before.out < after.out → code ≡ 5 → Kind before after code

-- the counts with those of the output for messages
abbrev pub counts : Faults → Messages → Counts
counts faults messages = record { modules = faults.modules; input = faults.input; out = faults.out; err = messages.faults }

kind_of : (before after : Faults) (told_before told_after : Messages) (exit : Exit) → ExitCause before after exit → Kind (counts before told_before) (counts after told_after) (status_of exit)
kind_of before after told_before told_after Exit.Usage c = calm c.0 c.1 c.2 (λ e. omega arith) (λ e. omega arith)
kind_of before after told_before told_after (Exit.Unread (Unread.Refused r)) c = calm c.0 c.1 c.2 (λ e. omega arith) (λ e. omega arith)
kind_of before after told_before told_after (Exit.Unread Unread.ModulesFault) c = reading (inl c.0) c.2 refl
kind_of before after told_before told_after (Exit.Unread Unread.NoMemory) c = calm c.0 c.1 c.2 (λ e. omega arith) (λ e. omega arith)
kind_of before after told_before told_after (Exit.Unready Unready.NoParser) c = calm c.0 c.1 c.2 (λ e. omega arith) (λ e. omega arith)
kind_of before after told_before told_after (Exit.Unready (Unready.Unbuilt r)) c = calm c.0 c.1 c.2 (λ e. omega arith) (λ e. omega arith)
kind_of before after told_before told_after (Exit.Unready Unready.NoMemory) c = calm c.0 c.1 c.2 (λ e. omega arith) (λ e. omega arith)
kind_of before after told_before told_after (Exit.Ran RunExit.Done) c = calm c.0 c.1.0 c.1.1 (λ e. omega arith) (λ e. omega arith)
kind_of before after told_before told_after (Exit.Ran RunExit.Failed) c = calm c.0 c.1.0 c.1.1 (λ e. omega arith) (λ e. omega arith)
kind_of before after told_before told_after (Exit.Ran RunExit.InputFault) c = reading (inr c.1.0) c.1.1 refl
kind_of before after told_before told_after (Exit.Ran RunExit.OutFault) c = writing c.0 c.1.0 c.1.1 refl
kind_of before after told_before told_after (Exit.Ran RunExit.TooLong) c = calm c.0 c.1.0 c.1.1 (λ e. omega arith) (λ e. omega arith)
kind_of before after told_before told_after (Exit.Ran RunExit.NoMemory) c = calm c.0 c.1.0 c.1.1 (λ e. omega arith) (λ e. omega arith)

-- the message was put
told_whole : (before after : Counts) (code status : ℕ) → Kind before after code → status ≡ code → after.err ≡ before.err → IsCausedBy before after status
told_whole before after code status (calm m i o not4 not5) is same = record {
  read_fault = λ e. absurd (not4 (sym is ∙ e));
  write_fault = λ e. absurd (not5 (sym is ∙ e));
  quiet = λ a b c. record { modules = m; input = i; out = o; err = same };
  read_fault_tells = λ f. absurd (⊎_elim (λ r. omega arith) (λ r. omega arith) f.read);
  write_fault_tells = λ f. absurd (⊎_elim (λ r. omega arith) (λ r. omega arith) f);
}
told_whole before after code status (reading r o e) is same = record {
  read_fault = λ _. record { read = r; out = o; err = same };
  write_fault = λ five. absurd (omega arith);
  quiet = λ a b c. absurd (a (is ∙ e));
  read_fault_tells = λ f. inl (is ∙ e);
  write_fault_tells = λ f. absurd (⊎_elim (λ r. omega arith) (λ r. omega arith) f);
}
told_whole before after code status (writing m i o e) is same = record {
  read_fault = λ four. absurd (omega arith);
  write_fault = λ _. inl o;
  quiet = λ a b c. absurd (b (is ∙ e));
  read_fault_tells = λ f. absurd (⊎_elim (λ r. omega arith) (λ r. omega arith) f.read);
  write_fault_tells = λ f. inl (is ∙ e);
}

-- the output for messages failed
told_failing : (before after : Counts) (status : ℕ) → status ≡ 5 → before.err < after.err → IsCausedBy before after status
told_failing before after status five rose = record {
  read_fault = λ e. absurd (omega arith);
  write_fault = λ _. inr rose;
  quiet = λ a b c. absurd (b five);
  read_fault_tells = λ f. absurd (omega (arith, f.err));
  write_fault_tells = λ f. inl five;
}

-- no memory for the message
told_in_vain : (before after : Counts) (status : ℕ) → status ≡ 7 → IsCausedBy before after status
told_in_vain before after status seven = record {
  read_fault = λ e. absurd (omega arith);
  write_fault = λ e. absurd (omega arith);
  quiet = λ a b c. absurd (c seven);
  read_fault_tells = λ f. inr seven;
  write_fault_tells = λ f. inr seven;
}

pub caused_by : (before after : Faults) (told_before told_after : Messages) (exit : Exit) (status : ℕ) → ExitCause before after exit → Reported exit told_before told_after status
    → IsCausedBy (counts before told_before) (counts after told_after) status
caused_by before after told_before told_after exit status cause reported =
    let first = counts before told_before in
    let last = counts after told_after in
    ⊎_elim
    (λ whole. told_whole first last (status_of exit) status (kind_of before after told_before told_after exit cause) whole.0 whole.2)
    (λ part. ⊎_elim (λ failed. told_failing first last status failed.0 failed.2) (λ vain. told_in_vain first last status vain.0) part)
    reported
