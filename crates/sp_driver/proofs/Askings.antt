-- What is asked at an exit.
use Rattle.std.proofs.Common.{◌≡◌, ◌≢◌, ℕ, List, [], Option, Some, None, sym, ◌∙◌, refl, subst, ⊎_elim}
use Rattle.sp_command.specs.Directories.{directories_of}
use Rattle.sp_read_file.specs.declared.unread.Unread.{Unread}
use Rattle.sp_front.specs.Lists.{Files}
use Rattle.sp_front.specs.Asked.{Told, Asks}
use Rattle.sp_front.specs.inside.Follow.{IsRefusedBy}
use Rattle.sp_front.proofs.Asking.{also_nil}
use Rattle.sp_driver_args.specs.Words.{Words}
use Rattle.sp_driver.specs.declared.exits.Exit.{Exit}
use Rattle.sp_driver.specs.Asked.{AsksFor}
use Rattle.sp_driver.specs.Driver.{Messages, Reported, status_of, unread_status}

-- what is asked, by the files and the names of files and directories
abbrev pub Asking : Type 1
Asking = Told → List (List ℕ) → List (List ℕ) → List (List ℕ) → Type 0

-- faulty words ask nothing
pub usage_asks : (files : Files) (o : Option Words) (before : Option (List (List ℕ))) (Are : Asking) → o ≡ None → Asks files before before (λ told asked. AsksFor o (λ names dirs asked. Are told names dirs asked) asked)
usage_asks None o before Are is = tt
usage_asks (Some files) o before Are is = ([], sym (also_nil before), subst (λ o. AsksFor o (λ names dirs asked. Are files names dirs asked) []) (sym is) refl)

-- others ask what they want
pub wanted_asks : (files : Files) (o : Option Words) (w : Words) (before after : Option (List (List ℕ))) (Are : Asking) → o ≡ Some w → Asks files before after (λ told asked. Are told w.files (directories_of w.directories) asked)
    → Asks files before after (λ told asked. AsksFor o (λ names dirs asked. Are told names dirs asked) asked)
wanted_asks files o w before after Are is asks = subst (λ o. Asks files before after (λ told asked. AsksFor o (λ names dirs asked. Are told names dirs asked) asked)) (sym is) asks

-- where there is memory and the files can be read, the list is loaded or refused
pub refused_by_status : (u : Unread) {P : Type 0} → IsRefusedBy (λ _. P) u → unread_status u ≢ 4 → unread_status u ≢ 7 → P
refused_by_status (Unread.Refused r) is not4 not7 = is
refused_by_status Unread.ModulesFault is not4 not7 = absurd (not4 refl)
refused_by_status Unread.NoMemory is not4 not7 = absurd (not7 refl)

-- what holds by the status of an exit holds by that of the program
pub by_status : (exit : Exit) (before after : Messages) (status : ℕ) {P : Type 0} → Reported exit before after status → (status_of exit ≢ 4 → status_of exit ≢ 7 → P) → status ≢ 4 → status ≢ 5 → status ≢ 7 → P
by_status exit before after status told holds not4 not5 not7 =
    ⊎_elim
    (λ whole. holds (λ e. not4 (whole.0 ∙ e)) (λ e. not7 (whole.0 ∙ e)))
    (λ part. ⊎_elim (λ failed. absurd (not5 failed.0)) (λ vain. absurd (not7 vain.0)) part)
    told
