-- The answer of a call over files that are told.
use Rattle.std.specs.Prelude.{codes}
use Rattle.std.proofs.Common.{◌≡◌, ◌≢◌, ℕ, List, [], Option, Some, ap, ◌∙◌, refl, subst, inl, inr, ⊎_elim}
use Rattle.sp_io.specs.Moved.{appended}
use Rattle.sp_spicyc.specs.declared.exits.Exit.{Exit}
use Rattle.sp_read_file.specs.declared.unread.Unread.{Unread}
use Rattle.sp_spicyc.specs.Command.{Says, Outputs, Reported, status_of, output_of, message_of}
use Rattle.sp_command.specs.Refusals.{refusal_text}
use Rattle.sp_spicyc.specs.Files.{printed}
use Rattle.sp_spicyc.specs.Whole.{Answer, IsAnswer, IsAnswered}

-- the exits at which nothing failed and there was memory
abbrev pub IsCalm : ℕ → Type 0
IsCalm status = (status ≢ 4) × (status ≢ 5) × (status ≢ 7)

-- the answer that an exit makes
record IsMade (words : List (List ℕ)) (files : List ℕ → Option (List ℕ)) (exit : Exit) : Type 0 where
  pub answer : Answer
  pub is_answer : IsAnswer words files answer
  pub status : status_of exit ≡ answer.status
  pub output : output_of exit ≡ answer.out
  pub message : message_of exit ≡ answer.err

made : (words : List (List ℕ)) (files : List ℕ → Option (List ℕ)) (exit : Exit) → IsCalm (status_of exit) → Says words (Some files) exit → IsMade words files exit
made words files Exit.Usage calm says = record {
  answer = record { status = 2; out = []; err = codes "spicyc: usage\n" };
  is_answer = inl (says, refl);
  status = refl;
  output = refl;
  message = refl;
}
made words files (Exit.Unread (Unread.Refused refusal)) calm (wanted, found, unread) = record {
  answer = record { status = 3; out = []; err = refusal_text refusal };
  is_answer = inr (inl (wanted, refusal, found, unread, refl));
  status = refl;
  output = refl;
  message = refl;
}
made words files (Exit.Done text) calm (wanted, list, found, loaded, is) = record {
  answer = record { status = 0; out = printed wanted list; err = [] };
  is_answer = inr (inr (wanted, list, found, loaded, refl));
  status = refl;
  output = is;
  message = refl;
}
made words files (Exit.Unread Unread.ModulesFault) calm says = absurd (calm.0 refl)
made words files (Exit.Unread Unread.NoMemory) calm says = absurd (calm.2 refl)

-- the program's answer, where the files are told
pub answered : (words : List (List ℕ)) (told_files : Option (List ℕ → Option (List ℕ))) (before after : Outputs) (exit : Exit) (status : ℕ)
    → Says words told_files exit → Reported exit before after status
    → IsAnswered words told_files before.out after.out before.err after.err status
answered words told_files before after exit status says reported files files_told not4 not5 not7 =
    ⊎_elim
    (λ told. let calm : IsCalm (status_of exit) = ((λ e. not4 (told.0 ∙ e)), (λ e. not5 (told.0 ∙ e)), (λ e. not7 (told.0 ∙ e))) in
    let m = made words files exit calm (subst (λ files. Says words files exit) files_told says) in
    (m.answer, m.is_answer, told.0 ∙ m.status, told.1 ∙ ap (λ text. appended before.out text) m.output, told.2 ∙ ap (λ message. appended before.err message) m.message))
    (λ part. ⊎_elim (λ failed. absurd (not5 failed.0)) (λ vain. absurd (not7 vain.0)) part)
    reported
