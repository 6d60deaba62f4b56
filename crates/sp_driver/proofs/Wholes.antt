-- The run of a whole input that is told.
use Rattle.std.specs.Prelude.{◌%◌, codes}
use Rattle.std.proofs.Common.{◌≡◌, ◌≢◌, ◌≤◌, ◌<◌, ◌+◌, ◌*◌, ◌/◌, ℕ, List, [], ◌++◌, length, Option, Some, None, sym, ap, ◌∙◌, refl, subst, arith, inl, inr, ⊎_elim, cond}
use Rattle.std.proofs.lemmas.Bool.{lt-ltb, le-ltb}
use Rattle.std.proofs.lemmas.List.{append-nil, length-append}
use Rattle.sp_base.specs.Input.{ended}
use Rattle.sp_io.specs.Moved.{appended, prepended}
use Rattle.sp_io.proofs.Moves.{appended-nil}
use Rattle.sp_meaning.specs.Meaning.{UnitMeaning}
use Rattle.sp_command.specs.Refusals.{refusal_text}
use Rattle.sp_read_file.specs.declared.unread.Unread.{Unread}
use Rattle.sp_front.specs.Lists.{Files}
use Rattle.sp_driver_args.specs.Words.{Words, words_of}
use Rattle.sp_driver.specs.declared.exits.Exit.{Exit}
use Rattle.sp_driver.specs.declared.exits.RunExit.{RunExit}
use Rattle.sp_driver.specs.declared.exits.Unready.{Unready}
use Rattle.sp_driver.specs.declared.options.RunOptions.{RunOptions}
use Rattle.sp_driver.specs.Options.{options_of}
use Rattle.sp_driver.specs.Driver.{Objects, Messages, Says, Reported, run_meaning, status_of, message_of, unready_status, unready_message, run_status, run_message}
use Rattle.sp_driver.specs.Run.{Runs, IsTakenWhole, IsWhole}
use Rattle.sp_driver.specs.Shown.{shown}
use Rattle.sp_driver.specs.Whole.{Answer, tells, stand_status, ended_answer, long_answer, run_answer, IsAnswer, IsAnswered}
use Rattle.sp_driver.proofs.Runs.{shown-append, run_whole, run_long}

-- the exits at which nothing failed and there was memory
abbrev pub IsCalm : ℕ → Type 0
IsCalm status = (status ≢ 4) × (status ≢ 5) × (status ≢ 7)

-- what was written, of a run to such an exit over an input that is told
pub record IsRunOf (meaning : UnitMeaning) (o : RunOptions) (input : List ℕ) (held_before held_after : Option (List ℕ)) (exit : RunExit) : Type 0 where
  pub out : List ℕ
  pub put : held_after ≡ appended held_before out
  pub answer : run_answer meaning o input ≡ record { status = run_status exit; out = out; err = run_message exit }

is_ended : (meaning : UnitMeaning) (o : RunOptions) (input : List ℕ) → length input ≤ o.most → run_answer meaning o input ≡ ended_answer meaning o input
is_ended meaning o input le = ap (λ b. cond b (long_answer meaning o input) (ended_answer meaning o input)) (le-ltb o.most (length input) le)

is_long : (meaning : UnitMeaning) (o : RunOptions) (input : List ℕ) → o.most < length input → run_answer meaning o input ≡ long_answer meaning o input
is_long meaning o input lt = ap (λ b. cond b (long_answer meaning o input) (ended_answer meaning o input)) (lt-ltb o.most (length input) lt)

-- what was taken of a told input is its front
taken_of : (input taken : List ℕ) (left : Option (List ℕ)) → Some input ≡ prepended taken left → (rest : List ℕ) × (left ≡ Some rest) × (input ≡ taken ++ rest)
taken_of input taken None e = cc
taken_of input taken (Some rest) e = (rest, refl, cc)

all_taken : (input taken : List ℕ) (left : Option (List ℕ)) → Some input ≡ prepended taken left → IsTakenWhole left → input ≡ taken
all_taken input taken None e over = cc
all_taken input taken (Some rest) e over = let is : input ≡ taken ++ rest = cc in is ∙ ap (λ r. taken ++ r) over ∙ append-nil taken

pieces_within : (n m : ℕ) → 1 ≤ n → m / n * n ≤ m
pieces_within n m one = let rest : n * (m / n) + m % n ≡ m = omega arith in omega arith

run_over : (meaning : UnitMeaning) (o : RunOptions) (input taken written : List ℕ) (left : Option (List ℕ)) (code : ℕ) → Some input ≡ prepended taken left → IsWhole meaning o taken written left
    → stand_status (meaning taken ended).stand ≡ code → run_answer meaning o input ≡ record { status = code; out = written; err = [] }
run_over meaning o input taken written left code took is_whole status =
    ap (λ bytes. run_answer meaning o bytes) (all_taken input taken left took is_whole.taken_whole)
    ∙ is_ended meaning o taken is_whole.not_long
    ∙ ap (λ out. record { status = stand_status (meaning taken ended).stand; out = out; err = [] }) (run_whole meaning o taken is_whole.not_long ∙ sym is_whole.lines)
    ∙ ap (λ status. record { status = status; out = written; err = [] }) status

run_too_long : (meaning : UnitMeaning) (o : RunOptions) (input taken written : List ℕ) (left : Option (List ℕ)) → 1 ≤ o.increment → Some input ≡ prepended taken left → o.most < length taken
    → written ≡ shown meaning o taken (o.most / o.increment) → run_answer meaning o input ≡ record { status = 6; out = written; err = codes "spicy-driver: input too long\n" }
run_too_long meaning o input taken written left one took long lines =
    let front = taken_of input taken left took in
    let within : o.most / o.increment * o.increment ≤ length taken = omega (arith, pieces_within o.increment o.most one) in
    let longer : o.most < length input = omega (arith, ap length front.2, length-append taken front.0) in
    is_long meaning o input longer
    ∙ ap (λ out. record { status = 6; out = out; err = codes "spicy-driver: input too long\n" })
    (run_long meaning o input longer ∙ ap (λ bytes. shown meaning o bytes (o.most / o.increment)) front.2 ∙ shown-append meaning o taken front.0 (o.most / o.increment) within ∙ sym lines)

pub run_of : (meaning : UnitMeaning) (o : RunOptions) (input : List ℕ) (left held_before held_after : Option (List ℕ)) (exit : RunExit) → 1 ≤ o.increment → IsCalm (run_status exit)
    → Runs meaning o (Some input) left held_before held_after exit → IsRunOf meaning o input held_before held_after exit
run_of meaning o input left held_before held_after RunExit.Done one calm r =
    record { out = r.written; put = r.put; answer = run_over meaning o input r.taken r.written left 0 r.took r.at_exit.0 (ap stand_status r.at_exit.1) }
run_of meaning o input left held_before held_after RunExit.Failed one calm r =
    record { out = r.written; put = r.put; answer = run_over meaning o input r.taken r.written left 1 r.took r.at_exit.0 (ap stand_status r.at_exit.1.1) }
run_of meaning o input left held_before held_after RunExit.TooLong one calm r =
    record { out = r.written; put = r.put; answer = run_too_long meaning o input r.taken r.written left one r.took r.at_exit.0 r.at_exit.1 }
run_of meaning o input left held_before held_after RunExit.InputFault one calm r = absurd (calm.0 refl)
run_of meaning o input left held_before held_after RunExit.OutFault one calm r = absurd (calm.1 refl)
run_of meaning o input left held_before held_after RunExit.NoMemory one calm r = absurd (calm.2 refl)

-- the answer that an exit makes
record IsMade (words : List (List ℕ)) (files : List ℕ → Option (List ℕ)) (input : List ℕ) (held_before held_after : Option (List ℕ)) (exit : Exit) : Type 0 where
  pub answer : Answer
  pub is_answer : IsAnswer words files input answer
  pub status : status_of exit ≡ answer.status
  pub put : held_after ≡ appended held_before answer.out
  pub message : message_of exit ≡ answer.err

unready_calm : (unready : Unready) → IsCalm (unready_status unready) → unready_status unready ≡ 3
unready_calm Unready.NoParser calm = refl
unready_calm (Unready.Unbuilt r) calm = refl
unready_calm Unready.NoMemory calm = absurd (calm.2 refl)

made : (words : List (List ℕ)) (files : List ℕ → Option (List ℕ)) (input : List ℕ) (before after : Objects) (exit : Exit)
    → ((w : Words) → words_of words ≡ Some w → 1 ≤ w.increment) → IsCalm (status_of exit) → before.left ≡ Some input
    → Says words (Some files) before after exit → IsMade words files input before.held after.held exit
made words files input before after Exit.Usage one calm told says = record {
  answer = tells 2 (codes "spicy-driver: usage\n");
  is_answer = inl (says.0, refl);
  status = refl;
  put = says.1.1 ∙ sym (appended-nil before.held);
  message = refl;
}
made words files input before after (Exit.Unread (Unread.Refused refusal)) one calm told (w, found, refused, untouched) = record {
  answer = tells 3 (refusal_text refusal);
  is_answer = inr (w, found, inl (inl (refusal, refused, refl)));
  status = refl;
  put = untouched.1 ∙ sym (appended-nil before.held);
  message = refl;
}
made words files input before after (Exit.Unready unready) one calm told (w, fs, t, found, listed, is, untouched) = record {
  answer = tells 3 (unready_message unready);
  is_answer = inr (w, found, inl (inr (fs, t, unready, listed, is, unready_calm unready calm, refl)));
  status = unready_calm unready calm;
  put = untouched.1 ∙ sym (appended-nil before.held);
  message = refl;
}
made words files input before after (Exit.Ran exit) one calm told (w, fs, t, u, found, listed, chosen, ran) =
    let meaning = run_meaning w t u in
    let o = options_of w in
    let over_input = subst (λ left. Runs meaning o left after.left before.held after.held exit) told ran in
    let run = run_of meaning o input after.left before.held after.held exit (one w found) calm over_input in
    record {
      answer = record { status = run_status exit; out = run.out; err = run_message exit };
      is_answer = inr (w, found, inr (fs, t, u, listed, chosen, sym run.answer));
      status = refl;
      put = run.put;
      message = refl;
    }
made words files input before after (Exit.Unread Unread.ModulesFault) one calm told says = absurd (calm.0 refl)
made words files input before after (Exit.Unread Unread.NoMemory) one calm told says = absurd (calm.2 refl)

-- the program's answer, where the files and the input are told
pub answered : (words : List (List ℕ)) (told_files : Files) (before after : Objects) (told_before told_after : Messages) (exit : Exit) (status : ℕ)
    → ((w : Words) → words_of words ≡ Some w → 1 ≤ w.increment) → Says words told_files before after exit → Reported exit told_before told_after status
    → IsAnswered words told_files before.left before.held after.held told_before.held told_after.held status
answered words told_files before after told_before told_after exit status one says reported files input files_told input_told not4 not5 not7 =
    ⊎_elim
    (λ whole. let calm : IsCalm (status_of exit) = ((λ e. not4 (whole.0 ∙ e)), (λ e. not5 (whole.0 ∙ e)), (λ e. not7 (whole.0 ∙ e))) in
    let m = made words files input before after exit one calm input_told (subst (λ files. Says words files before after exit) files_told says) in
    (m.answer, m.is_answer, whole.0 ∙ m.status, m.put, whole.1 ∙ ap (λ message. appended told_before.held message) m.message))
    (λ part. ⊎_elim (λ failed. absurd (not5 failed.0)) (λ vain. absurd (not7 vain.0)) part)
    reported
