-- Texts that were put, or in part.
use Rattle.std.proofs.Common.{◌≡◌, ◌<◌, ◌↔◌, ℕ, List, [], take, drop, Option, Result, Ok, Err, MatchResult, sym, ◌∙◌, refl, subst}
use Rattle.std.proofs.lemmas.List.{append-nil, take-append-drop}
use Rattle.sp_io.specs.Causes.{OutCause}
use Rattle.sp_io.specs.Moved.{appended}
use Rattle.sp_io.specs.declared.traits.OutFault.{OutFault}
use Rattle.sp_io.specs.declared.traits.OutFault.TheVariants as fault
use Rattle.sp_io.proofs.Moves.{appended-nil}
use Rattle.sp_command.specs.Puts.{IsPartPut, PutCause}

-- the first n bytes of a message were put
pub part_of : (before after : Option (List ℕ)) (n : ℕ) (message text : List ℕ) → message ≡ text → after ≡ appended before (take n message) → IsPartPut before after text
part_of before after n message text is put =
    subst (λ bytes. IsPartPut before after bytes) is (take n message, (drop n message, sym (take-append-drop n message)), put)

-- nothing is a front
pub nothing_put : (before after : Option (List ℕ)) (text : List ℕ) → after ≡ before → IsPartPut before after text
nothing_put before after text same = ([], (text, refl), same ∙ sym (appended-nil before))

-- and so is all
pub all_put : (before after : Option (List ℕ)) (text : List ℕ) → after ≡ appended before text → IsPartPut before after text
all_put before after text put = (text, ([], sym (append-nil text)), put)

-- why a text was not put
pub put_cause : (r : Result (Unit {0}) OutFault) (before after : ℕ) → (r ≡ Err fault.Failed) ↔ (before < after) → MatchResult r (λ _. after ≡ before) (OutCause before after) → MatchResult r (λ _. after ≡ before) (PutCause before after)
put_cause (Ok u) before after failed cause = cause
put_cause (Err fault.Failed) before after failed cause = failed.0 refl
put_cause (Err fault.NoMemory) before after failed cause = cause
