-- The meaning of a unit by what its code's text means, where the list names only what there is.
use Rattle.std.proofs.Common.{◌≡◌, ℕ, ◌+◌, List, [], refl, ap, subst}
use Rattle.sp_base.specs.Input.{Close}
use Rattle.sp_base.specs.declared.places.Limits.{Limits}
use Rattle.sp_events.specs.declared.event.What.{What}
use Rattle.sp_typed_units.specs.declared.declarations.Typed.{Typed}
use Rattle.sp_meaning_states.specs.States.{State, End, Gives, Result, Ends, first}
use Rattle.sp_meaning_states.specs.Telling.{Names}
use Rattle.sp_meaning.specs.Names.{hook_names_of, value_names_of}
use Rattle.sp_law_meaning.specs.Laws.{Behind, Agree}
use Rattle.sp_law_meaning.specs.Standing.{ListStands}
use Rattle.sp_law_meaning.proofs.Units.{meanings_are_one}
use Rattle.sp_law_programs.specs.whole_program.Meant.{list_means}
use Rattle.sp_fiber.specs.Moves.{whole_reads}
use Rattle.sp_session.specs.Units.{meaning_of, unit_result, unit_meaning}

-- what the text of code means
abbrev pub laid_result : Typed → Limits → ℕ → List ℕ → Close → Result
laid_result list limits u s close = list_means list limits (whole_reads s close) (limits.turns + 1) u []

same_at : (names : Names) (how : End) (es : List What) (st ts : State) → Behind (λ st ts. st ≡ ts) how st ts → meaning_of names (Ends how es st) ≡ meaning_of names (Ends how es ts)
same_at names (Gives v) es st ts b = ap (λ st. meaning_of names (Ends (Gives v) es st)) b
same_at names _ es st ts b = refl

-- results that agree are one meaning
same_meaning : (names : Names) (r s : Result) → Agree (λ st ts. st ≡ ts) r s → meaning_of names r ≡ meaning_of names s
same_meaning names (Ends how es st) (Ends also fs ts) a =
    subst (λ (e : End). meaning_of names (Ends how es st) ≡ meaning_of names (Ends e fs ts)) a.how
    (subst (λ (gs : List What). meaning_of names (Ends how es st) ≡ meaning_of names (Ends how gs ts)) a.told (same_at names how es st ts a.behind))

pub meaning_is : (list : Typed) (limits : Limits) (u : ℕ) → ListStands list → (s : List ℕ) (close : Close) → unit_meaning list limits u s close ≡ meaning_of (value_names_of list) (laid_result list limits u s close)
unfolding unit_meaning
meaning_is list limits u stands s close =
    same_meaning (value_names_of list) (unit_result list limits u s close) (laid_result list limits u s close)
    (meanings_are_one (value_names_of list) (hook_names_of list) list limits (whole_reads s close) stands (limits.turns + 1) u [] first)
