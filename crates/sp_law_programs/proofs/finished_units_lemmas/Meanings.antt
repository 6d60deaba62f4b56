-- The meaning of a unit that a program runs is finished, and so is all that a machine tells of it.
use Rattle.std.proofs.Common.{◌≡◌, ℕ, ◌+◌, ◌<◌, ◌≤◌, Bool, true, false, List, [], ◌++◌, None, refl, sym, arith}
use Rattle.std.specs.Prelude.{nat_lt}
use Rattle.std.proofs.lemmas.Bool.{ltb-true, ltb-false}
use Rattle.sp_base.specs.Input.{held_open, ended}
use Rattle.sp_value.specs.Val.{Val}
use Rattle.sp_typed_units.specs.declared.declarations.Typed.{Typed}
use Rattle.sp_meaning_states.specs.States.{Reading, End, Gives, Failed, Need, Unfinished, Result, Ends, first, end_of}
use Rattle.sp_meaning_states.specs.Reads.{Ask, Read, reads}
use Rattle.sp_code.specs.Machine.{Plain}
use Rattle.sp_code_programs.specs.units.Units.{starter_kinds}
use Rattle.sp_law_programs.specs.finished_bodies.Laws.{IsFinished}
use Rattle.sp_law_programs.specs.unit_told.Told.{meant, IsNeed}
use Rattle.sp_law_programs.proofs.unit_told_lemmas.Units as units
use Rattle.sp_law_programs.proofs.unit_told_lemmas.Fronts as fronts
use Rattle.sp_law_programs.proofs.unit_told_lemmas.Ended.{ended_decides}
use Rattle.sp_law_programs.specs.finished_units.Fuel.{IsUnitEnd}
use Rattle.sp_law_programs.specs.finished_units.Meaning.{meaning}
use Rattle.sp_law_programs.specs.finished_units.Laws.{FuelsAgree, MeaningsEnd, MeaningsAreReached, StopsTell, MeaningsStay, IsLast, EndedInputsDecide, FeedsTell}
use Rattle.sp_law_programs.proofs.finished_units_lemmas.SameUnits.{units_are_the_same_at_more, units_are_decided_by_turns}
use Rattle.sp_law_programs.proofs.finished_units_lemmas.RightUnits.{units_are_finished}

module _ (p : Plain) (hook_names : List (List ℕ)) (list : Typed) (reads : Reading → Ask → Read) (n u : ℕ) (ws : List Val) where
  abbrev IsMeaning : Type 0
  IsMeaning = meant p hook_names list reads n u ws ≡ meaning p hook_names list reads u ws

  where_above : p.limits.turns < n → IsMeaning
  where_above l = units_are_decided_by_turns p.names hook_names list p.limits reads u ws (p.limits.turns + 1) n first (omega arith) l

  where_finished : IsFinished (meant p hook_names list reads n u ws) → IsMeaning
  where_finished f = by_fuel (nat_lt p.limits.turns n) (ltb-true p.limits.turns n) (ltb-false p.limits.turns n)
    where
      by_fuel : (b : Bool) → (b ≡ true → p.limits.turns < n) → (b ≡ false → n ≤ p.limits.turns) → IsMeaning
      by_fuel true above below = where_above (above refl)
      by_fuel false above below =
          let l = below refl in
          sym (units_are_the_same_at_more p.names hook_names list p.limits reads u ws n (p.limits.turns + 1) first (omega (arith, l)) f)

pub fuels_agree : FuelsAgree
fuels_agree p hook_names list reads n u ws = (where_above p hook_names list reads n u ws, where_finished p hook_names list reads n u ws)

end_finished : (i : ℕ) (r : Result) → IsUnitEnd i (end_of r) → IsFinished r
end_finished i (Ends Unfinished es st) h = h
end_finished i (Ends _ es st) h = tt

pub meanings_end : MeaningsEnd
meanings_end p shapes hook_names list at u ws runs reads =
    let x = runs.starts.unit in
    let e = units_are_finished p shapes p.names hook_names list p.limits reads runs.functions runs.hooks u x runs.starts.listed runs.fits runs.built runs.kinds (starter_kinds list x) runs.listed runs.are
    (p.limits.turns + 1) [] None [] first ws (omega arith) (record { told = refl; instances = tt; self = tt; locals = tt }) runs.arguments in
    (end_finished 0 (meaning p hook_names list reads u ws) e, e)

pub meanings_are_reached : MeaningsAreReached
meanings_are_reached p shapes hook_names list at u ws runs reads =
    units.meanings_are_told p reads hook_names list at u ws runs.starts (p.limits.turns + 1) (meanings_end p shapes hook_names list at u ws runs reads).0

pub stops_tell : StopsTell
stops_tell p shapes hook_names list at u ws runs reads d es comes stop =
    units.stops_are_meant p reads hook_names list at u ws runs.starts d es comes stop (p.limits.turns + 1) (meanings_end p shapes hook_names list at u ws runs reads).0

pub meanings_stay : MeaningsStay
meanings_stay p shapes hook_names list at u ws runs verdict steady s t close =
    let n = p.limits.turns + 1 in
    fronts.told_stays p verdict steady hook_names list at u ws runs.starts s t close n n
    (meanings_end p shapes hook_names list at u ws runs (reads verdict s held_open)).0 (meanings_end p shapes hook_names list at u ws runs (reads verdict (s ++ t) close)).0

-- an end that isn't a wait is the last
no_need : (how : End) → IsUnitEnd 0 how → (IsNeed how → ⊥) → IsLast how
no_need (Gives v) e w = e
no_need (Failed x) e w = tt
no_need (Need m) e w = absurd (w tt)
no_need _ e w = absurd e

pub ended_inputs_decide : EndedInputsDecide
ended_inputs_decide p shapes hook_names list at u ws runs verdict s =
    let all = reads verdict s ended in
    no_need (end_of (meaning p hook_names list all u ws)) (meanings_end p shapes hook_names list at u ws runs all).1 (ended_decides p verdict hook_names list at u ws runs.starts s (p.limits.turns + 1))

pub feeds_tell : FeedsTell
feeds_tell p shapes hook_names list at u ws runs verdict steady s t close d e es fs front rest stop =
    fronts.feeds_are_meant p verdict steady hook_names list at u ws runs.starts s t close d e es fs front rest stop (p.limits.turns + 1) (meanings_end p shapes hook_names list at u ws runs (reads verdict (s ++ t) close)).0
