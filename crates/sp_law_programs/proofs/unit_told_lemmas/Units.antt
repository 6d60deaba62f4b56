-- How a unit ends, and that a machine which is started on it stops where it has told what the unit means.
use Rattle.std.proofs.Common.{◌≡◌, ℕ, ◌+◌, Bool, true, false, List, [], ◌∷◌, length, Option, Some, None, refl, sym, ap, ◌∙◌, subst, append-nil}
use Rattle.std.specs.Prelude.{nat_lt, slice_get, unwrap_or, if◌then◌else◌}
use Rattle.sp_base.specs.declared.kinds.PKind.TheVariants.{Turns, Depth}
use Rattle.sp_events.specs.declared.event.What.{What}
use Rattle.sp_value.specs.Val.{Val}
use Rattle.sp_typed_units.specs.declared.declarations.Typed.{Typed}
use Rattle.sp_typed_units.specs.declared.declarations.Unit.{Unit as TypedUnit}
use Rattle.sp_meaning_states.specs.States.{Reading, State, End, Gives, Fine, Failed, Returned, Backs, Rejected, Need, Unfinished, Result, Ends, ends, behind, on_end, done, chosen, fails, one_more, turn, deeper, first, end_of, events_of}
use Rattle.sp_meaning_states.specs.Scopes.{InUnit, left}
use Rattle.sp_meaning_states.specs.Reads.{Ask, Read}
use Rattle.sp_meaning.specs.Units.{is_plain}
use Rattle.sp_code_meaning.specs.Units.{entered_means}
use Rattle.sp_meaning.specs.Operations.{known}
use Rattle.sp_code.specs.declared.instr.Instr.TheVariants as does
use Rattle.sp_code.specs.Machine.{Plain, Config, At, Ending, step}
use Rattle.sp_code.specs.Runs.{Ways, leads, Comes, Runs}
use Rattle.sp_law_code.proofs.exprs_lemmas.Steps.{then_comes, one, act_at}
use Rattle.sp_law_code.proofs.units_lemmas.Units.{units_run}
use Rattle.sp_law_machine.specs.ends.Ending.{IsStop}
use Rattle.sp_law_programs.specs.finished_bodies.Laws.{IsFinished}
use Rattle.sp_law_programs.specs.unit_told.Told.{started, meant, MayEndUnit, told_end, IsOverIn, Tells}
use Rattle.sp_law_programs.specs.unit_told.Laws.{UnitsEnd, MeaningsAreTold, StopsAreMeant}
use Rattle.sp_law_programs.proofs.unit_told_lemmas.Stops.{stops_are_one}

-- the ends of what is put together of parts
behind_ends : (es : List What) (r : Result) → MayEndUnit 0 (end_of r) → MayEndUnit 0 (end_of (behind es r))
behind_ends es (Ends how fs st) h = h

on_end_ends : (k : End → State → Result) (r : Result) → ((how : End) (st : State) → MayEndUnit 0 (end_of (k how st))) → MayEndUnit 0 (end_of (on_end k r))
on_end_ends k (Ends Unfinished es st) h = tt
on_end_ends k (Ends how es st) h = behind_ends es (k how st) (h how st)

left_ends : (keeps : Bool) (start self : ℕ) (locals : List Val) (how : End) (st : State) → MayEndUnit 0 (end_of (left (InUnit keeps 0 start self locals) how st))
left_ends keeps start self locals Fine st = refl
left_ends keeps start self locals _ st = tt

module _ (p : Plain) (hook_names : List (List ℕ)) (list : Typed) (reads : Reading → Ask → Read) (n u : ℕ) (ws : List Val) where
  -- the unit once its turn and its depth are counted
  abbrev body : TypedUnit → State → Result
  body x st = entered_means p.names hook_names list p.limits reads n u x ws st

  body_ends : (x : TypedUnit) → MayEndUnit 0 (end_of (body x (one_more first)))
  body_ends x = on_end_ends (left (InUnit x.uses_input 0 0 0 [])) _ (left_ends x.uses_input 0 0 [])

  depth_ends : (b : Bool) (x : TypedUnit) → MayEndUnit 0 (end_of (done (body x) (if b then ends Fine (one_more first) else fails Depth (one_more first))))
  depth_ends true x = behind_ends [] (body x (one_more first)) (body_ends x)
  depth_ends false x = tt

  turn_ends : (b : Bool) (x : TypedUnit) → MayEndUnit 0 (end_of (done (λ st. done (body x) (deeper p.limits.depth st)) (if b then ends Fine (one_more first) else fails Turns first)))
  turn_ends true x = behind_ends [] (done (body x) (deeper p.limits.depth (one_more first))) (depth_ends (nat_lt (one_more first).depth p.limits.depth) x)
  turn_ends false x = tt

  plain_ends : (b : Bool) (x : TypedUnit) → MayEndUnit 0 (end_of (chosen b (λ st. done (λ st. done (body x) (deeper p.limits.depth st)) (turn p.limits.turns st)) (ends Unfinished) first))
  plain_ends true x = turn_ends (nat_lt first.now.count p.limits.turns) x
  plain_ends false x = tt

  known_ends : (o : Option TypedUnit) → MayEndUnit 0 (end_of (known o (λ x st. chosen (is_plain x.filter x.sinks) (λ st. done (λ st. done (body x) (deeper p.limits.depth st)) (turn p.limits.turns st)) (ends Unfinished) st) first))
  known_ends None = tt
  known_ends (Some x) = plain_ends (is_plain x.filter x.sinks) x

pub units_end : UnitsEnd
units_end p hook_names list reads n u ws = known_ends p hook_names list reads n u ws (slice_get list.units u)

-- a starter has nothing round it and nothing below its arguments
abbrev alone : Ways
alone = record { out = 0; again = 0; operands = []; frames = [] }

-- a stop at which the machine has told a result
abbrev Told : Plain → (Reading → Ask → Read) → Config → Result → Type 0
Told p reads c r = (d : Config) × Comes p reads c (events_of r) d × IsStop (step p reads d) × Tells p reads d (events_of r) r

-- behind its unit a starter returns
ends_told : (p : Plain) (reads : Reading → Ask → Read) (c : Config) (at : ℕ) (r : Result) → slice_get p.code at ≡ Some does.Return → IsFinished r → MayEndUnit 0 (end_of r) → Runs p reads c (leads at [] alone) r → Told p reads c r
ends_told p reads c at (Ends (Gives v) es st) i f m h =
    let back = one p reads (At at (v ∷ []) [] st) [] (Ending (Returned v) [] st) (act_at p reads at (v ∷ []) [] st does.Return i) in
    (Ending (Returned v) [] st, subst (λ l. Comes p reads c l (Ending (Returned v) [] st)) (append-nil es) (then_comes p reads h back), tt, record { events = refl; ends = refl; state = refl })
ends_told p reads c at (Ends (Need m) es st) i f k h =
    (At h.pc h.operands h.frames h.state, h.comes, subst IsStop (sym h.waits) tt, record { events = refl; ends = ap (told_end h.frames) h.waits ∙ ap Need h.low; state = subst (IsOverIn st) (sym h.waits) tt })
ends_told p reads c at (Ends (Failed e) es st) i f m h = (Ending (Failed e) [] st, h, tt, record { events = refl; ends = refl; state = refl })
ends_told p reads c at (Ends Backs es st) i f m h = (Ending Backs [] st, h, tt, record { events = refl; ends = refl; state = refl })
ends_told p reads c at (Ends Rejected es st) i f m h = (Ending Rejected [] st, h, tt, record { events = refl; ends = refl; state = refl })
ends_told p reads c at (Ends Unfinished es st) i f m h = absurd f
ends_told p reads c at (Ends _ es st) i f m h = absurd m

pub meanings_are_told : MeaningsAreTold
meanings_are_told p reads hook_names list at u ws starts n f =
    let r = meant p hook_names list reads n u ws in
    let enters : slice_get p.code at ≡ Some (does.EnterUnit u) = starts.starter.1 ∙ ap Some starts.starter.2 in
    let returns : slice_get p.code (at + 1) ≡ Some does.Return = starts.starter.3.1 ∙ ap Some starts.starter.3.2 in
    let takes : (y : TypedUnit) → slice_get list.units u ≡ Some y → length ws ≡ length y.parameters = λ y same. starts.taken ∙ ap (λ o. length (unwrap_or o starts.unit).parameters) (sym starts.listed ∙ same) in
    let run = units_run p reads hook_names list starts.bodies starts.bodies_are_counted starts.units starts.units_are_counted n u at ws [] alone first enters takes in
    ends_told p reads (started at ws) (at + 1) r returns f (units_end p hook_names list reads n u ws) (subst (λ l. Runs p reads (At at l [] first) (leads (at + 1) [] alone) r) (append-nil ws) run)

pub stops_are_meant : StopsAreMeant
stops_are_meant p reads hook_names list at u ws starts d es comes stop n f =
    let r = meant p hook_names list reads n u ws in
    let t = meanings_are_told p reads hook_names list at u ws starts n f in
    let one = stops_are_one p reads (started at ws) t.0 d (events_of r) es t.1 t.2 comes stop in
    subst (λ l. Tells p reads d l r) one.0 (subst (λ x. Tells p reads x (events_of r) r) one.1 t.3)
