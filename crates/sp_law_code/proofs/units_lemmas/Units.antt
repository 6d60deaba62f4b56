-- A unit is entered, its parts run, and then what is behind them or its failing; its end takes its frames off.
use Rattle.std.proofs.Common.{◌≡◌, ℕ, ◌+◌, Bool, true, false, List, [], ◌∷◌, ◌++◌, length, drop, Option, Some, None, refl, ap, ◌∙◌, subst, append-nil}
use Rattle.std.specs.Prelude.{nat_lt, slice_get, if◌then◌else◌}
use Rattle.sp_base.specs.declared.kinds.PKind.TheVariants.{Turns, Depth}
use Rattle.sp_words.specs.declared.words.HookName.{HookName}
use Rattle.sp_words.specs.declared.words.HookName.TheVariants.{Init, Done, Error, Finally}
use Rattle.sp_value.specs.Val.{Val}
use Rattle.sp_typed_units.specs.declared.declarations.Typed.{Typed}
use Rattle.sp_typed_units.specs.declared.declarations.Unit.{Unit as TypedUnit}
use Rattle.sp_typed_units.specs.Parts.{parts}
use Rattle.sp_meaning_states.specs.States as running
use Rattle.sp_meaning_states.specs.States.{Reading, State, End, Gives, Fine, Failed, Broke, Continued, Returned, Stopped, Backs, Rejected, Need, Unfinished, Result, Ends, ends, on_end, done, chosen, fails, one_more, turn, deeper}
use Rattle.sp_meaning_states.specs.Scopes.{InUnit, InFailing, ends_fiber, inside}
use Rattle.sp_meaning_states.specs.Reads.{Ask, Read}
use Rattle.sp_meaning.specs.Operations.{known}
use Rattle.sp_meaning.specs.Units.{is_plain}
use Rattle.sp_code_meaning.specs.Units.{variables_begin, variables_mean, parts_mean, unit_hook_means, unit_order, unit_parts_mean, failing_means, parts_left, unit_begun, entered_means}
use Rattle.sp_code.specs.declared.instr.Instr.TheVariants as does
use Rattle.sp_code.specs.Machine.{UnitCode, Frame, Plain, Config, At, Ending, Next, Goes, counted, nested, raise, landed, caught_unless, unless_caught, parts_frame, entered, unit_next, step}
use Rattle.sp_code.specs.Shapes.{OfUnit, OfEnding, OfFailing}
use Rattle.sp_code.specs.Runs.{Ways, Spot, Now, Waiting, leads, Comes, here, Runs}
use Rattle.sp_code_programs.specs.exprs.Marked.{mark}
use Rattle.sp_code_programs.specs.units.Bodies.{HasBodies}
use Rattle.sp_code_programs.specs.units.Units.{unit_shape, unit_parts_code, begin_code, variables_code, unit_hook_code, parts_code, unit_entry, HasUnit}
use Rattle.sp_law_code.proofs.exprs_lemmas.Steps.{then_comes, one, after_one, Follows, on_end_runs, act_at, has_front, has_back, has_instr}
use Rattle.sp_law_code.proofs.exprs_lemmas.Lists.{take_all, drop_all}
use Rattle.sp_law_code.specs.bodies.Parts.{BodiesAreCounted}
use Rattle.sp_law_code.proofs.bodies_lemmas.Runs.{ways_out, behind_nothing}
use Rattle.sp_law_code.specs.units.Parts.{UnitIsCounted}
use Rattle.sp_law_code.specs.units.Laws.{UnitsRun}
use Rattle.sp_law_code.proofs.units_lemmas.Walks.{walks, walks_done}
use Rattle.sp_law_code.proofs.units_lemmas.Fields.{begin_does, variables_does, unit_hook_walks, parts_walk}

-- where the code of a unit leads in its own frame: its good end takes that off
abbrev pub unit_spot : ℕ → Ways → End → State → Spot
unit_spot at x Fine st = Now (Ending Fine x.frames st)
unit_spot at x how st = leads at [] x how st

-- the parts of a unit wait as the unit does
abbrev pub parts_spot : ℕ → Ways → List Frame → End → State → Spot
parts_spot at x fs (Need m) st = Waiting fs m
parts_spot at x fs how st = leads at [] x how st

-- the frame of a unit, and that of its failing
abbrev pub frame_of_unit : (keeps : Bool) (instance start self : ℕ) (locals : List Val) (to : ℕ) (below : List Val) → Frame
frame_of_unit keeps instance start self locals to below = record { scope = InUnit keeps instance start self locals; to = to; below = below }

abbrev pub frame_of_failing : running.Error → ℕ → Frame
frame_of_failing e to = record { scope = InFailing e; to = to; below = [] }

-- ways that no part of a unit takes, in these frames
abbrev pub ways_in : List Frame → Ways
ways_in fs = ways_out 0 0 [] fs

module _ (p : Plain) (reads : Reading → Ask → Read) where
  -- code that is followed by the leaving of the unit
  leaves_runs : (c : Config) (at : ℕ) (x : Ways) (r : Result) → slice_get p.code at ≡ Some does.LeaveUnit → Runs p reads c (leads at [] x) r → Runs p reads c (unit_spot at x) r
  leaves_runs c at x (Ends Fine es st) i h = subst (λ l. Comes p reads c l (Ending Fine x.frames st)) (append-nil es) (then_comes p reads h (one p reads _ [] _ (act_at p reads at [] x.frames st does.LeaveUnit i)))
  leaves_runs c at x (Ends _ es st) i h = h

  -- what a unit does in its frame is what its entering does
  unit_runs : (c : Config) (keeps : Bool) (instance start self : ℕ) (locals : List Val) (to at : ℕ) (below : List Val) (x : Ways) (r : Result)
      → Runs p reads c (unit_spot at (ways_in (frame_of_unit keeps instance start self locals to below ∷ x.frames))) r → Runs p reads c (leads to below x) (inside (InUnit keeps instance start self locals) r)
  unit_runs c keeps instance start self locals to at below x (Ends Fine es st) h = then_comes p reads h (one p reads _ [] _ refl)
  unit_runs c keeps instance start self locals to at below x (Ends (Failed e) es st) h = then_comes p reads h (one p reads _ [] _ refl)
  unit_runs c keeps instance start self locals to at below x (Ends Backs es st) h = then_comes p reads h (one p reads _ [] _ refl)
  unit_runs c keeps instance start self locals to at below x (Ends Rejected es st) h = then_comes p reads h (one p reads _ [] _ refl)
  unit_runs c keeps instance start self locals to at below x (Ends (Need m) es st) h =
      record { pc = h.pc; operands = h.operands; frames = h.frames; state = h.state; mark = h.mark; comes = then_comes p reads h.comes here; waits = h.waits; low = h.low }
  unit_runs c keeps instance start self locals to at below x (Ends _ es st) h = tt

  -- what runs where a unit fails ends with its error, unless another one ends the fiber
  failing_runs : (c : Config) (e : running.Error) (to at end : ℕ) (fs : List Frame) (r : Result)
      → Runs p reads c (unit_spot at (ways_in (frame_of_failing e to ∷ fs))) r → Runs p reads c (unit_spot end (ways_in fs)) (inside (InFailing e) r)
  failing_runs c e to at end fs (Ends Fine es st) h = then_comes p reads h (one p reads _ [] _ refl)
  failing_runs c e to at end fs (Ends (Failed x) es st) h = then_comes p reads h (one p reads _ [] _ refl)
  failing_runs c e to at end fs (Ends Backs es st) h = then_comes p reads h (one p reads _ [] _ refl)
  failing_runs c e to at end fs (Ends Rejected es st) h = then_comes p reads h (one p reads _ [] _ refl)
  failing_runs c e to at end fs (Ends (Need m) es st) h =
      record { pc = h.pc; operands = h.operands; frames = h.frames; state = h.state; mark = h.mark; comes = then_comes p reads h.comes here; waits = h.waits; low = h.low }
  failing_runs c e to at end fs (Ends _ es st) h = tt

  -- the frame of the parts needs no place of its own
  parts_wait : (c : Config) (at : ℕ) (e : UnitCode) (fs : List Frame) (r : Result) → Runs p reads c (leads at [] (ways_in (parts_frame e ∷ fs))) r → Runs p reads c (parts_spot at (ways_in (parts_frame e ∷ fs)) fs) r
  parts_wait c at e fs (Ends (Need m) es st) h = record { pc = h.pc; operands = h.operands; frames = h.frames; state = h.state; mark = h.mark; comes = h.comes; waits = h.waits; low = h.low }
  parts_wait c at e fs (Ends _ es st) h = h

  module _ (hook_names : List (List ℕ)) (list : Typed) (has : HasBodies p hook_names list) (counts : BodiesAreCounted p list) (n u : ℕ) (x : TypedUnit) (code : HasUnit p list u x) (takes : UnitIsCounted p list u x) where
    abbrev entry : UnitCode
    entry = unit_entry code.start code.ending code.failing x

    abbrev hook_run : Bool → HookName → State → Result
    hook_run failing name st = unit_hook_means p.names hook_names list p.limits reads failing n u name st

    -- the frames of the unit are those of its parts, of what is behind them, or of its failing
    module _ (fs : List Frame) (keeps : Bool) (instance start self : ℕ) (locals : List Val) (to : ℕ) (below : List Val) where
      abbrev own : List Frame
      own = frame_of_unit keeps instance start self locals to below ∷ fs

      -- where the code behind the parts ends
      abbrev last : ℕ
      last = code.ending + length (unit_hook_code list u (unit_shape u OfEnding) Finally)

      -- the frames in which the parts run
      abbrev parts_frames : List Frame
      parts_frames = parts_frame entry ∷ own

      -- what is behind the parts
      ending_runs : (st : State) → Runs p reads (At code.ending [] own st) (unit_spot last (ways_in own)) (hook_run false Finally st)
      ending_runs st =
          let s = unit_shape u OfEnding in
          let hooks = unit_hook_code list u s Finally in
          let leave_it = mark s does.LeaveUnit ∷ [] in
          leaves_runs (At code.ending [] own st) last (ways_in own) (hook_run false Finally st) (has_instr p reads last s does.LeaveUnit [] (has_back p reads code.ending hooks leave_it code.ending_stands))
          (unit_hook_walks p reads hook_names list has counts n (ways_in own) u s Finally code.ending takes.finally [] st (has_front p reads code.ending hooks leave_it code.ending_stands))

      -- the failing
      failing_run : (e : running.Error) (st : State) → Runs p reads (At code.failing [] (frame_of_failing e code.ending ∷ own) st) (unit_spot last (ways_in own)) (failing_means p.names hook_names list p.limits reads n u e st)
      failing_run e st =
          let s = unit_shape u OfFailing in
          let a = unit_hook_code list u s Error in
          let b = unit_hook_code list u s Finally in
          let leave_it = mark s does.LeaveUnit ∷ [] in
          let fs = frame_of_failing e code.ending ∷ own in
          let w = ways_in fs in
          let at = code.failing + length (a ++ b) in
          let r = done (hook_run true Finally) (hook_run true Error st) in
          failing_runs (At code.failing [] fs st) e code.ending at last own r
          (leaves_runs (At code.failing [] fs st) at w r (has_instr p reads at s does.LeaveUnit [] (has_back p reads code.failing (a ++ b) leave_it code.failing_stands))
          (walks_done p reads w code.failing a b (hook_run true Error) (hook_run true Finally)
          (unit_hook_walks p reads hook_names list has counts n w u s Error code.failing takes.error)
          (unit_hook_walks p reads hook_names list has counts n w u s Finally (code.failing + length a) takes.finally)
          [] st (has_front p reads code.failing (a ++ b) leave_it code.failing_stands)))

      -- the parts
      parts_run : (st : State) → Runs p reads (At code.start [] parts_frames st) (leads (code.start + length (unit_parts_code list code.start u x)) [] (ways_in parts_frames)) (unit_parts_mean p.names hook_names list p.limits reads n u x st)
      parts_run st =
          let s = unit_shape u OfUnit in
          let w = ways_in parts_frames in
          let pc = code.start in
          let o = unit_order p.names hook_names list p.limits reads x in
          let a = begin_code list u s x.members x.variables in
          let b = variables_code list u s (pc + length a) x.variables in
          let c = unit_hook_code list u s Init in
          let d = parts_code list u s o (parts x.parts) in
          let e = unit_hook_code list u s Done in
          let ma : State → Result = variables_begin p.names hook_names list p.limits reads x.members x.variables in
          let mb : State → Result = variables_mean p.names hook_names list p.limits reads n x.variables in
          let mc : State → Result = hook_run false Init in
          let md : State → Result = parts_mean p.names hook_names list p.limits reads n o (parts x.parts) in
          walks_done p reads w pc (a ++ b ++ c ++ d) e (λ st. done md (done mc (done mb (ma st)))) (hook_run false Done)
          (walks_done p reads w pc (a ++ b ++ c) d (λ st. done mc (done mb (ma st))) md
          (walks_done p reads w pc (a ++ b) c (λ st. done mb (ma st)) mc
          (walks_done p reads w pc a b ma mb
          (walks p reads w pc a [] ma (begin_does p reads hook_names list has counts u s x.members x.variables pc))
          (walks p reads w (pc + length a) b [] mb (variables_does p reads hook_names list has counts n u s x.variables (pc + length a) takes.variables)))
          (unit_hook_walks p reads hook_names list has counts n w u s Init (pc + length (a ++ b)) takes.init))
          (parts_walk p reads hook_names list has counts n w refl u s o (parts x.parts) (pc + length (a ++ b ++ c)) takes.parts))
          (unit_hook_walks p reads hook_names list has counts n w u s Done (pc + length (a ++ b ++ c ++ d)) takes.done)
          [] st (has_front p reads pc (a ++ b ++ c ++ d ++ e) (mark s does.LeaveUnit ∷ []) code.parts_stand)

      -- an error that leaves the parts
      failed_runs : (b : Bool) (e : running.Error) (st : State) → ends_fiber e.kind ≡ b → Runs p reads (Ending (Failed e) parts_frames st) (unit_spot last (ways_in own)) (chosen b (ends (Failed e)) (failing_means p.names hook_names list p.limits reads n u e) st)
      failed_runs true e st k =
          one p reads _ [] _ (ap (λ b. unless_caught (caught_unless b code.failing e) (parts_frame entry) own st (landed code.ending [] own (ends (Failed e) st))) k)
      failed_runs false e st k =
          after_one p reads _ (At code.failing [] (frame_of_failing e code.ending ∷ own) st) (unit_spot last (ways_in own)) (failing_means p.names hook_names list p.limits reads n u e st)
          (ap (λ b. unless_caught (caught_unless b code.failing e) (parts_frame entry) own st (landed code.ending [] own (ends (Failed e) st))) k) (failing_run e st)

      -- what follows the parts
      left_runs : (how : End) (st : State) → Follows p reads (parts_spot (code.start + length (unit_parts_code list code.start u x)) (ways_in parts_frames) own how st) (unit_spot last (ways_in own)) (parts_left p.names hook_names list p.limits reads n u how st)
      left_runs Fine st =
          let s = unit_shape u OfUnit in
          let at = code.start + length (unit_parts_code list code.start u x) in
          let leave_it = mark s does.LeaveUnit ∷ [] in
          after_one p reads (At at [] parts_frames st) (Ending Fine parts_frames st) (unit_spot last (ways_in own)) (hook_run false Finally st)
          (act_at p reads at [] parts_frames st does.LeaveUnit (has_instr p reads at s does.LeaveUnit [] (has_back p reads code.start (unit_parts_code list code.start u x) leave_it code.parts_stand)))
          (after_one p reads (Ending Fine parts_frames st) (At code.ending [] own st) (unit_spot last (ways_in own)) (hook_run false Finally st) refl (ending_runs st))
      left_runs (Failed e) st = failed_runs (ends_fiber e.kind) e st refl
      left_runs Backs st = one p reads _ [] _ refl
      left_runs Rejected st = one p reads _ [] _ refl
      left_runs (Need m) st = (st, refl, refl)
      left_runs (Gives v) st = tt
      left_runs _ st = tt

      -- the whole unit in its frame
      pub whole_runs : (st : State) → Runs p reads (At code.start [] parts_frames st) (unit_spot last (ways_in own)) (on_end (parts_left p.names hook_names list p.limits reads n u) (unit_parts_mean p.names hook_names list p.limits reads n u x st))
      whole_runs st =
          let at = code.start + length (unit_parts_code list code.start u x) in
          on_end_runs p reads (At code.start [] parts_frames st) (parts_spot at (ways_in parts_frames) own) (unit_spot last (ways_in own)) (parts_left p.names hook_names list p.limits reads n u) (unit_parts_mean p.names hook_names list p.limits reads n u x st)
          (parts_wait (At code.start [] parts_frames st) at entry own (unit_parts_mean p.names hook_names list p.limits reads n u x st) (parts_run st)) left_runs

    -- a unit that is entered, once the turn and the depth are counted
    abbrev entered_at : ℕ → List Val → List Val → List Frame → State → Next
    entered_at pc ws vs fs st =
        nested p.limits.depth (λ s. Goes [] (At code.start [] (parts_frame entry ∷ frame_of_unit x.uses_input (length st.instances) st.now.place st.self st.locals pc vs ∷ fs) (entered entry u ws s))) fs st

    abbrev unit_body : List Val → State → Result
    unit_body ws st = entered_means p.names hook_names list p.limits reads n u x ws st

    entered_runs : (pc : ℕ) (ws vs : List Val) (w : Ways) (st : State) (c : Config) → step p reads c ≡ counted p.limits.turns (entered_at pc ws vs w.frames) w.frames st
        → Runs p reads c (leads pc vs w) (done (λ st. done (unit_body ws) (deeper p.limits.depth st)) (turn p.limits.turns st))
    entered_runs pc ws vs w st c e = turns (nat_lt st.now.count p.limits.turns) e
      where
        depths : (b : Bool) (st : State)
            → step p reads c ≡ (if b then Goes [] (At code.start [] (parts_frame entry ∷ frame_of_unit x.uses_input (length st.instances) st.now.place st.self st.locals pc vs ∷ w.frames) (entered entry u ws (record st { depth = st.depth + 1 }))) else raise Depth w.frames st)
            → Runs p reads c (leads pc vs w) (done (unit_body ws) (if b then ends Fine st else fails Depth st))
        depths true st e =
            let fs = parts_frame entry ∷ frame_of_unit x.uses_input (length st.instances) st.now.place st.self st.locals pc vs ∷ w.frames in
            let s = unit_begun p.names hook_names list p.limits reads u x ws st in
            let r = on_end (parts_left p.names hook_names list p.limits reads n u) (unit_parts_mean p.names hook_names list p.limits reads n u x s) in
            behind_nothing p reads c (leads pc vs w) (unit_body ws st)
            (after_one p reads c (At code.start [] fs s) (leads pc vs w) (unit_body ws st) e
            (unit_runs (At code.start [] fs s) x.uses_input (length st.instances) st.now.place st.self st.locals pc (last w.frames x.uses_input (length st.instances) st.now.place st.self st.locals pc vs) vs w r
            (whole_runs w.frames x.uses_input (length st.instances) st.now.place st.self st.locals pc vs s)))
        depths false st e = one p reads c [] _ e

        turns : (b : Bool) → step p reads c ≡ (if b then entered_at pc ws vs w.frames (one_more st) else raise Turns w.frames st)
            → Runs p reads c (leads pc vs w) (done (λ st. done (unit_body ws) (deeper p.limits.depth st)) (if b then ends Fine (one_more st) else fails Turns st))
        turns true e = behind_nothing p reads c (leads pc vs w) (done (unit_body ws) (deeper p.limits.depth (one_more st))) (depths (nat_lt (one_more st).depth p.limits.depth) (one_more st) e)
        turns false e = one p reads c [] _ e

    plain_runs : (b : Bool) (pc : ℕ) (ws vs : List Val) (w : Ways) (st : State) (c : Config) → step p reads c ≡ counted p.limits.turns (entered_at pc ws vs w.frames) w.frames st
        → Runs p reads c (leads pc vs w) (chosen b (λ st. done (λ st. done (unit_body ws) (deeper p.limits.depth st)) (turn p.limits.turns st)) (ends Unfinished) st)
    plain_runs true pc ws vs w st c e = entered_runs pc ws vs w st c e
    plain_runs false pc ws vs w st c e = tt

    -- a unit is entered with these values
    pub enters_runs : (pc : ℕ) (ws vs : List Val) (w : Ways) (st : State) → slice_get p.code pc ≡ Some (does.EnterUnit u) → length ws ≡ length x.parameters
        → Runs p reads (At pc (ws ++ vs) w.frames st) (leads (pc + 1) vs w) (chosen (is_plain x.filter x.sinks) (λ st. done (λ st. done (unit_body ws) (deeper p.limits.depth st)) (turn p.limits.turns st)) (ends Unfinished) st)
    enters_runs pc ws vs w st i taken =
        let enter : List Val → List Val → Next = λ us rest. counted p.limits.turns (entered_at (pc + 1) us rest w.frames) w.frames st in
        plain_runs (is_plain x.filter x.sinks) (pc + 1) ws vs w st (At pc (ws ++ vs) w.frames st)
        (act_at p reads pc (ws ++ vs) w.frames st (does.EnterUnit u) i
        ∙ ap (λ o. unit_next p.limits o u (pc + 1) (ws ++ vs) w.frames st) code.listed
        ∙ ap (λ us. enter us (drop (length x.parameters) (ws ++ vs))) (take_all ws vs (length x.parameters) taken)
        ∙ ap (λ rest. enter ws rest) (drop_all ws vs (length x.parameters) taken))

pub units_run : UnitsRun
units_run p reads hook_names list has counts units all n u pc ws vs w st i takes = cases (slice_get list.units u) refl
  where
    cases : (o : Option TypedUnit) → slice_get list.units u ≡ o
        → Runs p reads (At pc (ws ++ vs) w.frames st) (leads (pc + 1) vs w) (known o (λ x st. chosen (is_plain x.filter x.sinks) (λ st. done (λ st. done (entered_means p.names hook_names list p.limits reads n u x ws) (deeper p.limits.depth st)) (turn p.limits.turns st)) (ends Unfinished) st) st)
    cases None m = tt
    cases (Some x) m = enters_runs p reads hook_names list has counts n u x (units u x m) (all u x m) pc ws vs w st i (takes x m)
