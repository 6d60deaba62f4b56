-- A safe machine finds what it wants, and is safe behind each step.
use Rattle.std.proofs.Common.{◌≡◌, ℕ, ◌<◌, ◌≤◌, List, [], ◌∷◌, length, Option, Some, None, sym, ap, ◌∙◌, subst}
use Rattle.std.specs.Prelude.{slice_get, get_or}
use Rattle.std.proofs.lemmas.Option.{slice_get-get_or, slice_get_past}
use Rattle.sp_value.specs.Val.{Val}
use Rattle.sp_methods.specs.Kinds.{Kind}
use Rattle.sp_window.specs.Windows.{Held}
use Rattle.sp_meaning_states.specs.States.{Main, State, Fine, Returned}
use Rattle.sp_meaning_states.specs.Scopes.{Scope, InUnit, InParts, InFailing, InCall, InSize, InMax, InFrom, InAt, InTry}
use Rattle.sp_code.specs.declared.instr.Instr.{Instr}
use Rattle.sp_code.specs.Can.{Can}
use Rattle.sp_code.specs.Machine.{Frame, Plain, At, Ending}
use Rattle.sp_code.specs.Shapes.{Shape, Shapes, Opens, AView, ATry, Round, OfUnit, OfEnding, OfFailing, OfFunction, OfHook, IsOfUnit, IsRound, MayEnd, Framed, IsTry}
use Rattle.sp_law_machine.specs.continues.Windows.{PlaceFrom}
use Rattle.sp_law_machine.proofs.keeps_lemmas.Kept.{instructions_can}
use Rattle.sp_machine.specs.Bodies.{IsNoCall, IsNoUnit, InnermostIsNoCall, InnermostIsNoUnit}
use Rattle.sp_machine.specs.Safe.{IsSafe}

-- an instruction that was looked up can act
pub safe_can : (p : Plain) (w : Held) (pc : ℕ) (vs : List Val) (fs : List Frame) (st : State) (i : Instr) → IsSafe p w (At pc vs fs st) → slice_get p.code pc ≡ Some i → Can p (Some i) vs st
safe_can p w pc vs fs st i h e = subst (λ o. Can p o vs st) e (instructions_can p h.shapes h.sound pc vs fs st h.shaped)

-- no safe machine is past the code
pub never_past : (p : Plain) (w : Held) (pc : ℕ) (vs : List Val) (fs : List Frame) (st : State) → IsSafe p w (At pc vs fs st) → slice_get p.code pc ≡ None → ⊥
never_past p w pc vs fs st h e = subst (λ o. Can p o vs st) e (instructions_can p h.shapes h.sound pc vs fs st h.shaped)

no_call : (x : Scope) → IsTry x → IsNoCall x
no_call (InTry tries place unset) h = tt
no_call (InUnit keeps instance start own locals) h = tt
no_call (InCall called own locals) h = absurd h
no_call (InParts failing) h = tt
no_call (InFailing e) h = tt
no_call (InSize views limit) h = tt
no_call (InMax views number start n) h = tt
no_call (InFrom level at) h = tt
no_call (InAt level at) h = tt

module _ (p : Plain) (shapes : Shapes) where
  unit_round : (units : List ℕ) (u : Option ℕ) (r : Round) (ls : List Kind) (outer : Shape) (x : Scope) → MayEnd units Fine r [] → IsRound p shapes units u r ls outer x → IsNoCall x
  unit_round units u r ls outer (InUnit keeps instance start own locals) m h = tt
  unit_round units u OfUnit ls outer (InCall called own locals) m h = absurd h.0
  unit_round units u OfEnding ls outer (InCall called own locals) m h = absurd h.0
  unit_round units u OfFailing ls outer (InCall called own locals) m h = absurd h.0
  unit_round units u (OfFunction k) ls outer (InCall called own locals) m h = absurd m
  unit_round units u (OfHook each) ls outer (InCall called own locals) m h = absurd m
  unit_round units u r ls outer (InParts failing) m h = tt
  unit_round units u r ls outer (InFailing e) m h = tt
  unit_round units u r ls outer (InSize views limit) m h = tt
  unit_round units u r ls outer (InMax views number start n) m h = tt
  unit_round units u r ls outer (InFrom level at) m h = tt
  unit_round units u r ls outer (InAt level at) m h = tt
  unit_round units u r ls outer (InTry tries place unset) m h = tt

  no_view : (units : List ℕ) (r : Round) (os : List Opens) → MayEnd units Fine r (AView ∷ os) → ⊥
  no_view units OfUnit os m = m
  no_view units OfEnding os m = m
  no_view units OfFailing os m = m
  no_view units (OfFunction k) os m = m
  no_view units (OfHook each) os m = m

  fine_leaves : (units : List ℕ) (u : Option ℕ) (r : Round) (ls : List Kind) (os : List Opens) (fs : List Frame) → MayEnd units Fine r os → Framed p shapes units u r ls os fs → InnermostIsNoCall fs
  fine_leaves units u r ls os [] m h = tt
  fine_leaves units u r ls [] (f ∷ fs) m (outer, ks, n, e, g, x, k) = unit_round units u r ls outer f.scope m x
  fine_leaves units u r ls (ATry to ks ∷ os) (f ∷ fs) m h = no_call f.scope h.0
  fine_leaves units u r ls (AView ∷ os) (f ∷ fs) m h = absurd (no_view units r os m)

  not_of_unit : (units : List ℕ) (r : Round) (v : Val) → MayEnd units (Returned v) r [] → IsOfUnit r → ⊥
  not_of_unit units OfUnit v m h = m
  not_of_unit units OfEnding v m h = m
  not_of_unit units OfFailing v m h = m
  not_of_unit units (OfFunction k) v m h = h
  not_of_unit units (OfHook each) v m h = h

  call_round : (units : List ℕ) (u : Option ℕ) (r : Round) (ls : List Kind) (outer : Shape) (x : Scope) (v : Val) → MayEnd units (Returned v) r [] → IsRound p shapes units u r ls outer x → IsNoUnit x
  call_round units u r ls outer (InUnit keeps instance start own locals) v m h = absurd (not_of_unit units r v m (subst IsOfUnit (sym h.0) tt))
  call_round units u r ls outer (InParts failing) v m h = absurd (not_of_unit units r v m (subst IsOfUnit (sym h.0) tt))
  call_round units u r ls outer (InFailing e) v m h = absurd (not_of_unit units r v m (subst IsOfUnit (sym h.0) tt))
  call_round units u r ls outer (InCall called own locals) v m h = tt
  call_round units u r ls outer (InSize views limit) v m h = tt
  call_round units u r ls outer (InMax views number start n) v m h = tt
  call_round units u r ls outer (InFrom level at) v m h = tt
  call_round units u r ls outer (InAt level at) v m h = tt
  call_round units u r ls outer (InTry tries place unset) v m h = tt

  none_open : (units : List ℕ) (r : Round) (v : Val) (o : Opens) (os : List Opens) → MayEnd units (Returned v) r (o ∷ os) → ⊥
  none_open units OfUnit v AView os m = m
  none_open units OfUnit v (ATry to ks) os m = m
  none_open units OfEnding v AView os m = m
  none_open units OfEnding v (ATry to ks) os m = m
  none_open units OfFailing v AView os m = m
  none_open units OfFailing v (ATry to ks) os m = m
  none_open units (OfFunction k) v AView os m = m
  none_open units (OfFunction k) v (ATry to ks) os m = m
  none_open units (OfHook each) v AView os m = m
  none_open units (OfHook each) v (ATry to ks) os m = m

  returns_leave : (units : List ℕ) (u : Option ℕ) (r : Round) (ls : List Kind) (os : List Opens) (v : Val) (fs : List Frame) → MayEnd units (Returned v) r os → Framed p shapes units u r ls os fs → InnermostIsNoUnit fs
  returns_leave units u r ls os v [] m h = tt
  returns_leave units u r ls [] v (f ∷ fs) m (outer, ks, n, e, g, x, k) = call_round units u r ls outer f.scope v m x
  returns_leave units u r ls (o ∷ os) v (f ∷ fs) m h = absurd (none_open units r v o os m)

-- what a good end and a return take off
pub safe_leaving : (p : Plain) (w : Held) (fs : List Frame) (st : State) → IsSafe p w (Ending Fine fs st) → InnermostIsNoCall fs
safe_leaving p w fs st h = fine_leaves p h.shapes h.shaped.units h.shaped.shape.unit h.shaped.shape.round h.shaped.shape.locals h.shaped.opens fs h.shaped.may h.shaped.framed

pub safe_returning : (p : Plain) (w : Held) (v : Val) (fs : List Frame) (st : State) → IsSafe p w (Ending (Returned v) fs st) → InnermostIsNoUnit fs
safe_returning p w v fs st h = returns_leave p h.shapes h.shaped.units h.shaped.shape.unit h.shaped.shape.round h.shaped.shape.locals h.shaped.opens v fs h.shaped.may h.shaped.framed

-- an instruction that was looked up, and one past the code
pub looked_up : (code : List Instr) (pc : ℕ) (i : Instr) → pc < length code → i ≡ get_or code pc i → slice_get code pc ≡ Some i
looked_up code pc i h e = slice_get-get_or code pc i h ∙ ap Some (sym e)

-- what is read isn't before the window
pub safe_base : (p : Plain) (w : Held) (pc : ℕ) (vs : List Val) (fs : List Frame) (st : State) → IsSafe p w (At pc vs fs st) → st.now.source ≡ Main → w.base ≤ st.now.place
safe_base p w pc vs fs st h e = subst (λ x. PlaceFrom w.base x st.now.place) e (h.from.1)

pub past_all : (code : List Instr) (pc : ℕ) → length code ≤ pc → slice_get code pc ≡ None
past_all code pc h = slice_get_past code pc h
