-- Where an end takes off a frame, what it leads to keeps to the shapes.
use Rattle.std.proofs.Common.{◌≡◌, ℕ, zero, suc, List, [], ◌∷◌, Option, Some, None, refl, sym, ap, ◌∙◌, subst}
use Rattle.std.specs.Prelude.{slice_get, slice_set, unwrap_or, Bool, true, false, if◌then◌else◌}
use Rattle.sp_value.specs.Val.{Val, bool, unit}
use Rattle.sp_methods.specs.Kinds.{Kind, Bools, UnitOf, somewhere, Has, Have}
use Rattle.sp_meaning_states.specs.States.{Reading, Instance, State, End, Fine, Failed, Returned, Stopped, Backs, Rejected, Error, ends, no_instance, instance_of, with_member, set_member}
use Rattle.sp_meaning_states.specs.Scopes.{Called, Function, Hook, FailingHook, Scope, InUnit, InParts, InFailing, InCall, ends_fiber, dropped_unless, InSize, InMax, InFrom, InAt, InTry, popped, leave_from, without_member, unset_member, leave}
use Rattle.sp_code.specs.Machine.{Plain, Frame, Config, Next, Goes, landed, caught_unless, caught, failing_frame, unless_caught, take_off}
use Rattle.sp_code.specs.Shapes.{UnitKinds, Shape, Shapes, Opens, AView, ATry, Round, OfUnit, OfEnding, OfFailing, OfFunction, OfHook, body_shape, given_by, IsView, IsTry, IsSelf, IsKnownAs, IsCalled, IsRound, known_unit, MayEnd, Shown, Framed, HasKinds, AllHaveKinds, Holds, ShapedAt, ShapedEnd, Shaped, units_of}
use Rattle.sp_law_machine.specs.keeps.Laws.{ShapedOver, IsKept}
use Rattle.sp_law_machine.proofs.keeps_lemmas.Lists.{member_set, member_unset, Known, known_there, set_all, set_units}

module _ (p : Plain) (shapes : Shapes) where
  pub kept_if : (b : Bool) (x y : Next) → IsKept p shapes x → IsKept p shapes y → IsKept p shapes (if b then x else y)
  kept_if true x y h g = h
  kept_if false x y h g = g

  pub goes_if : (b : Bool) (c d : Config) → Shaped p shapes c → Shaped p shapes d → IsKept p shapes (Goes [] (if b then c else d))
  goes_if true c d h g = h
  goes_if false c d h g = g

  -- an instance without one of its members
  unset_kinds : (units : List ℕ) (xs : List Instance) (n m : ℕ) → AllHaveKinds p shapes units xs
      → AllHaveKinds p shapes units (slice_set xs n (without_member m (unwrap_or (slice_get xs n) no_instance)))
  unset_kinds units [] n m h = tt
  unset_kinds units (x ∷ xs) zero m (a, h) =
      (record { kinds = a.kinds; listed = a.listed; parameters = a.parameters; members = member_unset units a.kinds.members x.members m a.members }, h)
  unset_kinds units (x ∷ xs) (suc n) m (a, h) = (a, unset_kinds units xs n m h)

  unset_units : (xs : List Instance) (n m : ℕ) → units_of (slice_set xs n (without_member m (unwrap_or (slice_get xs n) no_instance))) ≡ units_of xs
  unset_units [] n m = refl
  unset_units (x ∷ xs) zero m = refl
  unset_units (x ∷ xs) (suc n) m = ap (λ us. x.unit ∷ us) (unset_units xs n m)

  module _ (units : List ℕ) (u : Option ℕ) (ls : List Kind) where
    -- another state with the same instances, unit and locals
    pub still : (st now : State) → now.instances ≡ st.instances → now.self ≡ st.self → now.locals ≡ st.locals → Holds p shapes units u ls st → Holds p shapes units u ls now
    still st now i e l h =
        record { told = ap units_of i ∙ h.told; instances = subst (AllHaveKinds p shapes units) (sym i) h.instances; self = subst (IsSelf units u) (sym e) h.self; locals = subst (Have units ls) (sym l) h.locals }

    pub instance_known : (st : State) (n v : ℕ) → Holds p shapes units u ls st → slice_get units n ≡ Some v → Known p shapes units st.instances n v
    instance_known st n v h e = known_there p shapes units st.instances n v (subst (λ us. slice_get us n ≡ Some v) (sym h.told) e) h.instances

    pub same_instance : (st : State) (n v : ℕ) (k : Known p shapes units st.instances n v) → instance_of st n ≡ k.instance
    same_instance st n v k = ap (λ o. unwrap_or o no_instance) k.there

    pub same_kinds : (st : State) (n v : ℕ) (t : UnitKinds) (k : Known p shapes units st.instances n v) → slice_get shapes.units v ≡ Some t → k.has.kinds ≡ t
    same_kinds st n v t k e =
        let f : slice_get shapes.units v ≡ Some k.has.kinds = ap (λ n. slice_get shapes.units n) (sym k.of) ∙ k.has.listed in
        cc

    pub member_changed : (st : State) (n v m : ℕ) (t : UnitKinds) (j : Kind) (x : Val) → Holds p shapes units u ls st → slice_get units n ≡ Some v → slice_get shapes.units v ≡ Some t
        → slice_get t.members m ≡ Some j → Has units j x → Holds p shapes units u ls (set_member n m x st)
    member_changed st n v m t j x h e f g has =
        let k = instance_known st n v h e in
        let same = same_instance st n v k in
        let kinds = same_kinds st n v t k f in
        let y : Instance = with_member m x (instance_of st n) in
        record {
          told = set_units p shapes units st.instances n k.instance y k.there (ap (λ i. i.unit) same) ∙ h.told;
          instances = set_all p shapes units st.instances n y
              (subst (λ i. HasKinds p shapes units (with_member m x i)) (sym same)
              (record { kinds = k.has.kinds; listed = k.has.listed; parameters = k.has.parameters; members = member_set units k.has.kinds.members k.instance.members m j x (ap (λ t. slice_get t.members m) kinds ∙ g) k.has.members has }))
              h.instances;
          self = h.self;
          locals = h.locals;
        }

    member_left : (o : Option ℕ) (st : State) → Holds p shapes units u ls st → Holds p shapes units u ls (unset_member o st)
    member_left None st h = h
    member_left (Some m) st h =
        record { told = unset_units st.instances st.self m ∙ h.told; instances = unset_kinds units st.instances st.self m h.instances; self = h.self; locals = h.locals }

    popped_holds : (rs : List Reading) (level : ℕ) (st : State) → Holds p shapes units u ls st → Holds p shapes units u ls (record (popped rs st) { level = level; move = None })
    popped_holds [] level st h = still st _ refl refl refl h
    popped_holds (r ∷ rs) level st h = still st _ refl refl refl h

    module _ (r : Round) where
      pub at_shape : (ks : List Kind) (os : List Opens) (vs : List Val) (at : ℕ) (fs : List Frame) (st : State) → Shown p shapes at (record { unit = u; round = r; locals = ls; operands = ks; opens = os })
          → Holds p shapes units u ls st → Have units ks vs → Framed p shapes units u r ls os fs → ShapedAt p shapes at vs fs st
      at_shape ks os vs at fs st n h g f = record { units = units; shape = record { unit = u; round = r; locals = ls; operands = ks; opens = os }; shown = n; holds = h; operands = g; framed = f }

      pub at_end : (how : End) (os : List Opens) (fs : List Frame) (st : State) → MayEnd units how r os → Holds p shapes units u ls st → Framed p shapes units u r ls os fs → ShapedEnd p shapes how fs st
      at_end how os fs st m h f = record { units = units; shape = record { unit = u; round = r; locals = ls; operands = []; opens = os }; opens = os; may = m; holds = h; framed = f }

      -- a way out of a view
      view_failed : (x : Scope) (e : Error) (os : List Opens) (at : ℕ) (vs : List Val) (fs : List Frame) (st : State) → IsView x → Holds p shapes units u ls st → Framed p shapes units u r ls os fs → IsKept p shapes (landed at vs fs (leave x (Failed e) st))
      view_failed (InSize views limit) e os at vs fs st is h f = at_end _ os fs _ tt (still st _ refl refl refl h) f
      view_failed (InMax views number start m) e os at vs fs st is h f = at_end _ os fs _ tt (still st _ refl refl refl h) f
      view_failed (InFrom level place) e os at vs fs st is h f = at_end _ os fs (leave_from level st) tt (popped_holds st.outer level st h) f
      view_failed (InAt level place) e os at vs fs st is h f = at_end _ os fs _ tt (still st _ refl refl refl h) f
      view_failed _ e os at vs fs st is h f = absurd is

      view_backs : (x : Scope) (os : List Opens) (at : ℕ) (vs : List Val) (fs : List Frame) (st : State) → IsView x → Holds p shapes units u ls st → Framed p shapes units u r ls os fs → IsKept p shapes (landed at vs fs (leave x Backs st))
      view_backs (InSize views limit) os at vs fs st is h f = at_end Backs os fs _ tt (still st _ refl refl refl h) f
      view_backs (InMax views number start m) os at vs fs st is h f = at_end Backs os fs _ tt (still st _ refl refl refl h) f
      view_backs (InFrom level place) os at vs fs st is h f = at_end Backs os fs (leave_from level st) tt (popped_holds st.outer level st h) f
      view_backs (InAt level place) os at vs fs st is h f = at_end Backs os fs _ tt (still st _ refl refl refl h) f
      view_backs _ os at vs fs st is h f = absurd is

      view_rejected : (x : Scope) (os : List Opens) (at : ℕ) (vs : List Val) (fs : List Frame) (st : State) → IsView x → Holds p shapes units u ls st → Framed p shapes units u r ls os fs → IsKept p shapes (landed at vs fs (leave x Rejected st))
      view_rejected (InSize views limit) os at vs fs st is h f = at_end Rejected os fs _ tt (still st _ refl refl refl h) f
      view_rejected (InMax views number start m) os at vs fs st is h f = at_end Rejected os fs _ tt (still st _ refl refl refl h) f
      view_rejected (InFrom level place) os at vs fs st is h f = at_end Rejected os fs (leave_from level st) tt (popped_holds st.outer level st h) f
      view_rejected (InAt level place) os at vs fs st is h f = at_end Rejected os fs _ tt (still st _ refl refl refl h) f
      view_rejected _ os at vs fs st is h f = absurd is

      view_ends : (how : End) (x : Scope) (os : List Opens) (at : ℕ) (vs : List Val) (fs : List Frame) (st : State) → IsView x → MayEnd units how r (AView ∷ os) → Holds p shapes units u ls st → Framed p shapes units u r ls os fs
          → IsKept p shapes (landed at vs fs (leave x how st))
      view_ends (Failed e) x os at vs fs st is m h f = view_failed x e os at vs fs st is h f
      view_ends Backs x os at vs fs st is m h f = view_backs x os at vs fs st is h f
      view_ends Rejected x os at vs fs st is m h f = view_rejected x os at vs fs st is h f
      view_ends Fine x os at vs fs st is m h f = absurd (no r m)
        where
          no : (r : Round) → MayEnd units Fine r (AView ∷ os) → ⊥
          no OfUnit m = m
          no OfEnding m = m
          no OfFailing m = m
          no (OfFunction k) m = m
          no (OfHook each) m = m
      view_ends (Returned v) x os at vs fs st is m h f = absurd (no r m)
        where
          no : (r : Round) → MayEnd units (Returned v) r (AView ∷ os) → ⊥
          no OfUnit m = m
          no OfEnding m = m
          no OfFailing m = m
          no (OfFunction k) m = m
          no (OfHook each) m = m
      view_ends Stopped x os at vs fs st is m h f = absurd (no r m)
        where
          no : (r : Round) → MayEnd units Stopped r (AView ∷ os) → ⊥
          no OfUnit m = m
          no OfEnding m = m
          no OfFailing m = m
          no (OfFunction k) m = m
          no (OfHook true) m = m
          no (OfHook false) m = m
      view_ends _ x os at vs fs st is m h f = absurd m

      -- an end that takes off a `&try`
      try_ends : (x : Scope) (how : End) (to : ℕ) (ks : List Kind) (os : List Opens) (vs : List Val) (fs : List Frame) (st : State) → IsTry x → MayEnd units how r (ATry to ks ∷ os)
          → Shown p shapes to (record { unit = u; round = r; locals = ls; operands = ks; opens = os }) → Holds p shapes units u ls st → Have units ks vs → Framed p shapes units u r ls os fs → IsKept p shapes (landed to vs fs (leave x how st))
      try_ends (InTry tries place unset) Backs to ks os vs fs st is m n h g f = at_shape ks os vs to fs _ n (still (unset_member unset st) _ refl refl refl (member_left unset st h)) g f
      try_ends (InTry tries place unset) Fine to ks os vs fs st is m n h g f = at_shape ks os vs to fs _ n (still st _ refl refl refl h) g f
      try_ends (InTry tries place unset) (Failed e) to ks os vs fs st is m n h g f = at_end (Failed e) os fs _ tt (still st _ refl refl refl h) f
      try_ends (InTry tries place unset) Rejected to ks os vs fs st is m n h g f = at_end Rejected os fs _ tt (still st _ refl refl refl h) f
      try_ends (InTry tries place unset) (Returned v) to ks os vs fs st is m n h g f = absurd (no r m)
        where
          no : (r : Round) → MayEnd units (Returned v) r (ATry to ks ∷ os) → ⊥
          no OfUnit m = m
          no OfEnding m = m
          no OfFailing m = m
          no (OfFunction k) m = m
          no (OfHook each) m = m
      try_ends (InTry tries place unset) Stopped to ks os vs fs st is m n h g f = absurd (no r m)
        where
          no : (r : Round) → MayEnd units Stopped r (ATry to ks ∷ os) → ⊥
          no OfUnit m = m
          no OfEnding m = m
          no OfFailing m = m
          no (OfFunction k) m = m
          no (OfHook true) m = m
          no (OfHook false) m = m
      try_ends (InTry tries place unset) _ to ks os vs fs st is m n h g f = absurd m
      try_ends _ how to ks os vs fs st is m n h g f = absurd is

  -- the shape outside a body, and what is known there
  record Outside (units : List ℕ) (outer : Shape) (f : Frame) (fs : List Frame) (self : ℕ) (locals : List Val) (ks : List Kind) : Type 0 where
    shown : Shown p shapes f.to outer
    self_known : IsSelf units outer.unit self
    locals_have : Have units outer.locals locals
    operands_have : Have units ks f.below
    framed : Framed p shapes units outer.unit outer.round outer.locals outer.opens fs

  module _ (units : List ℕ) (outer : Shape) (f : Frame) (fs : List Frame) (st now : State) (ks : List Kind) (o : Outside units outer f fs now.self now.locals ks) (told : units_of st.instances ≡ units) (all : AllHaveKinds p shapes units st.instances) (same : now.instances ≡ st.instances) where
    holds_outside : Holds p shapes units outer.unit outer.locals now
    holds_outside = record { told = ap units_of same ∙ told; instances = subst (AllHaveKinds p shapes units) (sym same) all; self = o.self_known; locals = o.locals_have }

    gives_outside : (k : Kind) (v : Val) → outer.operands ≡ k ∷ ks → Has units k v → ShapedAt p shapes f.to (v ∷ f.below) fs now
    gives_outside k v e h =
        record { units = units; shape = outer; shown = o.shown; holds = holds_outside; operands = subst (λ l. Have units l (v ∷ f.below)) (sym e) (h, o.operands_have); framed = o.framed }

    goes_outside : outer.operands ≡ ks → ShapedAt p shapes f.to f.below fs now
    goes_outside e = record { units = units; shape = outer; shown = o.shown; holds = holds_outside; operands = subst (λ l. Have units l f.below) (sym e) o.operands_have; framed = o.framed }

    ends_outside : (how : End) → MayEnd units how outer.round outer.opens → ShapedEnd p shapes how fs now
    ends_outside how m = record { units = units; shape = outer; opens = outer.opens; may = m; holds = holds_outside; framed = o.framed }

    -- an error that is dropped, unless it ends the fiber
    dropped_outside : (x : Error) (b : Bool) → outer.operands ≡ ks → IsKept p shapes (landed f.to f.below fs (ends (dropped_unless b x) now))
    dropped_outside x true e = ends_outside (Failed x) tt
    dropped_outside x false e = goes_outside e

  unit_ends : (units : List ℕ) (u : Option ℕ) (outer : Shape) (ks : List Kind) (how : End) (f : Frame) (fs : List Frame) (st : State) (keeps : Bool) (instance start self : ℕ) (locals : List Val)
      → MayEnd units how OfEnding [] → IsKnownAs units u instance → Outside units outer f fs self locals ks → units_of st.instances ≡ units → AllHaveKinds p shapes units st.instances
      → outer.operands ≡ UnitOf (known_unit p shapes u) ∷ ks → IsKept p shapes (landed f.to f.below fs (leave (InUnit keeps instance start self locals) how st))
  unit_ends units (Some u) outer ks Fine f fs st keeps instance start self locals m i o told all e =
      gives_outside units outer f fs st _ ks o told all refl (UnitOf u) (unit instance) e (somewhere instance refl i)
  unit_ends units None outer ks Fine f fs st keeps instance start self locals m i o told all e = absurd i
  unit_ends units u outer ks (Failed x) f fs st keeps instance start self locals m i o told all e = ends_outside units outer f fs st _ ks o told all refl (Failed x) tt
  unit_ends units u outer ks Backs f fs st keeps instance start self locals m i o told all e = ends_outside units outer f fs st _ ks o told all refl Backs tt
  unit_ends units u outer ks Rejected f fs st keeps instance start self locals m i o told all e = ends_outside units outer f fs st _ ks o told all refl Rejected tt
  unit_ends units u outer ks _ f fs st keeps instance start self locals m i o told all e = absurd m

  call_ends : (units : List ℕ) (u : Option ℕ) (r : Round) (called : Called) (outer : Shape) (ks : List Kind) (how : End) (f : Frame) (fs : List Frame) (st : State) (self : ℕ) (locals : List Val)
      → MayEnd units how r [] → IsCalled r called → Outside units outer f fs self locals ks → units_of st.instances ≡ units → AllHaveKinds p shapes units st.instances
      → outer.operands ≡ given_by r (known_unit p shapes u) ks → IsKept p shapes (landed f.to f.below fs (leave (InCall called self locals) how st))
  call_ends units u (OfFunction k) Function outer ks (Returned v) f fs st self locals m i o told all e = gives_outside units outer f fs st _ ks o told all refl k v e m
  call_ends units u (OfFunction k) Function outer ks (Failed x) f fs st self locals m i o told all e = ends_outside units outer f fs st _ ks o told all refl (Failed x) tt
  call_ends units u (OfFunction k) Function outer ks Backs f fs st self locals m i o told all e = ends_outside units outer f fs st _ ks o told all refl Backs tt
  call_ends units u (OfFunction k) Function outer ks Rejected f fs st self locals m i o told all e = ends_outside units outer f fs st _ ks o told all refl Rejected tt
  call_ends units u (OfHook true) (Hook true) outer ks (Returned v) f fs st self locals m i o told all e = gives_outside units outer f fs st _ ks o told all refl Bools (bool true) e (true, refl)
  call_ends units u (OfHook true) (Hook true) outer ks Stopped f fs st self locals m i o told all e = gives_outside units outer f fs st _ ks o told all refl Bools (bool false) e (false, refl)
  call_ends units u (OfHook true) (Hook true) outer ks (Failed x) f fs st self locals m i o told all e = ends_outside units outer f fs st _ ks o told all refl (Failed x) tt
  call_ends units u (OfHook true) (Hook true) outer ks Backs f fs st self locals m i o told all e = ends_outside units outer f fs st _ ks o told all refl Backs tt
  call_ends units u (OfHook true) (Hook true) outer ks Rejected f fs st self locals m i o told all e = ends_outside units outer f fs st _ ks o told all refl Rejected tt
  call_ends units u (OfHook false) (Hook false) outer ks (Returned v) f fs st self locals m i o told all e = goes_outside units outer f fs st _ ks o told all refl e
  call_ends units u (OfHook false) (Hook false) outer ks (Failed x) f fs st self locals m i o told all e = ends_outside units outer f fs st _ ks o told all refl (Failed x) tt
  call_ends units u (OfHook false) (Hook false) outer ks Backs f fs st self locals m i o told all e = ends_outside units outer f fs st _ ks o told all refl Backs tt
  call_ends units u (OfHook false) (Hook false) outer ks Rejected f fs st self locals m i o told all e = ends_outside units outer f fs st _ ks o told all refl Rejected tt
  call_ends units u (OfHook false) FailingHook outer ks (Returned v) f fs st self locals m i o told all e = goes_outside units outer f fs st _ ks o told all refl e
  call_ends units u (OfHook false) FailingHook outer ks (Failed x) f fs st self locals m i o told all e = dropped_outside units outer f fs st _ ks o told all refl x (ends_fiber x.kind) e
  call_ends units u (OfHook false) FailingHook outer ks Backs f fs st self locals m i o told all e = goes_outside units outer f fs st _ ks o told all refl e
  call_ends units u (OfHook false) FailingHook outer ks Rejected f fs st self locals m i o told all e = goes_outside units outer f fs st _ ks o told all refl e
  call_ends units u OfUnit called outer ks how f fs st self locals m i o told all e = absurd i
  call_ends units u OfEnding called outer ks how f fs st self locals m i o told all e = absurd i
  call_ends units u OfFailing called outer ks how f fs st self locals m i o told all e = absurd i
  call_ends units u (OfFunction k) FailingHook outer ks how f fs st self locals m i o told all e = absurd i
  call_ends units u (OfHook true) FailingHook outer ks how f fs st self locals m i o told all e = absurd i
  call_ends units u (OfFunction k) (Hook each) outer ks how f fs st self locals m i o told all e = absurd i
  call_ends units u (OfHook each) Function outer ks how f fs st self locals m i o told all e = absurd (no each i)
    where
      no : (each : Bool) → IsCalled (OfHook each) Function → ⊥
      no true i = i
      no false i = i
  call_ends units u (OfHook true) (Hook false) outer ks how f fs st self locals m i o told all e = absurd i
  call_ends units u (OfHook false) (Hook true) outer ks how f fs st self locals m i o told all e = absurd i
  call_ends units u r called outer ks how f fs st self locals m i o told all e = absurd m

  -- the parts of a unit, or its failing, in the frame of the unit
  module _ (units : List ℕ) (u : Option ℕ) (ls : List Kind) (outer : Shape) (ks : List Kind) (f : Frame) (fs : List Frame) (st : State) (h : Holds p shapes units u ls st) (same : outer ≡ body_shape u OfEnding ls)
      (n : Shown p shapes f.to outer) (g : Have units ks f.below) (k : Framed p shapes units outer.unit outer.round outer.locals outer.opens fs) where
    holds_behind : Holds p shapes units outer.unit outer.locals st
    holds_behind = subst (λ o. Holds p shapes units o.unit o.locals st) (sym same) h

    ends_behind : (how : End) → MayEnd units how outer.round outer.opens → ShapedEnd p shapes how fs st
    ends_behind how m = at_end units outer.unit outer.locals outer.round how outer.opens fs st m holds_behind k

    parts_caught : (failing : ℕ) (e : Error) (b : Bool) → outer.operands ≡ ks → Shown p shapes failing (body_shape u OfFailing ls) → IsKept p shapes (unless_caught (caught_unless b failing e) f fs st (landed f.to f.below fs (ends (Failed e) st)))
    parts_caught failing e true q there = ends_behind (Failed e) tt
    parts_caught failing e false q there = at_shape units u ls OfFailing [] [] [] failing (failing_frame e f ∷ fs) st there h tt (outer, ks, n, q, g, (refl, same), k)

    parts_end : (failing : ℕ) (how : End) → MayEnd units how OfUnit [] → outer.operands ≡ ks → Shown p shapes failing (body_shape u OfFailing ls)
        → IsKept p shapes (unless_caught (caught (InParts failing) how) f fs st (landed f.to f.below fs (leave (InParts failing) how st)))
    parts_end failing Fine m q there = at_shape units outer.unit outer.locals outer.round outer.operands outer.opens f.below f.to fs st n holds_behind (subst (λ ks. Have units ks f.below) (sym q) g) k
    parts_end failing (Failed e) m q there = parts_caught failing e (ends_fiber e.kind) q there
    parts_end failing Backs m q there = ends_behind Backs tt
    parts_end failing Rejected m q there = ends_behind Rejected tt
    parts_end failing _ m q there = absurd m

    failing_ends : (e : Error) (how : End) → MayEnd units how OfFailing [] → IsKept p shapes (landed f.to f.below fs (leave (InFailing e) how st))
    failing_ends e Fine m = ends_behind (Failed e) tt
    failing_ends e (Failed x) m = ends_behind (Failed x) tt
    failing_ends e Backs m = ends_behind Backs tt
    failing_ends e Rejected m = ends_behind Rejected tt
    failing_ends e _ m = absurd m

  body_ends : (units : List ℕ) (u : Option ℕ) (r : Round) (ls : List Kind) (outer : Shape) (ks : List Kind) (x : Scope) (how : End) (f : Frame) (fs : List Frame) (st : State)
      → MayEnd units how r [] → Holds p shapes units u ls st → IsRound p shapes units u r ls outer x → Shown p shapes f.to outer → outer.operands ≡ given_by r (known_unit p shapes u) ks → Have units ks f.below
      → Framed p shapes units outer.unit outer.round outer.locals outer.opens fs → IsKept p shapes (unless_caught (caught x how) f fs st (landed f.to f.below fs (leave x how st)))
  body_ends units u r ls outer ks (InUnit keeps instance start self locals) how f fs st m h (is, i, s, l) n e g k =
      unit_ends units u outer ks how f fs st keeps instance start self locals (subst (λ r. MayEnd units how r []) is m) i
      (record { shown = n; self_known = s; locals_have = l; operands_have = g; framed = k }) h.told h.instances (e ∙ ap (λ r. given_by r (known_unit p shapes u) ks) is)
  body_ends units u r ls outer ks (InParts failing) how f fs st m h (is, same, there) n e g k =
      parts_end units u ls outer ks f fs st h same n g k failing how (subst (λ r. MayEnd units how r []) is m) (e ∙ ap (λ r. given_by r (known_unit p shapes u) ks) is) there
  body_ends units u r ls outer ks (InFailing x) how f fs st m h (is, same) n e g k =
      failing_ends units u ls outer ks f fs st h same n g k x how (subst (λ r. MayEnd units how r []) is m)
  body_ends units u r ls outer ks (InCall called self locals) how f fs st m h (is, s, l) n e g k =
      call_ends units u r called outer ks how f fs st self locals m is (record { shown = n; self_known = s; locals_have = l; operands_have = g; framed = k }) h.told h.instances e
  body_ends units u r ls outer ks (InSize views limit) how f fs st m h x n e g k = absurd x
  body_ends units u r ls outer ks (InMax views number start z) how f fs st m h x n e g k = absurd x
  body_ends units u r ls outer ks (InFrom level at) how f fs st m h x n e g k = absurd x
  body_ends units u r ls outer ks (InAt level at) how f fs st m h x n e g k = absurd x
  body_ends units u r ls outer ks (InTry tries place unset) how f fs st m h x n e g k = absurd x

  no_frame : (units : List ℕ) (u : Option ℕ) (r : Round) (ls : List Kind) (how : End) (os : List Opens) (st : State) → MayEnd units how r os → Holds p shapes units u ls st → Framed p shapes units u r ls os [] → ShapedOver p shapes how st
  no_frame units u r ls how [] st m h f = record { units = units; unit = u; round = r; locals = ls; may = m; holds = h }
  no_frame units u r ls how (o ∷ os) st m h f = absurd f

  -- only the parts of a unit catch an error
  view_taken : (x : Scope) (how : End) (f : Frame) (fs : List Frame) (st : State) (next : Next) → IsView x → IsKept p shapes next → IsKept p shapes (unless_caught (caught x how) f fs st next)
  view_taken (InSize views limit) how f fs st next is h = h
  view_taken (InMax views number start m) how f fs st next is h = h
  view_taken (InFrom level place) how f fs st next is h = h
  view_taken (InAt level place) how f fs st next is h = h
  view_taken _ how f fs st next is h = absurd is

  try_taken : (x : Scope) (how : End) (f : Frame) (fs : List Frame) (st : State) (next : Next) → IsTry x → IsKept p shapes next → IsKept p shapes (unless_caught (caught x how) f fs st next)
  try_taken (InTry tries place unset) how f fs st next is h = h
  try_taken _ how f fs st next is h = absurd is

  -- an end takes off a frame
  pub ending_kept : (units : List ℕ) (u : Option ℕ) (r : Round) (ls : List Kind) (how : End) (os : List Opens) (fs : List Frame) (st : State)
      → MayEnd units how r os → Holds p shapes units u ls st → Framed p shapes units u r ls os fs → IsKept p shapes (take_off how fs st)
  ending_kept units u r ls how os [] st m h f = no_frame units u r ls how os st m h f
  ending_kept units u r ls how [] (f ∷ fs) st m h (outer, ks, n, e, g, x, k) = body_ends units u r ls outer ks f.scope how f fs st m h x n e g k
  ending_kept units u r ls how (AView ∷ os) (f ∷ fs) st m h (is, k) = view_taken f.scope how f fs st _ is (view_ends units u ls r how f.scope os f.to f.below fs st is m h k)
  ending_kept units u r ls how (ATry to ks ∷ os) (f ∷ fs) st m h (is, e, g, n, k) =
      try_taken f.scope how f fs st _ is
      (try_ends units u ls r f.scope how f.to ks os f.below fs st is (subst (λ to. MayEnd units how r (ATry to ks ∷ os)) (sym e) m)
      (subst (λ to. Shown p shapes to (record { unit = u; round = r; locals = ls; operands = ks; opens = os })) (sym e) n) h g k)
