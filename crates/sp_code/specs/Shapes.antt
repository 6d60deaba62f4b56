-- The shapes of code: the kinds of operands and locals before each instruction, and the constructs that are open; and that each
-- instruction keeps to them.
use Rattle.std.specs.Prelude.{◌≡◌, ℕ, ◌+◌, Bool, true, false, List, [], ◌∷◌, ◌++◌, length, reverse, replicate, Option, Some, None, slice_get}
use Rattle.sp_value.specs.Val.{Val}
use Rattle.sp_methods.specs.Kinds.{Kind, Bools, Unsigned, Signed, Text, UnitOf, TupleOf, VectorOf, SetOf, MapOf, kinds_of, Has, Have}
use Rattle.sp_methods.specs.Methods.{IsMethod}
use Rattle.sp_meaning_states.specs.States.{Instance, State, End, Fine, Failed, Returned, Stopped, Backs, Rejected}
use Rattle.sp_meaning_states.specs.Scopes.{Called, Scope, InUnit, InParts, InFailing, InCall, InSize, InMax, InFrom, InAt, InTry}
use Rattle.sp_meaning_states.specs.Scopes as called_is
use Rattle.sp_code.specs.declared.instr.Instr.{Instr}
use Rattle.sp_code.specs.declared.instr.Instr.TheVariants.{Const, Load, Store, Param, SelfUnit, GetField, HasField, SetField, Unary, Binary, Cast, MakeTuple, MakeVector, MakeSet, MakeMap, Index, SetIndex, Size, Lib, AddKey, DeleteKey, Pop, Dup, Under, Jump, JumpNot, Call, Return, Turn, EachStart, EachNext, Print, Assert, Throw, Fail, EnterUnit, LeaveUnit, Hook, Offset, ReadInt}
use Rattle.sp_code.specs.Kinds.{kind_of_two, kind_of_one, kind_of_cast, IsSized, IsPlaceIn, IsItemOf, IsGoneOver, IsMessage, in_turn}
use Rattle.sp_code.specs.Machine.{Body, UnitCode, Plain, Frame, Config, At, Ending}

-- a unit: the kinds of its parameters and members, and of the locals of its own code
pub record UnitKinds : Type 0 where
  pub parameters : List Kind
  pub members : List Kind
  pub locals : List Kind

-- a body of a function or a hook: the kinds of all its locals
pub record BodyKinds : Type 0 where
  pub locals : List Kind

-- what is open in a body: a view; or a `&try`, with the address and the operands to which a step back leads
pub data Opens : Type 0 where
  AView : Opens
  ATry : ℕ → List Kind → Opens

-- the code of the parts of a unit, that behind them, that of its failing; the code of a function with its result, or of a body of a
-- hook
pub data Round : Type 0 where
  OfUnit : Round
  OfEnding : Round
  OfFailing : Round
  OfFunction : Kind → Round
  OfHook : (each : Bool) → Round

-- before an instruction: the unit at hand, unless it isn't known; the body; the kinds of its locals and operands, the top first;
-- and what is open in it, the innermost first
pub record Shape : Type 0 where
  pub unit : Option ℕ
  pub round : Round
  pub locals : List Kind
  pub operands : List Kind
  pub opens : List Opens

-- the shapes by addresses, and the kinds of the tables
pub record Shapes : Type 0 where
  pub at : List Shape
  pub units : List UnitKinds
  pub bodies : List BodyKinds

abbrev pub with_operands : Shape → List Kind → Shape
with_operands s ks = record s { operands = ks }

abbrev pub push : Kind → Shape → Shape
push k s = record s { operands = k ∷ s.operands }

abbrev pub body_shape : Option ℕ → Round → List Kind → Shape
body_shape u r ls = record { unit = u; round = r; locals = ls; operands = []; opens = [] }

-- what a body leaves on the operands below it; the unit is the one that a unit's code is of
abbrev pub given_by : Round → ℕ → List Kind → List Kind
given_by OfUnit u ks = ks
given_by OfEnding u ks = UnitOf u ∷ ks
given_by OfFailing u ks = ks
given_by (OfFunction k) u ks = k ∷ ks
given_by (OfHook true) u ks = Bools ∷ ks
given_by (OfHook false) u ks = ks

-- the kind with which a body may return; that of a hook's body is dropped
abbrev pub IsResult : Round → Kind → Type 0
IsResult (OfFunction j) k = k ≡ j
IsResult (OfHook each) k = Unit {0}
IsResult r k = ⊥

-- the code of a unit
abbrev pub IsOfUnit : Round → Type 0
IsOfUnit OfUnit = Unit {0}
IsOfUnit OfEnding = Unit {0}
IsOfUnit OfFailing = Unit {0}
IsOfUnit r = ⊥

abbrev pub IsView : Scope → Type 0
IsView (InSize views limit) = Unit {0}
IsView (InMax views number start n) = Unit {0}
IsView (InFrom level at) = Unit {0}
IsView (InAt level at) = Unit {0}
IsView x = ⊥

abbrev pub IsTry : Scope → Type 0
IsTry (InTry tries place unset) = Unit {0}
IsTry x = ⊥

-- a local or a member is unset, or of its kind
abbrev pub HasIfSet : List ℕ → Kind → Option Val → Type 0
HasIfSet units k None = Unit {0}
HasIfSet units k (Some v) = Has units k v

abbrev pub HaveIfSet : List ℕ → List Kind → List (Option Val) → Type 0
HaveIfSet units [] [] = Unit {0}
HaveIfSet units (k ∷ ks) (o ∷ os) = HasIfSet units k o × HaveIfSet units ks os
HaveIfSet units ks os = ⊥

-- values of these kinds, whatever instances there are
abbrev pub AlwaysHave : List Kind → List Val → Type 0
AlwaysHave ks vs = (units : List ℕ) → Have units ks vs

-- the unit at hand is of this type, where it is known
abbrev pub IsSelf : List ℕ → Option ℕ → ℕ → Type 0
IsSelf units None self = Unit {0}
IsSelf units (Some u) self = slice_get units self ≡ Some u

-- the unit is known, and an instance is one of it
abbrev pub IsKnownAs : List ℕ → Option ℕ → ℕ → Type 0
IsKnownAs units None instance = ⊥
IsKnownAs units (Some u) instance = slice_get units instance ≡ Some u

-- a body that can be called: what it takes, and the first values of its other locals
pub record IsBody (e : Body) (h : BodyKinds) (ins : List Kind) : Type 0 where
  pub others : List Kind
  pub takes : length ins ≡ e.takes
  pub locals : h.locals ≡ reverse ins ++ others
  pub fresh : AlwaysHave others e.fresh

-- a unit that can be entered
pub record IsUnitCode (e : UnitCode) (t : UnitKinds) (ins : List Kind) : Type 0 where
  pub takes : length ins ≡ e.takes
  pub parameters : t.parameters ≡ reverse ins
  pub members : length t.members ≡ e.members
  pub fresh : AlwaysHave t.locals e.fresh

-- a key that a set or a map can lose
abbrev pub IsKeyOf : Kind → Kind → Type 0
IsKeyOf (SetOf k) j = j ≡ k
IsKeyOf (MapOf k v) j = j ≡ k
IsKeyOf c j = ⊥

-- the kind of an integer that is read
abbrev pub read_kind : (signed : Bool) → Kind
read_kind true = Signed
read_kind false = Unsigned

-- a body of this round is called so
abbrev pub IsCalled : Round → Called → Type 0
IsCalled (OfFunction k) called_is.Called.Function = Unit {0}
IsCalled (OfHook true) (called_is.Called.Hook true) = Unit {0}
IsCalled (OfHook false) (called_is.Called.Hook false) = Unit {0}
IsCalled (OfHook false) called_is.Called.FailingHook = Unit {0}
IsCalled r c = ⊥

-- the units of instances
abbrev pub units_of : List Instance → List ℕ
units_of [] = []
units_of (x ∷ xs) = x.unit ∷ units_of xs

-- an end that may come where these constructs are open
abbrev pub MayEnd : List ℕ → End → Round → List Opens → Type 0
MayEnd units (Failed e) r os = Unit {0}
MayEnd units Backs r os = Unit {0}
MayEnd units Rejected r os = Unit {0}
MayEnd units Fine OfUnit [] = Unit {0}
MayEnd units Fine OfEnding [] = Unit {0}
MayEnd units Fine OfFailing [] = Unit {0}
MayEnd units Fine r (ATry to ks ∷ os) = Unit {0}
MayEnd units (Returned v) (OfFunction k) [] = Has units k v
MayEnd units (Returned v) (OfHook each) [] = Unit {0}
MayEnd units Stopped (OfHook true) [] = Unit {0}
MayEnd units how r os = ⊥

module _ (p : Plain) (shapes : Shapes) where
  -- this is the shape at an address
  abbrev pub Shown : ℕ → Shape → Type 0
  Shown pc s = slice_get shapes.at pc ≡ Some s

  -- an instruction takes these operands, and gives these in their place
  abbrev pub Takes : ℕ → Shape → List Kind → List Kind → Type 0
  Takes pc s ins outs = (ks : List Kind) × (s.operands ≡ ins ++ ks) × Shown (pc + 1) (with_operands s (outs ++ ks))

  -- a member of this kind of a unit
  abbrev pub IsMember : ℕ → ℕ → Kind → Type 0
  IsMember u m k = (t : UnitKinds) × (slice_get shapes.units u ≡ Some t) × (slice_get t.members m ≡ Some k)

  -- a body that is called from a unit, with these kinds of operands
  abbrev pub Enters : ℕ → Option ℕ → Called → Round → List Kind → Type 0
  Enters n u called round ins = (e : Body) × (h : BodyKinds) × (slice_get p.bodies n ≡ Some e) × (slice_get shapes.bodies n ≡ Some h) × (e.called ≡ called) × IsBody e h ins × Shown e.start (body_shape u round h.locals)

  -- An instruction has the operands that it takes, and leads to where the shapes are those that it leaves.
  abbrev pub Keeps : Instr → ℕ → Shape → Type 0
  Keeps (Const c) pc s = (v : Val) × (k : Kind) × (slice_get p.consts c ≡ Some v) × ((units : List ℕ) → Has units k v) × Shown (pc + 1) (push k s)
  Keeps (Load l) pc s = (k : Kind) × (slice_get s.locals l ≡ Some k) × Shown (pc + 1) (push k s)
  Keeps (Store l) pc s = (k : Kind) × (slice_get s.locals l ≡ Some k) × Takes pc s (k ∷ []) []
  Keeps (Param n) pc s = (u : ℕ) × (t : UnitKinds) × (k : Kind) × (s.unit ≡ Some u) × (slice_get shapes.units u ≡ Some t) × (slice_get t.parameters n ≡ Some k) × Shown (pc + 1) (push k s)
  Keeps SelfUnit pc s = (u : ℕ) × (s.unit ≡ Some u) × Shown (pc + 1) (push (UnitOf u) s)
  Keeps (GetField m) pc s = (u : ℕ) × (k : Kind) × IsMember u m k × Takes pc s (UnitOf u ∷ []) (k ∷ [])
  Keeps (HasField m) pc s = (u : ℕ) × Takes pc s (UnitOf u ∷ []) (Bools ∷ [])
  Keeps (SetField m) pc s = (u : ℕ) × (k : Kind) × IsMember u m k × Takes pc s (UnitOf u ∷ k ∷ []) []
  Keeps (Unary o) pc s = (j k : Kind) × (kind_of_one o j ≡ Some k) × Takes pc s (j ∷ []) (k ∷ [])
  Keeps (Binary o) pc s = (i j k : Kind) × (kind_of_two o i j ≡ Some k) × Takes pc s (j ∷ i ∷ []) (k ∷ [])
  Keeps (Cast t) pc s = (j k : Kind) × (kind_of_cast j t ≡ Some k) × Takes pc s (j ∷ []) (k ∷ [])
  Keeps (MakeTuple n) pc s = (ins : List Kind) × (length ins ≡ n) × Takes pc s ins (TupleOf (kinds_of (reverse ins)) ∷ [])
  Keeps (MakeVector n) pc s = (k : Kind) × Takes pc s (replicate n k) (VectorOf k ∷ [])
  Keeps (MakeSet n) pc s = (k : Kind) × Takes pc s (replicate n k) (SetOf k ∷ [])
  Keeps (MakeMap n) pc s = (m : ℕ) × (j k : Kind) × (n ≡ m + m) × Takes pc s (in_turn n j k) (MapOf j k ∷ [])
  Keeps Index pc s = (c j k : Kind) × IsItemOf c j k × Takes pc s (j ∷ c ∷ []) (k ∷ [])
  Keeps SetIndex pc s = (c j k : Kind) × IsPlaceIn c j k × Takes pc s (k ∷ j ∷ c ∷ []) (c ∷ [])
  Keeps Size pc s = (k : Kind) × IsSized k × Takes pc s (k ∷ []) (Unsigned ∷ [])
  Keeps (Lib m) pc s = (ins outs : List Kind) × IsMethod m ins outs × Takes pc s ins outs
  Keeps AddKey pc s = (k : Kind) × Takes pc s (k ∷ SetOf k ∷ []) (SetOf k ∷ [])
  Keeps DeleteKey pc s = (c j : Kind) × IsKeyOf c j × Takes pc s (j ∷ c ∷ []) (c ∷ [])
  Keeps Pop pc s = (k : Kind) × Takes pc s (k ∷ []) []
  Keeps Dup pc s = (j k : Kind) × Takes pc s (j ∷ k ∷ []) (j ∷ k ∷ j ∷ k ∷ [])
  Keeps (Under n) pc s = (j k : Kind) × (ks : List Kind) × (length ks ≡ n) × Takes pc s (j ∷ k ∷ ks) (j ∷ (ks ++ k ∷ []))
  Keeps (Jump to) pc s = Shown to s
  Keeps (JumpNot to) pc s = (ks : List Kind) × (s.operands ≡ Bools ∷ ks) × Shown (pc + 1) (with_operands s ks) × Shown to (with_operands s ks)
  Keeps (Call f) pc s = (ins : List Kind) × (k : Kind) × Enters f None called_is.Called.Function (OfFunction k) ins × Takes pc s ins (k ∷ [])
  Keeps Return pc s = (k : Kind) × (ks : List Kind) × (s.operands ≡ k ∷ ks) × IsResult s.round k × (s.opens ≡ [])
  Keeps Turn pc s = Shown (pc + 1) s
  Keeps EachStart pc s = (c k : Kind) × IsGoneOver c k × Takes pc s (c ∷ []) (Unsigned ∷ c ∷ [])
  Keeps (EachNext to) pc s = (c k : Kind) × (ks : List Kind) × IsGoneOver c k × (s.operands ≡ Unsigned ∷ c ∷ ks) × Shown (pc + 1) (with_operands s (k ∷ Unsigned ∷ c ∷ ks)) × Shown to (with_operands s ks)
  Keeps (Print n) pc s = (ins : List Kind) × (length ins ≡ n) × Takes pc s ins []
  Keeps Assert pc s = (k : Kind) × IsMessage k × Takes pc s (k ∷ Bools ∷ []) []
  Keeps Throw pc s = (ks : List Kind) × (s.operands ≡ Text ∷ ks)
  Keeps (Fail kind) pc s = Unit {0}
  Keeps (EnterUnit u) pc s = (e : UnitCode) × (t : UnitKinds) × (ins : List Kind) × (slice_get p.units u ≡ Some e) × (slice_get shapes.units u ≡ Some t) × IsUnitCode e t ins × Shown e.start (body_shape (Some u) OfUnit t.locals) × Shown e.ending (body_shape (Some u) OfEnding t.locals) × Shown e.failing (body_shape (Some u) OfFailing t.locals) × Takes pc s ins (UnitOf u ∷ [])
  Keeps LeaveUnit pc s = IsOfUnit s.round × (s.opens ≡ [])
  Keeps (Hook h) pc s = (ins : List Kind) × (each : Bool) × Enters h s.unit (called_is.Called.Hook each) (OfHook each) ins × Takes pc s ins (given_by (OfHook each) 0 [])
  Keeps Offset pc s = (u : ℕ) × Takes pc s (UnitOf u ∷ []) (Unsigned ∷ [])
  Keeps (ReadInt form) pc s = Shown (pc + 1) (push (read_kind form.signed) s)

  -- The frame of a body: what is outside it. Behind the parts of a unit, and behind its failing, is the same unit with the same locals.
  abbrev pub IsRound : List ℕ → Option ℕ → Round → List Kind → Shape → Scope → Type 0
  IsRound units u r ls outer (InUnit keeps instance start self locals) = (r ≡ OfEnding) × IsKnownAs units u instance × IsSelf units outer.unit self × Have units outer.locals locals
  IsRound units u r ls outer (InParts failing) = (r ≡ OfUnit) × (outer ≡ body_shape u OfEnding ls) × Shown failing (body_shape u OfFailing ls)
  IsRound units u r ls outer (InFailing e) = (r ≡ OfFailing) × (outer ≡ body_shape u OfEnding ls)
  IsRound units u r ls outer (InCall called self locals) = IsCalled r called × IsSelf units outer.unit self × Have units outer.locals locals
  IsRound units u r ls outer x = ⊥

  -- the unit that a unit's code is of
  abbrev pub known_unit : Option ℕ → ℕ
  known_unit (Some u) = u
  known_unit None = 0

  -- the frames are those that the shape tells, and lead to where the shapes are right
  abbrev pub Framed : List ℕ → Option ℕ → Round → List Kind → List Opens → List Frame → Type 0
  Framed units u r ls [] [] = Unit {0}
  Framed units u r ls (o ∷ os) [] = ⊥
  Framed units u r ls (AView ∷ os) (f ∷ fs) = IsView f.scope × Framed units u r ls os fs
  Framed units u r ls (ATry to ks ∷ os) (f ∷ fs) = IsTry f.scope × (f.to ≡ to) × Have units ks f.below × Shown to (record { unit = u; round = r; locals = ls; operands = ks; opens = os }) × Framed units u r ls os fs
  Framed units u r ls [] (f ∷ fs) = (outer : Shape) × (ks : List Kind) × Shown f.to outer × (outer.operands ≡ given_by r (known_unit u) ks) × Have units ks f.below × IsRound units u r ls outer f.scope × Framed units outer.unit outer.round outer.locals outer.opens fs

  pub record HasKinds (units : List ℕ) (x : Instance) : Type 0 where
    pub kinds : UnitKinds
    pub listed : slice_get shapes.units x.unit ≡ Some kinds
    pub parameters : Have units kinds.parameters x.parameters
    pub members : HaveIfSet units kinds.members x.members

  abbrev pub AllHaveKinds : List ℕ → List Instance → Type 0
  AllHaveKinds units [] = Unit {0}
  AllHaveKinds units (x ∷ xs) = HasKinds units x × AllHaveKinds units xs

  -- a state in a body of this shape
  pub record Holds (units : List ℕ) (u : Option ℕ) (ls : List Kind) (st : State) : Type 0 where
    pub told : units_of st.instances ≡ units
    pub instances : AllHaveKinds units st.instances
    pub self : IsSelf units u st.self
    pub locals : Have units ls st.locals

  pub record ShapedAt (pc : ℕ) (vs : List Val) (fs : List Frame) (st : State) : Type 0 where
    pub units : List ℕ
    pub shape : Shape
    pub shown : Shown pc shape
    pub holds : Holds units shape.unit shape.locals st
    pub operands : Have units shape.operands vs
    pub framed : Framed units shape.unit shape.round shape.locals shape.opens fs

  pub record ShapedEnd (how : End) (fs : List Frame) (st : State) : Type 0 where
    pub units : List ℕ
    pub shape : Shape
    pub opens : List Opens
    pub may : MayEnd units how shape.round opens
    pub holds : Holds units shape.unit shape.locals st
    pub framed : Framed units shape.unit shape.round shape.locals opens fs

  -- a configuration keeps to the shapes
  abbrev pub Shaped : Config → Type 0
  Shaped (At pc vs fs st) = ShapedAt pc vs fs st
  Shaped (Ending how fs st) = ShapedEnd how fs st

  -- Sound code: each address that has a shape is one of the code, whose instruction keeps to the shapes.
  pub record IsSound : Type 0 where
    pub within : (pc : ℕ) (s : Shape) → Shown pc s → (i : Instr) × (slice_get p.code pc ≡ Some i)
    pub keeps : (pc : ℕ) (i : Instr) (s : Shape) → slice_get p.code pc ≡ Some i → Shown pc s → Keeps i pc s
