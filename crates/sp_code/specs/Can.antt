-- What an instruction wants of operands and locals, as a machine asks it.
use Rattle.std.specs.Prelude.{◌≡◌, ℕ, ◌+◌, ◌<◌, ◌≤◌, IsTrue, List, [], ◌∷◌, length, take, Option, Some, None, slice_get}
use Rattle.sp_words.specs.Methods.{arity}
use Rattle.sp_value.specs.Val.{Val, void, bool, uint, bytes, str, bits, tuple, vector, set, map, unit}
use Rattle.sp_value.specs.Changes.{IsSet, IsKeyed}
use Rattle.sp_operators.specs.Operands.{takes, takes_one, has_size, is_cast}
use Rattle.sp_methods.specs.Methods.{suits}
use Rattle.sp_meaning_states.specs.States.{State, instance_of}
use Rattle.sp_code.specs.declared.instr.Instr.{Instr}
use Rattle.sp_code.specs.declared.instr.Instr.TheVariants.{Const, Load, Store, Param, SelfUnit, GetField, HasField, SetField, Unary, Binary, Cast, MakeTuple, MakeVector, MakeSet, MakeMap, Index, SetIndex, Size, Lib, AddKey, DeleteKey, Pop, Dup, Under, Jump, JumpNot, Call, Return, Turn, EachStart, EachNext, Print, Assert, Throw, Fail, EnterUnit, LeaveUnit, Hook, Offset, ReadInt}
use Rattle.sp_code.specs.Machine.{Body, UnitCode, Plain}

-- the first, second and third operand, the top first
abbrev pub top : List Val → Val
top [] = void
top (v ∷ vs) = v

abbrev pub below_top : List Val → List Val
below_top [] = []
below_top (v ∷ vs) = vs

abbrev pub second : List Val → Val
second vs = top (below_top vs)

abbrev pub third : List Val → Val
third vs = top (below_top (below_top vs))

abbrev pub IsBool : Val → Type 0
IsBool (bool b) = Unit {0}
IsBool v = ⊥

abbrev pub IsNumber : Val → Type 0
IsNumber (uint w n) = Unit {0}
IsNumber v = ⊥

abbrev pub IsText : Val → Type 0
IsText (str b) = Unit {0}
IsText v = ⊥

-- a text, or none
abbrev pub IsMessage : Val → Type 0
IsMessage (str b) = Unit {0}
IsMessage void = Unit {0}
IsMessage v = ⊥

-- an instance that is there and has the member, or void
abbrev pub HasMember : State → Val → ℕ → Type 0
HasMember st (unit n) m = (n < length st.instances) × (m < length (instance_of st n).members)
HasMember st void m = Unit {0}
HasMember st v m = ⊥

-- an instance that is there, or void
abbrev pub IsInstance : State → Val → Type 0
IsInstance st (unit n) = n < length st.instances
IsInstance st void = Unit {0}
IsInstance st v = ⊥

-- a container and a key of it; a tuple and a bitfield have the number
abbrev pub IsItem : Val → Val → Type 0
IsItem (vector vs) (uint w n) = Unit {0}
IsItem (tuple vs) (uint w n) = Unit {0}
IsItem (bits k ns) (uint w n) = Unit {0}
IsItem (map es) k = Unit {0}
IsItem c k = ⊥

abbrev pub IsPlace : Val → Val → Type 0
IsPlace (vector vs) (uint w n) = Unit {0}
IsPlace (map es) k = Unit {0}
IsPlace c k = ⊥

-- what a loop can go over
abbrev pub IsRow : Val → Type 0
IsRow (vector vs) = Unit {0}
IsRow (set vs) = Unit {0}
IsRow (bytes b) = Unit {0}
IsRow (map es) = Unit {0}
IsRow v = ⊥

abbrev pub Can : Plain → Option Instr → List Val → State → Type 0
Can p None vs st = ⊥
Can p (Some (Const c)) vs st = c < length p.consts
Can p (Some (Load l)) vs st = l < length st.locals
Can p (Some (Store l)) vs st = (0 < length vs) × (l < length st.locals)
Can p (Some (Param n)) vs st = (st.self < length st.instances) × (n < length (instance_of st st.self).parameters)
Can p (Some SelfUnit) vs st = st.self < length st.instances
Can p (Some (GetField m)) vs st = (0 < length vs) × HasMember st (top vs) m
Can p (Some (HasField m)) vs st = (0 < length vs) × IsInstance st (top vs)
Can p (Some (SetField m)) vs st = (1 < length vs) × HasMember st (top vs) m
Can p (Some (Unary o)) vs st = (0 < length vs) × IsTrue (takes_one o (top vs))
Can p (Some (Binary o)) vs st = (1 < length vs) × IsTrue (takes o (second vs) (top vs))
Can p (Some (Cast t)) vs st = (0 < length vs) × IsTrue (is_cast (top vs) t)
Can p (Some (MakeTuple n)) vs st = n ≤ length vs
Can p (Some (MakeVector n)) vs st = n ≤ length vs
Can p (Some (MakeSet n)) vs st = n ≤ length vs
Can p (Some (MakeMap n)) vs st = n ≤ length vs
Can p (Some Index) vs st = (1 < length vs) × IsItem (second vs) (top vs)
Can p (Some SetIndex) vs st = (2 < length vs) × IsPlace (third vs) (second vs)
Can p (Some Size) vs st = (0 < length vs) × IsTrue (has_size (top vs))
Can p (Some (Lib m)) vs st = (arity m ≤ length vs) × IsTrue (suits m (take (arity m) vs))
Can p (Some AddKey) vs st = (1 < length vs) × IsSet (second vs)
Can p (Some DeleteKey) vs st = (1 < length vs) × IsKeyed (second vs)
Can p (Some Pop) vs st = 0 < length vs
Can p (Some Dup) vs st = 1 < length vs
Can p (Some (Under n)) vs st = n + 1 < length vs
Can p (Some (Jump to)) vs st = Unit {0}
Can p (Some (JumpNot to)) vs st = (0 < length vs) × IsBool (top vs)
Can p (Some (Call f)) vs st = (e : Body) × (slice_get p.bodies f ≡ Some e) × (e.takes ≤ length vs)
Can p (Some Return) vs st = 0 < length vs
Can p (Some Turn) vs st = Unit {0}
Can p (Some EachStart) vs st = (0 < length vs) × IsRow (top vs)
Can p (Some (EachNext to)) vs st = (1 < length vs) × IsNumber (top vs) × IsRow (second vs)
Can p (Some (Print n)) vs st = n ≤ length vs
Can p (Some Assert) vs st = (1 < length vs) × IsMessage (top vs) × IsBool (second vs)
Can p (Some Throw) vs st = (0 < length vs) × IsText (top vs)
Can p (Some (Fail kind)) vs st = Unit {0}
Can p (Some (EnterUnit u)) vs st = (e : UnitCode) × (slice_get p.units u ≡ Some e) × (e.takes ≤ length vs)
Can p (Some LeaveUnit) vs st = Unit {0}
Can p (Some (Hook h)) vs st = (e : Body) × (slice_get p.bodies h ≡ Some e) × (e.takes ≤ length vs)
Can p (Some Offset) vs st = (0 < length vs) × IsInstance st (top vs)
Can p (Some (ReadInt form)) vs st = Unit {0}
