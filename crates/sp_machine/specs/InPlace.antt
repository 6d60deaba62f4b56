-- A value that an instruction gives, and its store in a local or a member, at once.
use Rattle.std.specs.Prelude.{◌≡◌, ◌<◌, ◌+◌, ℕ, Bool, true, false, List, [], ◌∷◌, length, Some, slice_get}
use Rattle.sp_words.specs.Methods.{changes}
use Rattle.sp_value.specs.Val.{Val, unit}
use Rattle.sp_meaning_states.specs.States.{State, local_of, parameter_of, set_local, set_member}
use Rattle.sp_code.specs.declared.instr.Instr.{Instr}
use Rattle.sp_code.specs.declared.instr.Instr.TheVariants.{Load, Store, Param, SelfUnit, SetField, Binary, SetIndex, Lib, AddKey, DeleteKey, ReadInt}
use Rattle.sp_code.specs.Can.{HasMember}
use Rattle.sp_code.specs.Machine.{Next, Goes, Config, At, Ending}
use Rattle.sp_machine.specs.declared.in_place.Owner.{Owner}
use Rattle.sp_machine.specs.declared.in_place.Owner.TheVariants as owner_is
use Rattle.sp_machine.specs.declared.in_place.Slot.{Slot}
use Rattle.sp_machine.specs.declared.in_place.Slot.TheVariants.{Local, Member}

-- the instruction that gives a member's owner
abbrev pub load_of : Owner → Instr
load_of owner_is.Own = SelfUnit
load_of (owner_is.Local l) = Load l
load_of (owner_is.Parameter n) = Param n

-- and what it gives
abbrev pub owner_of : Owner → State → Val
owner_of owner_is.Own st = unit st.self
owner_of (owner_is.Local l) st = local_of st l
owner_of (owner_is.Parameter n) st = parameter_of st n

-- the code from an address on stores a value in this slot
abbrev pub IsStored : List Instr → ℕ → Slot → Type 0
IsStored code pc (Local l) = slice_get code pc ≡ Some (Store l)
IsStored code pc (Member o m) = (slice_get code pc ≡ Some (load_of o)) × (slice_get code (pc + 1) ≡ Some (SetField m))

-- the address behind that
abbrev pub behind : Slot → ℕ → ℕ
behind (Local l) pc = pc + 1
behind (Member o m) pc = pc + 1 + 1

-- the unit has the member, which void has not
abbrev pub IsMember : Val → ℕ → State → Type 0
IsMember (unit n) m st = HasMember st (unit n) m
IsMember v m st = ⊥

-- the state in which that member has a value
abbrev pub with_member_of : Val → ℕ → Val → State → State
with_member_of (unit n) m v st = set_member n m v st
with_member_of u m v st = st

-- the slot is there
abbrev pub IsSlot : Slot → State → Type 0
IsSlot (Local l) st = l < length st.locals
IsSlot (Member o m) st = IsMember (owner_of o st) m st

abbrev pub with_slot : Slot → Val → State → State
with_slot (Local l) v st = set_local l v st
with_slot (Member o m) v st = with_member_of (owner_of o st) m v st

-- Where a step leads, which gives a value before this address, once the value is stored in the slot; or the error of the step.
abbrev pub IsPut : Slot → ℕ → Next → Config → Type 0
IsPut slot at (Goes [] (At pc (v ∷ vs) fs st)) after = (pc ≡ at) × IsSlot slot st × (after ≡ At (behind slot at) vs fs (with_slot slot v st))
IsPut slot at (Goes [] (Ending how fs st)) after = after ≡ Ending how fs st
IsPut slot at next after = ⊥

-- an instruction that can change a container, or that joins bytes or texts
abbrev pub may_change : Instr → Bool
may_change (Binary o) = true
may_change (Lib m) = changes m
may_change SetIndex = true
may_change AddKey = true
may_change DeleteKey = true
may_change i = false

-- an instruction that reads the input
abbrev pub reads_input : Instr → Bool
reads_input (ReadInt form) = true
reads_input i = false
