-- Stores at once, on a little code and a small state.
use Rattle.std.specs.Prelude.{◌≡◌, true, false, List, [], ◌∷◌, Some, refl}
use Rattle.std.proofs.Common.{arith}
use Rattle.sp_numbers.specs.declared.width.Width.TheVariants.{W64}
use Rattle.sp_words.specs.declared.operators.BinaryOp.TheVariants.{Add}
use Rattle.sp_words.specs.declared.methods.Method.TheVariants as method_is
use Rattle.sp_value.specs.Val.{Val, bool, uint, unit, void}
use Rattle.sp_meaning_states.specs.States.{Instance, State, Fine}
use Rattle.sp_code.specs.declared.instr.Instr.{Instr}
use Rattle.sp_code.specs.declared.instr.Instr.TheVariants.{Load, Store, Param, SelfUnit, SetField, Binary, SetIndex, Lib}
use Rattle.sp_code.specs.Machine.{Goes, Waits, Config, At, Ending}
use Rattle.sp_machine.specs.declared.in_place.Slot.TheVariants.{Local, Member}
use Rattle.sp_machine.specs.declared.in_place.Owner.TheVariants as owner_is
use Rattle.sp_machine.specs.Plain.{first}
use Rattle.sp_machine.specs.InPlace.{IsStored, IsSlot, behind, with_slot, IsPut, may_change}

-- a sum that becomes a local, and a change at a key that becomes a member
abbrev code : List Instr
code = Binary Add ∷ Store 1 ∷ SetIndex ∷ SelfUnit ∷ SetField 0 ∷ []

a_local_behind : IsStored code 1 (Local 1)
a_local_behind = refl

a_member_behind : IsStored code 3 (Member owner_is.Own 0)
a_member_behind = (refl, refl)

-- a sum that becomes a member of a unit that a local or a parameter names
abbrev another : List Instr
another = Binary Add ∷ Load 1 ∷ SetField 0 ∷ Param 2 ∷ SetField 0 ∷ []

in_the_unit_of_a_local : IsStored another 1 (Member (owner_is.Local 1) 0)
in_the_unit_of_a_local = (refl, refl)

in_the_unit_of_a_parameter : IsStored another 3 (Member (owner_is.Parameter 2) 0)
in_the_unit_of_a_parameter = (refl, refl)

not_in_the_unit_at_hand : IsStored another 1 (Member owner_is.Own 0) → ⊥
not_in_the_unit_at_hand h = absurd (let q : Some (Load 1) ≡ Some SelfUnit = h.0 in cc)

another_local : IsStored code 1 (Local 0) → ⊥
another_local h = absurd (let q : Some (Store 1) ≡ Some (Store 0) = h in cc)

no_store_there : IsStored code 2 (Local 1) → ⊥
no_store_there h = absurd (let q : Some SetIndex ≡ Some (Store 1) = h in cc)

behind_one_step : behind (Local 1) 1 ≡ 2
behind_one_step = refl

behind_two_steps : behind (Member owner_is.Own 0) 3 ≡ 5
behind_two_steps = refl

abbrev truth : Val
truth = bool true

abbrev instance : Instance
instance = record { unit = 0; start = 0; parameters = []; members = Some (uint W64 7) ∷ [] }

abbrev state : State
state = record first { instances = instance ∷ []; locals = uint W64 1 ∷ uint W64 2 ∷ [] }

in_the_local : with_slot (Local 1) truth state ≡ record state { locals = uint W64 1 ∷ truth ∷ [] }
in_the_local = refl

in_the_member : with_slot (Member owner_is.Own 0) truth state ≡ record state { instances = record instance { members = Some truth ∷ [] } ∷ [] }
in_the_member = refl

-- the first local names the unit, the second none
abbrev named : State
named = record state { locals = unit 0 ∷ void ∷ [] }

in_the_named_unit : with_slot (Member (owner_is.Local 0) 0) truth named ≡ record named { instances = record instance { members = Some truth ∷ [] } ∷ [] }
in_the_named_unit = refl

void_has_no_member : IsSlot (Member (owner_is.Local 1) 0) named → ⊥
void_has_no_member h = h

-- what a step gives is stored, and stands on the operands no more
it_is_stored : IsPut (Local 1) 1 (Goes [] (At 1 (truth ∷ []) [] state)) (At 2 [] [] (with_slot (Local 1) truth state))
it_is_stored = (refl, omega arith, refl)

it_is_not_kept : IsPut (Local 1) 1 (Goes [] (At 1 (truth ∷ []) [] state)) (At 2 (truth ∷ []) [] (with_slot (Local 1) truth state)) → ⊥
it_is_not_kept h = absurd (let q : At 2 (truth ∷ []) [] (with_slot (Local 1) truth state) ≡ At 2 [] [] (with_slot (Local 1) truth state) = h.2 in cc)

-- an error stays one
errors_pass : IsPut (Local 1) 1 (Goes [] (Ending Fine [] state)) (Ending Fine [] state)
errors_pass = refl

none_waits : (after : Config) → IsPut (Local 1) 1 (Waits 0) after → ⊥
none_waits after h = h

appending_changes : may_change (Lib method_is.PushBack) ≡ true
appending_changes = refl

a_method_with_a_new_value : may_change (Lib method_is.Lower) ≡ false
a_method_with_a_new_value = refl

loading_changes_nothing : may_change (Load 0) ≡ false
loading_changes_nothing = refl
