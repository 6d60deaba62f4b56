-- A change of a container inside another one, the put at its key, and the store of the other one, at once.
use Rattle.std.specs.Prelude.{◌≡◌, ◌<◌, ◌+◌, ℕ, Bool, true, false, List, [], ◌∷◌, length, Ok, Err}
use Rattle.sp_base.specs.declared.kinds.PKind.TheVariants.{Index}
use Rattle.sp_words.specs.declared.methods.Method.{Method}
use Rattle.sp_words.specs.declared.methods.Method.TheVariants.{PushBack}
use Rattle.sp_value.specs.Val.{Val}
use Rattle.sp_meaning_states.specs.States.{State}
use Rattle.sp_meaning_states.specs.Values.{with_at}
use Rattle.sp_code.specs.declared.instr.Instr.{Instr}
use Rattle.sp_code.specs.declared.instr.Instr.TheVariants.{Lib, SetIndex, AddKey, DeleteKey}
use Rattle.sp_code.specs.Can.{top, second, IsPlace}
use Rattle.sp_code.specs.Machine.{Next, Goes, Config, At, Ending, put}
use Rattle.sp_machine.specs.declared.in_place.Slot.{Slot}
use Rattle.sp_machine.specs.InPlace.{IsSlot, with_slot, IsPut}

-- a method that changes a container and gives nothing beside it
abbrev pub is_push : Method → Bool
is_push PushBack = true
is_push m = false

-- an instruction that gives a changed container and nothing beside it
abbrev pub changes_inside : Instr → Bool
changes_inside (Lib m) = is_push m
changes_inside SetIndex = true
changes_inside AddKey = true
changes_inside DeleteKey = true
changes_inside i = false

-- Where a step leads, which gives a value before this address, once the value is put at the key below it in the container below that, and
-- this one is stored in the slot; or the error of the step.
abbrev pub IsPutInside : Slot → ℕ → Next → Config → Type 0
IsPutInside slot at (Goes [] (At pc (v ∷ k ∷ c ∷ vs) fs st)) after = (pc ≡ at) × IsPut slot (at + 1) (put (with_at c k v) (at + 1) vs fs st) after
IsPutInside slot at (Goes [] (Ending how fs st)) after = after ≡ Ending how fs st
IsPutInside slot at next after = ⊥

-- operands of which the top one is a key, and the one below it a container with such keys
abbrev pub HasPlace : List Val → Type 0
HasPlace vs = (1 < length vs) × IsPlace (second vs) (top vs)

-- what such a step gives can be put
abbrev pub CanPut : ℕ → Next → Type 0
CanPut at (Goes [] (At pc (v ∷ vs) fs st)) = pc ≡ at → HasPlace vs
CanPut at next = Unit {0}

-- A container from which the value at a key was taken, and the state in which its slot gave up its own value: what is put there, and what
-- is stored there, are as before.
pub record IsOpened (c k : Val) (slot : Slot) (before after : State) (emptied : Val) : Type 0 where
  pub place : IsPlace emptied k
  pub same : (x : Val) → with_at emptied k x ≡ with_at c k x
  pub answers : (x : Val) → (w : Val) × (with_at c k x ≡ Ok w)
  pub was : IsSlot slot before
  pub there : IsSlot slot after
  pub stores : (v : Val) → with_slot slot v after ≡ with_slot slot v before

-- a container without such a place
abbrev pub IsShut : Val → Val → Type 0
IsShut c k = (x : Val) → with_at c k x ≡ Err Index
