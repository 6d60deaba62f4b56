-- A value that is stored at once is the one that the steps store.
use Rattle.std.proofs.Common.{◌≡◌, ◌<◌, ℕ, zero, suc, ◌+◌, List, [], ◌∷◌, length, None, Some, refl, sym, ap, subst, ◌∙◌, arith, take}
use Rattle.std.specs.Prelude.{◌≤◌, slice_get, slice_set, unwrap_or, nat_le, if◌then◌else◌}
use Rattle.std.proofs.lemmas.Bool.{cond-true, le-leb}
use Rattle.sp_value.specs.Val.{Val, void, unit}
use Rattle.sp_value.specs.Parts.{instance_in}
use Rattle.sp_meaning_states.specs.States.{Reading, Instance, State, instance_of, local_of, parameter_of, set_member, with_member, no_instance, go}
use Rattle.sp_meaning_states.specs.Reads.{Ask, Read, Got}
use Rattle.sp_code.specs.declared.instr.Instr.TheVariants.{SetField}
use Rattle.sp_code.specs.Machine.{Frame, Plain, Next, Goes, Config, At, act, read_next}
use Rattle.sp_code.specs.Runs.{Comes, here, next}
use Rattle.sp_machine.specs.declared.in_place.Slot.{Slot}
use Rattle.sp_machine.specs.declared.in_place.Slot.TheVariants.{Local, Member}
use Rattle.sp_machine.specs.declared.in_place.Owner.{Owner}
use Rattle.sp_machine.specs.declared.in_place.Owner.TheVariants as owner_is
use Rattle.sp_machine.specs.InPlace.{IsStored, IsMember, IsSlot, IsPut, load_of, owner_of, with_member_of, behind, with_slot}

pub set_twice : {A : Type 0} (xs : List A) (n : ℕ) (x y : A) → slice_set (slice_set xs n x) n y ≡ slice_set xs n y
set_twice [] n x y = refl
set_twice (z ∷ zs) zero x y = refl
set_twice (z ∷ zs) (suc n) x y = ap (λ l. z ∷ l) (set_twice zs n x y)

pub length_set : {A : Type 0} (xs : List A) (n : ℕ) (x : A) → length (slice_set xs n x) ≡ length xs
length_set [] n x = refl
length_set (y ∷ ys) zero x = refl
length_set (y ∷ ys) (suc n) x = ap (λ m. suc m) (length_set ys n x)

abbrev instance_at : List Instance → ℕ → Instance
instance_at xs n = unwrap_or (slice_get xs n) no_instance

member_twice : (xs : List Instance) (n m : ℕ) (v w : Val)
    → slice_set (slice_set xs n (with_member m w (instance_at xs n))) n (with_member m v (instance_at (slice_set xs n (with_member m w (instance_at xs n))) n)) ≡ slice_set xs n (with_member m v (instance_at xs n))
member_twice [] n m v w = refl
member_twice (x ∷ xs) zero m v w = ap (λ l. record x { members = l } ∷ xs) (set_twice x.members m (Some w) (Some v))
member_twice (x ∷ xs) (suc n) m v w = ap (λ l. x ∷ l) (member_twice xs n m v w)

-- a member's new value changes no parameter
parameters_stay : (xs : List Instance) (n m : ℕ) (w : Val) (s : ℕ) → (instance_at (slice_set xs n (with_member m w (instance_at xs n))) s).parameters ≡ (instance_at xs s).parameters
parameters_stay [] n m w s = refl
parameters_stay (x ∷ xs) zero m w zero = refl
parameters_stay (x ∷ xs) zero m w (suc s) = refl
parameters_stay (x ∷ xs) (suc n) m w zero = refl
parameters_stay (x ∷ xs) (suc n) m w (suc s) = parameters_stay xs n m w s

owner_stays : (o : Owner) (n m : ℕ) (w : Val) (st : State) → owner_of o (set_member n m w st) ≡ owner_of o st
owner_stays owner_is.Own n m w st = refl
owner_stays (owner_is.Local l) n m w st = refl
owner_stays (owner_is.Parameter k) n m w st = ap (λ ps. unwrap_or (slice_get ps k) void) (parameters_stay st.instances n m w st.self)

in_member : (o : Owner) (m : ℕ) (v w : Val) (st : State) (u : Val) → owner_of o st ≡ u
    → with_member_of (owner_of o (with_member_of u m w st)) m v (with_member_of u m w st) ≡ with_member_of u m v st
in_member o m v w st (unit n) is =
    ap (λ u. with_member_of u m v (set_member n m w st)) (owner_stays o n m w st ∙ is) ∙ ap (λ xs. record st { instances = xs }) (member_twice st.instances n m v w)
in_member o m v w st _ is = ap (λ x. with_member_of x m v st) is

-- what a slot gives up is overwritten
pub given_up : (slot : Slot) (v w : Val) (st : State) → with_slot slot v (with_slot slot w st) ≡ with_slot slot v st
given_up (Local l) v w st = ap (λ xs. record st { locals = xs }) (set_twice st.locals l w v)
given_up (Member o m) v w st = in_member o m v w st (owner_of o st) refl

gives_owner : (p : Plain) (reads : Reading → Ask → Read) (o : Owner) (pc : ℕ) (v : Val) (vs : List Val) (fs : List Frame) (st : State)
    → act p reads (Some (load_of o)) pc (v ∷ vs) fs st ≡ Goes [] (At (pc + 1) (owner_of o st ∷ v ∷ vs) fs st)
gives_owner p reads owner_is.Own pc v vs fs st = refl
gives_owner p reads (owner_is.Local l) pc v vs fs st = refl
gives_owner p reads (owner_is.Parameter n) pc v vs fs st = refl

sets_member : (p : Plain) (reads : Reading → Ask → Read) (u : Val) (m pc : ℕ) (v : Val) (vs : List Val) (fs : List Frame) (st : State) → IsMember u m st
    → act p reads (Some (SetField m)) pc (u ∷ v ∷ vs) fs st ≡ Goes [] (At (pc + 1) vs fs (with_member_of u m v st))
sets_member p reads (unit n) m pc v vs fs st there = refl
sets_member p reads _ m pc v vs fs st there = absurd there

-- the steps that store a value
pub stores : (p : Plain) (reads : Reading → Ask → Read) (slot : Slot) (pc : ℕ) (v : Val) (vs : List Val) (fs : List Frame) (st : State) → IsStored p.code pc slot → IsSlot slot st
    → Comes p reads (At pc (v ∷ vs) fs st) [] (At (behind slot pc) vs fs (with_slot slot v st))
stores p reads (Local l) pc v vs fs st h there = next (ap (λ o. act p reads o pc (v ∷ vs) fs st) h) here
stores p reads (Member o m) pc v vs fs st h there =
    next (ap (λ i. act p reads i pc (v ∷ vs) fs st) h.0 ∙ gives_owner p reads o pc v vs fs st)
    (next (ap (λ i. act p reads i (pc + 1) (owner_of o st ∷ v ∷ vs) fs st) h.1 ∙ sets_member p reads (owner_of o st) m (pc + 1) v vs fs st there) here)

-- a slot stays where it is, whatever stands in it
member_stays : (xs : List Instance) (n m : ℕ) (w : Val) → (n < length xs) × (m < length (instance_at xs n).members)
    → let ys = slice_set xs n (with_member m w (instance_at xs n)) in (n < length ys) × (m < length (instance_at ys n).members)
member_stays [] n m w h = absurd (let no = h.0 in omega (arith, no))
member_stays (x ∷ xs) zero m w h = (h.0, subst (λ k. m < k) (sym (length_set x.members m (Some w))) h.1)
member_stays (x ∷ xs) (suc n) m w h =
    let below = h.0 in
    let others = member_stays xs n m w (omega (arith, below), h.1) in
    let there = others.0 in
    (omega (arith, there), others.1)

owned_stays : (o : Owner) (m : ℕ) (v : Val) (st : State) (u : Val) → owner_of o st ≡ u → IsMember u m st → IsMember (owner_of o (with_member_of u m v st)) m (with_member_of u m v st)
owned_stays o m v st (unit n) is there =
    subst (λ u. IsMember u m (set_member n m v st)) (sym (owner_stays o n m v st ∙ is)) (member_stays st.instances n m v there)
owned_stays o m v st _ is there = absurd there

pub slot_stays : (slot : Slot) (v : Val) (st : State) → IsSlot slot st → IsSlot slot (with_slot slot v st)
slot_stays (Local l) v st there = subst (λ k. l < k) (sym (length_set st.locals l v)) there
slot_stays (Member o m) v st there = owned_stays o m v st (owner_of o st) refl there

-- and whatever is read
of_unit : (u : Val) (m n : ℕ) (st : State) → IsMember u m st → IsMember u m (go n st)
of_unit (unit k) m n st there = there
of_unit _ m n st there = absurd there

pub slot_behind : (slot : Slot) (n : ℕ) (st : State) → IsSlot slot st → IsSlot slot (go n st)
slot_behind (Local l) n st there = there
slot_behind (Member owner_is.Own m) n st there = there
slot_behind (Member (owner_is.Local l) m) n st there = of_unit (local_of st l) m n st there
slot_behind (Member (owner_is.Parameter k) m) n st there = of_unit (parameter_of st k) m n st there

-- a read of bytes that are there
pub read_put : (slot : Slot) (at n : ℕ) (bytes : List ℕ) (otherwise : Read) (good : ℕ → ℕ → List ℕ → Next) (bad : Next) (fs : List Frame) (st : State) (after : Config) → n ≤ length bytes
    → IsPut slot at (good 0 n (take n bytes)) after → IsPut slot at (read_next (if nat_le n (length bytes) then Got 0 n (take n bytes) else otherwise) good bad fs st) after
read_put slot at n bytes otherwise good bad fs st after there h =
    subst (λ r. IsPut slot at (read_next r good bad fs st) after) (sym (cond-true (nat_le n (length bytes)) (Got 0 n (take n bytes)) otherwise (le-leb n (length bytes) there))) h

-- an owner is there where its number is known
pub unit_of_number : (u : Val) (n : ℕ) → instance_in u ≡ Some n → u ≡ unit n
unit_of_number (unit k) n is = ap (λ o. unit (unwrap_or o k)) is
unit_of_number _ n is = absurd (let no : None ≡ Some n = is in cc)

pub has_number : (u : Val) (m : ℕ) (st : State) → IsMember u m st → instance_in u ≡ None → ⊥
has_number (unit n) m st there is = absurd (let no : Some n ≡ None = is in cc)
has_number _ m st there is = there

pub member_there : (u : Val) (n m : ℕ) (st : State) → instance_in u ≡ Some n → IsMember u m st → (n < length st.instances) × (m < length (instance_of st n).members)
member_there u n m st is there = subst (λ x. IsMember x m st) (unit_of_number u n is) there

pub is_there : (u : Val) (n m : ℕ) (st : State) → instance_in u ≡ Some n → (n < length st.instances) → (m < length (instance_of st n).members) → IsMember u m st
is_there u n m st is below within = subst (λ x. IsMember x m st) (sym (unit_of_number u n is)) (below, within)

pub sets_there : (u : Val) (n m : ℕ) (v : Val) (st : State) → instance_in u ≡ Some n → with_member_of u m v st ≡ set_member n m v st
sets_there u n m v st is = ap (λ x. with_member_of x m v st) (unit_of_number u n is)
