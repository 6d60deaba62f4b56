-- What the next step of a machine is, by its mode.
use Rattle.std.proofs.Common.{◌≡◌, ℕ, ◌≤◌, Bool, true, false, List, [], ◌∷◌, refl, sym, ap, subst, arith}
use Rattle.std.proofs.lemmas.Bool.{true≢false}
use Rattle.std.specs.Prelude.{slice_get}
use Rattle.sp_meaning_states.specs.States.{Main, Reading, State, End, Fine, Failed, Returned}
use Rattle.sp_meaning_states.specs.Scopes.{Scope, InUnit, InParts, InFailing, InCall, InSize, InMax, InFrom, InAt, InTry, needs}
use Rattle.sp_meaning_states.specs.Reads.{Ask, Bytes, Read, is_ended}
use Rattle.sp_code.specs.Machine.{Frame, Plain, At, Waits, Over, step, low_of}
use Rattle.sp_law_machine.specs.continues.Windows.{ScopesFrom, scopes_of, StateFrom, From}
use Rattle.sp_frames.specs.Frames.{error_of}
use Rattle.sp_machine.specs.declared.machine.Machine.{Machine}
use Rattle.sp_machine.specs.declared.machine.Mode.{Mode}
use Rattle.sp_machine.specs.declared.machine.Mode.TheVariants.{Running, Leaving, Returning, Failing}
use Rattle.sp_machine.specs.Plain.{reading_of, state_of, plain_in, plain, close_of}
use Rattle.sp_fiber.specs.declared.stand.Stand.{Stand}
use Rattle.sp_fiber.specs.declared.stand.Stand.TheVariants as stand_is
use Rattle.sp_fiber.specs.Moves.{frames_of}
use Rattle.sp_fiber.specs.Standing.{IsOfMode, IsStand}
use Rattle.sp_fiber.proofs.Marks.{IsHere, WaitsHere, act_here, EndsBy, end_ends}

-- an input over which nothing waits hasn't ended
open_is : (e : Bool) → is_ended (close_of e) ≡ false → e ≡ false
open_is true h = absurd (true≢false h)
open_is false h = refl

-- the end by which a mode takes frames off
abbrev IsEndOf : Mode → End → Type 0
IsEndOf Running how = ⊥
IsEndOf Leaving how = how ≡ Fine
IsEndOf (Returning v) how = how ≡ Returned v
IsEndOf (Failing e) how = how ≡ Failed (error_of e)

module _ (p : Plain) (read : Reading → Ask → Read) (over : Bool) (m : Machine) (here : (n : ℕ) → IsHere over m.place (read (reading_of m) (Bytes n))) where
  running : WaitsHere over m.place (step p read (plain_in Running m))
  running = act_here over m.place p read (slice_get p.code m.pc) m.pc m.operands m.stack (state_of m) refl here

  -- a machine that waits is at an instruction, and waits at its place
  waits_in : (mode : Mode) (mark : ℕ) → step p read (plain_in mode m) ≡ Waits mark → (mark ≡ m.place) × (over ≡ false) × (plain_in mode m ≡ At m.pc m.operands m.stack (state_of m))
  waits_in Running mark h = let k = subst (WaitsHere over m.place) h running in (k.0, k.1, refl)
  waits_in Leaving mark h = absurd (subst (EndsBy Fine) h (end_ends Fine m.stack (state_of m)))
  waits_in (Returning v) mark h = absurd (subst (EndsBy (Returned v)) h (end_ends (Returned v) m.stack (state_of m)))
  waits_in (Failing e) mark h = absurd (subst (EndsBy (Failed (error_of e))) h (end_ends (Failed (error_of e)) m.stack (state_of m)))

  pub waits_here : (mark : ℕ) → step p read (plain m) ≡ Waits mark → (mark ≡ m.place) × (over ≡ false) × (plain m ≡ At m.pc m.operands m.stack (state_of m))
  waits_here mark h = waits_in m.mode mark h

  -- a machine at which all is over has that end
  over_in : (mode : Mode) (how : End) (st : State) → step p read (plain_in mode m) ≡ Over how st → IsEndOf mode how
  over_in Running how st h = subst (WaitsHere over m.place) h running
  over_in Leaving how st h = subst (EndsBy Fine) h (end_ends Fine m.stack (state_of m))
  over_in (Returning v) how st h = subst (EndsBy (Returned v)) h (end_ends (Returned v) m.stack (state_of m))
  over_in (Failing e) how st h = subst (EndsBy (Failed (error_of e))) h (end_ends (Failed (error_of e)) m.stack (state_of m))

  over_ends : (how : End) (st : State) → step p read (plain m) ≡ Over how st → IsEndOf m.mode how
  over_ends how st h = over_in m.mode how st h

-- how it then stands
stand_in : (mode : Mode) (stand : Stand) (how : End) (st : State) → IsOfMode stand mode → IsEndOf mode how → IsStand stand (Over how st)
stand_in Running stand how st i h = absurd h
stand_in Leaving stand_is.Left how st i h = subst (λ x. IsStand stand_is.Left (Over x st)) (sym h) tt
stand_in Leaving stand_is.Waiting how st i h = absurd i
stand_in Leaving (stand_is.Done v) how st i h = absurd i
stand_in Leaving (stand_is.Failed e) how st i h = absurd i
stand_in (Returning v) (stand_is.Done x) how st i h = subst (λ y. IsStand (stand_is.Done x) (Over y st)) (sym h) i
stand_in (Returning v) stand_is.Waiting how st i h = absurd i
stand_in (Returning v) (stand_is.Failed e) how st i h = absurd i
stand_in (Returning v) stand_is.Left how st i h = absurd i
stand_in (Failing e) (stand_is.Failed x) how st i h = subst (λ y. IsStand (stand_is.Failed x) (Over y st)) (sym h) (ap error_of i)
stand_in (Failing e) stand_is.Waiting how st i h = absurd i
stand_in (Failing e) (stand_is.Done v) how st i h = absurd i
stand_in (Failing e) stand_is.Left how st i h = absurd i

pub stands_over : (p : Plain) (read : Reading → Ask → Read) (over : Bool) (m : Machine) → ((n : ℕ) → IsHere over m.place (read (reading_of m) (Bytes n))) → (stand : Stand) (how : End) (st : State)
    → IsOfMode stand m.mode → step p read (plain m) ≡ Over how st → IsStand stand (step p read (plain m))
stands_over p read over m here stand how st i h = subst (IsStand stand) (sym h) (stand_in m.mode stand how st i (over_ends p read over m here how st h))

-- the open constructs and the places of a machine, whatever its mode
frames_in : (mode : Mode) (m : Machine) → frames_of (plain_in mode m) ≡ m.stack
frames_in Running m = refl
frames_in Leaving m = refl
frames_in (Returning v) m = refl
frames_in (Failing e) m = refl

pub frames_are : (m : Machine) → frames_of (plain m) ≡ m.stack
frames_are m = frames_in m.mode m

from_in : (base : ℕ) (mode : Mode) (m : Machine) → From base (plain_in mode m) → StateFrom base m.stack (state_of m)
from_in base Running m h = h
from_in base Leaving m h = h
from_in base (Returning v) m h = h
from_in base (Failing e) m h = h

-- no construct needs a place before one before which no place is
needs_above : (base m : ℕ) (x : Scope) (xs : List Scope) → base ≤ m → ScopesFrom base Main [] (x ∷ xs) → (base ≤ needs x m) × ScopesFrom base Main [] xs
needs_above base m (InUnit true instance start self locals) xs h f = let k = f.0 in (omega (arith, h, k), f.1)
needs_above base m (InUnit false instance start self locals) xs h f = (h, f)
needs_above base m (InParts failing) xs h f = (h, f)
needs_above base m (InFailing e) xs h f = (h, f)
needs_above base m (InCall called self locals) xs h f = (h, f)
needs_above base m (InSize views limit) xs h f = (h, f)
needs_above base m (InMax views number start n) xs h f = (h, f)
needs_above base m (InFrom level at) xs h f = (h, f.1)
needs_above base m (InAt level at) xs h f = let k = f.0 in (omega (arith, h, k), f.1)
needs_above base m (InTry tries place unset) xs h f = let k = f.0 in (omega (arith, h, k), f.1)

low_above : (base m : ℕ) (fs : List Frame) → base ≤ m → ScopesFrom base Main [] (scopes_of fs) → base ≤ low_of fs m
low_above base m [] h f = h
low_above base m (x ∷ fs) h f = let k = needs_above base m x.scope (scopes_of fs) h f in low_above base (needs x.scope m) fs k.0 k.1

pub low_is_within : (base : ℕ) (m : Machine) → From base (plain m) → base ≤ low_of m.stack m.place
low_is_within base m h = let k = from_in base m.mode m h in low_above base m.place m.stack k.1 k.3
