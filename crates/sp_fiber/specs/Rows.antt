-- A body that reads an integer of two bytes and returns it, over an input that comes in pieces.
use Rattle.std.specs.Prelude.{◌≡◌, ◌≤◌, ℕ, zero, suc, Bool, true, false, List, [], ◌∷◌, Some, None, refl, slice_get, unwrap_or}
use Rattle.std.proofs.Common.{subst, ap, arith}
use Rattle.sp_base.specs.declared.kinds.PKind.TheVariants as error_is
use Rattle.sp_base.specs.Input.{held_open, ended}
use Rattle.sp_numbers.specs.declared.width.Width.TheVariants.{W16}
use Rattle.sp_value.specs.Val.{uint}
use Rattle.sp_methods.specs.Kinds.{Unsigned}
use Rattle.sp_window.specs.Windows.{Held}
use Rattle.sp_meaning_states.specs.States.{Main, State, Fine, Failed, Returned, error_at}
use Rattle.sp_meaning_states.specs.Scopes.{InUnit, InParts}
use Rattle.sp_code.specs.declared.instr.IntForm.{IntForm}
use Rattle.sp_code.specs.declared.instr.Instr.{Instr}
use Rattle.sp_code.specs.declared.instr.Instr.TheVariants.{ReadInt, Return}
use Rattle.sp_code.specs.Shapes.{Shape, Shapes, OfFunction, push, body_shape, Shown, Keeps, IsSound, Shaped}
use Rattle.sp_code.specs.Turns.{edges, AreLower, Turns}
use Rattle.sp_code.specs.Machine.{Frame, Plain, Config, Ending, Waits, Over, low_of}
use Rattle.sp_code.specs.Runs.{here, next}
use Rattle.sp_machine.specs.Plain.{first}
use Rattle.sp_fiber.specs.declared.phase.Phase.TheVariants as phase_is
use Rattle.sp_fiber.specs.declared.stand.Stand.TheVariants as stand_is
use Rattle.sp_fiber.specs.Moves.{Holds, IsWaiting, Moved}
use Rattle.sp_fiber.specs.Fibers.{Suspended, started, IsLive, StandsFor, EndedFor, Fed, Closed}
use Rattle.sp_fiber.specs.Standing.{IsStand}

abbrev program : Plain
program =
    record {
      limits = record { turns = 4; depth = 3; fibers = 1 };
      names = record { members = []; labels = []; ranges = [] };
      consts = [];
      bodies = [];
      units = [];
      code = ReadInt (record { width = W16; signed = false; little = false }) ∷ Return ∷ [];
    }

abbrev start : Config
start = started 0 []

abbrev window : ℕ → List ℕ → Held
window base bytes = record { base = base; bytes = bytes }

-- behind the two bytes
abbrev behind : State
behind = record first { now = record { source = Main; place = 2; high = 2; count = 0; views = [] } }

-- it is sound, counts its turns, and is shaped where it begins
abbrev form : IntForm
form = record { width = W16; signed = false; little = false }

abbrev outside : Shape
outside = body_shape None (OfFunction Unsigned) []

abbrev shapes : Shapes
shapes = record { at = outside ∷ push Unsigned outside ∷ []; units = []; bodies = [] }

its_code_is_there : (pc : ℕ) (s : Shape) → Shown program shapes pc s → (i : Instr) × (slice_get program.code pc ≡ Some i)
its_code_is_there zero s e = (ReadInt form, refl)
its_code_is_there (suc zero) s e = (Return, refl)
its_code_is_there (suc (suc n)) s e = absurd (let q : None ≡ Some s = e in cc)

it_keeps : (pc : ℕ) (i : Instr) (s : Shape) → slice_get program.code pc ≡ Some i → Shown program shapes pc s → Keeps program shapes i pc s
it_keeps zero i s e f = subst (λ i. Keeps program shapes i 0 s) (ap (λ o. unwrap_or o Return) e) (subst (Keeps program shapes (ReadInt form) 0) (ap (λ o. unwrap_or o outside) f) refl)
it_keeps (suc zero) i s e f = subst (λ i. Keeps program shapes i 1 s) (ap (λ o. unwrap_or o Return) e) (subst (Keeps program shapes Return 1) (ap (λ o. unwrap_or o outside) f) (Unsigned, [], refl, refl, refl))
it_keeps (suc (suc n)) i s e f = absurd (let q : None ≡ Some i = e in cc)

it_is_sound : IsSound program shapes
it_is_sound = record { within = its_code_is_there; keeps = it_keeps }

abbrev height : ℕ → ℕ
height zero = 1
height (suc n) = 0

heights_are_low : (pc : ℕ) → height pc ≤ 2
heights_are_low zero = omega arith
heights_are_low (suc n) = omega arith

heights_fall : (pc : ℕ) → AreLower height (height pc) (edges (slice_get program.code pc) pc)
heights_fall zero = (omega arith, tt)
heights_fall (suc zero) = tt
heights_fall (suc (suc n)) = tt

it_turns : Turns program
it_turns = record { height = height; low = heights_are_low; falls = heights_fall }

it_is_shaped : Shaped program shapes start
it_is_shaped = record { units = []; shape = outside; shown = refl; holds = record { told = refl; instances = tt; self = tt; locals = tt }; operands = tt; framed = tt }

from_the_start : (bytes : List ℕ) → Holds (window 0 bytes) start bytes
from_the_start bytes = record { within = omega arith; bytes = refl; from = (tt, omega arith, tt, tt) }

-- before the first piece
nothing_ran : IsLive phase_is.Fresh program (window 0 []) start start [] []
nothing_ran = (refl, refl, refl, from_the_start [])

-- one byte is too few, and is kept
it_waits : IsLive phase_is.Waiting program (window 0 (1 ∷ [])) start start (1 ∷ []) []
it_waits = (here, record { mark = 0; waits = refl; least = refl; holds = from_the_start (1 ∷ []) })

-- it may not be dropped
too_few_are_kept : IsWaiting program held_open (window 1 []) start (1 ∷ []) → ⊥
too_few_are_kept h =
    let mark : 0 ≡ h.mark = (let q : Waits 0 ≡ Waits h.mark = h.waits in cc) in
    let least = h.least in
    omega (arith, mark, least)

-- two are enough, and nothing is kept of those and what follows
all_is_over : IsLive phase_is.Over program (window 3 []) start (Ending (Returned (uint W16 258)) [] behind) (1 ∷ 2 ∷ 9 ∷ []) []
all_is_over = (next refl (next refl here), record { how = Returned (uint W16 258); state = behind; over = refl; empty = refl })

-- an input that ends too early
it_is_too_short : Moved program ended (1 ∷ []) [] [] start (Ending (Failed (error_at error_is.Short first)) [] first) (window 1 []) true
it_is_too_short = record { events = []; told = refl; comes = next refl here; stopped = record { how = Failed (error_at error_is.Short first); state = first; over = refl; empty = refl } }

-- how it stands
no_value_yet : IsStand stand_is.Waiting (Waits 0)
no_value_yet = tt

it_left : IsStand stand_is.Left (Over Fine first)
it_left = tt

no_wait_at_the_end : IsStand stand_is.Waiting (Over Fine first) → ⊥
no_wait_at_the_end h = h

-- the fiber, given one byte
abbrev waiting : Suspended
waiting = record { code = program; phase = phase_is.Waiting; window = window 0 (1 ∷ []); at = start; received = 1 }

one_byte_is_fed : Fed waiting start (1 ∷ []) [] [] []
one_byte_is_fed = record { events = []; told = refl; run = tt; stands = record { live = it_waits; counted = refl } }

it_was_given_one_byte : StandsFor waiting start (1 ∷ 2 ∷ []) [] → ⊥
it_was_given_one_byte h = let counted = h.counted in omega (arith, counted)

-- given three bytes at once, of which the last one is behind the end of all
abbrev over : Suspended
over = record { code = program; phase = phase_is.Over; window = window 3 []; at = Ending (Returned (uint W16 258)) [] behind; received = 3 }

three_bytes_are_fed : Fed over start (1 ∷ 2 ∷ 9 ∷ []) [] [] []
three_bytes_are_fed = record { events = []; told = refl; run = tt; stands = record { live = all_is_over; counted = refl } }

its_input_is_held_open : EndedFor over start (1 ∷ 2 ∷ 9 ∷ []) [] → ⊥
its_input_is_held_open h = absurd (let q : phase_is.Over ≡ phase_is.Ended = h.phase in cc)

-- one whose input ended behind one byte
abbrev short : Suspended
short = record { code = program; phase = phase_is.Ended; window = window 1 []; at = Ending (Failed (error_at error_is.Short first)) [] first; received = 1 }

a_short_input_is_closed : Closed short start (1 ∷ []) [] [] []
a_short_input_is_closed = record { events = []; told = refl; stands = record { phase = refl; comes = next refl here; over = it_is_too_short.stopped } }

-- a unit that began at place 3, whose parts wait for what is behind place 5
abbrev unit_at_3 : Bool → Frame
unit_at_3 keeps = record { scope = InUnit keeps 0 3 0 []; to = 0; below = [] }

abbrev its_parts : Frame
its_parts = record { scope = InParts 0; to = 0; below = [] }

its_bytes_are_kept : low_of (its_parts ∷ unit_at_3 true ∷ []) 5 ≡ 3
its_bytes_are_kept = refl

none_are_kept : low_of (its_parts ∷ unit_at_3 false ∷ []) 5 ≡ 5
none_are_kept = refl

-- an outer unit keeps those of an inner one
the_outer_one_keeps : low_of (its_parts ∷ unit_at_3 false ∷ its_parts ∷ unit_at_3 true ∷ []) 5 ≡ 3
the_outer_one_keeps = refl
