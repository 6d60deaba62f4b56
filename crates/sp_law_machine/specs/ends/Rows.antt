-- A loop that counts its turns has heights, and one that doesn't has none; and the steps that are left in it, and in a unit that fails.
use Rattle.std.specs.Prelude.{◌≡◌, ℕ, zero, suc, ◌≤◌, true, false, None, List, [], ◌∷◌, slice_get, unwrap_or, refl}
use Rattle.std.proofs.Common.{arith}
use Rattle.sp_base.specs.declared.kinds.PKind.TheVariants as error_is
use Rattle.sp_base.specs.Input.{held_open}
use Rattle.sp_numbers.specs.declared.width.Width.TheVariants.{W16}
use Rattle.sp_value.specs.Val.{bool, uint}
use Rattle.sp_meaning_states.specs.States.{Main, State}
use Rattle.sp_meaning_states.specs.Reads.{NoToken}
use Rattle.sp_code.specs.declared.instr.Instr.{Instr}
use Rattle.sp_code.specs.declared.instr.Instr.TheVariants as does
use Rattle.sp_code.specs.Machine.{UnitCode, Plain, Config, At, Next, Goes, step}
use Rattle.sp_code.specs.Turns.{edges, AreLower, Turns}
use Rattle.sp_law_machine.specs.continues.Windows.{reads_window}
use Rattle.sp_law_machine.specs.ends.Ending.{height_of, steps_left, whole}

abbrev program : List Instr → Plain
program code =
    record { limits = record { turns = 9; depth = 9; fibers = 9 }; names = record { members = []; labels = []; ranges = [] }; consts = []; bodies = []; units = []; code = code }

-- while the first local holds, an empty line is told
abbrev loop : List Instr
loop = does.Load 0 ∷ does.JumpNot 5 ∷ does.Turn ∷ does.Print 0 ∷ does.Jump 0 ∷ []

-- heights of its addresses
abbrev known : ℕ → ℕ
known pc = unwrap_or (slice_get (2 ∷ 1 ∷ 0 ∷ 4 ∷ 3 ∷ []) pc) 0

the_test_leads_out_and_in : edges (slice_get loop 1) 1 ≡ 5 ∷ 2 ∷ []
the_test_leads_out_and_in = refl

the_turn_leads_nowhere : edges (slice_get loop 2) 2 ≡ []
the_turn_leads_nowhere = refl

loop_is_low : (pc : ℕ) → known pc ≤ 5
loop_is_low zero = omega arith
loop_is_low (suc zero) = omega arith
loop_is_low (suc (suc zero)) = omega arith
loop_is_low (suc (suc (suc zero))) = omega arith
loop_is_low (suc (suc (suc (suc zero)))) = omega arith
loop_is_low (suc (suc (suc (suc (suc pc))))) = omega arith

loop_falls : (pc : ℕ) → AreLower known (known pc) (edges (slice_get loop pc) pc)
loop_falls zero = (omega arith, tt)
loop_falls (suc zero) = (omega arith, (omega arith, tt))
loop_falls (suc (suc zero)) = tt
loop_falls (suc (suc (suc zero))) = (omega arith, tt)
loop_falls (suc (suc (suc (suc zero)))) = (omega arith, tt)
loop_falls (suc (suc (suc (suc (suc pc))))) = tt

abbrev loop_turns : Turns (program loop)
loop_turns = record { height = known; low = loop_is_low; falls = loop_falls }

-- they are what is computed
abbrev computed : List Instr → List ℕ → List ℕ
computed code [] = []
computed code (pc ∷ pcs) = height_of (program code) pc ∷ computed code pcs

loop_is_computed : computed loop (0 ∷ 1 ∷ 2 ∷ 3 ∷ 4 ∷ 5 ∷ []) ≡ 2 ∷ 1 ∷ 0 ∷ 4 ∷ 3 ∷ 0 ∷ []
loop_is_computed = refl

-- the same without its turn
abbrev endless : List Instr
endless = does.Load 0 ∷ does.JumpNot 4 ∷ does.Print 0 ∷ does.Jump 0 ∷ []

endless_has_no_heights : Turns (program endless) → ⊥
endless_has_no_heights t = omega (arith, (t.falls 0).0, (t.falls 1).1.0, (t.falls 2).0, (t.falls 3).0)

-- a way without end is counted as far as there are instructions
endless_is_cut_off : computed endless (0 ∷ 1 ∷ 2 ∷ 3 ∷ 4 ∷ []) ≡ 4 ∷ 4 ∷ 4 ∷ 4 ∷ 0 ∷ []
endless_is_cut_off = refl

-- a state whose input is its own bytes
abbrev state : (place count : ℕ) → State
state place count =
    record {
      instances = [];
      self = 0;
      locals = bool true ∷ [];
      now = record { source = Main; place = place; high = place; count = count; views = [] };
      outer = [];
      level = 0;
      stamps = 0;
      depth = 0;
      tries = false;
      move = None;
    }

-- before the first turn of the loop, and behind it
steps_before_a_turn : steps_left (program loop) [] (At 2 [] [] (state 0 0)) ≡ 253
steps_before_a_turn = refl

steps_behind_it : steps_left (program loop) [] (At 3 [] [] (state 0 1)) ≡ 229
steps_behind_it = refl

-- an input of which one byte is known, with as many steps as any other of its length
one_is_known : whole 2 (7 ∷ []) ≡ 0 ∷ 0 ∷ 7 ∷ []
one_is_known = refl

length_alone_counts : steps_left (program loop) (whole 2 (7 ∷ [])) (At 2 [] [] (state 0 0)) ≡ steps_left (program loop) (5 ∷ 6 ∷ 7 ∷ []) (At 2 [] [] (state 0 0))
length_alone_counts = refl

-- an integer of two bytes at place 2, read over a window from place 1 on
abbrev integer : List Instr
integer = does.ReadInt (record { width = W16; signed = false; little = false }) ∷ []

abbrev before : Config
before = At 0 [] [] (state 2 0)

abbrev behind : Config
behind = At 1 (uint W16 258 ∷ []) [] (state 4 0)

it_is_read : step (program integer) (reads_window (λ set w over. NoToken) 1 (8 ∷ 1 ∷ 2 ∷ []) held_open) before ≡ Goes [] behind
it_is_read = refl

steps_before_it : steps_left (program integer) (whole 1 (8 ∷ 1 ∷ 2 ∷ [])) before ≡ 350
steps_before_it = refl

steps_when_it_is_read : steps_left (program integer) (whole 1 (8 ∷ 1 ∷ 2 ∷ [])) behind ≡ 109
steps_when_it_is_read = refl

-- a unit whose parts fail at once, and which has nothing to do then, in a program that enters it
abbrev entry : UnitCode
entry = record { start = 1; ending = 2; failing = 2; keeps = false; takes = 0; members = 0; fresh = [] }

abbrev fails : Plain
fails = record (program (does.EnterUnit 0 ∷ does.Fail error_is.NoMatch ∷ does.LeaveUnit ∷ [])) { units = entry ∷ [] }

abbrev behind_step : Next → Config → Config
behind_step (Goes es d) c = d
behind_step x c = c

-- the steps that are left in it along so many steps
abbrev left_along : ℕ → Config → List ℕ
left_along zero c = []
left_along (suc n) c = steps_left fails [] c ∷ left_along n (behind_step (step fails (reads_window (λ set w over. NoToken) 0 [] held_open) c) c)

-- It is entered, its parts fail, and its failing is come to. That is left, then the frame of the parts, and then that of the unit.
the_failing_is_counted : left_along 7 (At 0 [] [] (state 0 0)) ≡ 181 ∷ 176 ∷ 175 ∷ 171 ∷ 170 ∷ 165 ∷ 160 ∷ []
the_failing_is_counted = refl
