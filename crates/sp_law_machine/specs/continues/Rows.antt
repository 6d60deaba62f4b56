-- An integer of two bytes, read in a unit that began at place 1; and what sets of tokens may say.
use Rattle.std.specs.Prelude.{◌≡◌, ◌≤◌, ℕ, ◌==◌, Bool, true, false, List, [], ◌∷◌, ◌++◌, length, None, refl, if◌then◌else◌}
use Rattle.std.proofs.Common.{arith}
use Rattle.sp_base.specs.Input.{held_open, ended}
use Rattle.sp_numbers.specs.declared.width.Width.TheVariants.{W16}
use Rattle.sp_value.specs.Val.{uint}
use Rattle.sp_meaning_states.specs.States.{Main, Reading, State}
use Rattle.sp_meaning_states.specs.Scopes.{InUnit}
use Rattle.sp_meaning_states.specs.Reads.{Bytes, Word, Got, Lacks, Shorts, NoWord, Verdict, Grows, Match, NoToken, reads}
use Rattle.sp_code.specs.declared.instr.Instr.TheVariants.{ReadInt}
use Rattle.sp_code.specs.Machine.{Frame, Plain, Config, At, Goes, Waits, step, low_of}
use Rattle.sp_law_machine.specs.continues.Laws.{IsSteady}
use Rattle.sp_law_machine.specs.continues.Windows.{reads_window, From}

-- the token `A`
abbrev letter : ℕ → List ℕ → Bool → Verdict
letter set [] false = Grows
letter set [] true = NoToken
letter set (b ∷ w) over = if b == 65 then Match 0 1 else NoToken

-- it is one byte
letter_fits : (w : List ℕ) (b token n : ℕ) (is : Bool) → (if is then Match 0 1 else NoToken) ≡ Match token n → n ≤ length (b ∷ w)
letter_fits w b token n true e = let one : 1 ≡ n = cc in omega (arith, one)
letter_fits w b token n false e = absurd (let q : NoToken ≡ Match token n = e in cc)

-- what is said of it stays
pub letter_is_steady : IsSteady letter
letter_is_steady = record { stays = stays; fits = fits }
  where
    stays : (set : ℕ) (w t : List ℕ) (over : Bool) → (letter set w false ≡ Grows → ⊥) → letter set (w ++ t) over ≡ letter set w false
    stays set [] t over told = absurd (told refl)
    stays set (b ∷ w) t over told = refl

    fits : (set : ℕ) (w : List ℕ) (over : Bool) (token n : ℕ) → letter set w over ≡ Match token n → n ≤ length w
    fits set [] false token n e = absurd (let q : Grows ≡ Match token n = e in cc)
    fits set [] true token n e = absurd (let q : NoToken ≡ Match token n = e in cc)
    fits set (b ∷ w) over token n e = letter_fits w b token n (b == 65) e

-- a set that finds no token where no byte has come yet, and then finds one
abbrev hasty : ℕ → List ℕ → Bool → Verdict
hasty set [] over = NoToken
hasty set (b ∷ w) over = Match 0 1

pub hasty_is_not_steady : IsSteady hasty → ⊥
hasty_is_not_steady steady = absurd (let q : Match 0 1 ≡ NoToken = steady.stays 0 [] (65 ∷ []) false (λ e. (let q : NoToken ≡ Grows = e in cc)) in cc)

-- an integer of two bytes, the first of which counts most
abbrev program : Plain
program =
    record {
      limits = record { turns = 9; depth = 9; fibers = 9 };
      names = record { members = []; labels = []; ranges = [] };
      consts = [];
      bodies = [];
      units = [];
      code = ReadInt (record { width = W16; signed = false; little = false }) ∷ [];
    }

-- an input that stands at a place, and a state with it
abbrev reading : ℕ → Reading
reading place = record { source = Main; place = place; high = place; count = 0; views = [] }

abbrev state : ℕ → State
state place = record { instances = []; self = 0; locals = []; now = reading place; outer = []; level = 0; stamps = 0; depth = 0; tries = false; move = None }

-- a unit that began at place 1 and still needs it
abbrev frames : List Frame
frames = (record { scope = InUnit true 0 1 0 []; to = 0; below = [] }) ∷ []

-- the machine before the integer, which begins at place 2
abbrev before : Config
before = At 0 [] frames (state 2)

-- one byte is too few, and what is kept must begin with the unit's start
pub it_waits : step program (reads letter (7 ∷ 8 ∷ 1 ∷ []) held_open) before ≡ Waits 2
it_waits = refl

pub least_is_the_start : low_of frames 2 ≡ 1
least_is_the_start = refl

pub no_place_before_1 : From 1 before
no_place_before_1 = (tt, omega arith, tt, (omega arith, tt))

pub a_place_before_2 : From 2 before → ⊥
a_place_before_2 h = omega (arith, h.3.0)

-- with one byte more it goes on, over the window from the start on too
pub it_goes_on : step program (reads letter (7 ∷ 8 ∷ 1 ∷ 2 ∷ []) held_open) before ≡ Goes [] (At 1 (uint W16 258 ∷ []) frames (state 4))
it_goes_on = refl

pub so_over_the_window : step program (reads_window letter 1 (8 ∷ 1 ∷ 2 ∷ []) held_open) before ≡ Goes [] (At 1 (uint W16 258 ∷ []) frames (state 4))
so_over_the_window = refl

-- a view that ends there decides while more bytes may come
pub a_view_is_too_short : reads letter (7 ∷ 8 ∷ 9 ∷ []) held_open (record (reading 2) { views = (record { number = 5; start = 0; limit = 3 }) ∷ [] }) (Bytes 2) ≡ Shorts (5 ∷ [])
a_view_is_too_short = refl

-- a token
pub a_letter : reads letter (7 ∷ 65 ∷ []) held_open (reading 1) (Word 0) ≡ Got 0 1 (65 ∷ [])
a_letter = refl

pub no_byte_yet : reads letter (7 ∷ []) held_open (reading 1) (Word 0) ≡ Lacks 1
no_byte_yet = refl

pub no_letter : reads letter (7 ∷ []) ended (reading 1) (Word 0) ≡ NoWord
no_letter = refl
