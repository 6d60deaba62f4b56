-- What the definitions say of a few rows.
use Rattle.std.specs.Prelude.{◌≡◌, ℕ, List, [], ◌∷◌, None, refl}
use Rattle.sp_methods.specs.Kinds.{Kind, Bools, Unsigned, VectorOf}
use Rattle.sp_code.specs.declared.program.KindRow.TheVariants as row_is
use Rattle.sp_code.specs.declared.program.StackRow.{StackRow}
use Rattle.sp_code.specs.declared.program.Opened.TheVariants as opened_is
use Rattle.sp_code.specs.declared.program.RoundRow.TheVariants as round_is
use Rattle.sp_code.specs.Machine.{under}
use Rattle.sp_code.specs.Programs.{kinds_from, stack_at, stacks_from, opens_from, shape_of}
use Rattle.sp_code.specs.Shapes.{Shape, Opens, AView, ATry, OfEnding}

-- a Boolean, an unsigned number, a text, and a vector of unsigned numbers
abbrev kinds : List Kind
kinds = kinds_from [] (row_is.Bool ∷ row_is.Unsigned ∷ row_is.Text ∷ row_is.Vector 1 ∷ [])

abbrev stacks_row : ℕ → ℕ → StackRow
stacks_row top below = record { top = top; below = below }

-- two rows stand on the first one
abbrev stacks : List (List ℕ)
stacks = stacks_from [] (stacks_row 1 0 ∷ stacks_row 3 1 ∷ stacks_row 0 1 ∷ [])

shared : stacks ≡ (1 ∷ []) ∷ (3 ∷ 1 ∷ []) ∷ (0 ∷ 1 ∷ []) ∷ []
shared = refl

nothing : stack_at stacks 0 ≡ []
nothing = refl

third : stack_at stacks 3 ≡ 0 ∷ 1 ∷ []
third = refl

-- one that stands on itself has only its top, and there is none behind the last
of_itself : stacks_from [] (stacks_row 1 1 ∷ []) ≡ (1 ∷ []) ∷ []
of_itself = refl

none_there : stack_at stacks 4 ≡ []
none_there = refl

-- a view inside a `&try`
abbrev opens : List (List Opens)
opens = opens_from kinds stacks [] (record { opened = opened_is.Try 7 1; around = 0 } ∷ record { opened = opened_is.View; around = 1 } ∷ [])

inside : opens ≡ (ATry 7 (Unsigned ∷ []) ∷ []) ∷ (AView ∷ ATry 7 (Unsigned ∷ []) ∷ []) ∷ []
inside = refl

-- a shape by its rows
abbrev shape : Shape
shape = shape_of kinds stacks opens (record { unit = None; round = round_is.Ending; locals = 3; operands = 2; opens = 2 })

by_rows : shape ≡ record { unit = None; round = OfEnding; locals = Bools ∷ Unsigned ∷ []; operands = VectorOf Unsigned ∷ Unsigned ∷ []; opens = AView ∷ ATry 7 (Unsigned ∷ []) ∷ [] }
by_rows = refl

-- the second one goes under two more
under_two : under {A = ℕ} 2 (1 ∷ 2 ∷ 3 ∷ 4 ∷ 5 ∷ []) ≡ 1 ∷ 3 ∷ 4 ∷ 2 ∷ 5 ∷ []
under_two = refl

under_none : under {A = ℕ} 0 (1 ∷ 2 ∷ 3 ∷ []) ≡ 1 ∷ 2 ∷ 3 ∷ []
under_none = refl
