-- What the definitions say of a few kinds, shapes and instructions.
use Rattle.std.specs.Prelude.{◌≡◌, ◌<◌, ◌≤◌, ℕ, [], ◌∷◌, true, None, refl}
use Rattle.std.proofs.Common.{arith}
use Rattle.sp_value.specs.Val.{bool, void}
use Rattle.sp_methods.specs.Kinds.{Void, Bools, Unsigned, Text, VectorOf, MapOf}
use Rattle.sp_code.specs.declared.program.KindRow.TheVariants as row_is
use Rattle.sp_code.specs.declared.program.StackRow.{StackRow}
use Rattle.sp_code.specs.declared.program.RoundRow.TheVariants as round_is
use Rattle.sp_code.specs.declared.instr.Instr.TheVariants as does
use Rattle.sp_code.specs.Programs.{kinds_from}
use Rattle.sp_code.specs.Shapes.{Shape, OfUnit, body_shape, with_operands}
use Rattle.sp_code_programs.specs.exprs.Marked.{mark, constant}
use Rattle.sp_emit.specs.Kinds.{NameEarlier}
use Rattle.sp_emit.specs.Stacks.{StandEarlier}
use Rattle.sp_emit.specs.Numbered.{row_parts}
use Rattle.sp_emit.specs.Emitted.{redirected, popped, lowered, marked}

abbrev empty : Shape
empty = body_shape None OfUnit []

-- a row names earlier ones
table : kinds_from [] (row_is.Unsigned ∷ row_is.Vector 0 ∷ row_is.Map 0 1 ∷ []) ≡ Unsigned ∷ VectorOf Unsigned ∷ MapOf Unsigned (VectorOf Unsigned) ∷ []
table = refl

-- one that names itself is of void, and no table has it
of_itself : kinds_from [] (row_is.Vector 0 ∷ []) ≡ VectorOf Void ∷ []
of_itself = refl

not_earlier : NameEarlier 0 (row_is.Vector 0 ∷ []) → ⊥
not_earlier h = let first : 0 < 0 = h.0 in omega (arith, first)

-- a row of kinds stands on earlier ones
abbrev row_on : ℕ → ℕ → StackRow
row_on top below = record { top = top; below = below }

stand : StandEarlier 0 (row_on 4 0 ∷ row_on 7 1 ∷ row_on 5 1 ∷ [])
stand = (omega arith, (omega arith, (omega arith, tt)))

not_on_itself : StandEarlier 0 (row_on 4 1 ∷ []) → ⊥
not_on_itself h = let first : 1 ≤ 0 = h.0 in omega (arith, first)

-- locals and operands by their rows
by_rows : row_parts ((4 ∷ []) ∷ (7 ∷ 4 ∷ []) ∷ []) (record { unit = None; round = round_is.Unit; locals = 1; operands = 2; opens = 0 }) ≡ record { unit = None; round = round_is.Unit; locals = 4 ∷ []; operands = 7 ∷ 4 ∷ [] }
by_rows = refl

-- a jump whose end is known now, and an address behind the code
jump : redirected (mark empty (does.Jump 0) ∷ mark empty does.Turn ∷ []) 0 (does.Jump 2) ≡ mark empty (does.Jump 2) ∷ mark empty does.Turn ∷ []
jump = refl

behind : redirected (mark empty does.Turn ∷ []) 1 (does.Jump 2) ≡ mark empty does.Turn ∷ []
behind = refl

-- the top stands first
top_gone : popped (with_operands empty (Bools ∷ Text ∷ [])) ≡ with_operands empty (Text ∷ [])
top_gone = refl

lowest_left : lowered 1 (with_operands empty (Bools ∷ Text ∷ Unsigned ∷ [])) ≡ with_operands empty (Unsigned ∷ [])
lowest_left = refl

-- a constant is written as its value
value : marked (void ∷ bool true ∷ []) empty (does.Const 1) ≡ constant empty (bool true)
value = refl

other : marked (bool true ∷ []) empty (does.Load 0) ≡ mark empty (does.Load 0)
other = refl
