-- The numbers of instructions: each is the place of its word in the list of all.
use Rattle.std.specs.Prelude.{ℕ, ◌+◌}
use Rattle.sp_code.specs.declared.instr.Instr.{Instr}
use Rattle.sp_code.specs.declared.instr.Instr.TheVariants.{Const, Load, Store, Param, SelfUnit, GetField, HasField, SetField, Unary, Binary, Cast, MakeTuple, MakeVector, MakeSet, MakeMap, Index, SetIndex, Size, Lib, AddKey, DeleteKey, Pop, Dup, Under, Jump, JumpNot, Call, Return, Turn, EachStart, EachNext, Print, Assert, Throw, Fail, EnterUnit, LeaveUnit, Hook, Offset, ReadInt}

-- where the groups begin: values, flow, units, readings, and what came later
abbrev pub flow : ℕ
flow = 23

abbrev pub units : ℕ
units = flow + 11

abbrev pub readings : ℕ
readings = units + 12

abbrev pub later : ℕ
later = readings + 30

abbrev pub instr_number : Instr → ℕ
instr_number (Const c) = 0
instr_number (Load l) = 1
instr_number (Store l) = 2
instr_number (Param n) = 3
instr_number SelfUnit = 4
instr_number (GetField m) = 5
instr_number (HasField m) = 6
instr_number (SetField m) = 7
instr_number (Unary o) = 8
instr_number (Binary o) = 9
instr_number (Cast t) = 10
instr_number (MakeTuple n) = 11
instr_number (MakeVector n) = 12
instr_number (MakeSet n) = 13
instr_number (MakeMap n) = 14
instr_number Index = 15
instr_number SetIndex = 16
instr_number Size = 17
instr_number (Lib m) = 18
instr_number AddKey = 19
instr_number DeleteKey = 20
instr_number Pop = 21
instr_number Dup = 22
instr_number (Under n) = later
instr_number (Jump to) = flow
instr_number (JumpNot to) = flow + 1
instr_number (Call f) = flow + 2
instr_number Return = flow + 3
instr_number Turn = flow + 4
instr_number EachStart = flow + 5
instr_number (EachNext to) = flow + 6
instr_number (Print n) = flow + 7
instr_number Assert = flow + 8
instr_number Throw = flow + 9
instr_number (Fail kind) = flow + 10
instr_number (EnterUnit u) = units
instr_number LeaveUnit = units + 1
instr_number (Hook h) = units + 2
instr_number Offset = units + 3
instr_number (ReadInt form) = readings
