-- Units one behind another, starters of them, and the tables of units.
use Rattle.std.specs.Prelude.{ℕ, ◌+◌, suc, List, [], ◌∷◌, ◌++◌, length}
use Rattle.sp_methods.specs.Kinds.{Kind}
use Rattle.sp_typed_units.specs.declared.declarations.Member.{Member}
use Rattle.sp_typed_units.specs.declared.declarations.Typed.{Typed}
use Rattle.sp_typed_units.specs.declared.declarations.Unit.{Unit as TypedUnit}
use Rattle.sp_meaning_states.specs.Types.{kind_of_type}
use Rattle.sp_code.specs.Machine.{UnitCode}
use Rattle.sp_code.specs.Shapes.{UnitKinds}
use Rattle.sp_code_programs.specs.exprs.Marked.{Marked}
use Rattle.sp_code_programs.specs.units.Units.{slot_kinds, unit_code, ending_code, failing_code, starter_code, unit_entry}
use Rattle.sp_code_programs.specs.programs.Routines.{parameter_kinds}

module _ (list : Typed) where
  -- Where the parts of the unit u end, which begin at an address, and what runs behind them begins; where its failing begins; and where
  -- all its code ends.
  abbrev pub ending_at : ℕ → ℕ → TypedUnit → ℕ
  ending_at at u x = at + length (unit_code list at u x)

  abbrev pub failing_at : ℕ → ℕ → TypedUnit → ℕ
  failing_at at u x = ending_at at u x + length (ending_code list u)

  abbrev pub unit_end : ℕ → ℕ → TypedUnit → ℕ
  unit_end at u x = failing_at at u x + length (failing_code list u)

  -- all its code
  abbrev pub whole_unit_code : ℕ → ℕ → TypedUnit → List Marked
  whole_unit_code at u x = unit_code list at u x ++ (ending_code list u ++ failing_code list u)

  -- units one behind another, from an address and a number on: their code, where it ends, and their entries
  abbrev pub units_code : ℕ → ℕ → List TypedUnit → List Marked
  units_code at u [] = []
  units_code at u (x ∷ xs) = whole_unit_code at u x ++ units_code (unit_end at u x) (suc u) xs

  abbrev pub units_end : ℕ → ℕ → List TypedUnit → ℕ
  units_end at u [] = at
  units_end at u (x ∷ xs) = units_end (unit_end at u x) (suc u) xs

  abbrev pub unit_entries : ℕ → ℕ → List TypedUnit → List UnitCode
  unit_entries at u [] = []
  unit_entries at u (x ∷ xs) = unit_entry at (ending_at at u x) (failing_at at u x) x ∷ unit_entries (unit_end at u x) (suc u) xs

  -- starters of units from a number on
  abbrev pub starters_code : ℕ → List TypedUnit → List Marked
  starters_code u [] = []
  starters_code u (x ∷ xs) = starter_code list u x ++ starters_code (suc u) xs

-- the kinds of members, where bitfields have so many ranges
abbrev pub member_kinds : List ℕ → List Member → List Kind
member_kinds ranges [] = []
member_kinds ranges (m ∷ ms) = kind_of_type ranges m.ty ∷ member_kinds ranges ms

-- the kinds of a unit: of its parameters, the first one first, of its members, and of the locals of its own code
abbrev pub kinds_of_unit : List ℕ → TypedUnit → UnitKinds
kinds_of_unit ranges x = record { parameters = parameter_kinds ranges x.parameters; members = member_kinds ranges x.members; locals = slot_kinds }

abbrev pub kinds_of_units : List ℕ → List TypedUnit → List UnitKinds
kinds_of_units ranges [] = []
kinds_of_units ranges (x ∷ xs) = kinds_of_unit ranges x ∷ kinds_of_units ranges xs
