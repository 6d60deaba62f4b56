-- Programs: bodies one behind another, their tables, and the code of units behind them.
use Rattle.std.specs.Prelude.{◌≡◌, ℕ, ◌+◌, List, [], ◌∷◌, ◌++◌}
use Rattle.sp_value.specs.Val.{Val}
use Rattle.sp_methods.specs.Kinds.{Kind}
use Rattle.sp_typed_units.specs.declared.declarations.Typed.{Typed}
use Rattle.sp_meaning.specs.Globals.{Globals, globals_of}
use Rattle.sp_code.specs.declared.instr.Instr.{Instr}
use Rattle.sp_code.specs.Machine.{Body, Plain}
use Rattle.sp_code.specs.Shapes.{Shape, BodyKinds, Shapes}
use Rattle.sp_code_programs.specs.exprs.Marked.{Marked, IsWanted}
use Rattle.sp_code_programs.specs.programs.Routines.{Routine, routine_size, entry_at, local_kinds, routine_code, routines_of}

-- how many instructions bodies have
abbrev pub routines_size : List Routine → ℕ
routines_size [] = 0
routines_size (r ∷ rs) = routine_size r + routines_size rs

-- their entries, where their code stands one behind another from an address on
abbrev pub entries_from : ℕ → List Routine → List Body
entries_from at [] = []
entries_from at (r ∷ rs) = entry_at at r ∷ entries_from (at + routine_size r) rs

-- the kinds of the locals of each
abbrev pub kinds_of_locals : List Routine → List BodyKinds
kinds_of_locals [] = []
kinds_of_locals (r ∷ rs) = local_kinds r ∷ kinds_of_locals rs

-- their code
abbrev pub routines_code : Globals → ℕ → List Routine → List Marked
routines_code globals at [] = []
routines_code globals at (r ∷ rs) = routine_code globals at r ++ routines_code globals (at + routine_size r) rs

-- where the code of a list's bodies ends, which begins at 0
abbrev pub bodies_end : List (List ℕ) → List Kind → Typed → ℕ
bodies_end names currents list = routines_size (routines_of names currents list)

-- The code of a program: that of all bodies, and what stands behind it.
abbrev pub program_code : List (List ℕ) → List Kind → Typed → List Marked → List Marked
program_code names currents list rest = routines_code (globals_of list) 0 (routines_of names currents list) ++ rest

-- instructions, each of which is the one that is wanted
abbrev pub AreWanted : List Val → List Marked → List Instr → Type 0
AreWanted consts [] [] = Unit {0}
AreWanted consts (m ∷ ms) (i ∷ is) = IsWanted consts m.wanted i × AreWanted consts ms is
AreWanted consts ms is = ⊥

-- the shapes before each
abbrev pub shapes_before : List Marked → List Shape
shapes_before [] = []
shapes_before (m ∷ ms) = m.before ∷ shapes_before ms

-- A program and its shapes are those of a list of modules, whose hooks have these names, where `$$` is of these kinds in the bodies of
-- hooks, by their numbers. Behind the code of the bodies stands other code, as that of units.
pub record IsLaid (p : Plain) (shapes : Shapes) (hook_names : List (List ℕ)) (currents : List Kind) (list : Typed) (rest : List Marked) : Type 0 where
  pub bodies : p.bodies ≡ entries_from 0 (routines_of hook_names currents list)
  pub locals : shapes.bodies ≡ kinds_of_locals (routines_of hook_names currents list)
  pub code : AreWanted p.consts (program_code hook_names currents list rest) p.code
  pub before : shapes.at ≡ shapes_before (program_code hook_names currents list rest)
