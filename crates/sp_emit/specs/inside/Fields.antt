-- The fields of an emitter, as what it has emitted.
use Rattle.std.specs.Prelude.{ℕ, List, [], ◌∷◌, length}
use Rattle.std.specs.List.{AllByRecursion}
use Rattle.sp_value.specs.Val.{Val}
use Rattle.sp_methods.specs.Kinds.{Kind}
use Rattle.sp_code.specs.declared.instr.Instr.{Instr}
use Rattle.sp_code.specs.declared.program.ShapeRow.{ShapeRow}
use Rattle.sp_code_programs.specs.exprs.Marked.{Marked}
use Rattle.sp_emit.specs.declared.emitter.Step.{Step}
use Rattle.sp_emit.specs.declared.emitter.Emitter.TheInside.{Inside}
use Rattle.sp_emit.specs.Numbered.{Numbered, row_parts, shape_in, HasRows, AreBelow}
use Rattle.sp_emit.specs.Emitted.{Emitted, marked, ConstantBelow}

-- the instruction of a step
abbrev pub step_instr : Step → Instr
step_instr x = x.instr

-- the shape before it
abbrev pub step_before : Step → ShapeRow
step_before x = x.before

-- a step as code to be, among these kinds, rows and constants
abbrev pub step_mark : List Kind → List (List ℕ) → List Val → Step → Marked
step_mark ks ss vs x = marked vs (shape_in ks (row_parts ss x.before)) x.instr

-- steps as code to be
abbrev pub marks_in : List Kind → List (List ℕ) → List Val → List Step → List Marked
marks_in ks ss vs [] = []
marks_in ks ss vs (x ∷ xs) = step_mark ks ss vs x ∷ marks_in ks ss vs xs

-- what was emitted, by the kinds, the constants, the steps, the rows and the shape
abbrev pub emitted_of : List Kind → List Val → List Step → Numbered → Emitted
emitted_of ks vs xs m = record { marks = marks_in ks m.stacks vs xs; now = shape_in ks m.shape; kinds = ks }

-- what an emitter has emitted
abbrev pub emitted_in : Inside → Emitted
emitted_in e = emitted_of e.kinds e.consts.items e.steps.items e.here

-- what a step names is there
pub record IsStep (kinds : ℕ) (ss : List (List ℕ)) (consts : ℕ) (x : Step) : Type 0 where
  pub rows : HasRows (length ss) x.before
  pub before : AreBelow kinds (row_parts ss x.before)
  pub instr : ConstantBelow consts x.instr

-- what the steps and the shape name is there
pub record StandsOn (ks : List Kind) (vs : List Val) (xs : List Step) (m : Numbered) : Type 0 where
  pub steps : AllByRecursion (IsStep (length ks) m.stacks (length vs)) xs
  pub here : AreBelow (length ks) m.shape

-- what holds of each emitter
abbrev pub IsEmitter : Inside → Type 0
IsEmitter e = StandsOn e.kinds e.consts.items e.steps.items e.here
