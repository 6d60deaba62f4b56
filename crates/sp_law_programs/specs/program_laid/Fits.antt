-- What the bodies of a list of modules ask of the tables of a program.
use Rattle.std.specs.Prelude.{◌≡◌, ℕ, false, List, Some, slice_get}
use Rattle.sp_methods.specs.Kinds.{Kind}
use Rattle.sp_typed.specs.Stmts.{Stmt}
use Rattle.sp_typed_units.specs.declared.declarations.Function.{Function}
use Rattle.sp_typed_units.specs.declared.declarations.Hook.{Hook}
use Rattle.sp_typed_units.specs.declared.declarations.Typed.{Typed}
use Rattle.sp_meaning.specs.Globals.{Globals, globals_of}
use Rattle.sp_code_meaning.specs.Layouts.{Layout}
use Rattle.sp_code_meaning.specs.Calls.{function_layout, hook_layout}
use Rattle.sp_code.specs.Machine.{Plain}
use Rattle.sp_code.specs.Shapes.{Shape, Shapes}
use Rattle.sp_code_programs.specs.exprs.Code.{kind_at}
use Rattle.sp_code_programs.specs.programs.Routines.{function_shape, hook_shape}
use Rattle.sp_law_code.specs.bodies.Fits.{StmtFits}

module _ (p : Plain) (shapes : Shapes) (globals : Globals) where
  -- the statement of a body fits, before whose first instruction this is the shape; it stands in no loop
  abbrev pub BodyFits : Layout → Shape → Stmt → Type 0
  BodyFits layout s b = StmtFits p shapes globals layout s.locals s.unit s.round false b

  -- a function
  abbrev pub FunctionFits : Function → Type 0
  FunctionFits x = BodyFits (function_layout x) (function_shape globals x) x.body

  -- a body of a hook, in which `$$` is of this kind
  abbrev pub HookFits : Kind → Hook → Type 0
  HookFits current x = BodyFits (hook_layout x) (hook_shape globals current x) x.body

-- All bodies fit, where `$$` is of these kinds in the bodies of hooks, by their numbers.
pub record BodiesFit (p : Plain) (shapes : Shapes) (currents : List Kind) (list : Typed) : Type 0 where
  pub functions : (f : ℕ) (x : Function) → slice_get list.functions f ≡ Some x → FunctionFits p shapes (globals_of list) x
  pub hooks : (h : ℕ) (x : Hook) → slice_get list.hooks h ≡ Some x → HookFits p shapes (globals_of list) (kind_at currents h) x
