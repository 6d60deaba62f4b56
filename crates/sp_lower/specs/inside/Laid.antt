-- Bodies as they are laid out one behind another.
use Rattle.std.specs.Prelude.{◌≡◌, ◌<◌, ℕ, suc, List, [], ◌∷◌, ◌++◌, length}
use Rattle.std.specs.List.{AllByRecursion}
use Rattle.sp_value.specs.Val.{Val}
use Rattle.sp_methods.specs.Kinds.{Kind}
use Rattle.sp_typed.specs.Stmts.{Stmt}
use Rattle.sp_typed_units.specs.declared.declarations.Hook.{Hook}
use Rattle.sp_typed_units.specs.declared.declarations.Typed.{Typed}
use Rattle.sp_meaning_states.specs.Scopes as called_is
use Rattle.sp_meaning.specs.Globals.{Globals, globals_of}
use Rattle.sp_meaning.specs.Hooks.{is_foreach, told_count}
use Rattle.sp_code.specs.declared.program.BodyCode.{BodyCode}
use Rattle.sp_code.specs.declared.program.BodyOf.{BodyOf}
use Rattle.sp_code.specs.Machine.{Body}
use Rattle.sp_code.specs.Shapes.{Shape, body_shape}
use Rattle.sp_code.specs.Programs.{called_as, name_of, told_of, bodies_of, kind_at, kinds_at, round_of, body_kinds}
use Rattle.sp_emit.specs.Kinds.{Grows}
use Rattle.sp_emit.specs.Numbered.{RoundBelow}
use Rattle.sp_emit.specs.Emitted.{Emitted, TurnsTo}
use Rattle.sp_lower_expr.specs.declared.around.Around.{Around}
use Rattle.sp_lower_expr.specs.Around.{layout_in}
use Rattle.sp_lower_stmt.specs.declared.bodies.Frame.{Frame}
use Rattle.sp_code_programs.specs.programs.Routines.{Routine, entry_at, hook_routine}
use Rattle.sp_code_programs.specs.programs.Programs.{entries_from, kinds_of_locals, routines_code}
use Rattle.sp_meaning.specs.Names.{hook_name}
use Rattle.sp_code_programs.specs.programs.Currents.{current_kind}
use Rattle.sp_code_programs.specs.programs.Whole.{all_routines}
use Rattle.sp_lower.specs.declared.bodies.Bodies.{Bodies}

-- the entry of a body, and the same at an address
abbrev pub entry_of : BodyCode → Body
entry_of b = record { start = b.start; called = called_as b.of; takes = b.takes; fresh = b.fresh; name = name_of b.of; told = told_of b.of }

abbrev pub placed_at : ℕ → Body → Body
placed_at at b = record b { start = at }

-- what a frame names is among so many kinds
pub record FrameStands (n : ℕ) (frame : Frame) : Type 0 where
  pub round : RoundBelow n frame.round
  pub locals : AllByRecursion (λ k. k < n) frame.locals.items
  pub kind : frame.kind < n

-- A frame by the shape with which its body begins, the value with which it ends, and the kind of that; no code was emitted.
pub record GivesFrame (before after : Emitted) (s : Shape) (v : Val) (k : Kind) (frame : Frame) : Type 0 where
  pub same : TurnsTo before after before.now
  pub stands : FrameStands (length after.kinds) frame
  pub shape : body_shape frame.unit (round_of after.kinds frame.round) (kinds_at after.kinds frame.locals.items) ≡ s
  pub ending : frame.ending ≡ v
  pub result : kind_at after.kinds frame.kind ≡ k

-- what the table says of a body of a hook of this name
pub record IsBodyOf (name : List ℕ) (x : Hook) (of : BodyOf) : Type 0 where
  pub called : called_as of ≡ called_is.Called.Hook (is_foreach x.of)
  pub named : name_of of ≡ name
  pub told : told_of of ≡ told_count x

-- A function or a body of a hook is this one, by what stands round it, its frame, its entry and its statement.
pub record IsRoutine (x : Around) (ks : List Kind) (frame : Frame) (e : BodyCode) (s : Stmt) (r : Routine) : Type 0 where
  pub entry : (at : ℕ) → placed_at at (entry_of e) ≡ entry_at at r
  pub layout : layout_in x ≡ r.layout
  pub shape : body_shape frame.unit (round_of ks frame.round) (kinds_at ks frame.locals.items) ≡ r.shape
  pub body : s ≡ r.body
  pub ending : frame.ending ≡ r.ending
  pub result : kind_at ks frame.kind ≡ r.result

-- Bodies were laid out behind others. The kinds of their locals are these in each table to which the kinds may grow.
pub record Lays (globals : Globals) (before : Emitted) (a : Bodies) (after : Emitted) (b : Bodies) (rs : List Routine) : Type 0 where
  pub marks : after.marks ≡ before.marks ++ routines_code globals (length before.marks) rs
  pub kinds : Grows before.kinds after.kinds
  pub entries : bodies_of b.entries.items ≡ bodies_of a.entries.items ++ entries_from (length before.marks) rs
  pub locals : (ks : List Kind) → Grows after.kinds ks → body_kinds ks b.locals.items ≡ body_kinds ks a.locals.items ++ kinds_of_locals rs

-- all functions and bodies of hooks of a list
pub record LaysAll (list : Typed) (before after : Emitted) (b : Bodies) : Type 0 where
  pub marks : after.marks ≡ before.marks ++ routines_code (globals_of list) (length before.marks) (all_routines list)
  pub kinds : Grows before.kinds after.kinds
  pub entries : bodies_of b.entries.items ≡ entries_from (length before.marks) (all_routines list)
  pub locals : (ks : List Kind) → Grows after.kinds ks → body_kinds ks b.locals.items ≡ kinds_of_locals (all_routines list)

-- the bodies of hooks of a list from a number on, each with the name of its hook and the kind of its `$$`
abbrev pub named_routines : Typed → ℕ → List Hook → List Routine
named_routines list h [] = []
named_routines list h (x ∷ xs) =
    hook_routine (globals_of list) (hook_name list.units x.of) (current_kind (globals_of list).ranges list.units h x) x ∷ named_routines list (suc h) xs
