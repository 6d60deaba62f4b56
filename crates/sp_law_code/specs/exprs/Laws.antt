-- What is true of the code of an expression, wherever it stands.
use Rattle.std.specs.Prelude.{◌≡◌, ℕ, ◌+◌, List, [], ◌∷◌, ◌++◌, length, Some, slice_get}
use Rattle.sp_value.specs.Val.{Val}
use Rattle.sp_typed.specs.Exprs.{Expr}
use Rattle.sp_meaning_states.specs.States.{Reading, State, Result}
use Rattle.sp_meaning_states.specs.Reads.{Ask, Read}
use Rattle.sp_meaning.specs.Globals.{Globals}
use Rattle.sp_code_meaning.specs.Layouts.{Layout}
use Rattle.sp_code_meaning.specs.Exprs.{expr_means}
use Rattle.sp_code.specs.declared.instr.Instr.{Instr}
use Rattle.sp_code.specs.declared.instr.Instr.TheVariants as does
use Rattle.sp_code.specs.Machine.{Body, Plain, At}
use Rattle.sp_code.specs.Shapes.{Shape, Shapes, push, Shown, Keeps}
use Rattle.sp_code.specs.Runs.{Ways, leads, Runs}
use Rattle.sp_code_programs.specs.exprs.Marked.{Marked, IsWanted, HasAt, Shows}
use Rattle.sp_code_programs.specs.exprs.Sizes.{expr_size}
use Rattle.sp_code_programs.specs.exprs.Code.{kind_of, expr_code}
use Rattle.sp_law_code.specs.exprs.Parts.{AreCounted, Fits}

-- a call runs to what the function means
abbrev pub CallsRun : Plain → (Reading → Ask → Read) → (ℕ → List Val → State → Result) → Type 0
CallsRun p reads call =
    (f pc : ℕ) (e : Body) (ws vs : List Val) (x : Ways) (st : State) → slice_get p.code pc ≡ Some (does.Call f) → slice_get p.bodies f ≡ Some e → length ws ≡ e.takes →
    Runs p reads (At pc (ws ++ vs) x.frames st) (leads (pc + 1) vs x) (call f ws st)

-- each of these instructions, from an address on, keeps to the shapes
abbrev pub AllKeep : Plain → Shapes → ℕ → List Marked → Type 0
AllKeep p shapes pc [] = Unit {0}
AllKeep p shapes pc (m ∷ ms) = ((i : Instr) → IsWanted p.consts m.wanted i → Keeps p shapes i pc m.before) × AllKeep p shapes (pc + 1) ms

-- Where a program has the code of an expression, it runs from there to what the expression means, with its value on top of what was
-- there, if calls do so and have as many values as they take.
abbrev pub ExpressionsRun : Type 0
ExpressionsRun =
    (p : Plain) (reads : Reading → Ask → Read) (globals : Globals) (call : ℕ → List Val → State → Result) (layout : Layout) → CallsRun p reads call →
    (e : Expr) (s : Shape) (pc : ℕ) (vs : List Val) (x : Ways) (st : State) → AreCounted p e → HasAt p pc (expr_code globals layout s pc e) →
    Runs p reads (At pc vs x.frames st) (leads (pc + expr_size layout e) vs x) (expr_means globals call layout e st)

-- Where a program has the shapes of the code of an expression whose parts fit, and behind it the shape with its value on top, each
-- instruction of the code keeps to the shapes, and the code begins with the shape before it.
abbrev pub ExpressionsKeep : Type 0
ExpressionsKeep =
    (p : Plain) (shapes : Shapes) (globals : Globals) (layout : Layout) (e : Expr) (s : Shape) (pc : ℕ) → Fits p shapes globals layout s.locals s.unit e →
    Shows shapes.at pc (expr_code globals layout s pc e) → Shown p shapes (pc + expr_size layout e) (push (kind_of globals layout e) s) →
    AllKeep p shapes pc (expr_code globals layout s pc e) × Shown p shapes pc s
