-- What is true of each step of sound code.
use Rattle.std.specs.Prelude.{ℕ, List, [], Option, slice_get}
use Rattle.sp_value.specs.Val.{Val}
use Rattle.sp_methods.specs.Kinds.{Kind}
use Rattle.sp_meaning_states.specs.States.{Reading, State, End}
use Rattle.sp_meaning_states.specs.Reads.{Ask, Read}
use Rattle.sp_code.specs.Machine.{Frame, Plain, Config, Next, Goes, Waits, Over, step}
use Rattle.sp_code.specs.Shapes.{Round, Shapes, MayEnd, Holds, Shaped, ShapedAt, IsSound}
use Rattle.sp_code.specs.Can.{Can}

-- all is over with an end that the outermost body may have, in a state in which values have their kinds
pub record ShapedOver (p : Plain) (shapes : Shapes) (how : End) (st : State) : Type 0 where
  pub units : List ℕ
  pub unit : Option ℕ
  pub round : Round
  pub locals : List Kind
  pub may : MayEnd units how round []
  pub holds : Holds p shapes units unit locals st

-- what a step leads to keeps to the shapes
abbrev pub IsKept : Plain → Shapes → Next → Type 0
IsKept p shapes (Goes es c) = Shaped p shapes c
IsKept p shapes (Waits m) = Unit {0}
IsKept p shapes (Over how st) = ShapedOver p shapes how st

-- From a configuration that keeps to the shapes each step of sound code leads to one that does, whatever is read.
abbrev pub StepsKeep : Type 0
StepsKeep =
    (p : Plain) (shapes : Shapes) (reads : Reading → Ask → Read) → IsSound p shapes →
    (c : Config) → Shaped p shapes c → IsKept p shapes (step p reads c)

-- There each instruction finds what it wants: operands of the right forms, locals, members, and entries of the tables.
abbrev pub InstructionsCan : Type 0
InstructionsCan =
    (p : Plain) (shapes : Shapes) → IsSound p shapes →
    (pc : ℕ) (vs : List Val) (fs : List Frame) (st : State) → ShapedAt p shapes pc vs fs st → Can p (slice_get p.code pc) vs st
