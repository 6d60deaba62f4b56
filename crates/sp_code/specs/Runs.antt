-- Runs of the plain machine, and where the ends of a part lead.
use Rattle.std.specs.Prelude.{◌≡◌, ℕ, List, [], ◌∷◌, ◌++◌}
use Rattle.sp_events.specs.declared.event.What.{What}
use Rattle.sp_value.specs.Val.{Val}
use Rattle.sp_meaning_states.specs.States.{Reading, State, End, Gives, Fine, Broke, Continued, Need, Unfinished, Result, Ends}
use Rattle.sp_meaning_states.specs.Reads.{Ask, Read}
use Rattle.sp_code.specs.Machine.{Frame, Plain, Config, At, Ending, Goes, Waits, step, low_of}

-- the ways out of a statement: where a break and a continue lead, with these operands, and what is open
pub record Ways : Type 0 where
  pub out : ℕ
  pub again : ℕ
  pub operands : List Val
  pub frames : List Frame

-- where a run stands: at a configuration, or where it waits, with the frames round a part and the part's mark
pub data Spot : Type 0 where
  Now : Config → Spot
  Waiting : List Frame → ℕ → Spot

-- where each end of a part leads, which has these operands below it
abbrev pub leads : ℕ → List Val → Ways → End → State → Spot
leads at vs x (Gives v) st = Now (At at (v ∷ vs) x.frames st)
leads at vs x Fine st = Now (At at vs x.frames st)
leads at vs x Broke st = Now (At x.out x.operands x.frames st)
leads at vs x Continued st = Now (At x.again x.operands x.frames st)
leads at vs x (Need m) st = Waiting x.frames m
leads at vs x how st = Now (Ending how x.frames st)

module _ (p : Plain) (reads : Reading → Ask → Read) where
  -- from one configuration to another, telling these events
  pub data Comes : Config → List What → Config → Type 0 where
    here : {c : Config} → Comes c [] c
    next : {c d e : Config} {es fs : List What} → step p reads c ≡ Goes es d → Comes d fs e → Comes c (es ++ fs) e

  -- a run that comes to a wait; the least mark over its frames is that of the part under the frames round it
  pub record Halts (c : Config) (es : List What) (fs : List Frame) (m : ℕ) : Type 0 where
    pub pc : ℕ
    pub operands : List Val
    pub frames : List Frame
    pub state : State
    pub mark : ℕ
    pub comes : Comes c es (At pc operands frames state)
    pub waits : step p reads (At pc operands frames state) ≡ Waits mark
    pub low : low_of frames mark ≡ low_of fs m

  abbrev pub Reaches : Config → List What → Spot → Type 0
  Reaches c es (Now d) = Comes c es d
  Reaches c es (Waiting fs m) = Halts c es fs m

  -- the machine does from here what a part means
  abbrev pub Runs : Config → (End → State → Spot) → Result → Type 0
  Runs c to (Ends Unfinished es st) = Unit {0}
  Runs c to (Ends how es st) = Reaches c es (to how st)
