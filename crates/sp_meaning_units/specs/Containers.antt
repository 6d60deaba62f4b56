-- What containers give: which elements they read, and where they end. How an element is read is asked of `Fields`.
use Rattle.std.specs.Prelude.{ℕ, zero, suc, Bool, true, false, List, [], ◌∷◌, ◌++◌, Option, Some, None, nat_lt, if◌then◌else◌}
use Rattle.sp_base.specs.declared.kinds.PKind.TheVariants.{BadSize}
use Rattle.sp_words.specs.declared.words.AttributeName.TheVariants as name_is
use Rattle.sp_value.specs.Val.{Val, bool, vector, vals_of}
use Rattle.sp_typed.specs.Exprs.{Expr}
use Rattle.sp_typed_units.specs.declared.attributes.Attribute.{Attribute}
use Rattle.sp_meaning_states.specs.States.{Reading, State, Gives, Result, ends, got, done, chosen, truth_of, fails, turn}
use Rattle.sp_meaning_states.specs.States as running
use Rattle.sp_meaning_states.specs.Reads.{Ask, Data, Read, on_read}
use Rattle.sp_meaning_units.specs.Attributes.{has, value_of}

-- Where a container ends: behind so many elements; at the end of its view; before an element for which an expression holds, or for which
-- it doesn't; behind one for which it holds; or by look-ahead.
pub data Ending : Type 0 where
  Counted : Expr → Ending
  AtEnd : Ending
  Until While UntilIncluding : Expr → Ending
  Ahead : Ending

abbrev pub ended_by : (Expr → Ending) → Option Expr → Ending → Ending
ended_by how (Some e) otherwise = how e
ended_by how None otherwise = otherwise

-- by its count, where one is written, and else by its attributes
abbrev pub ending_of : Option Expr → List Attribute → Ending
ending_of count attributes =
    ended_by Counted count
    (ended_by Until (value_of name_is.Until attributes)
    (ended_by While (value_of name_is.While attributes)
    (ended_by UntilIncluding (value_of name_is.UntilIncluding attributes)
    (if has name_is.Eod attributes then AtEnd else if has name_is.Size attributes then AtEnd else Ahead))))

-- What is asked round the elements of a container: whether one more comes behind so many; how it is read; the test in front of its adding;
-- what the bodies of `foreach` do; and the test behind it. Each of the last three lets the container go on, or stops it.
pub record Loop : Type 0 where
  pub goes_on : ℕ → State → Result
  pub element : State → Result
  pub in_front : Val → (go stop : State → Result) → State → Result
  pub bodies : (value offset : Val) → (go stop : State → Result) → State → Result
  pub behind : Val → (go stop : State → Result) → State → Result
  pub keeps : Bool

-- an element is added, unless the container keeps none
abbrev pub added : (keeps : Bool) → List Val → Val → List Val
added true vs v = vs ++ v ∷ []
added false vs v = vs

abbrev pub gives_vector : List Val → State → Result
gives_vector vs st = ends (Gives (vector (vals_of vs))) st

-- a test
abbrev pub if_holds : (State → Result) → (there otherwise : State → Result) → State → Result
if_holds test there otherwise st = got (λ b. chosen (truth_of b) there otherwise) (test st)

abbrev pub always : State → Result
always st = ends (Gives (bool true)) st

-- whether data remain in the view
abbrev pub data_remain : (Reading → Ask → Read) → State → Result
data_remain reads st = on_read (reads st.now Data) (λ t n bs. ends (Gives (bool (nat_lt 0 t)))) (ends (Gives (bool false))) st

-- a count, unless it is negative
abbrev pub with_count : Option ℕ → (ℕ → State → Result) → State → Result
with_count (Some n) go st = go n st
with_count None go st = fails BadSize st

-- Elements behind k, of which these are kept. Each counts a turn. At most n more are read.
module _ (turns : ℕ) (offset : State → Val) (loop : Loop) where
  abbrev pub elements : (n k : ℕ) → List Val → State → Result
  elements zero k vs st = ends running.Unfinished st
  elements (suc n) k vs st =
      if_holds (loop.goes_on k)
      (λ st. done (λ at. got (λ v.
      loop.in_front v
      (loop.bodies v (offset at)
      (loop.behind v (elements n (suc k) (added loop.keeps vs v)) (gives_vector (added loop.keeps vs v)))
      (gives_vector vs))
      (gives_vector vs))
      (loop.element at)) (turn turns st))
      (gives_vector vs) st
