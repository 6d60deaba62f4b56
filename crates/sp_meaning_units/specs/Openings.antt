-- What a field opens while it is parsed: views of its input, other bytes, or another place. What each becomes of an end that leaves it is in
-- `Scopes`.
use Rattle.std.specs.Prelude.{ℕ, ◌+◌, ◌^◌, pos, Bool, ◌||◌, List, [], ◌∷◌, length, Option, Some, None, nat_lt, nat_le, if◌then◌else◌}
use Rattle.sp_base.specs.declared.kinds.PKind.{PKind}
use Rattle.sp_base.specs.declared.kinds.PKind.TheVariants.{BadSize, InputBefore}
use Rattle.sp_value.specs.Val.{Val, uint, int, bytes, place}
use Rattle.sp_meaning_states.specs.States.{Given, View, State, Fine, Result, ends, done, fails, instance_of, go}
use Rattle.sp_meaning_states.specs.Scopes.{Scope, InSize, InMax, InFrom, InAt, inside}
use Rattle.sp_meaning_states.specs.Reads.{Ask, Reach, Read, on_read}
use Rattle.sp_meaning_states.specs.States as running

-- `&size`, `&max-size`, `&parse-from` and `&parse-at`
pub data Opening : Type 0 where
  BySize ByMax ByBytes ByPlace : Opening

-- what is opened, and the state behind it; or the error with which the value is refused
pub data Opened : Type 0 where
  Opens : Scope → State → Opened
  Refuses : PKind → Opened

-- a size or a count, unless it is negative
abbrev pub count_of : Val → Option ℕ
count_of (uint w n) = Some n
count_of (int w (pos n)) = Some n
count_of v = None

-- so many bytes from the place on, of which none stands past 2^63
abbrev pub within : Option ℕ → ℕ → Option ℕ
within (Some n) at = if nat_le (at + n) (2 ^ 63) then Some n else None
within None at = None

-- one more view, which is the innermost one from the place on
abbrev pub viewed : (limit : ℕ) → State → State
viewed limit st =
    let view : View = record { number = st.stamps; start = st.now.place; limit = limit } in
    record st { stamps = st.stamps + 1; now = record st.now { views = view ∷ st.now.views } }

-- these bytes are the input, from place 0 on
abbrev pub given : List ℕ → State → State
given b st =
    record st { outer = st.now ∷ st.outer; level = st.level + 1; move = None; now = record { source = Given b; place = 0; high = 0; count = 0; views = [] } }

-- the input is to move to a place
abbrev pub aimed : ℕ → State → State
aimed to st = record st { level = st.level + 1; move = Some to }

-- where the innermost view begins
abbrev pub view_start : List View → ℕ
view_start [] = 0
view_start (v ∷ vs) = v.start

-- a place before the start of the unit at hand, or of the innermost view
abbrev pub is_before : ℕ → State → Bool
is_before to st = nat_lt to (instance_of st st.self).start || nat_lt to (view_start st.now.views)

abbrev pub by_size : Option ℕ → State → Opened
by_size (Some n) st = Opens (InSize st.now.views (st.now.place + n)) (viewed (st.now.place + n) st)
by_size None st = Refuses BadSize

-- one byte more than may be taken
abbrev pub by_max : Option ℕ → State → Opened
by_max (Some n) st = Opens (InMax st.now.views st.stamps st.now.place n) (viewed (st.now.place + n + 1) st)
by_max None st = Refuses BadSize

abbrev pub by_bytes : List ℕ → State → Opened
by_bytes b st = if nat_le (length b) (2 ^ 62) then Opens (InFrom st.level st.now.place) (given b st) else Refuses BadSize

abbrev pub by_place : ℕ → State → Opened
by_place to st = if is_before to st then Refuses InputBefore else Opens (InAt st.level st.now.place) (aimed to st)

-- what an opening makes of its value; a value of another kind doesn't come
abbrev pub open_by : Opening → Val → State → Opened
open_by BySize v st = by_size (within (count_of v) st.now.place) st
open_by ByMax v st = by_max (within (count_of v) st.now.place) st
open_by ByBytes (bytes b) st = by_bytes b st
open_by ByPlace (place to) st = by_place to st
open_by o v st = Refuses BadSize

abbrev pub with_opened : Opened → (State → Result) → State → Result
with_opened (Opens scope opened) go st = inside scope (go opened)
with_opened (Refuses kind) go st = fails kind st

-- a part inside what is opened by a value
abbrev pub inside_opened : Opening → Val → (State → Result) → State → Result
inside_opened o v go st = with_opened (open_by o v st) go st

-- the input moves to where it is to move, once that place is there
abbrev pub arrived : ℕ → State → State
arrived to st = record (go to st) { move = None }

module _ (reads : running.Reading → Ask → Read) where
  abbrev pub settle : Option ℕ → State → Result
  settle None st = ends Fine st
  settle (Some to) st = on_read (reads st.now (Reach to)) (λ t n bs st. ends Fine (arrived to st)) (λ st. ends Fine (arrived to st)) st

  abbrev pub settled : (State → Result) → State → Result
  settled go st = done go (settle st.move st)
