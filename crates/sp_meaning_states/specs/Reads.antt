-- What is read at a place of an input, through the views that are open.
use Rattle.std.specs.Prelude.{ℕ, suc, ◌+◌, ◌-◌, ◌==◌, Bool, true, false, ◌||◌, List, [], ◌∷◌, Option, Some, None, length, take, drop, nat_lt, nat_le, min, if◌then◌else◌}
use Rattle.sp_base.specs.Input.{Close, held_open, ended}
use Rattle.sp_base.specs.declared.kinds.PKind.TheVariants.{Short}
use Rattle.sp_operators.specs.Parts.{begins_with}
use Rattle.sp_meaning_states.specs.States.{Source, Main, Given, View, Reading, State, error_at, Failed, Need, Result, ends}

-- What a part of a unit asks of its input: so many bytes, all up to a delimiter, all up to the end of the view, a token of a
-- set, whether data remain, or that a place is there.
pub data Ask : Type 0 where
  Bytes : ℕ → Ask
  Mark : List ℕ → Ask
  Rest : Ask
  Word : ℕ → Ask
  Data : Ask
  Reach : ℕ → Ask

-- What it gets: a number, how many bytes are taken, and the bytes; or that some lack, with the least place that is still needed; or
-- that the data are too short, with the numbers of the views that end there; or that no token is there.
pub data Read : Type 0 where
  Got : (token n : ℕ) (bs : List ℕ) → Read
  Lacks : ℕ → Read
  Shorts : List ℕ → Read
  NoWord : Read

-- what a set of tokens says of the bytes at a place
pub data Verdict : Type 0 where
  Grows : Verdict
  Match : (token n : ℕ) → Verdict
  NoToken : Verdict

abbrev pub is_ended : Close → Bool
is_ended held_open = false
is_ended ended = true

-- a view inside a view holds data of the outer one alone, and is ended also where the outer one is
abbrev pub data_end : ℕ → List View → ℕ
data_end len [] = len
data_end len (v ∷ vs) = min v.limit (data_end len vs)

abbrev pub is_over : Bool → ℕ → List View → Bool
is_over c len [] = c
is_over c len (v ∷ vs) = nat_le v.limit len || is_over c len vs

-- the numbers of the views that end at a place
abbrev pub overs_of : ℕ → List View → List ℕ
overs_of end [] = []
overs_of end (v ∷ vs) = if v.limit == end then v.number ∷ overs_of end vs else overs_of end vs

abbrev pub plus_one : Option ℕ → Option ℕ
plus_one (Some n) = Some (suc n)
plus_one None = None

-- where a delimiter, which isn't empty, stands first
abbrev pub place_in : List ℕ → List ℕ → Option ℕ
place_in d [] = None
place_in d (b ∷ bs) = if begins_with (b ∷ bs) d then Some 0 else plus_one (place_in d bs)

-- what a view shows: the data from the place on, their end, whether they end there, and the views that end there
pub record Seen : Type 0 where
  pub ahead : List ℕ
  pub stop : ℕ
  pub over : Bool
  pub overs : List ℕ

abbrev pub lacking : Bool → ℕ → List ℕ → Read
lacking true m overs = Shorts overs
lacking false m overs = Lacks m

abbrev pub cut_at : Option ℕ → ℕ → List ℕ → Read → Read
cut_at (Some k) w bs otherwise = Got 0 (k + w) (take k bs)
cut_at None w bs otherwise = otherwise

abbrev pub told_by : Verdict → List ℕ → Read → Read
told_by Grows bs otherwise = otherwise
told_by (Match t n) bs otherwise = Got t n (take n bs)
told_by NoToken bs otherwise = NoWord

module _ (verdict : ℕ → List ℕ → Bool → Verdict) where
  -- the answer to what is asked at a place, by what is seen there
  abbrev pub read_in : Seen → ℕ → Ask → Read
  read_in x at (Bytes n) = if nat_le n (length x.ahead) then Got 0 n (take n x.ahead) else lacking x.over at x.overs
  read_in x at (Mark d) = cut_at (place_in d x.ahead) (length d) x.ahead (lacking x.over at x.overs)
  read_in x at Rest = if x.over then Got 0 (length x.ahead) x.ahead else Lacks at
  read_in x at (Word set) = told_by (verdict set x.ahead x.over) x.ahead (lacking x.over at x.overs)
  read_in x at Data = if nat_lt at x.stop then Got 1 0 [] else if x.over then Got 0 0 [] else Lacks at
  read_in x at (Reach to) = if nat_le to x.stop then Got 0 0 [] else lacking x.over (min at (min to x.stop)) x.overs

-- what the views over a list of bytes show from a place on
abbrev pub seen_in : List ℕ → Bool → ℕ → List View → Seen
seen_in s c at vs =
    record { ahead = take (data_end (length s) vs - at) (drop at s); stop = data_end (length s) vs; over = is_over c (length s) vs; overs = overs_of (data_end (length s) vs) vs }

abbrev pub seen_from : List ℕ → Close → Source → ℕ → List View → Seen
seen_from s c Main at vs = seen_in s (is_ended c) at vs
seen_from s c (Given b) at vs = seen_in b true at vs

-- the reading function of a fiber whose own bytes are s
abbrev pub reads : (ℕ → List ℕ → Bool → Verdict) → List ℕ → Close → Reading → Ask → Read
reads verdict s c r a = read_in verdict (seen_from s c r.source r.place r.views) r.place a

-- the lesser of a place and a place to which the input is to move
abbrev pub least_with : Option ℕ → ℕ → ℕ
least_with (Some to) m = min to m
least_with None m = m

-- what a part makes of what it got; where no token is there, it says what then
abbrev pub on_read : Read → (ℕ → ℕ → List ℕ → State → Result) → (State → Result) → State → Result
on_read (Got t n bs) good otherwise st = good t n bs st
on_read (Lacks m) good otherwise st = ends (Need (least_with st.move m)) st
on_read (Shorts overs) good otherwise st = ends (Failed (record (error_at Short st) { overs = overs })) st
on_read NoWord good otherwise st = otherwise st
