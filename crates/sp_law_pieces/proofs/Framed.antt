-- Parts that don't look at the locals of a unit's own code do the same in any frame: leaves, views, places.
use Rattle.std.proofs.Common.{◌≡◌, ℕ, ◌+◌, ◌-◌, Bool, true, false, List, [], ◌∷◌, length, ◌^◌, Option, Some, None, refl}
use Rattle.std.specs.Prelude.{nat_lt, nat_le, ◌==◌, if◌then◌else◌}
use Rattle.sp_base.specs.declared.kinds.PKind.{PKind}
use Rattle.sp_base.specs.declared.kinds.PKind.TheVariants.{NoMatch, BadSize, InputBefore, Turns}
use Rattle.sp_value.specs.Val.{Val, void, bool, uint, int, bytes, str, enum, bits, tuple, vector, set, map, unit, place}
use Rattle.sp_meaning_states.specs.States.{Reading, View, State, End, Gives, Fine, Failed, Broke, Continued, Returned, Stopped, Backs, Rejected, Need, Unfinished, Result, ends, fails, turn, one_more, go}
use Rattle.sp_meaning_states.specs.Scopes.{Scope, InSize, InMax, InFrom, InAt, InTry, left, put_views, put_place, leave_from, leave_at, popped, unset_member}
use Rattle.sp_meaning_states.specs.Reads.{Ask, Read, Got, Lacks, Shorts, NoWord, Bytes, Data, on_read}
use Rattle.sp_meaning.specs.Integers.{integer_means}
use Rattle.sp_meaning_units.specs.Openings.{Opening, BySize, ByMax, ByBytes, ByPlace, Opened, Opens, Refuses, count_of, within, given, aimed, is_before, by_size, by_max, open_by}
use Rattle.sp_meaning_units.specs.Leaves.{taken_as, counted_bytes, sized_bytes}
use Rattle.sp_meaning_units.specs.Containers.{data_remain}
use Rattle.sp_law_meaning.specs.Laws.{Agree}
use Rattle.sp_law_meaning.proofs.Agree.{here, at_once}
use Rattle.sp_law_meaning.proofs.Framed.{framed, Framed, Alike, alike}

module _ (ws : List Val) where
  pub fails_same : (kind : PKind) → Alike ws (fails kind) (fails kind)
  fails_same kind = alike ws (fails kind) (fails kind) (λ st. here refl)

  -- what is made of what is read
  pub read_same : (x : Read) (good on : ℕ → ℕ → List ℕ → State → Result) (otherwise other : State → Result) → ((t n : ℕ) (bs : List ℕ) → Alike ws (good t n bs) (on t n bs)) → Alike ws otherwise other
      → Alike ws (on_read x good otherwise) (on_read x on other)
  read_same (Got t n bs) good on otherwise other h k = h t n bs
  read_same (Lacks m) good on otherwise other h k = alike ws (on_read (Lacks m) good otherwise) (on_read (Lacks m) on other) (λ st. here tt)
  read_same (Shorts overs) good on otherwise other h k = alike ws (on_read (Shorts overs) good otherwise) (on_read (Shorts overs) on other) (λ st. here refl)
  read_same NoWord good on otherwise other h k = k

  module _ (reads : Reading → Ask → Read) where
    pub taken_same : (value : List ℕ → Val) (ask : Ask) → Alike ws (taken_as reads value ask) (taken_as reads value ask)
    taken_same value ask = alike ws (taken_as reads value ask) (taken_as reads value ask) (λ st. by_read (reads st.now ask) st)
      where
        by_read : (x : Read) (st : State)
            → Agree (Framed ws) (on_read x (λ t n bs st. ends (Gives (value bs)) (go (st.now.place + n) st)) (fails NoMatch) st)
            (on_read x (λ t n bs st. ends (Gives (value bs)) (go (st.now.place + n) st)) (fails NoMatch) (framed ws st))
        by_read (Got t n bs) st = here refl
        by_read (Lacks m) st = here tt
        by_read (Shorts overs) st = here refl
        by_read NoWord st = here refl

    pub integer_same : (size : ℕ) (little signed : Bool) → Alike ws (integer_means reads size little signed) (integer_means reads size little signed)
    integer_same size little signed = alike ws (integer_means reads size little signed) (integer_means reads size little signed) (λ st. read_same (reads st.now (Bytes size)) _ _ _ _ (λ t n bs. alike ws _ _ (λ st. here refl)) (fails_same NoMatch) st (framed ws st) refl)

    pub counted_same : (o : Option ℕ) → Alike ws (counted_bytes reads o) (counted_bytes reads o)
    counted_same (Some n) = taken_same bytes (Bytes n)
    counted_same None = fails_same BadSize

    pub sized_same : (v : Val) → Alike ws (sized_bytes reads v) (sized_bytes reads v)
    sized_same v = alike ws (sized_bytes reads v) (sized_bytes reads v) (λ st. counted_same (within (count_of v) st.now.place) st (framed ws st) refl)

    pub data_same : Alike ws (data_remain reads) (data_remain reads)
    data_same = alike ws (data_remain reads) (data_remain reads) (λ st. read_same (reads st.now Data) _ _ _ _ (λ t n bs. at_once (Framed ws) (Gives (bool (nat_lt 0 t)))) (at_once (Framed ws) (Gives (bool false))) st (framed ws st) refl)

  pub turn_same : (limit : ℕ) → Alike ws (turn limit) (turn limit)
  turn_same limit = alike ws (turn limit) (turn limit) (λ st. by_test (nat_lt st.now.count limit) st)
    where
      by_test : (b : Bool) (st : State)
          → Agree (Framed ws) (if b then ends Fine (one_more st) else fails Turns st) (if b then ends Fine (one_more (framed ws st)) else fails Turns (framed ws st))
      by_test true st = here refl
      by_test false st = here refl

module _ (ws : List Val) where
  -- What leaves a construct of a field leaves it in the frame, too.
  if_same : (b : Bool) (r s : Result) (t u : Result) → Agree (Framed ws) r t → Agree (Framed ws) s u → Agree (Framed ws) (if b then r else s) (if b then t else u)
  if_same true r s t u h k = h
  if_same false r s t u h k = k

  size_left : (views : List View) (limit : ℕ) (how : End) (st : State) → Agree (Framed ws) (left (InSize views limit) how st) (left (InSize views limit) how (framed ws st))
  size_left views limit (Gives v) st = if_same (st.now.place == limit) _ _ _ _ (here refl) (here refl)
  size_left views limit Fine st = here tt
  size_left views limit (Failed e) st = here refl
  size_left views limit Broke st = here refl
  size_left views limit Continued st = here refl
  size_left views limit (Returned v) st = here refl
  size_left views limit Stopped st = here refl
  size_left views limit Backs st = here refl
  size_left views limit Rejected st = here refl
  size_left views limit (Need m) st = here tt
  size_left views limit Unfinished st = here tt

  max_left : (views : List View) (number start n : ℕ) (how : End) (st : State) → Agree (Framed ws) (left (InMax views number start n) how st) (left (InMax views number start n) how (framed ws st))
  max_left views number start n (Gives v) st = if_same (nat_lt n (st.now.place - start)) _ _ _ _ (here refl) (here refl)
  max_left views number start n Fine st = here tt
  max_left views number start n (Failed e) st = here refl
  max_left views number start n Broke st = here refl
  max_left views number start n Continued st = here refl
  max_left views number start n (Returned v) st = here refl
  max_left views number start n Stopped st = here refl
  max_left views number start n Backs st = here refl
  max_left views number start n Rejected st = here refl
  max_left views number start n (Need m) st = here tt
  max_left views number start n Unfinished st = here tt

  outer_same : (rs : List Reading) (level : ℕ) (st : State) → record (popped rs (framed ws st)) { level = level; move = None } ≡ framed ws (record (popped rs st) { level = level; move = None })
  outer_same [] level st = refl
  outer_same (r ∷ rs) level st = refl

  from_left : (level at : ℕ) (how : End) (st : State) → Agree (Framed ws) (left (InFrom level at) how st) (left (InFrom level at) how (framed ws st))
  from_left level at (Gives v) st = here (outer_same st.outer level st)
  from_left level at Fine st = here tt
  from_left level at (Failed e) st = here (outer_same st.outer level st)
  from_left level at Broke st = here (outer_same st.outer level st)
  from_left level at Continued st = here (outer_same st.outer level st)
  from_left level at (Returned v) st = here (outer_same st.outer level st)
  from_left level at Stopped st = here (outer_same st.outer level st)
  from_left level at Backs st = here (outer_same st.outer level st)
  from_left level at Rejected st = here (outer_same st.outer level st)
  from_left level at (Need m) st = here tt
  from_left level at Unfinished st = here tt

  at_left : (level at : ℕ) (how : End) (st : State) → Agree (Framed ws) (left (InAt level at) how st) (left (InAt level at) how (framed ws st))
  at_left level at (Gives v) st = here refl
  at_left level at Fine st = here tt
  at_left level at (Failed e) st = here refl
  at_left level at Broke st = here refl
  at_left level at Continued st = here refl
  at_left level at (Returned v) st = here refl
  at_left level at Stopped st = here refl
  at_left level at Backs st = here refl
  at_left level at Rejected st = here refl
  at_left level at (Need m) st = here tt
  at_left level at Unfinished st = here tt

  unset_same : (m : Option ℕ) (start : ℕ) (tries : Bool) (st : State)
      → record (put_place start (unset_member m (framed ws st))) { tries = tries; move = None } ≡ framed ws (record (put_place start (unset_member m st)) { tries = tries; move = None })
  unset_same (Some m) start tries st = refl
  unset_same None start tries st = refl

  try_left : (tries : Bool) (start : ℕ) (member : Option ℕ) (how : End) (st : State) → Agree (Framed ws) (left (InTry tries start member) how st) (left (InTry tries start member) how (framed ws st))
  try_left tries start member (Gives v) st = here tt
  try_left tries start member Fine st = here refl
  try_left tries start member (Failed e) st = here refl
  try_left tries start member Broke st = here refl
  try_left tries start member Continued st = here refl
  try_left tries start member (Returned v) st = here refl
  try_left tries start member Stopped st = here refl
  try_left tries start member Backs st = here (unset_same member start tries st)
  try_left tries start member Rejected st = here refl
  try_left tries start member (Need m) st = here tt
  try_left tries start member Unfinished st = here tt

-- how a construct is left, in a frame
pub record LeftAlike (x : Scope) : Type 0 where
  pub alike : (vs : List Val) (how : End) (st : State) → Agree (Framed vs) (left x how st) (left x how (framed vs st))
  pub behind_nothing : State → State
  pub nothing : (st : State) → left x Unfinished st ≡ ends Unfinished (behind_nothing st)

size_is_left : (views : List View) (limit : ℕ) → LeftAlike (InSize views limit)
size_is_left views limit = record { alike = λ vs how st. size_left vs views limit how st; behind_nothing = λ st. put_views views st; nothing = λ st. refl }

max_is_left : (views : List View) (number start n : ℕ) → LeftAlike (InMax views number start n)
max_is_left views number start n = record { alike = λ vs how st. max_left vs views number start n how st; behind_nothing = λ st. put_views views st; nothing = λ st. refl }

from_is_left : (level at : ℕ) → LeftAlike (InFrom level at)
from_is_left level at = record { alike = λ vs how st. from_left vs level at how st; behind_nothing = λ st. leave_from level st; nothing = λ st. refl }

pub try_is_left : (tries : Bool) (start : ℕ) (member : Option ℕ) → LeftAlike (InTry tries start member)
try_is_left tries start member = record { alike = λ vs how st. try_left vs tries start member how st; behind_nothing = λ st. record st { tries = tries }; nothing = λ st. refl }

at_is_left : (level at : ℕ) → LeftAlike (InAt level at)
at_is_left level at = record { alike = λ vs how st. at_left vs level at how st; behind_nothing = λ st. leave_at level at st; nothing = λ st. refl }

module _ (ws : List Val) where
  -- whatever a field opens
  abbrev pub OpenAlike : Opened → Opened → Type 0
  OpenAlike (Opens x s) (Opens y t) = (x ≡ y) × (t ≡ framed ws s) × LeftAlike x
  OpenAlike (Refuses k) (Refuses l) = k ≡ l
  OpenAlike a b = ⊥

  sizes_open : (n : Option ℕ) (st : State) → OpenAlike (by_size n st) (by_size n (framed ws st))
  sizes_open (Some n) st = (refl, refl, size_is_left st.now.views (st.now.place + n))
  sizes_open None st = refl

  maxes_open : (n : Option ℕ) (st : State) → OpenAlike (by_max n st) (by_max n (framed ws st))
  maxes_open (Some n) st = (refl, refl, max_is_left st.now.views st.stamps st.now.place n)
  maxes_open None st = refl

  bytes_open : (b : List ℕ) (fit : Bool) (st : State)
      → OpenAlike (if fit then Opens (InFrom st.level st.now.place) (given b st) else Refuses BadSize) (if fit then Opens (InFrom st.level st.now.place) (given b (framed ws st)) else Refuses BadSize)
  bytes_open b true st = (refl, refl, from_is_left st.level st.now.place)
  bytes_open b false st = refl

  places_open : (to : ℕ) (before : Bool) (st : State)
      → OpenAlike (if before then Refuses InputBefore else Opens (InAt st.level st.now.place) (aimed to st)) (if before then Refuses InputBefore else Opens (InAt st.level st.now.place) (aimed to (framed ws st)))
  places_open to true st = refl
  places_open to false st = (refl, refl, at_is_left st.level st.now.place)

  pub opens_same : (o : Opening) (v : Val) (st : State) → OpenAlike (open_by o v st) (open_by o v (framed ws st))
  opens_same BySize v st = sizes_open (within (count_of v) st.now.place) st
  opens_same ByMax v st = maxes_open (within (count_of v) st.now.place) st
  opens_same ByBytes (bytes b) st = bytes_open b (nat_le (length b) (2 ^ 62)) st
  opens_same ByBytes void st = refl
  opens_same ByBytes (bool b) st = refl
  opens_same ByBytes (uint w n) st = refl
  opens_same ByBytes (int w n) st = refl
  opens_same ByBytes (str b) st = refl
  opens_same ByBytes (enum k n) st = refl
  opens_same ByBytes (bits k ns) st = refl
  opens_same ByBytes (tuple vs) st = refl
  opens_same ByBytes (vector vs) st = refl
  opens_same ByBytes (set vs) st = refl
  opens_same ByBytes (map es) st = refl
  opens_same ByBytes (unit u) st = refl
  opens_same ByBytes (place to) st = refl
  opens_same ByPlace (place to) st = places_open to (is_before to st) st
  opens_same ByPlace void st = refl
  opens_same ByPlace (bool b) st = refl
  opens_same ByPlace (uint w n) st = refl
  opens_same ByPlace (int w n) st = refl
  opens_same ByPlace (bytes b) st = refl
  opens_same ByPlace (str b) st = refl
  opens_same ByPlace (enum k n) st = refl
  opens_same ByPlace (bits k ns) st = refl
  opens_same ByPlace (tuple vs) st = refl
  opens_same ByPlace (vector vs) st = refl
  opens_same ByPlace (set vs) st = refl
  opens_same ByPlace (map es) st = refl
  opens_same ByPlace (unit u) st = refl
