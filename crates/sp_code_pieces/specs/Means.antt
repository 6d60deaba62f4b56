-- What pieces mean. It is what their fields mean (`sp_meaning_units`), said of the locals that keep values and offsets.
use Rattle.std.specs.Prelude.{ℕ, zero, suc, ◌+◌, ◌/◌, Bool, true, false, List, [], ◌∷◌, Option, Some, None, nat_lt, slice_get}
use Rattle.sp_base.specs.declared.kinds.PKind.TheVariants.{Requires, NoAlternative}
use Rattle.sp_base.specs.declared.places.Limits.{Limits}
use Rattle.sp_numbers.specs.declared.width.Width.TheVariants.{W64}
use Rattle.sp_words.specs.declared.operators.BinaryOp.TheVariants as op_is
use Rattle.sp_value.specs.Val.{Val, void, bool, uint}
use Rattle.sp_operators.specs.Operators.{binary}
use Rattle.sp_typed_units.specs.declared.declarations.Typed.{Typed}
use Rattle.sp_meaning_states.specs.States.{Reading, State, Gives, Fine, Unfinished, Result, ends, got, done, chosen, truth_of, fails, answer, turn, local_of, set_local}
use Rattle.sp_meaning_states.specs.Scopes.{InTry, inside}
use Rattle.sp_meaning_states.specs.Reads.{Ask, Read, Bytes}
use Rattle.sp_meaning_states.specs.Types.{width_bytes}
use Rattle.sp_meaning_states.specs.Telling.{Names}
use Rattle.sp_meaning.specs.Globals.{globals_of}
use Rattle.sp_meaning.specs.Operations.{known}
use Rattle.sp_meaning.specs.Integers.{integer_means}
use Rattle.sp_meaning.specs.Units.{stored, offset_here}
use Rattle.sp_code_meaning.specs.Exprs.{expr_means, all_got}
use Rattle.sp_code_meaning.specs.Calls.{call_means, hook_means, hooks_mean}
use Rattle.sp_meaning_units.specs.Openings.{inside_opened, settled, count_of}
use Rattle.sp_meaning_units.specs.Leaves.{bitfield_value, taken_as, sized_bytes, bytes_until, bytes_until_including, bytes_to_end}
use Rattle.sp_meaning_units.specs.Containers.{added, gives_vector, if_holds, data_remain, with_count}
use Rattle.sp_code_pieces.specs.Pieces.{Asked, Leaf, Integer, Bits, Until, UntilIncluding, Rest, Before, Always, Counted, Remain, Loop, Piece, Nothing, Unread, Sized, Nested, Within, Settled, Noted, Converted, Required, Counting, Many, Store, Plain, Hooked, Step, Stored, When, Try, Chosen, Unbuilt, Steps, no_steps, more_steps, Cases, otherwise, no_case, case}
use Rattle.sp_code_pieces.specs.Pieces as piece

-- a local becomes one greater
abbrev pub raised : Val → Val
raised (uint w n) = uint W64 (n + 1)
raised v = v

abbrev pub is_less : Val → Val → Bool
is_less (uint w n) (uint x m) = nat_lt n m
is_less v w = false

-- `enter` is what a unit means that is read; at most n calls, rounds and elements are inside one another
module _ (names : Names) (hook_names : List (List ℕ)) (list : Typed) (limits : Limits) (reads : Reading → Ask → Read) (n : ℕ) (enter : ℕ → List Val → State → Result) where
  abbrev pub asked_means : Asked → State → Result
  asked_means a st = expr_means (globals_of list) (call_means names hook_names list limits n) a.layout a.value st

  abbrev pub leaf_means : Leaf → State → Result
  leaf_means (Integer form) st = integer_means reads (width_bytes form.width) form.little form.signed st
  leaf_means (Bits k little msb0) st = known (slice_get list.bitfields k) (λ x. taken_as reads (bitfield_value k little msb0 x) (Bytes (x.width / 8))) st
  leaf_means (Until d) st = bytes_until reads d st
  leaf_means (UntilIncluding d) st = bytes_until_including reads d st
  leaf_means Rest st = bytes_to_end reads st

  abbrev pub before_means : Before → State → Result
  before_means Always st = ends (Gives (bool true)) st
  before_means (Counted c l) st = chosen (is_less (local_of st c) (local_of st l)) (λ st. ends (Gives (bool true)) (set_local c (raised (local_of st c)) st)) (ends (Gives (bool false))) st
  before_means Remain st = data_remain reads st

  -- a test that lets a container go on, or ends it
  abbrev pub test_means : Option (Bool × Asked) → (go stop : State → Result) → State → Result
  test_means None go stop st = go st
  test_means (Some (true, a)) go stop st = if_holds (asked_means a) go stop st
  test_means (Some (false, a)) go stop st = if_holds (asked_means a) stop go st

  abbrev pub behind_means : Option Asked → (go stop : State → Result) → State → Result
  behind_means None go stop st = go st
  behind_means (Some a) go stop st = if_holds (asked_means a) stop go st

  -- bodies of `foreach`, with the locals of the element and its offset
  abbrev pub each_body : List ℕ → (value offset : ℕ) → (go stop : State → Result) → State → Result
  each_body [] v o go stop st = go st
  each_body (h ∷ hs) v o go stop st =
      got (λ b. chosen (truth_of b) (each_body hs v o go stop) stop) (hook_means names hook_names list limits false n h (local_of st o ∷ local_of st v ∷ []) st)

  -- At most so many elements more, behind those that are kept.
  abbrev pub elements : (more : ℕ) → Loop → (element : State → Result) → List Val → State → Result
  elements zero loop one vs st = ends Unfinished st
  elements (suc more) loop one vs st =
      if_holds (before_means loop.before)
      (λ st. done (λ st. got (λ v st.
      test_means loop.test
      (each_body loop.bodies.numbers loop.bodies.value loop.bodies.offset
      (λ st. behind_means loop.behind (elements more loop one (added loop.keeps vs (local_of st loop.element))) (gives_vector (added loop.keeps vs (local_of st loop.element))) st)
      (gives_vector vs))
      (gives_vector vs) (set_local loop.element v st)) (one st)) (turn limits.turns st))
      (gives_vector vs) st

  abbrev pub piece_means : Piece → State → Result
  piece_means Nothing st = ends (Gives void) st
  piece_means Unread st = ends Unfinished st
  piece_means (piece.Read x) st = leaf_means x st
  piece_means (Sized a) st = got (sized_bytes reads) (asked_means a st)
  piece_means (Nested u layout es) st = all_got (globals_of list) (call_means names hook_names list limits n) layout es [] (enter u) st
  piece_means (Within opening a p) st = got (λ v. inside_opened opening v (piece_means p)) (asked_means a st)
  piece_means (Settled p) st = settled reads (piece_means p) st
  piece_means (Noted o p) st = piece_means p (set_local o (offset_here st) st)
  piece_means (Converted l a p) st = got (λ v st. asked_means a (set_local l v st)) (piece_means p st)
  piece_means (Required l a p) st = got (λ v st. if_holds (asked_means a) (λ st. ends (Gives (local_of st l)) st) (fails Requires) (set_local l v st)) (piece_means p st)
  piece_means (Counting c l a p) st =
      got (λ v. with_count (count_of v) (λ k st. piece_means p (set_local c (uint W64 0) (set_local l (uint W64 k) st)))) (asked_means a st)
  piece_means (Many loop p) st = elements n loop (piece_means p) [] st

  -- the value of a field is stored, and bodies of hooks run
  abbrev pub store_means : Store → Val → State → Result
  store_means (Plain member) v st = stored member v st
  store_means (Hooked member bodies) v st =
      done (λ st. hooks_mean names hook_names list limits false n bodies.numbers (local_of st bodies.offset ∷ local_of st bodies.value ∷ []) st)
      (stored member (local_of (set_local bodies.value v st) bodies.value) (set_local bodies.value v st))

  -- the values of an arm in turn against that of a local
  abbrev pub one_equals : List Asked → (value : ℕ) → (there other : State → Result) → State → Result
  one_equals [] l there other st = other st
  one_equals (a ∷ rest) l there other st =
      let x = local_of st l in
      if_holds (λ st. got (λ y. answer (binary op_is.Equal x y)) (asked_means a st)) there (one_equals rest l there other) st

  abbrev mutual
    pub steps_mean : Steps → State → Result
    steps_mean no_steps st = ends Fine st
    steps_mean (more_steps s ss) st = done (steps_mean ss) (step_means s st)

    pub step_means : Step → State → Result
    step_means (Stored how p) st = got (store_means how) (piece_means p st)
    step_means (When a s) st = if_holds (asked_means a) (step_means s) (ends Fine) st
    step_means (Try member s) st = inside (InTry st.tries st.now.place member) (step_means s (record st { tries = true }))
    step_means (Chosen l a cs) st = got (λ x st. cases_mean l cs (set_local l x st)) (asked_means a st)
    step_means Unbuilt st = ends Unfinished st

    pub cases_mean : ℕ → Cases → State → Result
    cases_mean l (otherwise ss) st = steps_mean ss st
    cases_mean l no_case st = fails NoAlternative st
    cases_mean l (case values ss cs) st = one_equals values l (steps_mean ss) (cases_mean l cs) st
