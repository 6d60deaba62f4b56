-- What a step makes of the turns that are left.
use Rattle.std.proofs.Common.{◌≡◌, ℕ, ◌+◌, ◌-◌, ◌*◌, ◌<◌, ◌≤◌, Bool, true, false, List, [], ◌∷◌, length, refl, ap, arith, length-take, length-drop}
use Rattle.std.specs.Prelude.{◌==◌, max, nat_lt, take, Some, None, if◌then◌else◌}
use Rattle.std.proofs.lemmas.Bool.{ltb-true, leb-true}
use Rattle.std.proofs.Math.Nat.{mul-le-mul_left}
use Rattle.sp_base.specs.Input.{Close}
use Rattle.sp_numbers.specs.declared.width.Width.{Width}
use Rattle.sp_numbers.specs.declared.width.Width.TheVariants.{W8, W16, W32, W64}
use Rattle.sp_meaning_states.specs.States.{Source, Main, Given, View, Reading, State, End, Gives, Fine, Backs, Result, Ends, going}
use Rattle.sp_meaning_states.specs.Scopes.{Scope, InUnit, InCall, InSize, InMax, InFrom, InAt, InTry, popped, leave, unset_member}
use Rattle.sp_meaning_states.specs.Scopes as called_is
use Rattle.sp_meaning_states.specs.Reads.{Bytes, Read, Got, Verdict, Seen, lacking, seen_from, reads}
use Rattle.sp_meaning_states.specs.Types.{width_bytes}
use Rattle.sp_law_machine.specs.ends.Ending.{data_of, turns_left, all_turns_left, budget}

-- what is read ends within the data
abbrev pub IsWithin : List ℕ → Reading → Read → Type 0
IsWithin s r (Got t n bs) = r.place + n ≤ length (data_of s r.source)
IsWithin s r x = Unit {0}

ahead_is_within : (s : List ℕ) (c : Close) (x : Source) (at : ℕ) (vs : List View) (n : ℕ) → 1 ≤ n → n ≤ length (seen_from s c x at vs).ahead → at + n ≤ length (data_of s x)
ahead_is_within s c Main at vs n m h = omega (arith, length-take {A = ℕ}, length-drop at s)
ahead_is_within s c (Given b) at vs n m h = omega (arith, length-take {A = ℕ}, length-drop at b)

lacking_is_within : (s : List ℕ) (r : Reading) (over : Bool) (m : ℕ) (overs : List ℕ) → IsWithin s r (lacking over m overs)
lacking_is_within s r true m overs = tt
lacking_is_within s r false m overs = tt

taken_is_within : (s : List ℕ) (r : Reading) (n : ℕ) (x : Seen) (b : Bool) → (b ≡ true → r.place + n ≤ length (data_of s r.source)) → IsWithin s r (if b then Got 0 n (take n x.ahead) else lacking x.over r.place x.overs)
taken_is_within s r n x true h = h refl
taken_is_within s r n x false h = lacking_is_within s r x.over r.place x.overs

pub is_within : (verdict : ℕ → List ℕ → Bool → Verdict) (s : List ℕ) (c : Close) (r : Reading) (n : ℕ) → 1 ≤ n → IsWithin s r (reads verdict s c r (Bytes n))
is_within verdict s c r n m =
    taken_is_within s r n (seen_from s c r.source r.place r.views) _ (λ e. ahead_is_within s c r.source r.place r.views n m (leb-true n (length (seen_from s c r.source r.place r.views).ahead) e))

pub some_bytes : (w : Width) → 1 ≤ width_bytes w
some_bytes W8 = omega arith
some_bytes W16 = omega arith
some_bytes W32 = omega arith
some_bytes W64 = omega arith

-- all turns anew are no more than what a byte brings
renewed : (l c a b : ℕ) → a + 1 ≤ b → (l - 0) + (l + 1) * a ≤ (l - c) + (l + 1) * b
renewed l c a b h = let m = mul-le-mul_left (l + 1) h in omega (arith, m)

same_count : (l c a b : ℕ) → a ≤ b → (l - c) + (l + 1) * a ≤ (l - c) + (l + 1) * b
same_count l c a b h = let m = mul-le-mul_left (l + 1) h in omega (arith, m)

module _ (limit : ℕ) (s : List ℕ) where
  pub going_has_less : (to : ℕ) (r : Reading) → to ≤ length (data_of s r.source) → turns_left limit s (going to r) ≤ turns_left limit s r
  going_has_less to r h = by_test (nat_lt r.high to) (ltb-true r.high to)
    where
      by_test : (b : Bool) → (b ≡ true → r.high < to) → turns_left limit s (record r { place = to; high = max r.high to; count = if b then 0 else r.count }) ≤ turns_left limit s r
      by_test true l = let higher = l refl in renewed limit r.count (length (data_of s r.source) - max r.high to) (length (data_of s r.source) - r.high) (omega arith)
      by_test false l = same_count limit r.count (length (data_of s r.source) - max r.high to) (length (data_of s r.source) - r.high) (omega arith)

  -- the state behind a part has no more turns left than these
  abbrev pub HasAtMost : ℕ → Result → Type 0
  HasAtMost n (Ends how es st) = budget limit s st ≤ n

  one_of_two : (n : ℕ) (b : Bool) (x y : Result) → HasAtMost n x → HasAtMost n y → HasAtMost n (if b then x else y)
  one_of_two n true x y h k = h
  one_of_two n false x y h k = k

  popped_has_less : (st : State) (rs : List Reading) → st.outer ≡ rs → budget limit s (popped rs st) ≤ budget limit s st
  popped_has_less st [] e = omega arith
  popped_has_less st (r ∷ rs) e = let a = ap (all_turns_left limit s) e in omega (arith, a)

  -- what leaves a construct brings no turns
  pub leave_has_less : (x : Scope) (how : End) (st : State) → HasAtMost (budget limit s st) (leave x how st)
  leave_has_less (InCall called_is.Called.Function self locals) Fine st = omega arith
  leave_has_less (InCall (called_is.Called.Hook true) self locals) Fine st = omega arith
  leave_has_less (InCall (called_is.Called.Hook false) self locals) Fine st = omega arith
  leave_has_less (InCall called_is.Called.FailingHook self locals) Fine st = omega arith
  leave_has_less (InSize views size) (Gives v) st = one_of_two (budget limit s st) (st.now.place == size) _ _ (omega arith) (omega arith)
  leave_has_less (InMax views number start n) (Gives v) st = one_of_two (budget limit s st) (nat_lt n (st.now.place - start)) _ _ (omega arith) (omega arith)
  leave_has_less (InFrom level at) Fine st = popped_has_less st st.outer refl
  leave_has_less (InFrom level at) _ st = popped_has_less st st.outer refl
  leave_has_less (InTry tries place (Some m)) Backs st = omega arith
  leave_has_less (InTry tries place None) Backs st = omega arith
  leave_has_less _ Fine st = omega arith
  leave_has_less _ _ st = omega arith
