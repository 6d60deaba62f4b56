-- States of one body in the two texts: in that of code what the body is handed stands before its slots.
use Rattle.std.proofs.Common.{◌≡◌, ℕ, suc, ◌+◌, Bool, List, [], ◌∷◌, ◌++◌, length, Option, Some, None, Result as Answer, Ok, Err, refl, sym, ap, ◌∙◌, subst, arith}
use Rattle.std.specs.Prelude.{slice_get, slice_set, unwrap_or}
use Rattle.sp_base.specs.declared.kinds.PKind.{PKind}
use Rattle.sp_base.specs.declared.kinds.PKind.TheVariants.{Unset}
use Rattle.sp_value.specs.Val.{Val, void, unit}
use Rattle.sp_meaning_states.specs.States.{State, Result, Gives, Fine, ends, answer, fails, local_of, set_local, member_of, value_or_unset, put_member}
use Rattle.sp_code_meaning.specs.Layouts.{Layout}
use Rattle.sp_code_meaning.specs.Layouts as laid
use Rattle.sp_meaning.specs.Operations.{given, taken}
use Rattle.sp_code_meaning.specs.Exprs.{offset_local, offset_means}
use Rattle.sp_meaning.specs.Around.{Around, parameter_in}
use Rattle.sp_meaning.specs.Exprs.{offset_at_hand, given_or}
use Rattle.sp_law_meaning.specs.Laws.{Agree}
use Rattle.sp_law_meaning.proofs.Agree.{Rel, Both, here, at_once, nothing, then_done}

-- the state of code, where the body is handed these values
abbrev pub framed : List Val → State → State
framed us st = record st { locals = us ++ st.locals }

abbrev pub Framed : List Val → Rel
Framed us st ts = ts ≡ framed us st

at_front : (l : ℕ) → 0 + l ≡ l
at_front l = omega arith

one_on : (n l : ℕ) → suc n + l ≡ suc (n + l)
one_on n l = omega arith

get_behind : (us vs : List Val) (l : ℕ) → slice_get (us ++ vs) (length us + l) ≡ slice_get vs l
get_behind [] vs l = ap (slice_get vs) (at_front l)
get_behind (u ∷ us) vs l = ap (slice_get (u ∷ (us ++ vs))) (one_on (length us) l) ∙ get_behind us vs l

set_behind : (us vs : List Val) (l : ℕ) (v : Val) → slice_set (us ++ vs) (length us + l) v ≡ us ++ slice_set vs l v
set_behind [] vs l v = ap (λ n. slice_set vs n v) (at_front l)
set_behind (u ∷ us) vs l v = ap (λ n. slice_set (u ∷ (us ++ vs)) n v) (one_on (length us) l) ∙ ap (λ ws. u ∷ ws) (set_behind us vs l v)

-- What a body has by name stands where the layout has it, before the slots.
pub record Placed (around : Around) (layout : Layout) (us : List Val) : Type 0 where
  pub first : length us ≡ layout.first
  pub parameters : (n : ℕ) (st : State) → laid.parameter_in layout n (framed us st) ≡ parameter_in around n st
  pub current : (v : Val) → around.current ≡ Some v → (st : State) → local_of (framed us st) layout.current ≡ v
  pub offset : (of_self : Bool) (go on : State → Result) → Both (Framed us) go on → Both (Framed us) (given_or (offset_at_hand around of_self) go) (offset_means (offset_local layout of_self) on)

-- a slot has the same value in both, and gets the same
pub slot_of : (us : List Val) (first l : ℕ) (st : State) → length us ≡ first → local_of (framed us st) (first + l) ≡ local_of st l
slot_of us first l st e = subst (λ n. local_of (framed us st) (n + l) ≡ local_of st l) e (ap (λ o. unwrap_or o void) (get_behind us st.locals l))

pub slot_set : (us : List Val) (first l : ℕ) (v : Val) (st : State) → length us ≡ first → set_local (first + l) v (framed us st) ≡ framed us (set_local l v st)
slot_set us first l v st e = subst (λ n. set_local (n + l) v (framed us st) ≡ framed us (set_local l v st)) e (ap (λ ls. record st { locals = ls }) (set_behind us st.locals l v))

module _ (us : List Val) where
  -- from each state to its frame
  abbrev pub Alike : (State → Result) → (State → Result) → Type 0
  Alike f g = Both (Framed us) f g

  -- it is enough to look at one state
  pub alike : (f g : State → Result) → ((st : State) → Agree (Framed us) (f st) (g (framed us st))) → Alike f g
  alike f g h st ts r = subst (λ ts. Agree (Framed us) (f st) (g ts)) (sym r) (h st)

  pub sets_slot : (first l : ℕ) (v : Val) → length us ≡ first → Alike (λ st. ends Fine (set_local l v st)) (λ st. ends Fine (set_local (first + l) v st))
  sets_slot first l v e = alike (λ st. ends Fine (set_local l v st)) (λ st. ends Fine (set_local (first + l) v st)) (λ st. here (slot_set us first l v st e))

  pub gives_slot : (first l : ℕ) → length us ≡ first → Alike (λ st. ends (Gives (local_of st l)) st) (λ st. ends (Gives (local_of st (first + l))) st)
  gives_slot first l e = alike (λ st. ends (Gives (local_of st l)) st) (λ st. ends (Gives (local_of st (first + l))) st) (λ st. record { how = ap Gives (sym (slot_of us first l st e)); told = refl; behind = refl })

  pub answer_same : (a : Answer Val PKind) → Alike (answer a) (answer a)
  answer_same (Ok v) = at_once (Framed us) (Gives v)
  answer_same (Err kind) = alike (fails kind) (fails kind) (λ st. here refl)

  pub member_same : (m : ℕ) (u : Val) → Alike (λ st. value_or_unset (member_of st u m) st) (λ st. value_or_unset (member_of st u m) st)
  member_same m u = alike (λ st. value_or_unset (member_of st u m) st) (λ st. value_or_unset (member_of st u m) st) (λ st. by_value (member_of st u m) st)
    where
      by_value : (o : Option Val) (st : State) → Agree (Framed us) (value_or_unset o st) (value_or_unset o (framed us st))
      by_value (Some v) st = here refl
      by_value None st = here refl

  pub put_same : (u : Val) (m : ℕ) (v : Val) → Alike (put_member u m v) (put_member u m v)
  put_same (unit n) m v = alike (put_member (unit n) m v) (put_member (unit n) m v) (λ st. here refl)
  put_same _ m v = alike (fails Unset) (fails Unset) (λ st. here refl)

  pub given_same : (a : Answer (List Val) PKind) → Alike (given a) (given a)
  given_same (Ok []) = nothing (Framed us)
  given_same (Ok (v ∷ [])) = at_once (Framed us) (Gives v)
  given_same (Ok (v ∷ w ∷ vs)) = nothing (Framed us)
  given_same (Err kind) = alike (fails kind) (fails kind) (λ st. here refl)

  pub taken_same : (put on : Val → State → Result) (a : Answer (List Val) PKind) → ((v : Val) → Alike (put v) (on v)) → Alike (taken put a) (taken on a)
  taken_same put on (Ok []) h = nothing (Framed us)
  taken_same put on (Ok (v ∷ [])) h = then_done (Framed us) (put v) (on v) _ _ (h v) (at_once (Framed us) _)
  taken_same put on (Ok (v ∷ r ∷ [])) h = then_done (Framed us) (put v) (on v) _ _ (h v) (at_once (Framed us) _)
  taken_same put on (Ok (v ∷ r ∷ w ∷ vs)) h = nothing (Framed us)
  taken_same put on (Err kind) h = alike (fails kind) (fails kind) (λ st. here refl)
