-- What is put in a place, without a look at what was there: `t = e`, `add s[k]` and `delete s[k]`.
use Rattle.std.specs.Prelude.{ℕ, List, Option}
use Rattle.sp_value.specs.Val.{Val}
use Rattle.sp_typed.specs.Exprs.{Expr, leaf, one, two}
use Rattle.sp_meaning_states.specs.States.{State, Fine, Unfinished, Result, ends, got, chosen, answer, set_local, put_member}
use Rattle.sp_meaning_states.specs.Values.{with_at}
use Rattle.sp_meaning.specs.Globals.{Globals}
use Rattle.sp_meaning.specs.Operations.{known, member_named, is_item, local_named, keep_owner, owner_means}
use Rattle.sp_meaning.specs.Around.{Around}
use Rattle.sp_meaning.specs.Exprs.{expr_means, place_means}

module _ (globals : Globals) (call : ℕ → List Val → State → Result) (around : Around) where
  -- the owner or the container comes first, then a key, then the value; the range of a vector is asked where it is stored
  abbrev pub put_means : Option ℕ → Expr → (State → Result) → State → Result
  put_means owner (leaf h) e st = known (local_named h.op) (λ l st. got (λ v st. ends Fine (set_local l v st)) (e st)) st
  put_means owner (one h a) e st =
      known (member_named h.op) (λ m st. keep_owner owner (expr_means globals call around a)
      (λ st. got (λ v st. got (λ u st. put_member u m v st) (owner_means owner (expr_means globals call around a) st)) (e st)) st) st
  put_means owner (two h a b) e st =
      chosen (is_item h.op) (place_means globals call around owner a (λ c put st. got (λ k st.
      got (λ x st. got put (answer (with_at c k x) st)) (e st)) (expr_means globals call around b st))) (ends Unfinished) st
  put_means owner target e st = ends Unfinished st

  -- a key that comes into a set or out of a set or a map
  abbrev pub key_means : Option ℕ → Expr → (Val → Val → Val) → State → Result
  key_means owner (two h a b) change st =
      chosen (is_item h.op) (place_means globals call around owner a
      (λ c put st. got (λ k st. put (change c k) st) (expr_means globals call around b st))) (ends Unfinished) st
  key_means owner target change st = ends Unfinished st
