-- Parts of a unit that end as they may, and how they are put together.
use Rattle.std.proofs.Common.{◌≡◌, ℕ, Bool, true, false, List, Option, Some, None, refl}
use Rattle.sp_events.specs.declared.event.What.{What}
use Rattle.sp_value.specs.Val.{Val, unit}
use Rattle.sp_methods.specs.Kinds.{Kind, Has}
use Rattle.sp_meaning_states.specs.States.{State, End, Gives, Fine, Failed, Need, Unfinished, Result, Ends, ends, behind, on_end, with_value, with_done, got, done, chosen, put_member}
use Rattle.sp_meaning.specs.Operations.{known}
use Rattle.sp_code.specs.Machine.{Plain}
use Rattle.sp_code.specs.Shapes.{Shapes, IsMember, Holds}
use Rattle.sp_law_machine.proofs.keeps_lemmas.Frames.{member_changed}
use Rattle.sp_law_programs.specs.finished_bodies.Built.{IsThere}
use Rattle.sp_law_programs.specs.finished_bodies.Finished.{AnExpression, AHook, EndsAs}

-- a part of a unit is fine, fails or waits
abbrev pub IsPart : End → Type 0
IsPart Fine = Unit {0}
IsPart (Failed e) = Unit {0}
IsPart (Need m) = Unit {0}
IsPart how = ⊥

-- what gives a value of a kind may also fail or wait
abbrev pub IsValue : List ℕ → Kind → End → Type 0
IsValue units k (Gives v) = Has units k v
IsValue units k (Failed e) = Unit {0}
IsValue units k (Need m) = Unit {0}
IsValue units k how = ⊥

module _ (p : Plain) (shapes : Shapes) (units : List ℕ) (u : Option ℕ) (ls : List Kind) where
  -- it ends so, in a state in which values have their kinds
  abbrev pub Right : (End → Type 0) → Result → Type 0
  Right May (Ends how es st) = May how × Holds p shapes units u ls st

  -- from each state in which values have their kinds
  abbrev pub Makes : (End → Type 0) → (State → Result) → Type 0
  Makes May f = (st : State) → Holds p shapes units u ls st → Right May (f st)

  behind_right : (May : End → Type 0) (es : List What) (r : Result) → Right May r → Right May (behind es r)
  behind_right May es (Ends how fs st) a = a

  pub then_end : (May Goal : End → Type 0) (k : End → State → Result) (r : Result) → (May Unfinished → ⊥) → ((how : End) → May how → Makes Goal (k how)) → Right May r → Right Goal (on_end k r)
  then_end May Goal k (Ends Unfinished es st) never h a = absurd (never a.0)
  then_end May Goal k (Ends how es st) never h a = behind_right Goal es (k how st) (h how a.0 st a.1)

  value_right : (k : Kind) (go : Val → State → Result) → ((v : Val) → Has units k v → Makes IsPart (go v)) → (how : End) → IsValue units k how → Makes IsPart (with_value go how)
  value_right k go h (Gives v) a st holds = h v a st holds
  value_right k go h (Failed e) a st holds = (tt, holds)
  value_right k go h (Need m) a st holds = (tt, holds)
  value_right k go h Fine a st holds = absurd a
  value_right k go h _ a st holds = absurd a

  done_right : (go : State → Result) → Makes IsPart go → (how : End) → IsPart how → Makes IsPart (with_done go how)
  done_right go h Fine a st holds = h st holds
  done_right go h (Failed e) a st holds = (tt, holds)
  done_right go h (Need m) a st holds = (tt, holds)
  done_right go h (Gives v) a st holds = absurd a
  done_right go h _ a st holds = absurd a

  pub then_got : (k : Kind) (f : State → Result) (go : Val → State → Result) → Makes (IsValue units k) f → ((v : Val) → Has units k v → Makes IsPart (go v)) → Makes IsPart (λ st. got go (f st))
  then_got k f go a h = λ st holds. then_end (IsValue units k) IsPart (with_value go) (f st) (λ z. z) (value_right k go h) (a st holds)

  pub then_done : (f go : State → Result) → Makes IsPart f → Makes IsPart go → Makes IsPart (λ st. done go (f st))
  then_done f go a h = λ st holds. then_end IsPart IsPart (with_done go) (f st) (λ z. z) (done_right go h) (a st holds)

  -- a part that ends here, and one that fails
  pub at_once : (how : End) → IsPart how → Makes IsPart (ends how)
  at_once how a = λ st holds. (a, holds)

  pub chosen_right : (b : Bool) (f g : State → Result) → Makes IsPart f → Makes IsPart g → Makes IsPart (chosen b f g)
  chosen_right true f g h k = h
  chosen_right false f g h k = k

  pub known_right : {A : Type 0} (o : Option A) (go : A → State → Result) → IsThere o → ((x : A) → o ≡ Some x → Makes IsPart (go x)) → Makes IsPart (known o go)
  known_right (Some x) go t h = h x refl
  known_right None go t h = absurd t

  -- the bodies of a hook are a part, and an expression gives a value
  pub hooks_right : (r : Result) → EndsAs p shapes units u ls (AHook false) r → Right IsPart r
  hooks_right (Ends Fine es st) a = a
  hooks_right (Ends (Failed e) es st) a = a
  hooks_right (Ends _ es st) a = absurd a.0

  pub expression_right : (k : Kind) (r : Result) → EndsAs p shapes units u ls (AnExpression k) r → Right (IsValue units k) r
  expression_right k (Ends (Gives v) es st) a = a
  expression_right k (Ends (Failed e) es st) a = a
  expression_right k (Ends _ es st) a = absurd a.0

-- a member of the unit at hand gets a value of its kind
pub put_right : (p : Plain) (shapes : Shapes) (units : List ℕ) (u : ℕ) (ls : List Kind) (m : ℕ) (k : Kind) (v : Val) → IsMember p shapes u m k → Has units k v
    → Makes p shapes units (Some u) ls IsPart (λ st. put_member (unit st.self) m v st)
put_right p shapes units u ls m k v (t, e, f) h = λ st holds. (tt, member_changed p shapes units (Some u) ls st st.self u m t k v holds holds.self e f h)
