-- What is made of evaluations that are what the checker tells of their expressions.
use Rattle.std.specs.Prelude.{true, [], Result as Answer, Ok, Err}
use Rattle.std.proofs.Common.{◌≡◌, ◌⊎◌, inl, inr, refl, sym, ap, subst, ◌∙◌}
use Rattle.sp_base.specs.declared.kinds.PKind.{PKind}
use Rattle.sp_value.specs.Val.{Val}
use Rattle.sp_type_constants.specs.declared.outcome.Outcome.{Outcome}
use Rattle.sp_type_constants.specs.declared.outcome.Outcome.TheVariants.{Value, Regex, NotConstant, Error, Unknown}
use Rattle.sp_type_constants.specs.Outcomes.{of_one, of_two, if_constant, is_constant}
use Rattle.sp_meaning_states.specs.States.{State, Result, Ends, behind, got, answer}
use Rattle.sp_law_constants.specs.Constants.{AlwaysGives, AlwaysFails}

-- an evaluation, and one that is an answer in every state
abbrev pub Evaluation : Type 0
Evaluation = State → Result

abbrev pub Fails : Evaluation → Type 0
Fails m = (kind : PKind) × AlwaysFails kind m

abbrev pub Answers : Answer Val PKind → Evaluation → Type 0
Answers r m = (st : State) → m st ≡ answer r st

abbrev pub IsAnswered : Evaluation → Type 0
IsAnswered m = (r : Answer Val PKind) × Answers r m

-- What the checker tells of an evaluation: a value in any case, and all else where it is sure, or U holds. Of what is not constant
-- it tells nothing.
abbrev pub Told : Type 0 → Outcome → Evaluation → Type 0
Told U (Value v) m = AlwaysGives v m
Told U Error m = U ⊎ Fails m
Told U Unknown m = U ⊎ IsAnswered m
Told U (Regex text) m = U
Told U NotConstant m = Unit {0}

-- what the checker tells of an operator's answer
abbrev pub Tells : Outcome → Answer Val PKind → Type 0
Tells (Value v) r = r ≡ Ok v
Tells Error r = (kind : PKind) × (r ≡ Err kind)
Tells Unknown r = Unit {0}
Tells (Regex text) r = ⊥
Tells NotConstant r = ⊥

-- what is made of a value, or of an error
pub behind_nothing : (r : Result) → behind [] r ≡ r
behind_nothing (Ends how es st) = refl

pub got_value : (go : Val → State → Result) (v : Val) (m : Evaluation) → AlwaysGives v m → (st : State) → got go (m st) ≡ go v st
got_value go v m h st = ap (got go) (h st) ∙ behind_nothing (go v st)

pub got_error : (go : Val → State → Result) (kind : PKind) (m : Evaluation) → AlwaysFails kind m → AlwaysFails kind (λ st. got go (m st))
got_error go kind m h st = ap (got go) (h st)

pub got_fails : (go : Val → State → Result) (m : Evaluation) → Fails m → Fails (λ st. got go (m st))
got_fails go m h = (h.0, got_error go h.0 m h.1)

pub or_fails : {U : Type 0} (m n : Evaluation) → (Fails m → Fails n) → U ⊎ Fails m → U ⊎ Fails n
or_fails m n f (inl u) = inl u
or_fails m n f (inr h) = inr (f h)

fails_answered : (m : Evaluation) → Fails m → IsAnswered m
fails_answered m h = (Err h.0, h.1)

-- what is made of an answer is one, if it is one for each value
pub got_answered : (go : Val → State → Result) (m : Evaluation) → ((v : Val) → IsAnswered (go v)) → IsAnswered m → IsAnswered (λ st. got go (m st))
got_answered go m f (Ok v, h) = ((f v).0, λ st. got_value go v m h st ∙ (f v).1 st)
got_answered go m f (Err kind, h) = (Err kind, got_error go kind m h)

-- what is done with one part, and with two
abbrev pub then_one : (Val → Answer Val PKind) → Evaluation → Evaluation
then_one g m st = got (λ v st. answer (g v) st) (m st)

abbrev pub then_two : (Val → Val → Answer Val PKind) → Evaluation → Evaluation → Evaluation
then_two g m n st = got (λ x st. then_one (g x) n st) (m st)

second_answered : (g : Val → Val → Answer Val PKind) (n : Evaluation) → IsAnswered n → (x : Val) → IsAnswered (then_one (g x) n)
second_answered g n h x = got_answered (λ y st. answer (g x y) st) n (λ y. (g x y, λ st. refl)) h

of_second : (f : Val → Val → Outcome) (x : Val) (p : Outcome) → of_two f (Value x) p ≡ of_one (f x) p
of_second f x (Value y) = refl
of_second f x Error = refl
of_second f x Unknown = refl
of_second f x (Regex text) = refl
of_second f x NotConstant = refl

-- the first part is answered, and the second fails
second_fails : (g : Val → Val → Answer Val PKind) (m n : Evaluation) → IsAnswered m → Fails n → Fails (then_two g m n)
second_fails g m n (Ok x, h) k = (k.0, λ st. got_value (λ x st. then_one (g x) n st) x m h st ∙ got_error (λ y st. answer (g x y) st) k.0 n k.1 st)
second_fails g m n (Err kind, h) k = (kind, got_error (λ x st. then_one (g x) n st) kind m h)

module _ (U : Type 0) where
  -- evaluations that are the same in every state
  pub told_same : (o : Outcome) (m n : Evaluation) → ((st : State) → n st ≡ m st) → Told U o m → Told U o n
  told_same (Value v) m n e h = λ st. e st ∙ h st
  told_same Error m n e (inl u) = inl u
  told_same Error m n e (inr h) = inr (h.0, λ st. e st ∙ h.1 st)
  told_same Unknown m n e (inl u) = inl u
  told_same Unknown m n e (inr h) = inr (h.0, λ st. e st ∙ h.1 st)
  told_same (Regex text) m n e h = h
  told_same NotConstant m n e h = tt

  pub told_answer : (o : Outcome) (r : Answer Val PKind) (m : Evaluation) → Tells o r → Answers r m → Told U o m
  told_answer (Value v) r m e h = λ st. h st ∙ ap (λ r. answer r st) e
  told_answer Error r m e h = inr (e.0, λ st. h st ∙ ap (λ r. answer r st) e.1)
  told_answer Unknown r m e h = inr (r, h)
  told_answer (Regex text) r m e h = absurd e
  told_answer NotConstant r m e h = absurd e

  -- what is constant is answered, or U holds
  pub constant_answered : (o : Outcome) (m : Evaluation) → is_constant o ≡ true → Told U o m → U ⊎ IsAnswered m
  constant_answered (Value v) m c h = inr (Ok v, h)
  constant_answered Error m c (inl u) = inl u
  constant_answered Error m c (inr h) = inr (fails_answered m h)
  constant_answered Unknown m c h = h
  constant_answered (Regex text) m c h = inl h
  constant_answered NotConstant m c h = cc

  pub if_told : (o whole : Outcome) (m : Evaluation) → (is_constant o ≡ true → Told U whole m) → Told U (if_constant o whole) m
  if_told NotConstant whole m h = tt
  if_told (Value v) whole m h = h refl
  if_told Error whole m h = h refl
  if_told Unknown whole m h = h refl
  if_told (Regex text) whole m h = h refl

  pub one_told : (f : Val → Outcome) (g : Val → Answer Val PKind) (o : Outcome) (m : Evaluation) → ((v : Val) → Tells (f v) (g v)) → Told U o m → Told U (of_one f o) (then_one g m)
  one_told f g (Value v) m t h = told_answer (f v) (g v) (then_one g m) (t v) (got_value (λ v st. answer (g v) st) v m h)
  one_told f g Error m t h = or_fails m (then_one g m) (got_fails (λ v st. answer (g v) st) m) h
  one_told f g Unknown m t (inl u) = inl u
  one_told f g Unknown m t (inr h) = inr (got_answered (λ v st. answer (g v) st) m (λ v. (g v, λ st. refl)) h)
  one_told f g (Regex text) m t h = inl h
  one_told f g NotConstant m t h = tt

  pub two_told : (f : Val → Val → Outcome) (g : Val → Val → Answer Val PKind) (o p : Outcome) (m n : Evaluation) → ((x y : Val) → Tells (f x y) (g x y)) → Told U o m → Told U p n
      → Told U (of_two f o p) (then_two g m n)
  two_told f g (Value x) p m n t h k =
      let first = told_same (of_one (f x) p) (then_one (g x) n) (then_two g m n) (got_value (λ x st. then_one (g x) n st) x m h) (one_told (f x) (g x) p n (t x) k) in
      subst (λ o. Told U o (then_two g m n)) (sym (of_second f x p)) first
  two_told f g Error NotConstant m n t h k = tt
  two_told f g Error _ m n t h k = or_fails m (then_two g m n) (got_fails (λ x st. then_one (g x) n st) m) h
  two_told f g Unknown NotConstant m n t h k = tt
  two_told f g Unknown _ m n t (inl u) k = inl u
  two_told f g Unknown (Value y) m n t (inr h) k = inr (got_answered (λ x st. then_one (g x) n st) m (second_answered g n (Ok y, k)) h)
  two_told f g Unknown Error m n t (inr h) (inl u) = inl u
  two_told f g Unknown Error m n t (inr h) (inr k) = inr (second_fails g m n h k)
  two_told f g Unknown Unknown m n t (inr h) (inl u) = inl u
  two_told f g Unknown Unknown m n t (inr h) (inr k) = inr (got_answered (λ x st. then_one (g x) n st) m (second_answered g n k) h)
  two_told f g Unknown (Regex text) m n t (inr h) k = inl k
  two_told f g (Regex text) NotConstant m n t h k = tt
  two_told f g (Regex text) _ m n t h k = inl h
  two_told f g NotConstant p m n t h k = tt
