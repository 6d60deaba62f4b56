-- `&&`, `||` and choices: they evaluate what the checker asks for.
use Rattle.std.specs.Prelude.{Bool, true, false, Ok}
use Rattle.std.proofs.Common.{◌≡◌, ◌⊎◌, inl, inr, refl, ◌∙◌}
use Rattle.sp_value.specs.Val.{Val, bool}
use Rattle.sp_type_constants.specs.declared.outcome.Outcome.{Outcome}
use Rattle.sp_type_constants.specs.declared.outcome.Outcome.TheVariants.{Value, Regex, NotConstant, Error, Unknown}
use Rattle.sp_type_constants.specs.Outcomes.{of_one, if_constant, is_constant, truth, both_hold, either_holds, chosen as choice}
use Rattle.sp_type_constants.specs.Values.{three_value}
use Rattle.sp_meaning_states.specs.States.{State, Gives, ends, got, chosen, truth_of}
use Rattle.sp_law_constants.specs.Constants.{AlwaysGives}
use Rattle.sp_law_constants.proofs.Told.{Evaluation, IsAnswered, Told, got_value, got_fails, got_answered, or_fails, told_same, constant_answered, if_told}

-- an evaluation that goes on with one of two, by a truth
abbrev pub then_chosen : Evaluation → Evaluation → Evaluation → Evaluation
then_chosen p q m st = got (λ x st. chosen (truth_of x) p q st) (m st)

abbrev pub always : Val → Evaluation
always v st = ends (Gives v) st

chosen_answered : (b : Bool) (p q : Evaluation) → IsAnswered p → IsAnswered q → IsAnswered (chosen b p q)
chosen_answered true p q h k = h
chosen_answered false p q h k = k

both_answered : (m p q : Evaluation) → IsAnswered m → IsAnswered p → IsAnswered q → IsAnswered (then_chosen p q m)
both_answered m p q h i j = got_answered (λ x st. chosen (truth_of x) p q st) m (λ x. chosen_answered (truth_of x) p q i j) h

answered_same : (m n : Evaluation) → ((st : State) → n st ≡ m st) → IsAnswered m → IsAnswered n
answered_same m n e h = (h.0, λ st. e st ∙ h.1 st)

module _ (U : Type 0) where
  -- where one of the two isn't answered, U holds
  or_answered : (m n : Evaluation) → (IsAnswered m → IsAnswered n) → U ⊎ IsAnswered m → U ⊎ IsAnswered n
  or_answered m n f (inl u) = inl u
  or_answered m n f (inr h) = inr (f h)

  all_answered : (m p q : Evaluation) → U ⊎ IsAnswered m → U ⊎ IsAnswered p → U ⊎ IsAnswered q → U ⊎ IsAnswered (then_chosen p q m)
  all_answered m p q (inl u) i j = inl u
  all_answered m p q (inr h) (inl u) j = inl u
  all_answered m p q (inr h) (inr i) (inl u) = inl u
  all_answered m p q (inr h) (inr i) (inr j) = inr (both_answered m p q h i j)

  -- what is done where the first is this value
  at_value : (v : Val) (m p q : Evaluation) → AlwaysGives v m → (st : State) → then_chosen p q m st ≡ chosen (truth_of v) p q st
  at_value v m p q h st = got_value (λ x st. chosen (truth_of x) p q st) v m h st

  -- `c ? a : b`
  choice_told : (o a b : Outcome) (m p q : Evaluation) → Told U o m → is_constant a ≡ true → Told U a p → is_constant b ≡ true → Told U b q → Told U (choice o a b) (then_chosen p q m)
  choice_told (Value (bool true)) a b m p q h c i d j = told_same U a p (then_chosen p q m) (at_value (bool true) m p q h) i
  choice_told (Value (bool false)) a b m p q h c i d j = told_same U b q (then_chosen p q m) (at_value (bool false) m p q h) j
  choice_told (Value v) a b m p q h c i d j = all_answered m p q (inr (Ok v, h)) (constant_answered U a p c i) (constant_answered U b q d j)
  choice_told Error a b m p q h c i d j = or_fails m (then_chosen p q m) (got_fails (λ x st. chosen (truth_of x) p q st) m) h
  choice_told Unknown a b m p q h c i d j = all_answered m p q h (constant_answered U a p c i) (constant_answered U b q d j)
  choice_told (Regex text) a b m p q h c i d j = inl h
  choice_told NotConstant a b m p q h c i d j = tt

  pub three_told : (o a b : Outcome) (m p q : Evaluation) → Told U o m → Told U a p → Told U b q → Told U (three_value o a b) (then_chosen p q m)
  three_told o a b m p q h i j =
      let n = then_chosen p q m in
      if_told U o (if_constant a (if_constant b (choice o a b))) n (λ _. if_told U a (if_constant b (choice o a b)) n (λ c. if_told U b (choice o a b) n (λ d. choice_told o a b m p q h c i d j)))

  -- truths alone
  truth_told : (o : Outcome) (m : Evaluation) → Told U o m → Told U (of_one truth o) m
  truth_told (Value (bool b)) m h = h
  truth_told (Value v) m h = inr (Ok v, h)
  truth_told Error m h = h
  truth_told Unknown m h = h
  truth_told (Regex text) m h = inl h
  truth_told NotConstant m h = tt

  -- `&&` and `||`
  both_told : (a b : Outcome) (m n : Evaluation) → Told U a m → is_constant b ≡ true → Told U b n → Told U (both_hold a b) (then_chosen n (always (bool false)) m)
  both_told (Value (bool true)) b m n h c i = told_same U (of_one truth b) n (then_chosen n (always (bool false)) m) (at_value (bool true) m n (always (bool false)) h) (truth_told b n i)
  both_told (Value (bool false)) b m n h c i = at_value (bool false) m n (always (bool false)) h
  both_told (Value v) b m n h c i = all_answered m n (always (bool false)) (inr (Ok v, h)) (constant_answered U b n c i) (inr (Ok (bool false), λ st. refl))
  both_told Error b m n h c i = or_fails m (then_chosen n (always (bool false)) m) (got_fails (λ x st. chosen (truth_of x) n (always (bool false)) st) m) h
  both_told Unknown b m n h c i = all_answered m n (always (bool false)) h (constant_answered U b n c i) (inr (Ok (bool false), λ st. refl))
  both_told (Regex text) b m n h c i = inl h
  both_told NotConstant b m n h c i = tt

  either_told : (a b : Outcome) (m n : Evaluation) → Told U a m → is_constant b ≡ true → Told U b n → Told U (either_holds a b) (then_chosen (always (bool true)) n m)
  either_told (Value (bool true)) b m n h c i = at_value (bool true) m (always (bool true)) n h
  either_told (Value (bool false)) b m n h c i = told_same U (of_one truth b) n (then_chosen (always (bool true)) n m) (at_value (bool false) m (always (bool true)) n h) (truth_told b n i)
  either_told (Value v) b m n h c i = all_answered m (always (bool true)) n (inr (Ok v, h)) (inr (Ok (bool true), λ st. refl)) (constant_answered U b n c i)
  either_told Error b m n h c i = or_fails m (then_chosen (always (bool true)) n m) (got_fails (λ x st. chosen (truth_of x) (always (bool true)) n st) m) h
  either_told Unknown b m n h c i = all_answered m (always (bool true)) n h (inr (Ok (bool true), λ st. refl)) (constant_answered U b n c i)
  either_told (Regex text) b m n h c i = inl h
  either_told NotConstant b m n h c i = tt

  pub and_told : (a b : Outcome) (m n : Evaluation) → Told U a m → Told U b n → Told U (if_constant a (if_constant b (both_hold a b))) (then_chosen n (always (bool false)) m)
  and_told a b m n h i =
      let p = then_chosen n (always (bool false)) m in
      if_told U a (if_constant b (both_hold a b)) p (λ _. if_told U b (both_hold a b) p (λ c. both_told a b m n h c i))

  pub or_told : (a b : Outcome) (m n : Evaluation) → Told U a m → Told U b n → Told U (if_constant a (if_constant b (either_holds a b))) (then_chosen (always (bool true)) n m)
  or_told a b m n h i =
      let p = then_chosen (always (bool true)) n m in
      if_told U a (if_constant b (either_holds a b)) p (λ _. if_told U b (either_holds a b) p (λ c. either_told a b m n h c i))
