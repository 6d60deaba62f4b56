-- Parts in turn that lead from states in one relation to states in another.
use Rattle.std.proofs.Common.{◌≡◌, ℕ, zero, suc, ◌<◌, ◌≤◌, ◌⊎◌, inl, inr, Bool, true, false, List, [], ◌∷◌, ◌++◌, length, Some, refl, sym, ap, ◌∙◌, subst, arith, append_assoc, append-nil}
use Rattle.std.specs.Prelude.{slice_get, slice_set}
use Rattle.sp_value.specs.Val.{Val}
use Rattle.sp_events.specs.declared.event.What.{What}
use Rattle.sp_meaning_states.specs.States.{State, End, Gives, Fine, Failed, Broke, Continued, Returned, Stopped, Backs, Rejected, Need, Unfinished, Result, Ends, with_value, got, done, chosen, truth_of, behind, local_of, set_local}
use Rattle.sp_meaning_units.specs.Containers.{if_holds}
use Rattle.sp_law_meaning.specs.Laws.{Behind, Agree, end_of, told_by, state_of}
use Rattle.sp_law_meaning.proofs.Agree.{Rel, Same, Both, got_agree, done_agree}
use Rattle.sp_law_pieces.specs.States.{Close, Low}
use Rattle.sp_law_pieces.proofs.Low.{known_local, local_front, set_framed, set_size, set_there, set_below}

module _ (R Q : Rel) (pass : (st ts : State) → R st ts → Q st ts) where
  pub onward_got : (f g : State → Result) (go on : Val → State → Result) → Both R f g → ((v : Val) → Same R Q (go v) (on v)) → Same R Q (λ st. got go (f st)) (λ st. got on (g st))
  onward_got f g go on h k st ts r = got_agree R Q pass go on (f st) (g ts) (h st ts r) k

  pub onward_done : (f g go on : State → Result) → Both R f g → Same R Q go on → Same R Q (λ st. done go (f st)) (λ st. done on (g st))
  onward_done f g go on h k st ts r = done_agree R Q pass go on (f st) (g ts) (h st ts r) k

  pub onward_chosen : (b : Bool) (f g go on : State → Result) → Same R Q f go → Same R Q g on → Same R Q (chosen b f g) (chosen b go on)
  onward_chosen true f g go on h k = h
  onward_chosen false f g go on h k = k

  pub onward_holds : (test trial there next otherwise other : State → Result) → Both R test trial → Same R Q there next → Same R Q otherwise other
      → Same R Q (if_holds test there otherwise) (if_holds trial next other)
  onward_holds test trial there next otherwise other h k l = onward_got test trial _ _ h (λ b. onward_chosen (truth_of b) there otherwise next other k l)

-- what is read from a local that is known
pub with_local : (at : ℕ) (us : List Val) (Q : Rel) (l : ℕ) (v : Val) → l < at → slice_get us l ≡ Some v → (f : State → Result) (g : Val → State → Result)
    → Same (Low at us) Q f (g v) → Same (Low at us) Q f (λ st. g (local_of st l) st)
with_local at us Q l v h e f g k st ts r =
    subst (λ w. Agree Q (f st) (g w ts)) (sym (ap (λ ts. local_of ts l) r.are ∙ local_front r.own l v st (known_local at us r.own r.close l v h e))) (k st ts r)

-- what is above a local that is set
pub set_above : (ws : List Val) (l i : ℕ) (v : Val) → l < i → slice_get (slice_set ws l v) i ≡ slice_get ws i
set_above [] l i v h = refl
set_above (w ∷ ws) l zero v h = absurd (omega (arith, h))
set_above (w ∷ ws) zero (suc i) v h = refl
set_above (w ∷ ws) (suc l) (suc i) v h = set_above ws l i v (omega (arith, h))

pub three_ways : (l i : ℕ) → (l < i) ⊎ ((l ≡ i) ⊎ (i < l))
three_ways zero zero = inr (inl refl)
three_ways zero (suc i) = inl (omega arith)
three_ways (suc l) zero = inr (inr (omega arith))
three_ways (suc l) (suc i) = step (three_ways l i)
  where
    step : (l < i) ⊎ ((l ≡ i) ⊎ (i < l)) → (suc l < suc i) ⊎ ((suc l ≡ suc i) ⊎ (suc i < suc l))
    step (inl h) = inl (omega (arith, h))
    step (inr (inl e)) = inr (inl (ap suc e))
    step (inr (inr h)) = inr (inr (omega (arith, h)))

-- a local that is known gets another value
pub close_set : (at : ℕ) (us ws : List Val) (i : ℕ) (v : Val) → i < length us → Close at us ws → Close at (slice_set us i v) (slice_set ws i v)
close_set at us ws i v h c = record { size = set_size ws i v ∙ c.size ∙ sym (set_size us i v); same = λ l k. by_place l k (three_ways l i) }
  where
    by_place : (l : ℕ) → l < at → (l < i) ⊎ ((l ≡ i) ⊎ (i < l)) → slice_get (slice_set ws i v) l ≡ slice_get (slice_set us i v) l
    by_place l k (inl b) = set_below ws i l v b ∙ c.same l k ∙ sym (set_below us i l v b)
    by_place l k (inr (inl e)) =
        subst (λ l. slice_get (slice_set ws i v) l ≡ slice_get (slice_set us i v) l) (sym e) (set_there ws i v (subst (λ n. i < n) (sym c.size) h) ∙ sym (set_there us i v h))
    by_place l k (inr (inr a)) = set_above ws i l v a ∙ c.same l k ∙ sym (set_above us i l v a)

pub sets_known : (at : ℕ) (us : List Val) (i : ℕ) (v : Val) → i < length us → (st ts : State) → Low at us st ts → Low at (slice_set us i v) st (set_local i v ts)
sets_known at us i v h st ts r =
    record {
      own = slice_set r.own i v;
      close = close_set at us r.own i v h r.close;
      are = ap (set_local i v) r.are ∙ set_framed r.own i v st (subst (λ n. i < n) (sym r.close.size) h);
    }

pub close_trans : (at to : ℕ) (us vs ws : List Val) → at ≤ to → Close at us vs → Close to vs ws → Close at us ws
close_trans at to us vs ws h c d = record { size = d.size ∙ c.size; same = λ l k. d.same l (omega (arith, h, k)) ∙ c.same l k }

pub low_trans : (at to : ℕ) (us vs : List Val) → at ≤ to → Close at us vs → (st ts : State) → Low to vs st ts → Low at us st ts
low_trans at to us vs h c st ts r = record { own = r.own; close = close_trans at to us vs r.own h c r.close; are = r.are }

-- Two results that end alike and tell the same. Behind a value the states are in one relation, and behind other ends in another.
abbrev pub BehindGives : Rel → Rel → End → State → State → Type 0
BehindGives R Q (Gives v) st ts = R st ts
BehindGives R Q (Need m) st ts = Unit {0}
BehindGives R Q Unfinished st ts = Unit {0}
BehindGives R Q how st ts = Q st ts

pub record GivesAgree (R Q : Rel) (r s : Result) : Type 0 where
  pub how : end_of r ≡ end_of s
  pub told : told_by r ≡ told_by s
  pub behind : BehindGives R Q (end_of r) (state_of r) (state_of s)

any_gives : (R : Rel) (how : End) (st ts : State) → Behind R how st ts → BehindGives R R how st ts
any_gives R (Gives v) st ts b = b
any_gives R (Need m) st ts b = tt
any_gives R Unfinished st ts b = tt
any_gives R _ st ts b = b

pub gives_any : (R : Rel) (r s : Result) → Agree R r s → GivesAgree R R r s
gives_any R (Ends how es st) (Ends also fs ts) a = record { how = a.how; told = a.told; behind = any_gives R how st ts a.behind }

back_gives : (R : Rel) (how : End) (st ts : State) → BehindGives R R how st ts → Behind R how st ts
back_gives R (Gives v) st ts b = b
back_gives R (Need m) st ts b = tt
back_gives R Unfinished st ts b = tt
back_gives R _ st ts b = b

pub gives_back : (R : Rel) (r s : Result) → GivesAgree R R r s → Agree R r s
gives_back R (Ends how es st) (Ends also fs ts) a = record { how = a.how; told = a.told; behind = back_gives R how st ts a.behind }

-- what agrees in more than a value needs
more_gives : (R S Q : Rel) → ((st ts : State) → R st ts → S st ts) → ((st ts : State) → R st ts → Q st ts) → (how : End) (st ts : State) → Behind R how st ts → BehindGives S Q how st ts
more_gives R S Q p q (Gives v) st ts b = p st ts b
more_gives R S Q p q (Need m) st ts b = tt
more_gives R S Q p q Unfinished st ts b = tt
more_gives R S Q p q _ st ts b = q st ts b

pub gives_more : (R S Q : Rel) → ((st ts : State) → R st ts → S st ts) → ((st ts : State) → R st ts → Q st ts) → (r s : Result) → Agree R r s → GivesAgree S Q r s
gives_more R S Q p q (Ends how es st) (Ends also fs ts) a = record { how = a.how; told = a.told; behind = more_gives R S Q p q how st ts a.behind }

-- what told something before
pub gives_behind : (R Q : Rel) (es : List What) (r s : Result) → GivesAgree R Q r s → GivesAgree R Q (behind es r) (behind es s)
gives_behind R Q es (Ends how fs st) (Ends also gs ts) a = record { how = a.how; told = ap (λ l. es ++ l) a.told; behind = a.behind }

-- What is made of a value by parts that agree from what stands behind it.
module _ (R S Q : Rel) (pass : (st ts : State) → S st ts → Q st ts) (go on : Val → State → Result) (h : (v : Val) → Same R S (go v) (on v)) where
  one_end : (how : End) (es : List What) (st ts : State) → BehindGives R Q how st ts → GivesAgree S Q (got go (Ends how es st)) (got on (Ends how es ts))
  one_end Unfinished es st ts b = record { how = refl; told = refl; behind = tt }
  one_end (Gives v) es st ts b = gives_behind S Q es (go v st) (on v ts) (gives_more S S Q (λ st ts q. q) pass (go v st) (on v ts) (h v st ts b))
  one_end Fine es st ts b = record { how = refl; told = refl; behind = tt }
  one_end (Need m) es st ts b = record { how = refl; told = refl; behind = tt }
  one_end (Failed e) es st ts b = record { how = refl; told = refl; behind = b }
  one_end Broke es st ts b = record { how = refl; told = refl; behind = b }
  one_end Continued es st ts b = record { how = refl; told = refl; behind = b }
  one_end (Returned v) es st ts b = record { how = refl; told = refl; behind = b }
  one_end Stopped es st ts b = record { how = refl; told = refl; behind = b }
  one_end Backs es st ts b = record { how = refl; told = refl; behind = b }
  one_end Rejected es st ts b = record { how = refl; told = refl; behind = b }

  pub gives_got_ : (r s : Result) → GivesAgree R Q r s → GivesAgree S Q (got go r) (got on s)
  gives_got_ (Ends how es st) (Ends also fs ts) a =
      subst (λ (e : End). GivesAgree S Q (got go (Ends how es st)) (got on (Ends e fs ts))) a.how
      (subst (λ (gs : List What). GivesAgree S Q (got go (Ends how es st)) (got on (Ends how gs ts))) a.told (one_end how es st ts a.behind))

pub gives_got : (R S Q : Rel) → ((st ts : State) → S st ts → Q st ts) → (go on : Val → State → Result) (r s : Result) → GivesAgree R Q r s → ((v : Val) → Same R S (go v) (on v)) → GivesAgree S Q (got go r) (got on s)
gives_got R S Q pass go on r s a h = gives_got_ R S Q pass go on h r s a

-- parts in turn may be bound from either side
got_behind : (go : Val → State → Result) (es : List What) (r : Result) → got go (behind es r) ≡ behind es (got go r)
got_behind go es (Ends Unfinished fs st) = refl
got_behind go es (Ends how fs st) = later (with_value go how st)
  where
    later : (r : Result) → behind (es ++ fs) r ≡ behind es (behind fs r)
    later (Ends also gs ts) = ap (λ l. Ends also l ts) (append_assoc es fs gs)

pub got_got : (go on : Val → State → Result) (r : Result) → got go (got on r) ≡ got (λ v st. got go (on v st)) r
got_got go on (Ends Unfinished es st) = refl
got_got go on (Ends (Gives v) es st) = got_behind go es (on v st)
got_got go on (Ends Fine es st) = refl
got_got go on (Ends how es st) = ap (λ l. Ends how l st) (append-nil (es ++ []))

-- parts that are the same make the same of a result
pub got_by : (go on : Val → State → Result) → ((v : Val) (st : State) → go v st ≡ on v st) → (r : Result) → got go r ≡ got on r
got_by go on h (Ends (Gives v) es st) = ap (behind es) (h v st)
got_by go on h (Ends Unfinished es st) = refl
got_by go on h (Ends Fine es st) = refl
got_by go on h (Ends how es st) = refl
