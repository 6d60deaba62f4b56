-- What is known of the locals of a unit's own code.
use Rattle.std.proofs.Common.{◌≡◌, ℕ, zero, suc, ◌<◌, ◌≤◌, ◌⊎◌, inl, inr, List, [], ◌∷◌, ◌++◌, length, Some, None, refl, sym, ap, ◌∙◌, subst, arith}
use Rattle.std.specs.Prelude.{slice_get, slice_set, unwrap_or}
use Rattle.sp_value.specs.Val.{Val, void}
use Rattle.sp_meaning_states.specs.States.{State, End, Need, Unfinished, Result, Ends, local_of, set_local}
use Rattle.sp_law_meaning.specs.Laws.{Behind, Agree}
use Rattle.sp_law_meaning.proofs.Agree.{Rel, Both}
use Rattle.sp_law_pieces.specs.States.{Close, Low}
use Rattle.sp_law_meaning.proofs.Framed.{framed, Framed, Alike}

pub close_self : (at : ℕ) (us : List Val) → Close at us us
close_self at us = record { size = refl; same = λ l h. refl }

-- what agrees in one frame agrees in all that are close
framed_low : (at : ℕ) (us ws : List Val) → Close at us ws → (how : End) (st ts : State) → Behind (Framed ws) how st ts → Behind (Low at us) how st ts
framed_low at us ws c (Need m) st ts r = tt
framed_low at us ws c Unfinished st ts r = tt
framed_low at us ws c _ st ts r = record { own = ws; close = c; are = r }

pub agree_low : (at : ℕ) (us ws : List Val) → Close at us ws → (r s : Result) → Agree (Framed ws) r s → Agree (Low at us) r s
agree_low at us ws c (Ends how es st) (Ends also fs ts) x = record { how = x.how; told = x.told; behind = framed_low at us ws c how st ts x.behind }

-- where no more is known than before, that is enough
pub looser : (at to : ℕ) (us vs : List Val) → ((ws : List Val) → Close to vs ws → Close at us ws) → (st ts : State) → Low to vs st ts → Low at us st ts
looser at to us vs h st ts r = record { own = r.own; close = h r.own r.close; are = r.are }

module _ (R Q : Rel) (pass : (st ts : State) → R st ts → Q st ts) where
  passing : (how : End) (st ts : State) → Behind R how st ts → Behind Q how st ts
  passing (Need m) st ts b = tt
  passing Unfinished st ts b = tt
  passing _ st ts b = pass st ts b

  pub agree_passes : (r s : Result) → Agree R r s → Agree Q r s
  agree_passes (Ends how es st) (Ends also fs ts) x = record { how = x.how; told = x.told; behind = passing how st ts x.behind }

-- a part that is alike in each frame
pub loose : (at : ℕ) (us : List Val) (f g : State → Result) → ((ws : List Val) → Close at us ws → Alike ws f g) → Both (Low at us) f g
loose at us f g h st ts r = agree_low at us r.own r.close (f st) (g ts) (h r.own r.close st ts r.are)

-- What stands in a local that is known.
pub get_front : (ws xs : List Val) (l : ℕ) (v : Val) → slice_get ws l ≡ Some v → slice_get (ws ++ xs) l ≡ Some v
get_front [] xs l v e = absurd (let q : None ≡ Some v = e in cc)
get_front (w ∷ ws) xs zero v e = e
get_front (w ∷ ws) xs (suc l) v e = get_front ws xs l v e

pub local_front : (ws : List Val) (l : ℕ) (v : Val) (st : State) → slice_get ws l ≡ Some v → local_of (framed ws st) l ≡ v
local_front ws l v st e = ap (λ o. unwrap_or o void) (get_front ws st.locals l v e)

pub known_local : (at : ℕ) (us ws : List Val) → Close at us ws → (l : ℕ) (v : Val) → l < at → slice_get us l ≡ Some v → slice_get ws l ≡ Some v
known_local at us ws c l v h e = c.same l h ∙ e

-- a local is set
set_front : (ws xs : List Val) (l : ℕ) (v : Val) → l < length ws → slice_set (ws ++ xs) l v ≡ slice_set ws l v ++ xs
set_front [] xs l v h = absurd (omega (arith, h))
set_front (w ∷ ws) xs zero v h = refl
set_front (w ∷ ws) xs (suc l) v h = ap (λ t. w ∷ t) (set_front ws xs l v (omega (arith, h)))

pub set_framed : (ws : List Val) (l : ℕ) (v : Val) (st : State) → l < length ws → set_local l v (framed ws st) ≡ framed (slice_set ws l v) st
set_framed ws l v st h = ap (λ ls. record st { locals = ls }) (set_front ws st.locals l v h)

pub set_size : (ws : List Val) (l : ℕ) (v : Val) → length (slice_set ws l v) ≡ length ws
set_size [] l v = refl
set_size (w ∷ ws) zero v = refl
set_size (w ∷ ws) (suc l) v = ap suc (set_size ws l v)

pub set_there : (ws : List Val) (l : ℕ) (v : Val) → l < length ws → slice_get (slice_set ws l v) l ≡ Some v
set_there [] l v h = absurd (omega (arith, h))
set_there (w ∷ ws) zero v h = refl
set_there (w ∷ ws) (suc l) v h = set_there ws l v (omega (arith, h))

pub set_below : (ws : List Val) (l i : ℕ) (v : Val) → i < l → slice_get (slice_set ws l v) i ≡ slice_get ws i
set_below [] l i v h = refl
set_below (w ∷ ws) zero i v h = absurd (omega (arith, h))
set_below (w ∷ ws) (suc l) zero v h = refl
set_below (w ∷ ws) (suc l) (suc i) v h = set_below ws l i v (omega (arith, h))

-- the next local becomes known
close_next : (at : ℕ) (us ws : List Val) (v : Val) → at < length us → Close at us ws → Close (suc at) (slice_set us at v) (slice_set ws at v)
close_next at us ws v h c =
    record {
      size = set_size ws at v ∙ c.size ∙ sym (set_size us at v);
      same = λ l k. by_place l k (l_or l k);
    }
  where
    l_or : (l : ℕ) → l < suc at → (l < at) ⊎ (l ≡ at)
    l_or l k = below_or l at k
      where
        below_or : (l at : ℕ) → l < suc at → (l < at) ⊎ (l ≡ at)
        below_or zero zero k = inr refl
        below_or zero (suc at) k = inl (omega arith)
        below_or (suc l) zero k = absurd (omega (arith, k))
        below_or (suc l) (suc at) k = step (below_or l at (omega (arith, k)))
          where
            step : (l < at) ⊎ (l ≡ at) → (suc l < suc at) ⊎ (suc l ≡ suc at)
            step (inl h) = inl (omega (arith, h))
            step (inr e) = inr (ap suc e)

    by_place : (l : ℕ) → l < suc at → (l < at) ⊎ (l ≡ at) → slice_get (slice_set ws at v) l ≡ slice_get (slice_set us at v) l
    by_place l k (inl b) = set_below ws at l v b ∙ c.same l b ∙ sym (set_below us at l v b)
    by_place l k (inr e) =
        subst (λ l. slice_get (slice_set ws at v) l ≡ slice_get (slice_set us at v) l) (sym e)
        (set_there ws at v (subst (λ n. at < n) (sym c.size) h) ∙ sym (set_there us at v h))

pub sets_next : (at : ℕ) (us : List Val) (v : Val) → at < length us → (st ts : State) → Low at us st ts → Low (suc at) (slice_set us at v) st (set_local at v ts)
sets_next at us v h st ts r =
    record {
      own = slice_set r.own at v;
      close = close_next at us r.own v h r.close;
      are = ap (set_local at v) r.are ∙ set_framed r.own at v st (subst (λ n. at < n) (sym r.close.size) h);
    }

-- fewer are known
pub fewer : (at to : ℕ) (us : List Val) → at ≤ to → (st ts : State) → Low to us st ts → Low at us st ts
fewer at to us h st ts r = looser at to us us (λ ws c. record { size = c.size; same = λ l k. c.same l (omega (arith, h, k)) }) st ts r
