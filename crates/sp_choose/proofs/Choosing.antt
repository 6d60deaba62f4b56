-- The choice in words of its own.
use Rattle.std.proofs.Common.{Bool, true, false, inl, inr, ◌≡◌, ◌<◌, ◌+◌, ◌⊎◌, ℕ, zero, suc, List, [], ◌∷◌, Option, Some, None, ap, refl, subst, arith, cond}
use Rattle.sp_typed_units.specs.declared.declarations.Unit.{Unit}
use Rattle.sp_choose.specs.Choices.{is_asked, is_parser, first_asked, where_none, only_from, chosen}
use Rattle.sp_choose.specs.Laws.{IsAskedAt, AreNone, AreTwo, IsChoice}

-- none before a unit is asked for
abbrev IsLeast : Option (List ℕ) → List Unit → ℕ → Type 0
IsLeast name us k = (j : ℕ) → IsAskedAt name us j → j < k → ⊥

-- no other is asked for
abbrev IsAlone : Option (List ℕ) → List Unit → ℕ → Type 0
IsAlone name us k = (j : ℕ) → IsAskedAt name us j → j ≡ k

none_behind : (name : Option (List ℕ)) (u : Unit) (us : List Unit) → is_asked name u ≡ false → AreNone name us → AreNone name (u ∷ us)
none_behind name u us other is zero asked = cc
none_behind name u us other is (suc k) asked = is k asked

least_behind : (name : Option (List ℕ)) (u : Unit) (us : List Unit) (k : ℕ) → is_asked name u ≡ false → IsLeast name us k → IsLeast name (u ∷ us) (suc k)
least_behind name u us k other least zero asked lt = cc
least_behind name u us k other least (suc j) asked lt = least j asked (omega arith)

alone_behind : (name : Option (List ℕ)) (u : Unit) (us : List Unit) (k : ℕ) → is_asked name u ≡ false → IsAlone name us k → IsAlone name (u ∷ us) (suc k)
alone_behind name u us k other alone zero asked = cc
alone_behind name u us k other alone (suc j) asked = ap suc (alone j asked)

alone_first : (name : Option (List ℕ)) (u : Unit) (us : List Unit) → AreNone name us → IsAlone name (u ∷ us) 0
alone_first name u us none zero asked = refl
alone_first name u us none (suc j) asked = absurd (none j asked)

-- what is first, of units the first of which has the number n
abbrev IsFirstFrom : Option (List ℕ) → ℕ → List Unit → Option ℕ → Type 0
IsFirstFrom name n us None = AreNone name us
IsFirstFrom name n us (Some m) = (k : ℕ) × (m ≡ n + k) × IsAskedAt name us k × IsLeast name us k

first_step : (name : Option (List ℕ)) (n : ℕ) (u : Unit) (us : List Unit) (b : Bool) (o : Option ℕ) → is_asked name u ≡ b → IsFirstFrom name (suc n) us o
    → IsFirstFrom name n (u ∷ us) (cond b (Some n) o)
first_step name n u us true o e is = (0, omega arith, e, λ j asked lt. omega arith)
first_step name n u us false None e is = none_behind name u us e is
first_step name n u us false (Some m) e (k, at, asked, least) = (suc k, omega arith, asked, least_behind name u us k e least)

first_is : (name : Option (List ℕ)) (n : ℕ) (us : List Unit) → IsFirstFrom name n us (first_asked name n us)
first_is name n [] = λ k asked. cc
first_is name n (u ∷ us) = first_step name n u us (is_asked name u) (first_asked name (suc n) us) refl (first_is name (suc n) us)

-- what is the only one, of units the first of which has the number n
abbrev IsOnlyFrom : ℕ → List Unit → Option ℕ → Type 0
IsOnlyFrom n us None = AreNone None us ⊎ AreTwo None us
IsOnlyFrom n us (Some m) = (k : ℕ) × (m ≡ n + k) × IsAskedAt None us k × IsAlone None us k

only_here : (n : ℕ) (u : Unit) (us : List Unit) (o : Option ℕ) → is_parser u ≡ true → IsFirstFrom None (suc n) us o → IsOnlyFrom n (u ∷ us) (where_none o n)
only_here n u us None e none = (0, omega arith, e, alone_first None u us none)
only_here n u us (Some m) e (k, at, asked, least) = inr (0, suc k, omega arith, e, asked)

only_behind : (n : ℕ) (u : Unit) (us : List Unit) (o : Option ℕ) → is_parser u ≡ false → IsOnlyFrom (suc n) us o → IsOnlyFrom n (u ∷ us) o
only_behind n u us None e (inl none) = inl (none_behind None u us e none)
only_behind n u us None e (inr (j, k, lt, first, second)) = inr (suc j, suc k, omega arith, first, second)
only_behind n u us (Some m) e (k, at, asked, alone) = (suc k, omega arith, asked, alone_behind None u us k e alone)

only_step : (n : ℕ) (u : Unit) (us : List Unit) (b : Bool) (o : Option ℕ) → is_parser u ≡ b → IsOnlyFrom (suc n) us o
    → IsOnlyFrom n (u ∷ us) (cond b (where_none (first_asked None (suc n) us) n) o)
only_step n u us true o e is = only_here n u us (first_asked None (suc n) us) e (first_is None (suc n) us)
only_step n u us false o e is = only_behind n u us o e is

only_is : (n : ℕ) (us : List Unit) → IsOnlyFrom n us (only_from n us)
only_is n [] = inl (λ k asked. cc)
only_is n (u ∷ us) = only_step n u us (is_parser u) (only_from (suc n) us) refl (only_is (suc n) us)

by_first : (x : List ℕ) (us : List Unit) (o : Option ℕ) → IsFirstFrom (Some x) 0 us o → IsChoice (Some x) us o
by_first x us None none = none
by_first x us (Some m) (k, at, asked, least) = let e : k ≡ m = omega arith in subst (λ m. IsChoice (Some x) us (Some m)) e (asked, least)

by_only : (us : List Unit) (o : Option ℕ) → IsOnlyFrom 0 us o → IsChoice None us o
by_only us None is = is
by_only us (Some m) (k, at, asked, alone) = let e : k ≡ m = omega arith in subst (λ m. IsChoice None us (Some m)) e (asked, alone)

-- what is chosen is the choice
pub choice_is : (name : Option (List ℕ)) (us : List Unit) → IsChoice name us (chosen name us)
choice_is None us = by_only us (only_from 0 us) (only_is 0 us)
choice_is (Some x) us = by_first x us (first_asked (Some x) 0 us) (first_is (Some x) 0 us)
