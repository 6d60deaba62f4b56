-- Operands, locals, members and instances by their kinds.
use Rattle.std.proofs.Common.{◌≡◌, ℕ, zero, suc, ◌<◌, ◌≤◌, List, [], ◌∷◌, ◌++◌, length, take, drop, reverse, replicate, Option, None, Some, refl, sym, ap, ◌∙◌, subst, arith}
use Rattle.std.specs.Prelude.{slice_get, slice_set, unwrap_or}
use Rattle.std.specs.List.{AllByRecursion}
use Rattle.std.proofs.lemmas.List.{reverse-append}
use Rattle.sp_value.specs.Val.{Val, void}
use Rattle.sp_methods.specs.Kinds.{Kind, kinds_of, Has, HasEach, Have}
use Rattle.sp_meaning_states.specs.States.{Instance, flat}
use Rattle.sp_code.specs.Machine.{Plain}
use Rattle.sp_code.specs.Shapes.{Shapes, HasIfSet, HaveIfSet, HasKinds, AllHaveKinds, units_of}

pub in_range : {A : Type 0} (xs : List A) (n : ℕ) (x : A) → slice_get xs n ≡ Some x → n < length xs
in_range [] n x e = cc
in_range (y ∷ xs) zero x e = omega arith
in_range (y ∷ xs) (suc n) x e = let h = in_range xs n x e in omega (arith, h)

module _ (units : List ℕ) where
  pub one_there : (P : List Val → Type 0) (k : Kind) (ks : List Kind) (vs : List Val) → Have units (k ∷ ks) vs
      → ((v : Val) (ws : List Val) → Has units k v → Have units ks ws → P (v ∷ ws)) → P vs
  one_there P k ks [] h go = absurd h
  one_there P k ks (v ∷ vs) h go = go v vs h.0 h.1

  pub two_there : (P : List Val → Type 0) (j k : Kind) (ks : List Kind) (vs : List Val) → Have units (j ∷ k ∷ ks) vs
      → ((v w : Val) (ws : List Val) → Has units j v → Has units k w → Have units ks ws → P (v ∷ w ∷ ws)) → P vs
  two_there P j k ks vs h go = one_there P j (k ∷ ks) vs h (λ v ws g t. one_there (λ us. P (v ∷ us)) k ks ws t (λ w us. go v w us g))

  pub three_there : (P : List Val → Type 0) (i j k : Kind) (ks : List Kind) (vs : List Val) → Have units (i ∷ j ∷ k ∷ ks) vs
      → ((u v w : Val) (ws : List Val) → Has units i u → Has units j v → Has units k w → Have units ks ws → P (u ∷ v ∷ w ∷ ws)) → P vs
  three_there P i j k ks vs h go = one_there P i (j ∷ k ∷ ks) vs h (λ u ws g t. two_there (λ us. P (u ∷ us)) j k ks ws t (λ v w us. go u v w us g))

  pub local_there : (ks : List Kind) (vs : List Val) (l : ℕ) (k : Kind) → slice_get ks l ≡ Some k → Have units ks vs → (l < length vs) × Has units k (unwrap_or (slice_get vs l) void)
  local_there [] vs l k e h = cc
  local_there (j ∷ ks) [] l k e h = absurd h
  local_there (j ∷ ks) (v ∷ vs) zero k e h = let same : j ≡ k = cc in (omega arith, subst (λ i. Has units i v) same h.0)
  local_there (j ∷ ks) (v ∷ vs) (suc l) k e h = let r = local_there ks vs l k e h.1 in let g = r.0 in (omega (arith, g), r.1)

  pub local_set : (ks : List Kind) (vs : List Val) (l : ℕ) (k : Kind) (x : Val) → slice_get ks l ≡ Some k → Have units ks vs → Has units k x → Have units ks (slice_set vs l x)
  local_set [] vs l k x e h g = cc
  local_set (j ∷ ks) [] l k x e h g = absurd h
  local_set (j ∷ ks) (v ∷ vs) zero k x e h g = let same : k ≡ j = cc in (subst (λ i. Has units i x) same g, h.1)
  local_set (j ∷ ks) (v ∷ vs) (suc l) k x e h g = (h.0, local_set ks vs l k x e h.1 g)

  pub member_there : (ks : List Kind) (os : List (Option Val)) (m : ℕ) (k : Kind) → slice_get ks m ≡ Some k → HaveIfSet units ks os → (m < length os) × HasIfSet units k (flat (slice_get os m))
  member_there [] os m k e h = cc
  member_there (j ∷ ks) [] m k e h = absurd h
  member_there (j ∷ ks) (o ∷ os) zero k e h = let same : j ≡ k = cc in (omega arith, subst (λ i. HasIfSet units i o) same h.0)
  member_there (j ∷ ks) (o ∷ os) (suc m) k e h = let r = member_there ks os m k e h.1 in let g = r.0 in (omega (arith, g), r.1)

  pub member_set : (ks : List Kind) (os : List (Option Val)) (m : ℕ) (k : Kind) (x : Val) → slice_get ks m ≡ Some k → HaveIfSet units ks os → Has units k x → HaveIfSet units ks (slice_set os m (Some x))
  member_set [] os m k x e h g = cc
  member_set (j ∷ ks) [] m k x e h g = absurd h
  member_set (j ∷ ks) (o ∷ os) zero k x e h g = let same : k ≡ j = cc in (subst (λ i. Has units i x) same g, h.1)
  member_set (j ∷ ks) (o ∷ os) (suc m) k x e h g = (h.0, member_set ks os m k x e h.1 g)

  pub member_unset : (ks : List Kind) (os : List (Option Val)) (m : ℕ) → HaveIfSet units ks os → HaveIfSet units ks (slice_set os m None)
  member_unset [] [] m h = tt
  member_unset [] (o ∷ os) m h = absurd h
  member_unset (j ∷ ks) [] m h = absurd h
  member_unset (j ∷ ks) (o ∷ os) zero h = (tt, h.1)
  member_unset (j ∷ ks) (o ∷ os) (suc m) h = (h.0, member_unset ks os m h.1)

  pub no_members : (ks : List Kind) (n : ℕ) → length ks ≡ n → HaveIfSet units ks (replicate n None)
  no_members [] zero e = tt
  no_members [] (suc n) e = absurd (omega (arith, e))
  no_members (k ∷ ks) zero e = absurd (omega (arith, e))
  no_members (k ∷ ks) (suc n) e = (tt, no_members ks n (omega (arith, e)))

  -- operands in two parts
  pub many_there : (ins ks : List Kind) (vs : List Val) → Have units (ins ++ ks) vs → (length ins ≤ length vs) × Have units ins (take (length ins) vs) × Have units ks (drop (length ins) vs)
  many_there [] ks vs h = (omega arith, tt, h)
  many_there (i ∷ ins) ks [] h = absurd h
  many_there (i ∷ ins) ks (v ∷ vs) h = let r = many_there ins ks vs h.1 in let l = r.0 in (omega (arith, l), (h.0, r.1), r.2)

  pub have_both : (js ks : List Kind) (vs ws : List Val) → Have units js vs → Have units ks ws → Have units (js ++ ks) (vs ++ ws)
  have_both [] ks [] ws h g = g
  have_both [] ks (v ∷ vs) ws h g = absurd h
  have_both (j ∷ js) ks [] ws h g = absurd h
  have_both (j ∷ js) ks (v ∷ vs) ws h g = (h.0, have_both js ks vs ws h.1 g)

  pub have_reversed : (ks : List Kind) (vs : List Val) → Have units ks vs → Have units (reverse ks) (reverse vs)
  have_reversed [] [] h = tt
  have_reversed [] (v ∷ vs) h = absurd h
  have_reversed (k ∷ ks) [] h = absurd h
  have_reversed (k ∷ ks) (v ∷ vs) h =
      subst (λ l. Have units l (reverse (v ∷ vs))) (sym (reverse-append (k ∷ []) ks))
      (subst (λ l. Have units (reverse ks ++ k ∷ []) l) (sym (reverse-append (v ∷ []) vs)) (have_both (reverse ks) (k ∷ []) (reverse vs) (v ∷ []) (have_reversed ks vs h.1) (h.0, tt)))

  pub have_alike : (n : ℕ) (k : Kind) (vs : List Val) → Have units (replicate n k) vs → AllByRecursion (Has units k) vs
  have_alike zero k [] h = tt
  have_alike zero k (v ∷ vs) h = absurd h
  have_alike (suc n) k [] h = absurd h
  have_alike (suc n) k (v ∷ vs) h = (h.0, have_alike n k vs h.1)

  pub have_each : (ks : List Kind) (vs : List Val) → Have units ks vs → HasEach units (kinds_of ks) vs
  have_each [] [] h = tt
  have_each [] (v ∷ vs) h = absurd h
  have_each (k ∷ ks) [] h = absurd h
  have_each (k ∷ ks) (v ∷ vs) h = (h.0, have_each ks vs h.1)

module _ (p : Plain) (shapes : Shapes) (units : List ℕ) where
  -- the instance with a number, which is of a unit
  pub record Known (xs : List Instance) (n u : ℕ) : Type 0 where
    pub instance : Instance
    pub there : slice_get xs n ≡ Some instance
    pub of : instance.unit ≡ u
    pub has : HasKinds p shapes units instance

  pub known_there : (xs : List Instance) (n u : ℕ) → slice_get (units_of xs) n ≡ Some u → AllHaveKinds p shapes units xs → Known xs n u
  known_there [] n u e h = cc
  known_there (x ∷ xs) zero u e h = record { instance = x; there = refl; of = cc; has = h.0 }
  known_there (x ∷ xs) (suc n) u e h = let r = known_there xs n u e h.1 in record { instance = r.instance; there = r.there; of = r.of; has = r.has }

  pub set_all : (xs : List Instance) (n : ℕ) (y : Instance) → HasKinds p shapes units y → AllHaveKinds p shapes units xs → AllHaveKinds p shapes units (slice_set xs n y)
  set_all [] n y g h = tt
  set_all (x ∷ xs) zero y g h = (g, h.1)
  set_all (x ∷ xs) (suc n) y g h = (h.0, set_all xs n y g h.1)

  pub set_units : (xs : List Instance) (n : ℕ) (x y : Instance) → slice_get xs n ≡ Some x → y.unit ≡ x.unit → units_of (slice_set xs n y) ≡ units_of xs
  set_units [] n x y e f = refl
  set_units (z ∷ xs) zero x y e f = let same : z ≡ x = cc in ap (λ u. u ∷ units_of xs) (f ∙ ap (λ i. i.unit) (sym same))
  set_units (z ∷ xs) (suc n) x y e f = ap (λ us. z.unit ∷ us) (set_units xs n x y e f)

  pub both_units : (xs : List Instance) (y : Instance) → units_of (xs ++ y ∷ []) ≡ units_of xs ++ y.unit ∷ []
  both_units [] y = refl
  both_units (x ∷ xs) y = ap (λ us. x.unit ∷ us) (both_units xs y)

  pub both_have : (xs : List Instance) (y : Instance) → AllHaveKinds p shapes units xs → HasKinds p shapes units y → AllHaveKinds p shapes units (xs ++ y ∷ [])
  both_have [] y h g = (g, tt)
  both_have (x ∷ xs) y h g = (h.0, both_have xs y h.1 g)

  pub last_unit : (xs : List Instance) (y : Instance) → slice_get (units_of xs ++ y.unit ∷ []) (length xs) ≡ Some y.unit
  last_unit [] y = refl
  last_unit (x ∷ xs) y = last_unit xs y
