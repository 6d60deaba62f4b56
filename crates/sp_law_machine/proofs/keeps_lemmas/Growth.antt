-- What is known of values, instances and frames stays where a unit is entered.
use Rattle.std.proofs.Common.{◌≡◌, ℕ, zero, suc, List, [], ◌∷◌, ◌++◌, Option, None, Some}
use Rattle.std.specs.Prelude.{slice_get}
use Rattle.std.specs.List.{AllByRecursion}
use Rattle.sp_value.specs.Val.{Val}
use Rattle.sp_methods.specs.Kinds.{Kind, Kinds, Void, Bools, Unsigned, Signed, Bytes, Text, Iterator, Only, EnumOf, UnitOf, BitsOf, TupleOf, VectorOf, SetOf, MapOf, no_kinds, kind_and, IsUnit, nowhere, somewhere, Has, HasEach, Have}
use Rattle.sp_meaning_states.specs.States.{Instance}
use Rattle.sp_meaning_states.specs.Scopes.{Scope, InUnit, InParts, InFailing, InCall, InSize, InMax, InFrom, InAt, InTry}
use Rattle.sp_code.specs.Machine.{Plain, Frame}
use Rattle.sp_code.specs.Shapes.{Shape, Shapes, Opens, AView, ATry, Round, HasIfSet, HaveIfSet, IsSelf, IsKnownAs, IsRound, Framed, AllHaveKinds}

pub there_still : (units more : List ℕ) (n u : ℕ) → slice_get units n ≡ Some u → slice_get (units ++ more) n ≡ Some u
there_still [] more n u e = cc
there_still (x ∷ xs) more zero u e = e
there_still (x ∷ xs) more (suc n) u e = there_still xs more n u e

all_by : {A : Type 0} (P Q : A → Type 0) → ((x : A) → P x → Q x) → (xs : List A) → AllByRecursion P xs → AllByRecursion Q xs
all_by P Q f [] h = tt
all_by P Q f (x ∷ xs) h = (f x h.0, all_by P Q f xs h.1)

module _ (units more : List ℕ) where
  unit_grows : (u : ℕ) (v : Val) → IsUnit units u v → IsUnit (units ++ more) u v
  unit_grows u v (nowhere e) = nowhere e
  unit_grows u v (somewhere n e h) = somewhere n e (there_still units more n u h)

  mutual
    pub grows : (k : Kind) (v : Val) → Has units k v → Has (units ++ more) k v
    grows Void v h = h
    grows Bools v h = h
    grows Unsigned v h = h
    grows Signed v h = h
    grows Bytes v h = h
    grows Text v h = h
    grows Iterator v h = h
    grows (Only n) v h = h
    grows (EnumOf n) v h = h
    grows (UnitOf u) v h = unit_grows u v h
    grows (BitsOf n m) v h = h
    grows (TupleOf ks) v (vs, e, h) = (vs, e, each_grows ks vs h)
    grows (VectorOf k) v (vs, e, h) = (vs, e, all_by (Has units k) (Has (units ++ more) k) (grows k) vs h)
    grows (SetOf k) v (vs, e, h) = (vs, e, all_by (Has units k) (Has (units ++ more) k) (grows k) vs h)
    grows (MapOf j k) v (es, e, h) =
        (es, e, all_by (λ e. Has units j e.0 × Has units k e.1) (λ e. Has (units ++ more) j e.0 × Has (units ++ more) k e.1) (λ e h. (grows j e.0 h.0, grows k e.1 h.1)) es h)

    each_grows : (ks : Kinds) (vs : List Val) → HasEach units ks vs → HasEach (units ++ more) ks vs
    each_grows no_kinds [] h = tt
    each_grows no_kinds (v ∷ vs) h = absurd h
    each_grows (kind_and k ks) [] h = absurd h
    each_grows (kind_and k ks) (v ∷ vs) h = (grows k v h.0, each_grows ks vs h.1)

  pub have_grows : (ks : List Kind) (vs : List Val) → Have units ks vs → Have (units ++ more) ks vs
  have_grows [] [] h = tt
  have_grows [] (v ∷ vs) h = absurd h
  have_grows (k ∷ ks) [] h = absurd h
  have_grows (k ∷ ks) (v ∷ vs) h = (grows k v h.0, have_grows ks vs h.1)

  if_grows : (k : Kind) (o : Option Val) → HasIfSet units k o → HasIfSet (units ++ more) k o
  if_grows k None h = tt
  if_grows k (Some v) h = grows k v h

  members_grow : (ks : List Kind) (os : List (Option Val)) → HaveIfSet units ks os → HaveIfSet (units ++ more) ks os
  members_grow [] [] h = tt
  members_grow [] (o ∷ os) h = absurd h
  members_grow (k ∷ ks) [] h = absurd h
  members_grow (k ∷ ks) (o ∷ os) h = (if_grows k o h.0, members_grow ks os h.1)

  pub self_grows : (u : Option ℕ) (self : ℕ) → IsSelf units u self → IsSelf (units ++ more) u self
  self_grows None self h = tt
  self_grows (Some u) self h = there_still units more self u h

  known_grows : (u : Option ℕ) (instance : ℕ) → IsKnownAs units u instance → IsKnownAs (units ++ more) u instance
  known_grows None instance h = absurd h
  known_grows (Some u) instance h = there_still units more instance u h

  module _ (p : Plain) (shapes : Shapes) where
    pub all_grow : (xs : List Instance) → AllHaveKinds p shapes units xs → AllHaveKinds p shapes (units ++ more) xs
    all_grow [] h = tt
    all_grow (x ∷ xs) (a, h) =
        (record { kinds = a.kinds; listed = a.listed; parameters = have_grows a.kinds.parameters x.parameters a.parameters; members = members_grow a.kinds.members x.members a.members }, all_grow xs h)

    round_grows : (u : Option ℕ) (r : Round) (ls : List Kind) (outer : Shape) (x : Scope) → IsRound p shapes units u r ls outer x → IsRound p shapes (units ++ more) u r ls outer x
    round_grows u r ls outer (InUnit keeps instance start self locals) (e, i, s, l) = (e, known_grows u instance i, self_grows outer.unit self s, have_grows outer.locals locals l)
    round_grows u r ls outer (InParts failing) h = h
    round_grows u r ls outer (InFailing e) h = h
    round_grows u r ls outer (InCall called self locals) (e, s, l) = (e, self_grows outer.unit self s, have_grows outer.locals locals l)
    round_grows u r ls outer (InSize views limit) h = absurd h
    round_grows u r ls outer (InMax views number start n) h = absurd h
    round_grows u r ls outer (InFrom level at) h = absurd h
    round_grows u r ls outer (InAt level at) h = absurd h
    round_grows u r ls outer (InTry tries place unset) h = absurd h

    pub framed_grows : (u : Option ℕ) (r : Round) (ls : List Kind) (os : List Opens) (fs : List Frame) → Framed p shapes units u r ls os fs → Framed p shapes (units ++ more) u r ls os fs
    framed_grows u r ls [] [] h = tt
    framed_grows u r ls (o ∷ os) [] h = absurd h
    framed_grows u r ls (AView ∷ os) (f ∷ fs) h = (h.0, framed_grows u r ls os fs h.1)
    framed_grows u r ls (ATry to ks ∷ os) (f ∷ fs) (t, e, h, n, g) = (t, e, have_grows ks f.below h, n, framed_grows u r ls os fs g)
    framed_grows u r ls [] (f ∷ fs) (outer, ks, n, e, h, x, g) =
        (outer, ks, n, e, have_grows ks f.below h, round_grows u r ls outer f.scope x, framed_grows outer.unit outer.round outer.locals outer.opens fs g)
