-- A declaration has no answer exactly where it is made of itself, or of one that is.
use Rattle.std.proofs.Common.{ℕ, ◌≡◌, ◌≤◌, ◌<◌, zero, suc, refl, sym, ap, subst, ◌∙◌, arith, List, [], ◌∷◌, length, Bool, true, false, ltb, Option, Some, None, ◌⊎◌, inl, inr}
use Rattle.std.specs.Prelude.{replicate, nat_lt}
use Rattle.std.proofs.Math.ListN.{set}
use Rattle.std.proofs.lemmas.List.{length-set, length-replicate, get_or-replicate, get_or_past}
use Rattle.std.proofs.lemmas.Bool.Decides.{nat_tests}
use Rattle.sp_solver.specs.declared.attempt.Attempt.{Attempt}
use Rattle.sp_solver.specs.declared.attempt.Attempt.TheVariants.{Done, Waits}
use Rattle.sp_solver.specs.Rounds.{got, round, IsSettled}
use Rattle.sp_solver.specs.Told.{told}
use Rattle.sp_solver.specs.Rows.{marked, Among, fresh_in}
use Rattle.sp_solver.proofs.Rows.{same_or, marked_more}
use Rattle.sp_solver.proofs.Steps.{fewer_fresh}
use Rattle.sp_dependencies.specs.Tries.{open_or, first_open, when_open, tries, Hangs, AreBelow, IsInRange}
use Rattle.sp_dependencies.specs.TryLaws.{none_some, some_is, by_option, open_none, when_done, when_waits, one_try, is_fair, is_inside, try_within}
use Rattle.sp_dependencies.specs.Endless.{Leads, one, more, IsEndless}

open_among : {A : Type 0} (f : ℕ → Option A) (xs : List ℕ) (j : ℕ) → first_open f xs ≡ Some j → Among xs j
open_among f [] j e = absurd (none_some None j refl e)
open_among f (x ∷ xs) j e = by_option (Among (x ∷ xs) j) (f x)
    (λ u. inl (some_is x j (sym (ap (λ o. open_or o x (first_open f xs)) u) ∙ e)))
    (λ a s. inr (open_among f xs j (sym (ap (λ o. open_or o x (first_open f xs)) s) ∙ e)))

all_known : {A : Type 0} (f : ℕ → Option A) (xs : List ℕ) (j : ℕ) → first_open f xs ≡ None → Among xs j → (a : A) × (f j ≡ Some a)
all_known f [] j e h = absurd h
all_known f (x ∷ xs) j e h = (let o = open_none f x xs e in elim h [ inl s ↦ (o.0.0, ap f (sym s) ∙ o.0.1) | inr r ↦ all_known f xs j o.1 r ])

got_done : {A : Type 0} (t : Attempt A) (a : A) → got t ≡ Some a → t ≡ Done a
got_done (Done b) a e = cc
got_done (Waits j) a e = cc

-- an endless one names an endless one
record Next (needs : ℕ → List ℕ) (i : ℕ) : Type 0 where
  next : ℕ
  named : Among (needs i) next
  endless : IsEndless needs next

by_step : (needs : ℕ → List ℕ) (i j : ℕ) → Leads needs i j → (x : ℕ) × Among (needs i) x × ((x ≡ j) ⊎ Leads needs x j)
by_step needs i j (one m) = (j, m, inl refl)
by_step needs i j (more {j = x} m l) = (x, m, inr l)

next_of : (needs : ℕ → List ℕ) (i : ℕ) → IsEndless needs i → Next needs i
next_of needs i e = elim e.1 [
  | inl s ↦ (
      let l = subst (λ v. Leads needs v e.0) (sym s) e.2 in
      let b = by_step needs i e.0 l in
      record { next = b.0; named = b.1; endless = (e.0, b.2, e.2) })
  | inr l ↦ (
      let b = by_step needs i e.0 l in
      record { next = b.0; named = b.1; endless = (e.0, b.2, e.2) })
]

leads_on : (needs : ℕ → List ℕ) (i j k : ℕ) → Leads needs i j → Among (needs j) k → Leads needs i k
leads_on needs i j k (one m) n = more m (one n)
leads_on needs i j k (more m l) n = more m (leads_on needs _ j k l n)

from_on : (needs : ℕ → List ℕ) (i x j : ℕ) → (i ≡ x) ⊎ Leads needs i x → Among (needs x) j → (i ≡ j) ⊎ Leads needs i j
from_on needs i x j f m = elim f [ inl s ↦ inr (one (subst (λ v. Among (needs v) j) (sym s) m)) | inr l ↦ inr (leads_on needs i x j l m) ]

not_both : (b : Bool) → b ≡ false → b ≡ true → ⊥
not_both b e h = (let x : false ≡ true = sym e ∙ h in cc)

fresh_seen : (m y : ℕ) → marked (replicate m false) y ≡ true → ⊥
fresh_seen m y e = elim (ltb y m) as (λ b. ltb y m ≡ b → ⊥) [
  | true ↦ λ t. (let lt : y < m = grind (arith, nat_tests) in not_both (marked (replicate m false) y) (get_or-replicate m y false false lt) e)
  | false ↦ λ t. (
      let le : m ≤ y = grind (arith, nat_tests) in
      let past : length (replicate m false) ≤ y = omega (arith, le, length-replicate m false) in
      not_both (marked (replicate m false) y) (get_or_past (replicate m false) y false past) e)
] refl

-- the walk so far
record Walk {A : Type 0} (n : ℕ) (needs : ℕ → List ℕ) (answers : List (Option A)) (i : ℕ) (seen : List Bool) (x : ℕ) : Type 0 where
  all : length seen ≡ n
  within : x < n
  none : told answers x ≡ None
  from : (i ≡ x) ⊎ Leads needs i x
  back : (y : ℕ) → marked seen y ≡ true → Leads needs y x

module _ {A : Type 0} (n : ℕ) (needs : ℕ → List ℕ) (gives : (ℕ → Option A) → ℕ → A) (h : Hangs needs gives) (r : IsInRange n needs) where
  -- what waits names what it waits for
  waits_mentions : (f : ℕ → Option A) (i j : ℕ) → i < n → tries n needs gives f i ≡ Waits j → Among (needs i) j
  waits_mentions f i j lt w = open_among f (needs i) j (when_waits (gives f i) (first_open f (needs i)) j (sym (try_within n needs gives f i lt) ∙ w))

  -- what is answered in a round has all that it names answered before
  mentions_known : (f : ℕ → Option A) (i x : ℕ) (a : A) → i < n → tries n needs gives f i ≡ Done a → Among (needs i) x → (b : A) × (f x ≡ Some b)
  mentions_known f i x a lt d m =
      let o = when_done (gives f i) a (first_open f (needs i)) (sym (try_within n needs gives f i lt) ∙ d) in
      all_known f (needs i) x o.0 m

  within_next : (js : List ℕ) (j : ℕ) → AreBelow n js → Among js j → j < n
  within_next [] j b m = absurd m
  within_next (x ∷ js) j b m = elim m [ inl e ↦ subst (λ v. v < n) e b.0 | inr t ↦ within_next js j b.1 t ]

  endless_open : (k i : ℕ) (a : A) → i < n → round (tries n needs gives) k i ≡ Some a → IsEndless needs i → ⊥
  endless_open zero i a lt e t = none_some None a refl e
  endless_open (suc k) i a lt e t =
      let x = next_of needs i t in
      let b = mentions_known (round (tries n needs gives) k) i x.next a lt (got_done (tries n needs gives (round (tries n needs gives) k) i) a e) x.named in
      endless_open k x.next b.0 (within_next (needs i) x.next (r i lt) x.named) b.1 x.endless

  -- what is endless has no answer
  pub endless_has_none : (answers : List (Option A)) → IsSettled (tries n needs gives) (told answers) → (i : ℕ) → i < n → IsEndless needs i → told answers i ≡ None
  endless_has_none answers s i lt e = by_option (told answers i ≡ None) (told answers i)
      (λ u. u)
      (λ a t. (let k = s.found i a t in let x : ⊥ = endless_open k.0 i a lt k.1 e in absurd x))

  -- and what has no answer is endless: a walk from waiting to waiting comes back
  walk_on : (answers : List (Option A)) → IsSettled (tries n needs gives) (told answers) → (i : ℕ) (seen : List Bool) (x : ℕ) → Walk n needs answers i seen x → (j : ℕ) × Walk n needs answers i (set seen x true) j
  walk_on answers t i seen x w =
      let s = t.stuck x w.none in
      let m = waits_mentions (told answers) x s.0 w.within s.1 in
      let lt : x < length seen = omega (arith, w.within, w.all) in
      let b = marked_more seen x lt in (
        s.0,
        record {
          all = length-set seen x true ∙ w.all;
          within = is_inside n needs gives r (told answers) x s.0 w.within s.1;
          none = (is_fair n needs gives h).unknown (told answers) x s.0 s.1;
          from = from_on needs i x s.0 w.from m;
          back = λ y e. elim (same_or y x) [
            | inl q ↦ one (subst (λ v. Among (needs v) s.0) (sym q) m)
            | inr ne ↦ leads_on needs y x s.0 (w.back y (sym (b.elsewhere y ne) ∙ e)) m
          ];
        },
      )

  walk_ends : (answers : List (Option A)) → IsSettled (tries n needs gives) (told answers) → (i m : ℕ) (seen : List Bool) (x : ℕ) → fresh_in seen ≡ m → Walk n needs answers i seen x → IsEndless needs i
  walk_ends answers t i zero seen x e w = elim (marked seen x) as (λ b. marked seen x ≡ b → IsEndless needs i) [
    | true ↦ λ u. (x, w.from, w.back x u)
    | false ↦ λ u. absurd (
        let lt : x < length seen = omega (arith, w.within, w.all) in
        let f = fewer_fresh seen x lt u in
        let z : ⊥ = omega (arith, f, e) in z)
  ] refl
  walk_ends answers t i (suc m) seen x e w = elim (marked seen x) as (λ b. marked seen x ≡ b → IsEndless needs i) [
    | true ↦ λ u. (x, w.from, w.back x u)
    | false ↦ λ u. (
        let lt : x < length seen = omega (arith, w.within, w.all) in
        let f = fewer_fresh seen x lt u in
        let v = walk_on answers t i seen x w in
        walk_ends answers t i m (set seen x true) v.0 (omega (arith, f, e)) v.1)
  ] refl

  pub none_is_endless : (answers : List (Option A)) → IsSettled (tries n needs gives) (told answers) → (i : ℕ) → i < n → told answers i ≡ None → IsEndless needs i
  none_is_endless answers s i lt u =
      let seen : List Bool = replicate n false in
      walk_ends answers s i (fresh_in seen) seen i refl (record {
        all = length-replicate n false;
        within = lt;
        none = u;
        from = inl refl;
        back = λ y e. absurd (fresh_seen n y e);
      })
