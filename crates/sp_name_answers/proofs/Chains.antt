-- A declaration has no type exactly where it is made of itself, or of one that is.
use Rattle.std.proofs.Common.{ℕ, ◌≡◌, ◌≤◌, ◌<◌, zero, suc, refl, sym, ap, subst, ◌∙◌, arith, List, [], ◌∷◌, length, Bool, true, false, ltb, Option, Some, None, ◌⊎◌, inl, inr}
use Rattle.std.specs.Prelude.{replicate}
use Rattle.std.proofs.Math.ListN.{set}
use Rattle.std.proofs.lemmas.List.{length-set, length-replicate, get_or-replicate, get_or_past}
use Rattle.std.proofs.lemmas.Bool.Decides.{nat_tests}
use Rattle.sp_ast.specs.Trees.{Tree}
use Rattle.sp_types.specs.Types.{Ty}
use Rattle.sp_solver.specs.declared.attempt.Attempt.{Attempt}
use Rattle.sp_solver.specs.declared.attempt.Attempt.TheVariants.{Done, Waits}
use Rattle.sp_solver.specs.Rounds.{got, round, IsSettled}
use Rattle.sp_solver.specs.Told.{told}
use Rattle.sp_solver.specs.Rows.{marked, Among, fresh_in}
use Rattle.sp_solver.proofs.Rows.{same_or, marked_more}
use Rattle.sp_solver.proofs.Steps.{fewer_fresh}
use Rattle.sp_names.specs.Declarations.{rows, declaration_at}
use Rattle.sp_names.specs.Aliases.{open_or, first_open, asks, declaration_type, try_one, tries, IsResolved, Mentions, Leads, one, more, IsEndless}
use Rattle.sp_names.specs.AliasLaws.{none_some, some_is, by_option, open_none, here, when_done, when_waits, is_fair, is_inside}

open_among : (f : ℕ → Option Ty) (xs : List ℕ) (j : ℕ) → first_open f xs ≡ Some j → Among xs j
open_among f [] j e = absurd (none_some None j refl e)
open_among f (x ∷ xs) j e = by_option (Among (x ∷ xs) j) (f x)
    (λ u. inl (some_is x j (sym (ap (λ o. open_or o x (first_open f xs)) u) ∙ e)))
    (λ a s. inr (open_among f xs j (sym (ap (λ o. open_or o x (first_open f xs)) s) ∙ e)))

all_known : (f : ℕ → Option Ty) (xs : List ℕ) (j : ℕ) → first_open f xs ≡ None → Among xs j → (a : Ty) × (f j ≡ Some a)
all_known f [] j e h = absurd h
all_known f (x ∷ xs) j e h = (let o = open_none f x xs e in elim h [ inl s ↦ (o.0.0, ap f (sym s) ∙ o.0.1) | inr r ↦ all_known f xs j o.1 r ])

-- what waits names what it waits for
waits_mentions : (list : List Tree) (f : ℕ → Option Ty) (i j : ℕ) → i < length (rows list) → tries list f i ≡ Waits j → Mentions list i j
waits_mentions list f i j lt w =
    let h = here (rows list) i lt in
    subst (λ o. Among (asks list o) j) (sym h.1) (open_among f (asks list (Some h.0)) j (when_waits (declaration_type list f i (Some h.0)) (first_open f (asks list (Some h.0))) j (sym (ap (try_one list f i) h.1) ∙ w)))

-- what is answered in a round has all that it names answered before
mentions_known : (list : List Tree) (f : ℕ → Option Ty) (i x : ℕ) (a : Ty) → tries list f i ≡ Done a → Mentions list i x → (b : Ty) × (f x ≡ Some b)
mentions_known list f i x a d m = by_option ((b : Ty) × (f x ≡ Some b)) (declaration_at list i)
    (λ n. absurd (subst (λ o. Among (asks list o) x) n m))
    (λ e s. (
    let o = when_done (declaration_type list f i (Some e)) a (first_open f (asks list (Some e))) (sym (ap (try_one list f i) s) ∙ d) in
    all_known f (asks list (Some e)) x o.0 (subst (λ z. Among (asks list z) x) s m)))

got_done : (t : Attempt Ty) (a : Ty) → got t ≡ Some a → t ≡ Done a
got_done (Done b) a e = cc
got_done (Waits j) a e = cc

-- an endless one names an endless one
record Next (list : List Tree) (i : ℕ) : Type 0 where
  next : ℕ
  named : Mentions list i next
  endless : IsEndless list next

by_step : (list : List Tree) (i j : ℕ) → Leads list i j → (x : ℕ) × Mentions list i x × ((x ≡ j) ⊎ Leads list x j)
by_step list i j (one m) = (j, m, inl refl)
by_step list i j (more {j = x} m l) = (x, m, inr l)

next_of : (list : List Tree) (i : ℕ) → IsEndless list i → Next list i
next_of list i e = elim e.1 [
  | inl s ↦ (
      let l = subst (λ v. Leads list v e.0) (sym s) e.2 in
      let b = by_step list i e.0 l in
      record { next = b.0; named = b.1; endless = (e.0, b.2, e.2) })
  | inr l ↦ (
      let b = by_step list i e.0 l in
      record { next = b.0; named = b.1; endless = (e.0, b.2, e.2) })
]

endless_open : (list : List Tree) (k i : ℕ) (a : Ty) → round (tries list) k i ≡ Some a → IsEndless list i → ⊥
endless_open list zero i a e h = none_some None a refl e
endless_open list (suc k) i a e h =
    let x = next_of list i h in
    let b = mentions_known list (round (tries list) k) i x.next a (got_done (tries list (round (tries list) k) i) a e) x.named in
    endless_open list k x.next b.0 b.1 x.endless

-- what is endless has no answer
pub endless_has_none : (list : List Tree) (answers : List (Option Ty)) → IsResolved list answers → (i : ℕ) → IsEndless list i → told answers i ≡ None
endless_has_none list answers h i e = by_option (told answers i ≡ None) (told answers i)
    (λ n. n)
    (λ a s. (let k = h.1.found i a s in let x : ⊥ = endless_open list k.0 i a k.1 e in absurd x))

-- and what has no answer is endless: a walk from waiting to waiting comes back
leads_on : (list : List Tree) (i j k : ℕ) → Leads list i j → Mentions list j k → Leads list i k
leads_on list i j k (one m) n = more m (one n)
leads_on list i j k (more m l) n = more m (leads_on list _ j k l n)

-- the walk so far
record Walk (list : List Tree) (answers : List (Option Ty)) (i : ℕ) (seen : List Bool) (x : ℕ) : Type 0 where
  all : length seen ≡ length (rows list)
  within : x < length (rows list)
  none : told answers x ≡ None
  from : (i ≡ x) ⊎ Leads list i x
  back : (y : ℕ) → marked seen y ≡ true → Leads list y x

from_on : (list : List Tree) (i x j : ℕ) → (i ≡ x) ⊎ Leads list i x → Mentions list x j → (i ≡ j) ⊎ Leads list i j
from_on list i x j f m = elim f [ inl s ↦ inr (one (subst (λ v. Mentions list v j) (sym s) m)) | inr l ↦ inr (leads_on list i x j l m) ]

walk_on : (list : List Tree) (answers : List (Option Ty)) → IsSettled (tries list) (told answers) → (i : ℕ) (seen : List Bool) (x : ℕ) → Walk list answers i seen x → (j : ℕ) × Walk list answers i (set seen x true) j
walk_on list answers h i seen x w =
    let s = h.stuck x w.none in
    let m = waits_mentions list (told answers) x s.0 w.within s.1 in
    let lt : x < length seen = omega (arith, w.within, w.all) in
    let b = marked_more seen x lt in (
      s.0,
      record {
        all = length-set seen x true ∙ w.all;
        within = is_inside list (told answers) x s.0 w.within s.1;
        none = (is_fair list).unknown (told answers) x s.0 s.1;
        from = from_on list i x s.0 w.from m;
        back = λ y e. elim (same_or y x) [
          | inl q ↦ one (subst (λ v. Mentions list v s.0) (sym q) m)
          | inr ne ↦ leads_on list y x s.0 (w.back y (sym (b.elsewhere y ne) ∙ e)) m
        ];
      },
    )

walk_ends : (list : List Tree) (answers : List (Option Ty)) → IsSettled (tries list) (told answers) → (i m : ℕ) (seen : List Bool) (x : ℕ) → fresh_in seen ≡ m → Walk list answers i seen x → IsEndless list i
walk_ends list answers h i zero seen x e w = elim (marked seen x) as (λ b. marked seen x ≡ b → IsEndless list i) [
  | true ↦ λ t. (x, w.from, w.back x t)
  | false ↦ λ t. absurd (
      let lt : x < length seen = omega (arith, w.within, w.all) in
      let f = fewer_fresh seen x lt t in
      let z : ⊥ = omega (arith, f, e) in z)
] refl
walk_ends list answers h i (suc m) seen x e w = elim (marked seen x) as (λ b. marked seen x ≡ b → IsEndless list i) [
  | true ↦ λ t. (x, w.from, w.back x t)
  | false ↦ λ t. (
      let lt : x < length seen = omega (arith, w.within, w.all) in
      let f = fewer_fresh seen x lt t in
      let n = walk_on list answers h i seen x w in
      walk_ends list answers h i m (set seen x true) n.0 (omega (arith, f, e)) n.1)
] refl

not_both : (b : Bool) → b ≡ false → b ≡ true → ⊥
not_both b e h = (let x : false ≡ true = sym e ∙ h in cc)

fresh_seen : (m y : ℕ) → marked (replicate m false) y ≡ true → ⊥
fresh_seen m y e = elim (ltb y m) as (λ b. ltb y m ≡ b → ⊥) [
  | true ↦ λ t. (let lt : y < m = grind (arith, nat_tests) in not_both (marked (replicate m false) y) (get_or-replicate m y false false lt) e)
  | false ↦ λ t. (
      let le : m ≤ y = grind (arith, nat_tests) in
      let past : length (replicate m false) ≤ y = omega (arith, le, length-replicate m false) in
      not_both (marked (replicate m false) y) (get_or_past (replicate m false) y false past) e)
] refl

pub none_is_endless : (list : List Tree) (answers : List (Option Ty)) → IsResolved list answers → (i : ℕ) → i < length (rows list) → told answers i ≡ None → IsEndless list i
none_is_endless list answers h i lt n =
    let seen : List Bool = replicate (length (rows list)) false in
    walk_ends list answers h.1 i (fresh_in seen) seen i refl (record {
      all = length-replicate (length (rows list)) false;
      within = lt;
      none = n;
      from = inl refl;
      back = λ y e. absurd (fresh_seen (length (rows list)) y e);
    })
