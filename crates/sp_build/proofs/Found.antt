-- Trees that are found on the stack, one after another.
use Rattle.std.specs.Prelude.{Bool}
use Rattle.std.proofs.Common.{◌≡◌, ℕ, ◌<◌, ◌≤◌, ◌-◌, length, arith, zero, suc, List, [], ◌∷◌, drop, true, false, Option, Some, None, refl, ap, sym, ◌∙◌, subst}
use Rattle.sp_ast.specs.Trees.{Tree, span_of}
use Rattle.sp_ast.specs.declared.groups.Group.{Group}
use Rattle.sp_ast.specs.declared.groups.Sort.{Sort}
use Rattle.sp_ast.specs.declared.groups.Slot.{Slot}
use Rattle.sp_ast.specs.declared.groups.Slot.TheVariants.{Part as part, Several as several}
use Rattle.sp_ast.specs.Groups.{is_of, fits}
use Rattle.sp_build.specs.Items.{begun, built}
use Rattle.sp_build.specs.Building.{Stack, Left, left, then_do, popped, gathered, opened, parts_of, popped_parts, close_with}
use Rattle.sp_build.specs.inside.Popping.{Ends, IsUnder, IsFound}
use Rattle.sp_build.specs.Stacks.{last_before, last_trees, first_span, AreTrees, IsFloor, IsOpen}

pub more_trees : (n : ℕ) (s r : Stack) (t : Tree) → AreTrees n s → drop n s ≡ built t ∷ r → AreTrees (suc n) s
more_trees zero [] r t are e = absurd (cc)
more_trees zero (begun p ∷ s) r t are e = absurd (cc)
more_trees zero (built u ∷ s) r t are e = tt
more_trees (suc n) [] r t are e = absurd are
more_trees (suc n) (begun p ∷ s) r t are e = absurd are
more_trees (suc n) (built u ∷ s) r t are e = more_trees n s r t are e

pub fewer_trees : (n : ℕ) (s : Stack) → AreTrees (suc n) s → AreTrees n s
fewer_trees zero s are = tt
fewer_trees (suc n) [] are = absurd are
fewer_trees (suc n) (begun p ∷ s) are = absurd are
fewer_trees (suc n) (built u ∷ s) are = fewer_trees n s are

last_more : (n : ℕ) (s r : Stack) (t : Tree) (ts : List Tree) → AreTrees n s → drop n s ≡ built t ∷ r → last_before (suc n) s ts ≡ t ∷ last_before n s ts
last_more zero [] r t ts are e = cc
last_more zero (begun p ∷ s) r t ts are e = cc
last_more zero (built u ∷ s) r t ts are e = cc
last_more (suc n) [] r t ts are e = absurd are
last_more (suc n) (begun p ∷ s) r t ts are e = absurd are
last_more (suc n) (built u ∷ s) r t ts are e = last_more n s r t (u ∷ ts) are e

pub one_more_last : (n : ℕ) (s r : Stack) (t : Tree) → AreTrees n s → drop n s ≡ built t ∷ r → last_trees (suc n) s ≡ t ∷ last_trees n s
one_more_last n s r t are e = last_more n s r t [] are e

-- a tree that passes a test is gathered, and one that doesn't ends the row
passed : (test : Tree → Bool) (t : Tree) (r : Stack) (ts : List Tree) → test t ≡ true → gathered test (built t ∷ r) ts ≡ gathered test r (t ∷ ts)
passed test t r ts e = rw e refl

pub gather_more : (test : Tree → Bool) (n : ℕ) (s : Stack) → AreTrees n s → IsUnder true test (drop n s) (drop (suc n) s) → gathered test (drop n s) (last_trees n s) ≡ gathered test (drop (suc n) s) (last_trees (suc n) s)
gather_more test n s are u =
    ap (λ (z : Stack). gathered test z (last_trees n s)) u.1 ∙ passed test u.0 (drop (suc n) s) (last_trees n s) u.2
    ∙ ap (gathered test (drop (suc n) s)) (sym (one_more_last n s (drop (suc n) s) u.0 are u.1))

pub gather_ends : (test : Tree → Bool) (s : Stack) (ts : List Tree) → Ends test s → gathered test s ts ≡ left ts s
gather_ends test [] ts e = refl
gather_ends test (begun p ∷ s) ts e = refl
gather_ends test (built t ∷ s) ts e = rw e refl

pub under_trees_more : (test : Tree → Bool) (n : ℕ) (s : Stack) → AreTrees n s → IsUnder true test (drop n s) (drop (suc n) s) → AreTrees (suc n) s
under_trees_more test n s are u = more_trees n s (drop (suc n) s) u.0 are u.1

-- no tree stands at the floor
pub ends_at_floor : (test : Tree → Bool) (s : Stack) → IsFloor s → Ends test s
ends_at_floor test [] e = tt
ends_at_floor test (begun p ∷ s) e = tt
ends_at_floor test (built t ∷ s) e = absurd e

pub none_at_floor : (sort : Sort) (s : Stack) → IsFloor s → popped sort s ≡ None
none_at_floor sort [] e = refl
none_at_floor sort (begun p ∷ s) e = refl
none_at_floor sort (built t ∷ s) e = absurd e

pub popped_fits : (sort : Sort) (t : Tree) (s r : Stack) → s ≡ built t ∷ r → fits sort t ≡ true → popped sort s ≡ Some (left t r)
popped_fits sort t s r e f = ap (popped sort) e ∙ rw f refl

pub popped_not : (sort : Sort) (t : Tree) (s r : Stack) → s ≡ built t ∷ r → fits sort t ≡ false → popped sort s ≡ None
popped_not sort t s r e f = ap (popped sort) e ∙ rw f refl

-- the part of one slot
pub part_found : (sort : Sort) (n : ℕ) (s : Stack) (t : Tree) → AreTrees n s → drop n s ≡ built t ∷ drop (suc n) s → fits sort t ≡ true → IsFound (Some (suc n)) (part sort) n s
part_found sort n s t are e f = λ slots.
    ap (λ (o : Option (Left Tree)). then_do o (λ (t : Tree) (rest : Stack). parts_of slots (t ∷ last_trees n s) rest)) (popped_fits sort t (drop n s) (drop (suc n) s) e f)
    ∙ ap (λ (l : List Tree). parts_of slots l (drop (suc n) s)) (sym (one_more_last n s (drop (suc n) s) t are e))

pub part_none : (sort : Sort) (n : ℕ) (s : Stack) → popped sort (drop n s) ≡ None → IsFound None (part sort) n s
part_none sort n s e = λ slots. ap (λ (o : Option (Left Tree)). then_do o (λ (t : Tree) (rest : Stack). parts_of slots (t ∷ last_trees n s) rest)) e

-- where a tree began
pub open_there : (s : Stack) → IsOpen s → (p : ℕ) × (r : Stack) × (s ≡ begun p ∷ r)
open_there [] e = absurd e
open_there (begun p ∷ s) e = (p, s, refl)
open_there (built t ∷ s) e = absurd e

pub closed_found : (slots : List Slot) (s : Stack) (n p : ℕ) → popped_parts slots s ≡ Some (left (last_trees n s) (drop n s)) → drop n s ≡ begun p ∷ drop (suc n) s → (go : ℕ → List Tree → Stack → Option Stack) → close_with slots s go ≡ go p (last_trees n s) (drop (suc n) s)
closed_found slots s n p e b go =
    ap (λ (o : Option (Left (List Tree))). then_do o (λ (ts : List Tree) (rest : Stack). then_do (opened rest) (λ (q : ℕ) (below : Stack). go q ts below))) e
    ∙ ap (λ (z : Stack). then_do (opened z) (λ (q : ℕ) (below : Stack). go q (last_trees n s) below)) b

pub closed_none : (slots : List Slot) (s : Stack) → popped_parts slots s ≡ None → (go : ℕ → List Tree → Stack → Option Stack) → close_with slots s go ≡ None
closed_none slots s e go =
    ap (λ (o : Option (Left (List Tree))). then_do o (λ (ts : List Tree) (rest : Stack). then_do (opened rest) (λ (q : ℕ) (below : Stack). go q ts below))) e

pub not_closed : (slots : List Slot) (s : Stack) (n : ℕ) → popped_parts slots s ≡ Some (left (last_trees n s) (drop n s)) → opened (drop n s) ≡ None → (go : ℕ → List Tree → Stack → Option Stack) → close_with slots s go ≡ None
not_closed slots s n e b go =
    ap (λ (o : Option (Left (List Tree))). then_do o (λ (ts : List Tree) (rest : Stack). then_do (opened rest) (λ (q : ℕ) (below : Stack). go q ts below))) e
    ∙ ap (λ (o : Option (Left ℕ)). then_do o (λ (q : ℕ) (below : Stack). go q (last_trees n s) below)) b

-- so many trees are no more than all items
pub count_of_trees : (n : ℕ) (s : Stack) → AreTrees n s → n ≤ length s
count_of_trees zero s are = omega arith
count_of_trees (suc n) [] are = absurd are
count_of_trees (suc n) (begun p ∷ s) are = absurd are
count_of_trees (suc n) (built t ∷ s) are = let h = count_of_trees n s are in omega (arith, h)

-- the first of the last trees
pub fewer_by_one : (n : ℕ) (s : Stack) → 0 < n → AreTrees n s → AreTrees (n - 1) s
fewer_by_one zero s h are = absurd (omega (arith, h))
fewer_by_one (suc n) s h are = let e : suc n - 1 ≡ n = omega arith in rw e (fewer_trees n s are)

pub first_is : (n : ℕ) (s r : Stack) (t : Tree) → 0 < n → AreTrees (n - 1) s → drop (n - 1) s ≡ built t ∷ r → span_of t ≡ first_span (last_trees n s)
first_is zero s r t h are e = absurd (omega (arith, h))
first_is (suc n) s r t h are e =
    let k : suc n - 1 ≡ n = omega arith in
    ap first_span (sym (one_more_last n s r t (rw k at are) (rw k at e)))

no_floor : (n : ℕ) (s : Stack) → AreTrees (suc n) s → IsFloor (drop n s) → ⊥
no_floor n [] are floor = absurd are
no_floor n (begun p ∷ s) are floor = absurd are
no_floor zero (built t ∷ s) are floor = floor
no_floor (suc n) (built t ∷ s) are floor = no_floor n s are floor

pub first_there : (n : ℕ) (s : Stack) → 0 < n → AreTrees n s → IsFloor (drop (n - 1) s) → ⊥
first_there zero s h are floor = omega (arith, h)
first_there (suc n) s h are floor = let k : suc n - 1 ≡ n = omega arith in no_floor n s are (rw k at floor)

-- the steps of the search, as the code takes them
pub run_more : (test : Tree → Bool) (n : ℕ) (is : Bool) (s : Stack) (all : Left (List Tree)) → is ≡ true → AreTrees n s → IsUnder is test (drop n s) (drop (suc n) s) → all ≡ gathered test (drop n s) (last_trees n s) → AreTrees (suc n) s × (all ≡ gathered test (drop (suc n) s) (last_trees (suc n) s))
run_more test n is s all y are u found =
    let v : IsUnder true test (drop n s) (drop (suc n) s) = subst (λ (b : Bool). IsUnder b test (drop n s) (drop (suc n) s)) y u in
    (under_trees_more test n s are v, found ∙ gather_more test n s are v)

pub run_ends : (test : Tree → Bool) (n : ℕ) (is : Bool) (s : Stack) (all : Left (List Tree)) → is ≡ false → IsUnder is test (drop n s) (drop (suc n) s) → all ≡ gathered test (drop n s) (last_trees n s) → all ≡ left (last_trees n s) (drop n s)
run_ends test n is s all e u found =
    found ∙ gather_ends test (drop n s) (last_trees n s) (subst (λ (b : Bool). IsUnder b test (drop n s) (drop (suc n) s)) e u)

pub several_found : (g : Group) (m n : ℕ) (s : Stack) → gathered (is_of g) (drop m s) (last_trees m s) ≡ left (last_trees n s) (drop n s) → IsFound (Some n) (several g) m s
several_found g m n s e = λ slots. ap (λ (x : Left (List Tree)). parts_of slots x.value x.rest) e
