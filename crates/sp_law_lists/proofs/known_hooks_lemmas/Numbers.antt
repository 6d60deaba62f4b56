-- A declaration's number among those of its sort, and back.
use Rattle.std.specs.Prelude.{◌==◌, if◌then◌else◌}
use Rattle.std.proofs.Common.{ℕ, ◌≡◌, ◌+◌, zero, suc, Bool, true, false, refl, sym, ap, ◌∙◌, arith, List, [], ◌∷◌, length, take, Some, slice_get}
use Rattle.sp_ast.specs.Trees.{Tree}
use Rattle.sp_names.specs.declared.rows.Declaration.{Declaration}
use Rattle.sp_names.specs.declared.sort.DeclSort.{DeclSort}
use Rattle.sp_names.specs.declared.sort.DeclSort.TheVariants as sort_is
use Rattle.sp_names.specs.Declarations.{rows, all_from, all_of, is_sort, sort_number, number_in, number_at, sort_or, sort_at, declaration_at, sort_of}
use Rattle.sp_law_lists.proofs.whole_list_lemmas.Modules.{none_found, some_found}

skipped : (b : Bool) (h : ℕ) (xs ys : List ℕ) → slice_get (if b then h ∷ xs else xs) (length (if b then h ∷ ys else ys)) ≡ slice_get xs (length ys)
skipped true h xs ys = refl
skipped false h xs ys = refl

-- where a declaration stands among all of its sort
stands_at : (s : DeclSort) (ds : List Declaration) (h g : ℕ) (d : Declaration) → slice_get ds g ≡ Some d → is_sort s d ≡ true → slice_get (all_from s h ds) (length (all_from s h (take g ds))) ≡ Some (h + g)
stands_at s [] h g d at is = none_found d at
stands_at s (x ∷ ds) h zero d at is =
    let k : h ≡ h + 0 = omega arith in
    ap (λ b. slice_get (if b then h ∷ all_from s (suc h) ds else all_from s (suc h) ds) 0) (ap (is_sort s) (some_found x d at) ∙ is) ∙ ap Some k
stands_at s (x ∷ ds) h (suc g) d at is =
    let e : suc h + g ≡ h + suc g = omega arith in
    skipped (is_sort s x) h (all_from s (suc h) ds) (all_from s (suc h) (take g ds)) ∙ stands_at s ds (suc h) g d at is ∙ ap Some e

-- the place of what stands at a number among all of a sort, and how many of the sort stand before it
record IsBack (s : DeclSort) (h : ℕ) (ds : List Declaration) (n g : ℕ) : Type 0 where
  place : ℕ
  is : g ≡ h + place
  before : length (all_from s h (take place ds)) ≡ n

back : (s : DeclSort) (h : ℕ) (ds : List Declaration) (n g : ℕ) → slice_get (all_from s h ds) n ≡ Some g → IsBack s h ds n g
back s h [] n g e = none_found g e
back s h (d ∷ ds) n g e = by (is_sort s d) refl n e (λ k at. back s (suc h) ds k g at)
  where
    later : (k : ℕ) (b : Bool) → is_sort s d ≡ b → IsBack s (suc h) ds k g → IsBack s h (d ∷ ds) (if b then suc k else k) g
    later k true is next =
        let e : suc h + next.place ≡ h + suc next.place = omega arith in
        record { place = suc next.place; is = next.is ∙ e; before = ap (λ b. length (if b then h ∷ all_from s (suc h) (take next.place ds) else all_from s (suc h) (take next.place ds))) is ∙ ap suc next.before }
    later k false is next =
        let e : suc h + next.place ≡ h + suc next.place = omega arith in
        record { place = suc next.place; is = next.is ∙ e; before = ap (λ b. length (if b then h ∷ all_from s (suc h) (take next.place ds) else all_from s (suc h) (take next.place ds))) is ∙ next.before }

    by : (b : Bool) → is_sort s d ≡ b → (j : ℕ) → slice_get (if b then h ∷ all_from s (suc h) ds else all_from s (suc h) ds) j ≡ Some g → ((k : ℕ) → slice_get (all_from s (suc h) ds) k ≡ Some g → IsBack s (suc h) ds k g) → IsBack s h (d ∷ ds) j g
    by true is zero e next =
        let z : h ≡ h + 0 = omega arith in
        record { place = 0; is = sym (some_found h g e) ∙ z; before = refl }
    by true is (suc k) e next = later k true is (next k e)
    by false is j e next = later j false is (next j e)

module _ (list : List Tree) (g : ℕ) (d : Declaration) (at : declaration_at list g ≡ Some d) (unit : sort_of d.tree ≡ sort_is.Unit) where
  sort_here : sort_at list g ≡ sort_is.Unit
  sort_here = ap sort_or at ∙ unit

  is_unit : is_sort sort_is.Unit d ≡ true
  is_unit = ap (λ s. sort_number s == 3) unit

  -- a unit stands at its number among all units
  pub unit_stands : slice_get (all_of sort_is.Unit list) (number_at list g) ≡ Some g
  unit_stands =
      let zero_more : 0 + g ≡ g = omega arith in
      ap (λ s. slice_get (all_of sort_is.Unit list) (number_in (rows list) g s)) sort_here ∙ stands_at sort_is.Unit (rows list) 0 g d at is_unit ∙ ap Some zero_more

  -- and what stands there has this number
  pub unit_number : (n : ℕ) → slice_get (all_of sort_is.Unit list) n ≡ Some g → number_at list g ≡ n
  unit_number n there =
      let b = back sort_is.Unit 0 (rows list) n g there in
      let e : b.place ≡ g = (let z = b.is in omega (arith, z)) in
      ap (number_in (rows list) g) sort_here ∙ ap (λ j. length (all_from sort_is.Unit 0 (take j (rows list)))) (sym e) ∙ b.before
