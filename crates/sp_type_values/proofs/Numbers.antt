-- What is declared stands in its row at the number that paths to it have.
use Rattle.std.proofs.Common.{ℕ, ◌≡◌, ◌+◌, zero, suc, refl, ap, sym, ◌∙◌, arith, Bool, true, false, List, [], ◌∷◌, ◌++◌, length, take, Option, Some, None, slice_get}
use Rattle.std.specs.Prelude.{if◌then◌else◌, ◌==◌}
use Rattle.sp_ast.specs.Trees.{Tree}
use Rattle.sp_types.specs.Types.{Ty}
use Rattle.sp_names.specs.declared.rows.Declaration.{Declaration}
use Rattle.sp_names.specs.declared.sort.DeclSort.{DeclSort}
use Rattle.sp_names.specs.declared.sort.DeclSort.TheVariants as sort_is
use Rattle.sp_names.specs.Declarations.{rows, sort_of, sort_or, sort_number, is_sort, all_of, all_from, declaration_at, number_in, number_at, library_enums}
use Rattle.sp_names.specs.Names.{declaration_of}
use Rattle.sp_type_values.specs.declared.valued.Valued.{Valued}
use Rattle.sp_type_values.specs.declared.answer.Answer.{Answer}
use Rattle.sp_type_values.specs.Valued.{constant_of, if_constant, constants_among, constants, labels, valued}
use Rattle.sp_type_values.specs.TypedRows.{declared_constant, next_constant, if_declared, constants_from, typed_constants, declared_enum, own_enums, typed_enums}

same_length : (b : Bool) (xs ys : List ℕ) (g h : ℕ) → length xs ≡ length ys → length (if b then g ∷ xs else xs) ≡ length (if b then h ∷ ys else ys)
same_length true xs ys g h e = ap suc e
same_length false xs ys g h e = e

from_any : (s : DeclSort) (g h : ℕ) (ds : List Declaration) → length (all_from s g ds) ≡ length (all_from s h ds)
from_any s g h [] = refl
from_any s g h (d ∷ ds) = same_length (is_sort s d) (all_from s (suc g) ds) (all_from s (suc h) ds) g h (from_any s (suc g) (suc h) ds)

some_is : (a b : Declaration) → Some a ≡ Some b → a ≡ b
some_is a b e = cc

nothing_there : {X : Type 0} (d : Declaration) → None ≡ Some d → X
nothing_there d e = absurd (let b : ⊥ = (cc) in b)

in_front : (xs ys : List Valued) (n : ℕ) (v : Valued) → slice_get xs n ≡ Some v → slice_get (xs ++ ys) n ≡ Some v
in_front [] ys n v e = absurd (let z : None ≡ Some v = e in let b : ⊥ = (cc) in b)
in_front (x ∷ xs) ys zero v e = e
in_front (x ∷ xs) ys (suc n) v e = in_front xs ys n v e

-- how many constants stand before
abbrev before : List Declaration → ℕ
before ds = length (all_from sort_is.Constant 0 ds)

abbrev with_one : DeclSort → List Declaration → ℕ
with_one s ds = length (if sort_number s == 6 then 0 ∷ all_from sort_is.Constant 1 ds else all_from sort_is.Constant 1 ds)

module _ (list : List Tree) (f : ℕ → Option Ty) where
  behind : (s : DeclSort) (x : Declaration) (vs : List Valued) (ys : List Declaration) → slice_get (if_constant list f x s ++ vs) (with_one s ys) ≡ slice_get vs (before ys)
  behind sort_is.Constant x vs ys = ap (slice_get vs) (from_any sort_is.Constant 1 0 ys)
  behind _ x vs ys = ap (slice_get vs) (from_any sort_is.Constant 1 0 ys)

  among : (ds : List Declaration) (g : ℕ) (d : Declaration) → slice_get ds g ≡ Some d → sort_of d.tree ≡ sort_is.Constant → slice_get (constants_among list f ds) (before (take g ds)) ≡ Some (constant_of list f d)
  among [] g d at is = nothing_there d at
  among (x ∷ ds) zero d at is =
      ap (λ y. slice_get (if_constant list f y (sort_of y.tree) ++ constants_among list f ds) 0) (some_is x d at)
      ∙ ap (λ s. slice_get (if_constant list f d s ++ constants_among list f ds) 0) is
  among (x ∷ ds) (suc g) d at is = behind (sort_of x.tree) x (constants_among list f ds) (take g ds) ∙ among ds g d at is

  pub row_stands : (g : ℕ) (d : Declaration) → declaration_at list g ≡ Some d → sort_of d.tree ≡ sort_is.Constant → slice_get (valued list f) (number_at list g) ≡ Some (constant_of list f d)
  row_stands g d at is =
      in_front (constants list f) (labels list) (number_at list g) (constant_of list f d)
      (ap (λ s. slice_get (constants list f) (number_in (rows list) g s)) (ap sort_or at ∙ is) ∙ among (rows list) g d at is)

module _ (list : List Tree) (f : ℕ → Option Ty) (known : ℕ → Option Answer) where
  abbrev Stands : List Declaration → ℕ → Declaration → ℕ → Type 0
  Stands ds n d k = slice_get (constants_from list f known n ds) k ≡ Some (declared_constant list f known (n + k) d)

  one_back : (s : DeclSort) (x : Declaration) (ds ys : List Declaration) (n : ℕ) (d : Declaration) → ((m : ℕ) → Stands ds m d (before ys))
      → slice_get (if_declared list f known n x s ++ constants_from list f known (next_constant list f known n s) ds) (with_one s ys) ≡ Some (declared_constant list f known (n + with_one s ys) d)
  one_back sort_is.Constant x ds ys n d h =
      let e = from_any sort_is.Constant 1 0 ys in
      let k : suc n + before ys ≡ n + suc (length (all_from sort_is.Constant 1 ys)) = omega (arith, e) in
      ap (slice_get (constants_from list f known (suc n) ds)) e ∙ h (suc n) ∙ ap (λ i. Some (declared_constant list f known i d)) k
  one_back _ x ds ys n d h =
      let e = from_any sort_is.Constant 1 0 ys in
      let k : n + before ys ≡ n + length (all_from sort_is.Constant 1 ys) = omega (arith, e) in
      ap (slice_get (constants_from list f known n ds)) e ∙ h n ∙ ap (λ i. Some (declared_constant list f known i d)) k

  from : (ds : List Declaration) (n g : ℕ) (d : Declaration) → slice_get ds g ≡ Some d → sort_of d.tree ≡ sort_is.Constant → Stands ds n d (before (take g ds))
  from [] n g d at is = nothing_there d at
  from (x ∷ ds) n zero d at is =
      let k : n ≡ n + 0 = omega arith in
      ap (λ y. slice_get (if_declared list f known n y (sort_of y.tree) ++ constants_from list f known (next_constant list f known n (sort_of y.tree)) ds) 0) (some_is x d at)
      ∙ ap (λ s. slice_get (if_declared list f known n d s ++ constants_from list f known (next_constant list f known n s) ds) 0) is
      ∙ ap (λ i. Some (declared_constant list f known i d)) k
  from (x ∷ ds) n (suc g) d at is = one_back (sort_of x.tree) x ds (take g ds) n d (λ m. from ds m g d at is)

  pub constant_stands : (g : ℕ) (d : Declaration) → declaration_at list g ≡ Some d → sort_of d.tree ≡ sort_is.Constant
      → slice_get (typed_constants list f known) (number_at list g) ≡ Some (declared_constant list f known (number_at list g) d)
  constant_stands g d at is =
      let s = ap sort_or at ∙ is in
      let k : 0 + before (take g (rows list)) ≡ before (take g (rows list)) = omega arith in
      ap (λ s. slice_get (typed_constants list f known) (number_in (rows list) g s)) s
      ∙ from (rows list) 0 g d at is
      ∙ ap (λ i. Some (declared_constant list f known i d)) k
      ∙ sym (ap (λ s. Some (declared_constant list f known (number_in (rows list) g s) d)) s)

  enum_from : (gs : List ℕ) (n k g : ℕ) → slice_get gs k ≡ Some g → slice_get (own_enums list f known n gs) k ≡ Some (declared_enum list f known (n + k) (declaration_of list (Some g)))
  enum_from [] n k g at = absurd (let z : None ≡ Some g = at in let b : ⊥ = (cc) in b)
  enum_from (x ∷ gs) n zero g at =
      let k : n ≡ n + 0 = omega arith in
      ap (λ o. Some (declared_enum list f known n (declaration_of list o))) at ∙ ap (λ i. Some (declared_enum list f known i (declaration_of list (Some g)))) k
  enum_from (x ∷ gs) n (suc k) g at =
      let e : suc n + k ≡ n + suc k = omega arith in
      enum_from gs (suc n) k g at ∙ ap (λ i. Some (declared_enum list f known i (declaration_of list (Some g)))) e

skipped : (b : Bool) (h : ℕ) (xs ys : List ℕ) → slice_get (if b then h ∷ xs else xs) (length (if b then h ∷ ys else ys)) ≡ slice_get xs (length ys)
skipped true h xs ys = refl
skipped false h xs ys = refl

place_of : (ds : List Declaration) (h g : ℕ) (d : Declaration) → slice_get ds g ≡ Some d → sort_of d.tree ≡ sort_is.Enum → slice_get (all_from sort_is.Enum h ds) (length (all_from sort_is.Enum h (take g ds))) ≡ Some (h + g)
place_of [] h g d at is = nothing_there d at
place_of (x ∷ ds) h zero d at is =
    let k : h ≡ h + 0 = omega arith in
    ap (λ s. slice_get (if sort_number s == 4 then h ∷ all_from sort_is.Enum (suc h) ds else all_from sort_is.Enum (suc h) ds) 0) (ap (λ y. sort_of y.tree) (some_is x d at) ∙ is) ∙ ap Some k
place_of (x ∷ ds) h (suc g) d at is =
    let e : suc h + g ≡ h + suc g = omega arith in
    skipped (is_sort sort_is.Enum x) h (all_from sort_is.Enum (suc h) ds) (all_from sort_is.Enum (suc h) (take g ds)) ∙ place_of ds (suc h) g d at is ∙ ap Some e

pub enum_stands : (list : List Tree) (f : ℕ → Option Ty) (known : ℕ → Option Answer) (g : ℕ) (d : Declaration) → declaration_at list g ≡ Some d → sort_of d.tree ≡ sort_is.Enum
    → slice_get (typed_enums list f known) (number_at list g) ≡ Some (declared_enum list f known (number_at list g) (Some d))
enum_stands list f known g d at is =
    let s = ap sort_or at ∙ is in
    let k = length (all_from sort_is.Enum 0 (take g (rows list))) in
    let from_0 : 0 + g ≡ g = omega arith in
    let behind : library_enums + k ≡ suc (suc (suc (suc k))) = omega arith in
    ap (λ s. slice_get (typed_enums list f known) (number_in (rows list) g s)) s
    ∙ ap (slice_get (typed_enums list f known)) behind
    ∙ enum_from list f known (all_of sort_is.Enum list) library_enums k g (place_of (rows list) 0 g d at is ∙ ap Some from_0)
    ∙ ap (λ o. Some (declared_enum list f known (library_enums + k) o)) at
    ∙ sym (ap (λ s. Some (declared_enum list f known (number_in (rows list) g s) (Some d))) s)
