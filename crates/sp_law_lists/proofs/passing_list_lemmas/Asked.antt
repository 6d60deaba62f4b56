-- The members of a unit as questions: where they stand in the row of all, and what is stored in each.
use Rattle.std.specs.Prelude.{Bool, true, false, nat_lt}
use Rattle.std.proofs.Common.{ℕ, ◌≡◌, ◌+◌, ◌<◌, zero, suc, refl, sym, ap, ◌∙◌, arith, List, [], ◌∷◌, ◌++◌, length, Some, slice_get}
use Rattle.std.proofs.lemmas.Bool.Decides.{nat_tests}
use Rattle.sp_ast.specs.Trees.{Tree}
use Rattle.sp_type_modules.specs.Members.{first_member, kinds_of}
use Rattle.sp_type_modules.specs.declared.sources.Source.{Source}
use Rattle.sp_type_modules.specs.declared.sources.Question.{Question}
use Rattle.sp_type_modules.specs.Sources.{Named, sources_of, asked, questions_of, questions_before, units, questions, kind_of, members}
use Rattle.sp_type_members.specs.inside.Aligned.{begins_at}
use Rattle.sp_law_lists.proofs.whole_list_lemmas.Modules.{none_found, some_found}

-- what stands in a row, and what stands behind it
pub in_front : {A : Type 0} (xs ys : List A) (j : ℕ) (x : A) → slice_get xs j ≡ Some x → slice_get (xs ++ ys) j ≡ Some x
in_front [] ys j x e = none_found x e
in_front (y ∷ xs) ys zero x e = e
in_front (y ∷ xs) ys (suc j) x e = in_front xs ys j x e

past_front : {A : Type 0} (xs ys : List A) (n j : ℕ) → n ≡ length xs + j → slice_get (xs ++ ys) n ≡ slice_get ys j
past_front [] ys n j e = (let s : n ≡ j = omega (arith, e) in ap (slice_get ys) s)
past_front (x ∷ xs) ys zero j e = absurd (let z : ⊥ = omega (arith, e) in z)
past_front (x ∷ xs) ys (suc n) j e = past_front xs ys n j (let z : n ≡ length xs + j = omega (arith, e) in z)

sources_at : (ds : List Named) (k : ℕ) (d : Named) → slice_get ds k ≡ Some d → slice_get (sources_of ds) k ≡ Some d.source
sources_at [] k d e = none_found d e
sources_at (x ∷ ds) zero d e = ap (λ (y : Named). Some y.source) (some_found x d e)
sources_at (x ∷ ds) (suc k) d e = sources_at ds k d e

asked_at : (n : ℕ) (ss : List Source) (k : ℕ) (s : Source) → slice_get ss k ≡ Some s → slice_get (asked n ss) k ≡ Some (record { unit = n; source = s })
asked_at n [] k s e = none_found s e
asked_at n (x ∷ ss) zero s e = ap (λ y. Some (record { unit = n; source = y })) (some_found x s e)
asked_at n (x ∷ ss) (suc k) s e = asked_at n ss k s e

-- what is declared as a question of its unit, and as a member
pub question_at : (n : ℕ) (ds : List Named) (k : ℕ) (d : Named) → slice_get ds k ≡ Some d → slice_get (asked n (sources_of ds)) k ≡ Some (record { unit = n; source = d.source })
question_at n ds k d e = asked_at n (sources_of ds) k d.source (sources_at ds k d e)

pub kind_at : (ds : List Named) (k : ℕ) (d : Named) → slice_get ds k ≡ Some d → slice_get (kinds_of (members ds)) k ≡ Some (kind_of d.source)
kind_at [] k d e = none_found d e
kind_at (x ∷ ds) zero d e = ap (λ (y : Named). Some (kind_of y.source)) (some_found x d e)
kind_at (x ∷ ds) (suc k) d e = kind_at ds k d e

module _ (list : List Tree) where
  among : (n k : ℕ) (q : Question) → slice_get (questions_of list n) k ≡ Some q → (m : ℕ) → n < m → slice_get (questions_before list m) (first_member list n + k) ≡ Some q
  among n k q e zero lt = absurd (let z : ⊥ = omega (arith, lt) in z)
  among n k q e (suc m) lt = by (nat_lt n m) refl (among n k q e m)
    where
      last : n ≡ m → slice_get (questions_before list m ++ questions_of list m) (first_member list n + k) ≡ Some q
      last same =
          let begins = begins_at list m in
          let z : first_member list m + k ≡ length (questions_before list m) + k = omega (arith, begins) in
          ap (λ i. slice_get (questions_before list m ++ questions_of list m) (first_member list i + k)) same
          ∙ past_front (questions_before list m) (questions_of list m) (first_member list m + k) k z
          ∙ ap (λ i. slice_get (questions_of list i) k) (sym same)
          ∙ e

      by : (b : Bool) → nat_lt n m ≡ b → (n < m → slice_get (questions_before list m) (first_member list n + k) ≡ Some q) → slice_get (questions_before list m ++ questions_of list m) (first_member list n + k) ≡ Some q
      by true is earlier =
          let below : n < m = grind (arith, nat_tests) in
          in_front (questions_before list m) (questions_of list m) (first_member list n + k) q (earlier below)
      by false is earlier =
          let above : m < suc n = grind (arith, nat_tests) in
          last (let z : n ≡ m = omega (arith, lt, above) in z)

  -- a member of a unit among those of all
  pub in_all : (n k : ℕ) (q : Question) → n < units list → slice_get (questions_of list n) k ≡ Some q → slice_get (questions list) (first_member list n + k) ≡ Some q
  in_all n k q lt e = among n k q e (units list) lt
