-- What is kept of constants is what the typed list tells of them.
use Rattle.std.proofs.Common.{ℕ, ◌≡◌, zero, suc, List, [], ◌∷◌, ◌++◌, Option, Some, None, refl, ap, sym, ◌∙◌, slice_get}
use Rattle.sp_ast.specs.Trees.{Tree}
use Rattle.sp_types.specs.Types.{Ty}
use Rattle.sp_typed_units.specs.declared.declarations.Constant.{Constant}
use Rattle.sp_names.specs.declared.rows.Declaration.{Declaration}
use Rattle.sp_names.specs.declared.sort.DeclSort.{DeclSort}
use Rattle.sp_names.specs.declared.sort.DeclSort.TheVariants as sort_is
use Rattle.sp_names.specs.Declarations.{rows, sort_of}
use Rattle.sp_type_constants.specs.declared.outcome.Outcome.{Outcome}
use Rattle.sp_type_values.specs.declared.answer.Answer.{Answer}
use Rattle.sp_type_values.specs.TypedRows.{if_declared, next_constant, constants_from, typed_constants}
use Rattle.sp_rule_lists.specs.Told.{constant_told}
use Rattle.sp_scope.specs.Kept.{outcomes, outcome_or, if_kept, kept_from, kept}

outcomes_more : (xs ys : List Constant) → outcomes (xs ++ ys) ≡ outcomes xs ++ outcomes ys
outcomes_more [] ys = refl
outcomes_more (x ∷ xs) ys = ap (λ os. (outcomes (x ∷ []) ++ os)) (outcomes_more xs ys)

module _ (list : List Tree) (f : ℕ → Option Ty) (known : ℕ → Option Answer) where
  one_kept : (n : ℕ) (d : Declaration) (s : DeclSort) → if_kept list f known n s ≡ outcomes (if_declared list f known n d s)
  one_kept n d sort_is.Constant = refl
  one_kept n d sort_is.Import = refl
  one_kept n d sort_is.Property = refl
  one_kept n d sort_is.Hook = refl
  one_kept n d sort_is.Unit = refl
  one_kept n d sort_is.Enum = refl
  one_kept n d sort_is.Alias = refl
  one_kept n d sort_is.Function = refl

  all_kept : (n : ℕ) (ds : List Declaration) → kept_from list f known n ds ≡ outcomes (constants_from list f known n ds)
  all_kept n [] = refl
  all_kept n (d ∷ ds) =
      let rest : kept_from list f known (next_constant list f known n (sort_of d.tree)) ds ≡ outcomes (constants_from list f known (next_constant list f known n (sort_of d.tree)) ds) = all_kept (next_constant list f known n (sort_of d.tree)) ds in
      let here : if_kept list f known n (sort_of d.tree) ≡ outcomes (if_declared list f known n d (sort_of d.tree)) = one_kept n d (sort_of d.tree) in
      ap (λ os. if_kept list f known n (sort_of d.tree) ++ os) rest ∙ ap (λ os. os ++ outcomes (constants_from list f known (next_constant list f known n (sort_of d.tree)) ds)) here ∙ sym (outcomes_more (if_declared list f known n d (sort_of d.tree)) (constants_from list f known (next_constant list f known n (sort_of d.tree)) ds))

  pub kept_is : kept list f known ≡ outcomes (typed_constants list f known)
  kept_is = all_kept 0 (rows list)

told_is : (cs : List Constant) (n : ℕ) → outcome_or (slice_get (outcomes cs) n) ≡ constant_told (slice_get cs n)
told_is [] n = refl
told_is (c ∷ cs) zero = refl
told_is (c ∷ cs) (suc n) = told_is cs n

pub told_same : (os : List Outcome) (cs : List Constant) (n : ℕ) → os ≡ outcomes cs → outcome_or (slice_get os n) ≡ constant_told (slice_get cs n)
told_same os cs n same = ap (λ (xs : List Outcome). outcome_or (slice_get xs n)) same ∙ told_is cs n
