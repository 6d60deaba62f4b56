-- The values of constants, as the typed list tells them.
use Rattle.std.specs.Prelude.{ℕ, List, [], ◌∷◌, ◌++◌, Option, Some, None, slice_get}
use Rattle.sp_ast.specs.Trees.{Tree}
use Rattle.sp_types.specs.Types.{Ty}
use Rattle.sp_typed_units.specs.declared.declarations.Constant.{Constant}
use Rattle.sp_names.specs.declared.rows.Declaration.{Declaration}
use Rattle.sp_names.specs.declared.sort.DeclSort.{DeclSort}
use Rattle.sp_names.specs.declared.sort.DeclSort.TheVariants as sort_is
use Rattle.sp_names.specs.Declarations.{rows, sort_of}
use Rattle.sp_type_constants.specs.declared.outcome.Outcome.{Outcome}
use Rattle.sp_type_constants.specs.declared.outcome.Outcome.TheVariants as outcome_is
use Rattle.sp_type_values.specs.declared.answer.Answer.{Answer}
use Rattle.sp_type_values.specs.Answers.{constant_value}
use Rattle.sp_type_values.specs.TypedRows.{shown_value, next_constant}
use Rattle.sp_rule_lists.specs.Told.{constant_outcome}

-- what each constant is
abbrev pub outcomes : List Constant → List Outcome
outcomes [] = []
outcomes (c ∷ cs) = constant_outcome c.value ∷ outcomes cs

abbrev pub outcome_or : Option Outcome → Outcome
outcome_or None = outcome_is.Unknown
outcome_or (Some o) = o

module _ (list : List Tree) (f : ℕ → Option Ty) (known : ℕ → Option Answer) where
  -- the constant of a declaration, if it is one
  abbrev pub if_kept : ℕ → DeclSort → List Outcome
  if_kept n sort_is.Constant = constant_outcome (shown_value (constant_value list f known n)) ∷ []
  if_kept n _ = []

  abbrev pub kept_from : ℕ → List Declaration → List Outcome
  kept_from n [] = []
  kept_from n (d ∷ ds) = if_kept n (sort_of d.tree) ++ kept_from (next_constant list f known n (sort_of d.tree)) ds

  -- what all constants are, by their numbers
  abbrev pub kept : List Outcome
  kept = kept_from 0 (rows list)
