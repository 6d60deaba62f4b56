-- Rows of values as they are told: those of a list, one by one, and what is left to do for them.
use Rattle.std.proofs.Common.{◌≡◌, ℕ, suc, ◌+◌, ◌*◌, ◌-◌, List, [], ◌∷◌, ◌++◌, length, map, refl, sym, ap, ◌∙◌, append_assoc, arith}
use Rattle.std.proofs.lemmas.List.{append-nil}
use Rattle.sp_events.specs.Tree.{TreeData, trees_of, tree, pairs_of, pair, fields_of}
use Rattle.sp_events.specs.TreeSizes.{tree_size, trees_size, pairs_size, fields_size}
use Rattle.sp_value.specs.Val.{Val, void, vals_of, entries_of}
use Rattle.std.specs.Prelude.{Option, Some, None}
use Rattle.sp_meaning_states.specs.States.{Instance}
use Rattle.sp_meaning_states.specs.Telling.{Names, tree_with, trees_with, pairs_with, member_trees, unit_tree, value_tree}
use Rattle.sp_show.specs.Inside.{unit_inside, tree_inside}
use Rattle.sp_show.specs.Plans.{Plan, tells, halves, in_pairs, members_told, with_names, run, work}

-- how many steps these values take at most
abbrev pub row_work : List TreeData → ℕ
row_work [] = 0
row_work (t ∷ ts) = 2 * tree_size t + 2 + row_work ts

pub row_of_trees : (ts : List TreeData) → row_work ts ≡ 2 * trees_size (trees_of ts)
row_of_trees [] = refl
row_of_trees (t ∷ ts) = omega (arith, row_of_trees ts)

module _ (names : Names) (instances : List Instance) (round : List ℕ) where
  abbrev pub trees_inside : List Val → List TreeData
  trees_inside vs = map (tree_inside names instances round) vs

  pub run_tells : (vs : List Val) (ps : List Plan) (ts : List TreeData) → run names instances (tells vs ++ ps) round ts ≡ run names instances ps round (ts ++ trees_inside vs)
  run_tells [] ps ts = ap (run names instances ps round) (sym (append-nil ts))
  run_tells (v ∷ vs) ps ts = run_tells vs ps (ts ++ tree_inside names instances round v ∷ []) ∙ ap (run names instances ps round) (append_assoc ts (tree_inside names instances round v ∷ []) (trees_inside vs))

  pub work_tells : (vs : List Val) (ps : List Plan) → work names instances (tells vs ++ ps) round ≡ row_work (trees_inside vs) + work names instances ps round
  work_tells [] ps = omega arith
  work_tells (v ∷ vs) ps = omega (arith, work_tells vs ps)

  pub trees_listed : (vs : List Val) → trees_of (trees_inside vs) ≡ trees_with names (unit_inside names instances round) (vals_of vs)
  trees_listed [] = refl
  trees_listed (v ∷ vs) = ap (tree (tree_inside names instances round v)) (trees_listed vs)

  pub pairs_listed : (es : List (Val × Val)) → pairs_of (in_pairs (trees_inside (halves es))) ≡ pairs_with names (unit_inside names instances round) (entries_of es)
  pairs_listed [] = refl
  pairs_listed (e ∷ es) = ap (pair (tree_inside names instances round e.0) (tree_inside names instances round e.1)) (pairs_listed es)

  pub pairs_work : (es : List (Val × Val)) → row_work (trees_inside (halves es)) ≡ 2 * pairs_size (pairs_with names (unit_inside names instances round) (entries_of es))
  pairs_work [] = refl
  pairs_work (e ∷ es) = omega (arith, pairs_work es)

  abbrev fields_from : List (List ℕ) → List (Option Val) → List (List ℕ × TreeData)
  fields_from xs os = member_trees names (unit_inside names instances round) xs os

  pub members_named : (xs : List (List ℕ)) (os : List (Option Val)) → with_names xs os (trees_inside (members_told xs os)) ≡ member_trees names (unit_inside names instances round) xs os
  members_named [] os = refl
  members_named (x ∷ xs) [] = refl
  members_named (x ∷ xs) (None ∷ os) = members_named xs os
  members_named (x ∷ xs) (Some void ∷ os) = members_named xs os
  members_named (x ∷ xs) (Some v ∷ os) = ap (λ fs. (x, tree_inside names instances round v) ∷ fs) (members_named xs os)

  pub members_work : (xs : List (List ℕ)) (os : List (Option Val)) → row_work (trees_inside (members_told xs os)) ≡ 2 * fields_size (fields_of (member_trees names (unit_inside names instances round) xs os))
  members_work [] os = refl
  members_work (x ∷ xs) [] = refl
  members_work (x ∷ xs) (None ∷ os) = members_work xs os
  members_work (x ∷ xs) (Some void ∷ os) = members_work xs os
  members_work (x ∷ xs) (Some v ∷ os) = omega (arith, members_work xs os)

module _ (names : Names) (instances : List Instance) where
  -- where no unit is open
  pub told_outside : (v : Val) → tree_inside names instances [] v ≡ value_tree names instances v
  told_outside v =
      let whole : suc (length instances) - length {A = ℕ} [] ≡ suc (length instances) = omega arith in
      ap (λ m. tree_with names (unit_tree names instances m []) v) whole
