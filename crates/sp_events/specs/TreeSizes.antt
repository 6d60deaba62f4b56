-- How many values stand inside one.
use Rattle.std.specs.Prelude.{ℕ, ◌+◌}
use Rattle.sp_events.specs.Tree.{TreeData, tuple, vector, set, map, unit, TreesData, no_trees, tree, PairsData, no_pairs, pair, FieldsData, no_fields, field}

abbrev mutual
  pub tree_size : TreeData → ℕ
  tree_size (tuple ts) = trees_size ts
  tree_size (vector ts) = trees_size ts
  tree_size (set ts) = trees_size ts
  tree_size (map ps) = pairs_size ps
  tree_size (unit fs) = fields_size fs
  tree_size _ = 0

  pub trees_size : TreesData → ℕ
  trees_size no_trees = 0
  trees_size (tree t ts) = tree_size t + 1 + trees_size ts

  pub pairs_size : PairsData → ℕ
  pairs_size no_pairs = 0
  pairs_size (pair k v ps) = tree_size k + 1 + (tree_size v + 1) + pairs_size ps

  pub fields_size : FieldsData → ℕ
  fields_size no_fields = 0
  fields_size (field name t fs) = tree_size t + 1 + fields_size fs
