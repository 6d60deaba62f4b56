-- The trees of the grammar, apart from memory.
use Rattle.std.specs.Prelude.{ℕ, ◌+◌, List, [], ◌∷◌}
use Rattle.sp_base.specs.declared.places.Span.{Span}
use Rattle.sp_ast.specs.declared.forms.Form.{Form}

-- A tree: the alternative that it is of, the slice of the text on which it stands, and its parts in the order of the text.
-- A part can be left out, and a part can be several in a row.
mutual
  pub data Tree : Type 0 where
    absent : Tree
    row : Trees → Tree
    node : Form → Span → Trees → Tree

  pub data Trees : Type 0 where
    none : Trees
    more : Tree → Trees → Trees

-- the trees of a list
abbrev pub trees : List Tree → Trees
trees [] = none
trees (t ∷ ts) = more t (trees ts)

-- the tree of an alternative with these parts
abbrev pub tree : Form → Span → List Tree → Tree
tree form span parts = node form span (trees parts)

-- parts in a row
abbrev pub in_row : List Tree → Tree
in_row parts = row (trees parts)

-- a tree with another slice of the text
abbrev pub respan : Span → Tree → Tree
respan span (node form old parts) = node form span parts
respan span t = t

-- the slice of the text on which a tree stands
abbrev pub span_of : Tree → Span
span_of (node form span parts) = span
span_of _ = record { from = 0; to = 0 }

-- how many trees stand inside one
abbrev mutual
  pub tree_size : Tree → ℕ
  tree_size absent = 0
  tree_size (row ts) = trees_size ts
  tree_size (node form span ts) = trees_size ts

  pub trees_size : Trees → ℕ
  trees_size none = 0
  trees_size (more t ts) = tree_size t + 1 + trees_size ts
