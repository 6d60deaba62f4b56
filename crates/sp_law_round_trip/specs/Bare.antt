-- Trees apart from their places.
use Rattle.sp_base.specs.declared.places.Span.{Span}
use Rattle.sp_ast.specs.Trees.{Tree, Trees, absent, row, node, none, more}

abbrev pub nowhere : Span
nowhere = record { from = 0; to = 0 }

-- a tree whose parts stand nowhere
abbrev mutual
  pub bare : Tree → Tree
  bare absent = absent
  bare (row ts) = row (bares ts)
  bare (node form span ts) = node form nowhere (bares ts)

  pub bares : Trees → Trees
  bares none = none
  bares (more t ts) = more (bare t) (bares ts)
