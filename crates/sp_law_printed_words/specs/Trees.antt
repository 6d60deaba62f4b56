-- What holds of the words that the alternatives in a tree tell.
use Rattle.std.specs.List.{AllByRecursion}
use Rattle.sp_ast.specs.Trees.{Tree, Trees, node, absent, row, none, more}
use Rattle.sp_print.specs.Own.{own_words}
use Rattle.sp_print.specs.Words.{Word}

-- it holds of all words that they tell by themselves: their names, numbers, literals, operators and the like
abbrev mutual
  pub TellsOnly : (Word → Type 0) → Tree → Type 0
  TellsOnly P (node form span ts) = AllByRecursion P (own_words form) × TellOnly P ts
  TellsOnly P (row ts) = TellOnly P ts
  TellsOnly P absent = Unit {0}

  pub TellOnly : (Word → Type 0) → Trees → Type 0
  TellOnly P none = Unit {0}
  TellOnly P (more t ts) = TellsOnly P t × TellOnly P ts
