-- How high a tree is: how many alternatives stand inside one another. A part that is left out has no height, and a row is
-- as high as its highest member.
use Rattle.std.specs.Prelude.{ℕ, ◌+◌, ◌≤◌, max, List}
use Rattle.sp_ast.specs.Trees.{Tree, Trees, absent, row, node, none, more, trees}

abbrev mutual
  pub height : Tree → ℕ
  height absent = 0
  height (row ts) = heights ts
  height (node form span ts) = heights ts + 1

  pub heights : Trees → ℕ
  heights none = 0
  heights (more t ts) = max (height t) (heights ts)

-- The most levels of a tree. Walks over a tree call themselves once a level, and the stack is memory too.
abbrev pub most_levels : ℕ
most_levels = 1000

abbrev pub IsLow : Tree → Type 0
IsLow t = height t ≤ most_levels

-- the height of trees in a list
abbrev pub list_height : List Tree → ℕ
list_height ts = heights (trees ts)
