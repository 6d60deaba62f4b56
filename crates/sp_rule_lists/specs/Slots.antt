-- The slots of a body that are those of variables of `for`, which can't be changed.
use Rattle.std.specs.Prelude.{ℕ, ◌==◌, Bool, false, ◌||◌, List, [], ◌∷◌, ◌++◌}
use Rattle.sp_typed.specs.Stmts.{Stmt, Stmts, Branches, Cases, bare, valued, assign, print, block, branch, while_loop, for_loop, switch, no_stmts, more_stmts, no_branches, more_branches, no_cases, more_cases}

-- the slots of the variables of a body's `for`
abbrev mutual
  pub for_slots : Stmt → List ℕ
  for_slots (bare h) = []
  for_slots (valued h e) = []
  for_slots (assign h target value) = []
  for_slots (print span es) = []
  for_slots (block ss) = for_slots_all ss
  for_slots (branch bs s) = for_slots_branches bs ++ for_slots s
  for_slots (while_loop e s) = for_slots s
  for_slots (for_loop h e s) = h.slot ∷ for_slots s
  for_slots (switch slot e cs s) = for_slots_cases cs ++ for_slots s

  pub for_slots_all : Stmts → List ℕ
  for_slots_all no_stmts = []
  for_slots_all (more_stmts s ss) = for_slots s ++ for_slots_all ss

  pub for_slots_branches : Branches → List ℕ
  for_slots_branches no_branches = []
  for_slots_branches (more_branches e s bs) = for_slots s ++ for_slots_branches bs

  pub for_slots_cases : Cases → List ℕ
  for_slots_cases no_cases = []
  for_slots_cases (more_cases es s cs) = for_slots s ++ for_slots_cases cs

abbrev pub has : List ℕ → ℕ → Bool
has [] n = false
has (k ∷ ks) n = (n == k) || has ks n
