-- What stands on the stack while a tree is built.
use Rattle.std.specs.Prelude.{ℕ, ◌≡◌, ◌⊎◌, refl}
use Rattle.std.specs.Coded.{Coded, code_by, coded⊎, coded_ℕ}
use Rattle.std.proofs.Common.{inl, inr}
use Rattle.sp_ast.specs.Trees.{Tree}

-- a tree that began before so many tokens, and a tree that is built
pub data Item : Type 0 where
  begun : ℕ → Item
  built : Tree → Item

-- items as sums, by which a proof tells them apart
abbrev pub item_sum : Item → ℕ ⊎ Tree
item_sum (begun n) = inl n
item_sum (built t) = inr t

abbrev pub item_from : ℕ ⊎ Tree → Item
item_from (inl n) = begun n
item_from (inr t) = built t

pub item_back : (i : Item) → item_from (item_sum i) ≡ i
item_back (begun n) = refl
item_back (built t) = refl

abbrev pub coded_item : Coded Tree → Coded Item
coded_item tree = code_by (ℕ ⊎ Tree) (coded⊎ coded_ℕ tree) item_sum item_from item_back
