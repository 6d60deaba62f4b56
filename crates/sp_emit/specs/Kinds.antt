-- Kinds by their numbers in a table: what a row of it names, and what it is.
use Rattle.std.specs.Prelude.{◌≡◌, ◌<◌, ℕ, suc, List, [], ◌∷◌, ◌++◌, length}
use Rattle.std.specs.List.{AllByRecursion}
use Rattle.sp_methods.specs.Kinds.{Kind}
use Rattle.sp_code.specs.declared.program.KindRow.{KindRow}
use Rattle.sp_code.specs.declared.program.KindRow.TheVariants as row_is
use Rattle.sp_code.specs.Programs.{kind_at}

-- one list of kinds is another with more at its end
abbrev pub Grows : List Kind → List Kind → Type 0
Grows ks js = (more : List Kind) × (js ≡ ks ++ more)

-- the number of a kind that is this one
pub record IsNumberOf (ks : List Kind) (k : Kind) (n : ℕ) : Type 0 where
  pub within : n < length ks
  pub is : kind_at ks n ≡ k

-- the kinds that a row names have numbers below this one
abbrev pub NamesBelow : ℕ → KindRow → Type 0
NamesBelow n (row_is.Tuple ms) = AllByRecursion (λ m. m < n) ms.items
NamesBelow n (row_is.Vector m) = m < n
NamesBelow n (row_is.Set m) = m < n
NamesBelow n (row_is.Map l m) = (l < n) × (m < n)
NamesBelow n row = Unit {0}

-- each row, the first of which has this number, names those before it
abbrev pub NameEarlier : ℕ → List KindRow → Type 0
NameEarlier n [] = Unit {0}
NameEarlier n (r ∷ rs) = NamesBelow n r × NameEarlier (suc n) rs
