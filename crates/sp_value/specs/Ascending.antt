-- Lists in ascending order of their keys: a set's keys are its members, a map's those of its entries.
use Rattle.std.specs.Prelude.{◌≡◌, List, [], ◌∷◌, Option, None, Some}
use Rattle.std.specs.declared.cmp.Ordering.TheVariants.{Less}
use Rattle.std.specs.Ordering.{match_ordering}
use Rattle.sp_value.specs.Val.{Val, set, map, list_of, pairs_of}
use Rattle.sp_value.specs.Order.{val_cmp}

-- the key of a set's member, and of a map's entry
abbrev pub own_key : Val → Val
own_key v = v

abbrev pub entry_key : Val × Val → Val
entry_key e = e.0

module _ {X : Type 0} (key : X → Val) where
  -- k is below the key of each
  abbrev pub IsBelowAll : Val → List X → Type 0
  IsBelowAll k [] = Unit {0}
  IsBelowAll k (x ∷ xs) = (val_cmp k (key x) ≡ Less) × IsBelowAll k xs

  -- each key is below those after it
  abbrev pub IsAscending : List X → Type 0
  IsAscending [] = Unit {0}
  IsAscending (x ∷ xs) = IsBelowAll (key x) xs × IsAscending xs

  -- the first that has the key
  abbrev pub found : Val → List X → Option X
  found k [] = None
  found k (x ∷ xs) = match_ordering (val_cmp (key x) k) (found k xs) (Some x) (found k xs)

  -- the list with x in place of what has its key, or else before the first whose key is greater
  abbrev pub with_key : X → List X → List X
  with_key x [] = x ∷ []
  with_key x (y ∷ ys) = match_ordering (val_cmp (key y) (key x)) (y ∷ with_key x ys) (x ∷ ys) (x ∷ y ∷ ys)

  -- the list without what has the key
  abbrev pub without : Val → List X → List X
  without k [] = []
  without k (x ∷ xs) = match_ordering (val_cmp (key x) k) (x ∷ without k xs) (without k xs) (x ∷ without k xs)

-- the members of a set and the keys of a map ascend, and none comes twice
abbrev pub IsInOrder : Val → Type 0
IsInOrder (set vs) = IsAscending own_key (list_of vs)
IsInOrder (map es) = IsAscending entry_key (pairs_of es)
IsInOrder _ = Unit {0}
