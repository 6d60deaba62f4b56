-- Lists that are kept in pieces, each of them shared by itself.
use Rattle.std.specs.Prelude.{◌≡◌, ℕ, ◌<◌, List, [], ◌∷◌, ◌++◌, length, drop, zero, suc}
use Rattle.std.specs.declared.rc.Rc.{Rc}
use Rattle.std.specs.declared.vec.Vec.{Vec}
use Rattle.std.specs.declared.cmp.Ordering.TheVariants.{Less}
use Rattle.sp_value.specs.Val.{Val, void}
use Rattle.sp_value.specs.Order.{val_cmp}
use Rattle.sp_value.specs.Ascending.{IsBelowAll, IsAscending}

module _ {X : Type 0} (key : X → Val) where
  -- the first key of a piece
  abbrev pub first_key : List X → Val
  first_key [] = void
  first_key (x ∷ xs) = key x

  -- each key is below k
  abbrev pub AreBelow : Val → List X → Type 0
  AreBelow k [] = Unit {0}
  AreBelow k (x ∷ xs) = (val_cmp (key x) k ≡ Less) × AreBelow k xs

module _ {X Y Z : Type 0} where
  -- the items of the pieces, in order
  abbrev pub all_in : List (Rc (Vec X Y) Z) → List X
  all_in [] = []
  all_in (p ∷ ps) = p.value.items ++ all_in ps

  -- no piece is empty
  abbrev pub NoneEmpty : List (Rc (Vec X Y) Z) → Type 0
  NoneEmpty [] = Unit {0}
  NoneEmpty (p ∷ ps) = (0 < length p.value.items) × NoneEmpty ps

  -- no piece but c is empty
  abbrev pub NoneEmptyBut : ℕ → List (Rc (Vec X Y) Z) → Type 0
  NoneEmptyBut c [] = Unit {0}
  NoneEmptyBut zero (p ∷ ps) = NoneEmpty ps
  NoneEmptyBut (suc c) (p ∷ ps) = (0 < length p.value.items) × NoneEmptyBut c ps

  -- the items from item i of piece c on
  abbrev pub rest_in : List (Rc (Vec X Y) Z) → ℕ → ℕ → List X
  rest_in [] c i = []
  rest_in (p ∷ ps) zero i = drop i p.value.items ++ all_in ps
  rest_in (p ∷ ps) (suc c) i = rest_in ps c i

  module _ (key : X → Val) where
    -- k has its place in piece c: the keys of the pieces before are below it, and it is below those of the pieces behind
    abbrev pub IsIn : Val → List (Rc (Vec X Y) Z) → ℕ → Type 0
    IsIn k [] c = ⊥
    IsIn k (p ∷ ps) zero = IsBelowAll key k (all_in ps)
    IsIn k (p ∷ ps) (suc c) = AreBelow key k p.value.items × IsIn k ps c

    -- pieces that hold a list in ascending order
    pub record ArePieces (ps : List (Rc (Vec X Y) Z)) : Type 0 where
      pub none_empty : NoneEmpty ps
      pub ascending : IsAscending key (all_in ps)
