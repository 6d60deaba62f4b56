-- Where a key is in an ascending list, or where it belongs.
use Rattle.std.specs.Prelude.{◌≡◌, ℕ, ◌<◌, ◌≤◌, List, length, Result, MatchResult}
use Rattle.std.specs.List.{AllWithin, HoldsAt}
use Rattle.std.specs.declared.cmp.Ordering.TheVariants.{Less, Equal, Greater}
use Rattle.sp_value.specs.Val.{Val}
use Rattle.sp_value.specs.Order.{val_cmp}

module _ {X : Type 0} (key : X → Val) where
  -- i is the place of k
  pub record IsKeyAt (xs : List X) (k : Val) (i : ℕ) : Type 0 where
    pub within : i < length xs
    pub same : HoldsAt (λ x. val_cmp (key x) k ≡ Equal) xs i

  -- k belongs at i, behind the lesser keys, and no key is k
  pub record IsGapAt (xs : List X) (k : Val) (i : ℕ) : Type 0 where
    pub within : i ≤ length xs
    pub before : AllWithin (λ x. val_cmp (key x) k ≡ Less) xs 0 i
    pub behind : AllWithin (λ x. val_cmp (key x) k ≡ Greater) xs i (length xs)

  abbrev pub IsPlace : List X → Val → Result ℕ ℕ → Type 0
  IsPlace xs k r = MatchResult r (IsKeyAt xs k) (IsGapAt xs k)
