-- What decides when a body of a hook runs, apart from the rest of it.
use Rattle.std.specs.Prelude.{ℕ, ℤ, Bool, List, [], ◌∷◌, if◌then◌else◌}
use Rattle.std.specs.Ordering.{is_lt, nat_cmp, int_cmp, ordering_then}
use Rattle.std.specs.declared.cmp.Ordering.{Ordering}
use Rattle.sp_typed_units.specs.declared.declarations.Hook.{Hook}
use Rattle.sp_meaning.specs.Hooks.{rank_of}
use Rattle.sp_lower_hooks.specs.declared.keys.BodyKey.{BodyKey}

-- its rank, its module, its place, and its number among all bodies
pub record Turn : Type 0 where
  pub rank : ℤ
  pub home : ℕ
  pub from : ℕ
  pub number : ℕ

-- that of a body, by its number
abbrev pub turn : ℕ × Hook → Turn
turn x = record { rank = rank_of x.1; home = x.1.«module»; from = x.1.span.from; number = x.0 }

-- what a key says
abbrev pub turn_of : BodyKey → Turn
turn_of k = record { rank = k.rank.0; home = k.home; from = k.from; number = k.number.0 }

-- the number alone
abbrev pub key_number : BodyKey → ℕ
key_number k = k.number.0

-- The higher rank first, then by module, then by place. Of two at one place the later goes first.
abbrev pub order : Turn → Turn → Ordering
order x y = ordering_then (int_cmp y.rank x.rank) (ordering_then (nat_cmp x.home y.home) (ordering_then (nat_cmp x.from y.from) (nat_cmp y.number x.number)))

abbrev pub goes_before : Turn → Turn → Bool
goes_before x y = is_lt (order x y)

-- in order
abbrev pub put_turn : Turn → List Turn → List Turn
put_turn x [] = x ∷ []
put_turn x (y ∷ ys) = if goes_before x y then x ∷ y ∷ ys else y ∷ put_turn x ys

abbrev pub sorted : List Turn → List Turn
sorted [] = []
sorted (x ∷ xs) = put_turn x (sorted xs)

-- the numbers alone
abbrev pub turn_numbers : List Turn → List ℕ
turn_numbers [] = []
turn_numbers (x ∷ xs) = x.number ∷ turn_numbers xs
