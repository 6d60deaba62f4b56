-- The choice of a unit in words of its own.
use Rattle.std.specs.Prelude.{ℕ, ◌≡◌, ◌<◌, ◌⊎◌, Bool, false, List, Option, Some, None, slice_get, IsTrue}
use Rattle.sp_typed_units.specs.declared.declarations.Unit.{Unit}
use Rattle.sp_choose.specs.Choices.{is_asked}

abbrev pub asked_at : Option (List ℕ) → Option Unit → Bool
asked_at name None = false
asked_at name (Some u) = is_asked name u

-- the unit with this number is a parser, and of the name, where there is one
abbrev pub IsAskedAt : Option (List ℕ) → List Unit → ℕ → Type 0
IsAskedAt name us k = IsTrue (asked_at name (slice_get us k))

-- none is
abbrev pub AreNone : Option (List ℕ) → List Unit → Type 0
AreNone name us = (k : ℕ) → IsAskedAt name us k → ⊥

-- two are
abbrev pub AreTwo : Option (List ℕ) → List Unit → Type 0
AreTwo name us = (j : ℕ) × (k : ℕ) × (j < k) × IsAskedAt name us j × IsAskedAt name us k

-- The choice by a name is a parser of the name, the first; there is none exactly where no parser has the name. Without a name it is a
-- parser, and the only one; there is none exactly where there is no parser, or more than one.
abbrev pub IsChoice : Option (List ℕ) → List Unit → Option ℕ → Type 0
IsChoice (Some x) us (Some n) = IsAskedAt (Some x) us n × ((k : ℕ) → IsAskedAt (Some x) us k → k < n → ⊥)
IsChoice (Some x) us None = AreNone (Some x) us
IsChoice None us (Some n) = IsAskedAt None us n × ((k : ℕ) → IsAskedAt None us k → k ≡ n)
IsChoice None us None = AreNone None us ⊎ AreTwo None us
