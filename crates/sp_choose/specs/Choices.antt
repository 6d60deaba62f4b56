-- Which unit of a list runs.
use Rattle.std.specs.Prelude.{ℕ, suc, Bool, true, false, not, ◌&&◌, if◌then◌else◌, List, [], ◌∷◌, Option, Some, None}
use Rattle.std.specs.Str.{bytes_eq}
use Rattle.sp_typed_units.specs.declared.declarations.Parameter.{Parameter}
use Rattle.sp_typed_units.specs.declared.declarations.Unit.{Unit}

abbrev pub takes_nothing : List Parameter → Bool
takes_nothing [] = true
takes_nothing (p ∷ ps) = false

-- A parser can read an input by itself: a public unit without parameters that is no filter.
abbrev pub is_parser : Unit → Bool
is_parser u = u.public && (takes_nothing u.parameters && not u.filter)

-- a parser, and of the name, where there is one
abbrev pub is_asked : Option (List ℕ) → Unit → Bool
is_asked None u = is_parser u
is_asked (Some x) u = is_parser u && bytes_eq u.path x

-- the number of the first unit that is asked for, where the first of these units has the number n
abbrev pub first_asked : Option (List ℕ) → ℕ → List Unit → Option ℕ
first_asked name n [] = None
first_asked name n (u ∷ us) = if is_asked name u then Some n else first_asked name (suc n) us

-- a number, where there is no other
abbrev pub where_none : Option ℕ → ℕ → Option ℕ
where_none None n = Some n
where_none (Some k) n = None

-- the number of the only parser, where the first of these units has the number n
abbrev pub only_from : ℕ → List Unit → Option ℕ
only_from n [] = None
only_from n (u ∷ us) = if is_parser u then where_none (first_asked None (suc n) us) n else only_from (suc n) us

-- The number of the unit that runs: that of the parser of the name, or, without a name, that of the only parser.
abbrev pub chosen : Option (List ℕ) → List Unit → Option ℕ
chosen None us = only_from 0 us
chosen (Some x) us = first_asked (Some x) 0 us
