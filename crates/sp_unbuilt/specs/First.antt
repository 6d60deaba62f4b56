-- The first of constructs that aren't built: by module, and by the place at which each begins.
use Rattle.std.specs.Prelude.{◌≡◌, ◌==◌, Bool, false, if◌then◌else◌, nat_lt, List, [], ◌∷◌, Option, Some, None}
use Rattle.sp_base.specs.declared.places.Diag.{Diag}

-- whether d begins before e
abbrev pub precedes : Diag → Diag → Bool
precedes d e = if d.«module» == e.«module» then nat_lt d.span.from e.span.from else nat_lt d.«module» e.«module»

-- the first so far, and one more
abbrev pub earlier : Option Diag → Diag → Option Diag
earlier None d = Some d
earlier (Some e) d = Some (if precedes d e then d else e)

-- what is noted of tests, each with the construct that isn't built where it holds
abbrev pub noted : Option Diag → List (Bool × Diag) → Option Diag
noted o [] = o
noted o (c ∷ cs) = noted (if c.0 then earlier o c.1 else o) cs

-- there is none; or the answer is one, and none begins before it
abbrev pub IsFirst : (Diag → Type 0) → Option Diag → Type 0
IsFirst Is None = (d : Diag) → Is d → ⊥
IsFirst Is (Some d) = Is d × ((e : Diag) → Is e → precedes e d ≡ false)
