-- The locals that are open in a body, and the slots that it has so far.
use Rattle.std.specs.Prelude.{ℕ, refl, if◌then◌else◌, List, [], ◌∷◌, ◌++◌, length, Option, Some, None}
use Rattle.std.specs.Str.{bytes_eq}
use Rattle.std.specs.Coded.{Coded, code_by, coded×, coded_list, coded_ℕ}
use Rattle.sp_types.specs.Types.{Ty}

-- a local, or the variable of a loop: its name, its slot in the body, and its type
pub record Local : Type 0 where
  pub name : List ℕ
  pub slot : ℕ
  pub ty : Ty

abbrev pub local : List ℕ → ℕ → Ty → Local
local x n t = record { name = x; slot = n; ty = t }

-- the open locals, the innermost first, and the types of all slots of the body so far, in their order
pub record Scope : Type 0 where
  pub locals : List Local
  pub slots : List Ty

-- the innermost open local of a name
abbrev pub found : List ℕ → List Local → Option Local
found x [] = None
found x (l ∷ ls) = if bytes_eq x l.name then Some l else found x ls

-- a further slot, for what has no name
abbrev pub with_slot : Scope → Ty → Scope
with_slot sc t = record { locals = sc.locals; slots = sc.slots ++ t ∷ [] }

-- a further local
abbrev pub with_local : Scope → List ℕ → Ty → Scope
with_local sc x t =
    record { locals = local x (length sc.slots) t ∷ sc.locals; slots = sc.slots ++ t ∷ [] }

-- behind a block the locals are those before it; its slots stay
abbrev pub closed : Scope → Scope → Scope
closed before inside = record { locals = before.locals; slots = inside.slots }

-- locals and scopes by what they are made of, by which a proof tells them apart
abbrev to_parts : Local → List ℕ × (ℕ × Ty)
to_parts l = (l.name, (l.slot, l.ty))

abbrev of_parts : List ℕ × (ℕ × Ty) → Local
of_parts p = record { name = p.0; slot = p.1.0; ty = p.1.1 }

abbrev pub coded_local : Coded Ty → Coded Local
coded_local t = code_by (List ℕ × (ℕ × Ty)) (coded× (coded_list coded_ℕ) (coded× coded_ℕ t)) to_parts of_parts (λ _. refl)

abbrev to_pair : Scope → List Local × List Ty
to_pair sc = (sc.locals, sc.slots)

abbrev of_pair : List Local × List Ty → Scope
of_pair p = record { locals = p.0; slots = p.1 }

abbrev pub coded_scope : Coded Ty → Coded Scope
coded_scope t = code_by (List Local × List Ty) (coded× (coded_list (coded_local t)) (coded_list t)) to_pair of_pair (λ _. refl)
