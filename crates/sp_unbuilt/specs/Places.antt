-- A construct of a list of modules that isn't built, in words of its own.
use Rattle.std.specs.Prelude.{ℕ, ◌≡◌, ◌⊎◌, true, false, List, Some, slice_get}
use Rattle.sp_base.specs.declared.places.Diag.{Diag}
use Rattle.sp_rules.specs.Least.{Among}
use Rattle.sp_ast.specs.Trees.{Tree, Trees, absent, row, node, none, more}
use Rattle.sp_typed_units.specs.declared.items.Field.{Field}
use Rattle.sp_typed_units.specs.declared.declarations.Unit.{Unit}
use Rattle.sp_typed_units.specs.declared.declarations.Typed.{Typed}
use Rattle.sp_typed_units.specs.Parts.{Part, Parts, Arms, field, choice, no_parts, more_parts, no_arms, more_arms, parts}
use Rattle.sp_unbuilt.specs.Next.{saturated}
use Rattle.sp_unbuilt.specs.Constructs.{at, tests_at}
use Rattle.sp_unbuilt.specs.Fields.{reads_integer}
use Rattle.sp_unbuilt.specs.Unbuilt.{Texts}

-- A tree stands in another, or is it.
abbrev mutual
  pub IsIn : Tree → Tree → Type 0
  IsIn u absent = ⊥
  IsIn u (row ts) = IsAmong u ts
  IsIn u (node form span ts) = (u ≡ node form span ts) ⊎ IsAmong u ts

  pub IsAmong : Tree → Trees → Type 0
  IsAmong u none = ⊥
  IsAmong u (more t ts) = IsIn u t ⊎ IsAmong u ts

-- One of the tests holds at some tree in one of the modules.
abbrev pub IsWritten : Texts → List Tree → Diag → Type 0
IsWritten texts list d =
    (k : ℕ) × (t : Tree) × (u : Tree) × (slice_get list k ≡ Some t) × IsIn u t × Among (tests_at (texts (saturated k)) (saturated k) u) (true, d)

-- A field is one of the parts of a unit, or stands in an arm of a switch.
abbrev mutual
  pub IsFieldOf : Field → Part → Type 0
  IsFieldOf f (field g) = f ≡ g
  IsFieldOf f (choice span e rows) = IsFieldInArms f rows

  pub IsFieldAmong : Field → Parts → Type 0
  IsFieldAmong f no_parts = ⊥
  IsFieldAmong f (more_parts p ps) = IsFieldOf f p ⊎ IsFieldAmong f ps

  pub IsFieldInArms : Field → Arms → Type 0
  IsFieldInArms f no_arms = ⊥
  IsFieldInArms f (more_arms a ps rest) = IsFieldAmong f ps ⊎ IsFieldInArms f rest

-- A field of a module reads no integer, and begins there.
abbrev pub IsOther : ℕ → Field → Diag → Type 0
IsOther m f d = (reads_integer f.spec ≡ false) × (d ≡ at m f.span)

-- Some field of some unit is such a one.
abbrev pub IsRead : List Unit → Diag → Type 0
IsRead us d = (u : Unit) × (f : Field) × Among us u × IsFieldAmong f (parts u.parts) × IsOther u.«module» f d

-- This is a construct that isn't built: it is written in a module, or a field that reads no integer.
abbrev pub IsUnbuilt : Texts → List Tree → Typed → Diag → Type 0
IsUnbuilt texts list t d = IsWritten texts list d ⊎ IsRead t.units d
