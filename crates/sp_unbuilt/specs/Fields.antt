-- The fields of units that aren't built yet, by what they read.
use Rattle.std.specs.Prelude.{ℕ, Bool, true, false, not, List, [], ◌∷◌, ◌++◌}
use Rattle.sp_base.specs.declared.places.Diag.{Diag}
use Rattle.sp_typed_units.specs.declared.readings.ReadOp.{ReadOp}
use Rattle.sp_typed_units.specs.declared.readings.ReadOp.TheVariants as read_is
use Rattle.sp_typed_units.specs.declared.items.Field.{Field}
use Rattle.sp_typed_units.specs.declared.declarations.Unit.{Unit}
use Rattle.sp_typed_units.specs.Specs.{Spec, read, unit_read, list_read, group_read}
use Rattle.sp_typed_units.specs.Parts.{Part, Parts, Arms, field, choice, no_parts, more_parts, no_arms, more_arms, parts}
use Rattle.sp_unbuilt.specs.Constructs.{at}

abbrev pub is_integer : ReadOp → Bool
is_integer read_is.Int = true
is_integer _ = false

-- Integers are built, in parentheses too. Bitfields, bytes, literals, `void`, units and containers are not, also where the field
-- names them by an alias or a constant.
abbrev pub reads_integer : Spec → Bool
reads_integer (read h) = is_integer h.op
reads_integer (unit_read h es) = false
reads_integer (list_read span s n) = false
reads_integer (group_read span s attributes) = reads_integer s

-- A field begins with its name, or with the colon of an anonymous one.
abbrev pub kind_test : ℕ → Field → Bool × Diag
kind_test m f = (not (reads_integer f.spec), at m f.span)

-- the fields among parts of a unit, and those in the arms of its switches
abbrev mutual
  pub kinds_of_part : ℕ → Part → List (Bool × Diag)
  kinds_of_part m (field f) = kind_test m f ∷ []
  kinds_of_part m (choice span e rows) = kinds_in_arms m rows

  pub kinds_among : ℕ → Parts → List (Bool × Diag)
  kinds_among m no_parts = []
  kinds_among m (more_parts p ps) = kinds_of_part m p ++ kinds_among m ps

  pub kinds_in_arms : ℕ → Arms → List (Bool × Diag)
  kinds_in_arms m no_arms = []
  kinds_in_arms m (more_arms a ps rest) = kinds_among m ps ++ kinds_in_arms m rest

abbrev pub kinds_in_unit : Unit → List (Bool × Diag)
kinds_in_unit u = kinds_among u.«module» (parts u.parts)

-- the fields of units
abbrev pub kinds_in_units : List Unit → List (Bool × Diag)
kinds_in_units [] = []
kinds_in_units (u ∷ us) = kinds_in_unit u ++ kinds_in_units us
