-- A typed list in which each field, each element and each group is something that can be read.
use Rattle.std.specs.Prelude.{Bool, true, false, ◌&&◌, IsTrue}
use Rattle.std.specs.List.{list_all}
use Rattle.sp_typed_units.specs.declared.readings.ReadOp.{ReadOp}
use Rattle.sp_typed_units.specs.declared.readings.ReadOp.TheVariants as read_is
use Rattle.sp_typed_units.specs.declared.declarations.Unit.{Unit}
use Rattle.sp_typed_units.specs.declared.declarations.Typed.{Typed}
use Rattle.sp_typed_units.specs.Specs.{Spec, read, unit_read, list_read, group_read}
use Rattle.sp_typed_units.specs.Parts.{Part, Parts, Arms, field, choice, no_parts, more_parts, no_arms, more_arms, parts}

abbrev pub can_read : ReadOp → Bool
can_read (read_is.Broken wrong) = false
can_read _ = true

abbrev pub is_read : Spec → Bool
is_read (read h) = can_read h.op
is_read (unit_read h es) = true
is_read (list_read span s n) = is_read s
is_read (group_read span s attributes) = is_read s

-- all that the parts of a unit read
abbrev mutual
  pub part_reads : Part → Bool
  part_reads (field f) = is_read f.spec
  part_reads (choice span subject rows) = arms_read rows

  pub parts_read : Parts → Bool
  parts_read no_parts = true
  parts_read (more_parts p ps) = part_reads p && parts_read ps

  pub arms_read : Arms → Bool
  arms_read no_arms = true
  arms_read (more_arms a ps rest) = parts_read ps && arms_read rest

abbrev pub unit_reads : Unit → Bool
unit_reads u = parts_read (parts u.parts)

abbrev pub HaveReadings : Typed → Type 0
HaveReadings t = IsTrue (list_all unit_reads t.units)
