-- Units as they are laid out one behind another, and their starters.
use Rattle.std.specs.Prelude.{◌≡◌, ℕ, List, ◌++◌, length}
use Rattle.sp_methods.specs.Kinds.{Kind}
use Rattle.sp_typed_units.specs.declared.declarations.Typed.{Typed}
use Rattle.sp_typed_units.specs.declared.declarations.Unit.{Unit as TypedUnit}
use Rattle.sp_meaning.specs.Globals.{globals_of}
use Rattle.sp_code.specs.declared.program.UnitCode.{UnitCode}
use Rattle.sp_code.specs.declared.program.UnitKinds.{UnitKinds}
use Rattle.sp_code.specs.Machine as machine
use Rattle.sp_code.specs.Programs as told
use Rattle.sp_code.specs.Programs.{units_of, unit_kinds}
use Rattle.sp_code_programs.specs.units.Units.{slot_kinds, unit_entry}
use Rattle.sp_emit.specs.Kinds.{Grows}
use Rattle.sp_emit.specs.Emitted.{Emitted, TurnsTo}
use Rattle.sp_code_programs.specs.programs.Routines.{parameter_kinds}
use Rattle.sp_meaning.specs.Names.{member_names, names_of_members}
use Rattle.sp_code_programs.specs.programs.Units.{ending_at, failing_at, whole_unit_code, units_code, unit_entries, starters_code, member_kinds, kinds_of_units}
use Rattle.sp_lower_tables.specs.Numbers.{AreNumbersOf}
use Rattle.sp_lower.specs.declared.units.Addresses.{Addresses}

-- The numbers of the kinds of a unit; no code was emitted.
pub record GivesKinds (ranges : List ℕ) (before after : Emitted) (x : TypedUnit) (kinds : UnitKinds) : Type 0 where
  pub same : TurnsTo before after before.now
  pub parameters : AreNumbersOf after.kinds (parameter_kinds ranges x.parameters) kinds.parameters.items
  pub members : AreNumbersOf after.kinds (member_kinds ranges x.members) kinds.members.items
  pub locals : AreNumbersOf after.kinds slot_kinds kinds.locals.items

-- the entry of a unit, apart from names and kinds
abbrev pub plain_entry : UnitCode → machine.UnitCode
plain_entry u =
    record { start = u.start; ending = u.ending; failing = u.failing; keeps = u.keeps; takes = u.takes; members = length u.members.items; fresh = u.fresh }

-- the entry of a unit whose code begins at these addresses, and which has these kinds
pub record IsEntryOf (at : Addresses) (ks : UnitKinds) (x : TypedUnit) (entry : UnitCode) : Type 0 where
  pub plain : plain_entry entry ≡ unit_entry at.start at.ending at.failing x
  pub members : entry.members.items ≡ member_names x.members
  pub kinds : entry.kinds ≡ ks

-- All code of a unit was appended, the parts of which begin at these addresses.
pub record LaysUnit (list : Typed) (before after : Emitted) (u : ℕ) (x : TypedUnit) (at : Addresses) : Type 0 where
  pub marks : after.marks ≡ before.marks ++ whole_unit_code list (length before.marks) u x
  pub kinds : Grows before.kinds after.kinds
  pub start : at.start ≡ length before.marks
  pub ending : at.ending ≡ ending_at list (length before.marks) u x
  pub failing : at.failing ≡ failing_at list (length before.marks) u x

-- Units from a number on were laid out behind other code. Their kinds are these in each table to which the kinds may grow.
pub record LaysUnits (list : Typed) (before : Emitted) (a : List UnitCode) (after : Emitted) (b : List UnitCode) (u : ℕ) (xs : List TypedUnit) : Type 0 where
  pub marks : after.marks ≡ before.marks ++ units_code list (length before.marks) u xs
  pub grown : Grows before.kinds after.kinds
  pub entries : units_of b ≡ units_of a ++ unit_entries list (length before.marks) u xs
  pub members : told.member_names b ≡ told.member_names a ++ names_of_members xs
  pub kinds : (ks : List Kind) → Grows after.kinds ks → unit_kinds ks b ≡ unit_kinds ks a ++ kinds_of_units (globals_of list).ranges xs

-- starters of units from a number on were appended
pub record AddsStarters (list : Typed) (before after : Emitted) (u : ℕ) (xs : List TypedUnit) : Type 0 where
  pub marks : after.marks ≡ before.marks ++ starters_code list u xs
  pub kinds : Grows before.kinds after.kinds
