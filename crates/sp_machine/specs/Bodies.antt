-- Entries of a program as plain data, one by one.
use Rattle.std.specs.Prelude.{ℕ, ◌<◌, List, [], ◌∷◌, length}
use Rattle.sp_meaning_states.specs.Scopes.{Scope, InUnit, InParts, InFailing, InCall}
use Rattle.sp_code.specs.declared.program.BodyCode.{BodyCode}
use Rattle.sp_code.specs.declared.program.UnitCode.{UnitCode}
use Rattle.sp_code.specs.declared.program.Program.{Program}
use Rattle.sp_code.specs.Machine as plain
use Rattle.sp_code.specs.Programs.{called_as, name_of, told_of}

abbrev pub body_of : BodyCode → plain.Body
body_of b = record { start = b.start; called = called_as b.of; takes = b.takes; fresh = b.fresh; name = name_of b.of; told = told_of b.of }

abbrev pub unit_of : UnitCode → plain.UnitCode
unit_of u = record { start = u.start; ending = u.ending; failing = u.failing; keeps = u.keeps; takes = u.takes; members = length u.members.items; fresh = u.fresh }

-- a construct that is no body that is called, and one that is no unit and none of its parts
abbrev pub IsNoCall : Scope → Type 0
IsNoCall (InCall called own locals) = ⊥
IsNoCall x = Unit {0}

abbrev pub IsNoUnit : Scope → Type 0
IsNoUnit (InUnit keeps instance start own locals) = ⊥
IsNoUnit (InParts failing) = ⊥
IsNoUnit (InFailing e) = ⊥
IsNoUnit x = Unit {0}

-- so is the innermost one, if one is open
abbrev pub InnermostIsNoCall : List plain.Frame → Type 0
InnermostIsNoCall [] = Unit {0}
InnermostIsNoCall (f ∷ fs) = IsNoCall f.scope

abbrev pub InnermostIsNoUnit : List plain.Frame → Type 0
InnermostIsNoUnit [] = Unit {0}
InnermostIsNoUnit (f ∷ fs) = IsNoUnit f.scope

-- there is such an entry
abbrev pub IsBodyAt : Program → ℕ → Type 0
IsBodyAt p f = f < length p.hooks.items

abbrev pub IsUnitAt : Program → ℕ → Type 0
IsUnitAt p u = u < length p.units.items
