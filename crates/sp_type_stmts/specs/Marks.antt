-- Closing locals by how many were open.
use Rattle.std.specs.Prelude.{ℕ, ◌-◌, drop, length}
use Rattle.sp_type_stmts.specs.Scopes.{Scope}

-- a scope of which so many locals are left
abbrev pub back : ℕ → Scope → Scope
back mark sc = record { locals = drop (length sc.locals - mark) sc.locals; slots = sc.slots }
