-- What a table of numbers tells.
use Rattle.std.specs.Prelude.{ℕ, ◌≡◌, List}
use Rattle.sp_type_modules.specs.Members.{UnitMember, numbered}
use Rattle.sp_name_tables.specs.declared.tables.NameTable.{NameTable}
use Rattle.sp_name_tables.specs.Tables.{told_by}

-- a table tells the numbers of these members
abbrev pub AreNumbered : NameTable → List UnitMember → Type 0
AreNumbered table ms = (x : List ℕ) → told_by table x ≡ numbered x 0 ms
