-- What tables of names tell.
use Rattle.std.specs.Prelude.{ℕ, List, Option}
use Rattle.indexmap.specs.IndexMap.{get_by_text}
use Rattle.sp_name_tables.specs.declared.tables.NameTable.{NameTable}

-- what a table tells of a name
abbrev pub told_by : NameTable → List ℕ → Option ℕ
told_by table x = get_by_text table.first x
