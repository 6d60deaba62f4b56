-- The fields of a table of kinds, as the kinds that it has.
use Rattle.std.specs.Prelude.{List, []}
use Rattle.sp_methods.specs.Kinds.{Kind}
use Rattle.sp_code.specs.Programs.{kinds_from}
use Rattle.sp_emit.specs.declared.kinds.KindTable.TheInside.{Inside}

-- the kinds of the rows
abbrev pub kinds_in : Inside → List Kind
kinds_in t = kinds_from [] t.rows.items
