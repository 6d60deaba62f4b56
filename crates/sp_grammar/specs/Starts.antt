-- The parts of the grammar with which texts begin.
use Rattle.std.specs.Prelude.{ℕ}
use Rattle.sp_grammar.specs.declared.language.Start.{Start}
use Rattle.sp_grammar.specs.declared.language.Start.TheVariants as start
use Rattle.sp_grammar.specs.Written.{Part, part_number}

abbrev pub part_of : Start → Part
part_of start.Module = Part.Module
part_of start.Type = Part.TypeTree
part_of start.Stmt = Part.Stmt
part_of start.Expr = Part.Expr

abbrev pub start_number : Start → ℕ
start_number s = part_number (part_of s)
