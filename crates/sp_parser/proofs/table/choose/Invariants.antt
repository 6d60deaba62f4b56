use Rattle.std.proofs.Common.{◌≡◌, ◌+◌, drop}
use Rattle.sp_parser.specs.Grammar.{chosen}
use Rattle.sp_parser.specs.Rows.{productions_from}
use Rattle.sp_parser.proofs.table.choose.Given as goal

abbrev pub invariant-loop-row : goal.invariant-loop-row
invariant-loop-row l = chosen (productions_from l.symbols l.rows) l.kind ≡ l.row-index + chosen (productions_from l.symbols (drop l.row-index l.rows)) l.kind
