use Rattle.std.proofs.Common.{◌≡◌, length}
use Rattle.sp_names.specs.Aliases.{IsAsked}
use Rattle.sp_names.specs.Tables.{Each}
use Rattle.sp_name_answers.proofs.aliases.all_asks.Given as goal

abbrev pub invariant-loop-g : goal.invariant-loop-g
invariant-loop-g l = (length l.all.items ≡ l.g) × Each (IsAsked l.names) l.all.items
