use Rattle.std.proofs.Common.{◌≡◌, drop}
use Rattle.sp_rules.specs.Least.{checked}
use Rattle.sp_typed.specs.Exprs.{exprs}
use Rattle.sp_rule_units.specs.Filters.{plain_tests}
use Rattle.sp_rule_units.proofs.nodes.note_plain.Given as goal

abbrev pub invariant-loop-e : goal.invariant-loop-e
invariant-loop-e l = checked l.least (plain_tests l.owner (exprs (drop l.e-index l.arguments))) ≡ checked l.fn.least (plain_tests l.owner (exprs l.arguments))
