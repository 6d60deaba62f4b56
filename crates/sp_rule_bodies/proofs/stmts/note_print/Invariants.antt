use Rattle.std.proofs.Common.{◌≡◌, drop}
use Rattle.sp_rules.specs.Least.{checked}
use Rattle.sp_typed.specs.Exprs.{exprs}
use Rattle.sp_rule_bodies.specs.StmtTests.{print_tests}
use Rattle.sp_rule_bodies.proofs.stmts.note_print.Given as goal

abbrev pub invariant-loop-e : goal.invariant-loop-e
invariant-loop-e l = checked l.least (print_tests l.owner (exprs (drop l.e-index l.parts))) ≡ checked l.fn.least (print_tests l.owner (exprs l.parts))
