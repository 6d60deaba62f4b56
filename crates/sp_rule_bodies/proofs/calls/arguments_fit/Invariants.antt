use Rattle.std.proofs.Common.{◌≡◌, drop}
use Rattle.sp_typed.specs.Exprs.{exprs}
use Rattle.sp_rule_bodies.specs.ExprTests.{arguments_fit}
use Rattle.sp_rule_bodies.proofs.calls.arguments_fit.Given as goal

abbrev pub invariant-loop-i : goal.invariant-loop-i
invariant-loop-i g l =
    arguments_fit ((g.F.Facts.known l.facts).target l.op l.receiver) l.i (exprs (drop l.i l.arguments)) ≡ arguments_fit ((g.F.Facts.known l.facts).target l.op l.receiver) 0 (exprs l.arguments)
