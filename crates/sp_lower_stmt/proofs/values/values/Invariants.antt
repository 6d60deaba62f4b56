use Rattle.std.proofs.Common.{drop}
use Rattle.sp_typed.specs.Exprs.{exprs}
use Rattle.sp_emit.specs.Emitted.{Emitted}
use Rattle.sp_lower_expr.specs.Literals.{AllLiteralsFit}
use Rattle.sp_lower_stmt.specs.Added.{AddsValues}
use Rattle.sp_lower_stmt.proofs.values.values.Given as goal

abbrev pub invariant-loop-e : goal.invariant-loop-e
invariant-loop-e l = record {
  literals : AllLiteralsFit (exprs (drop l.e-index l.all));
  code : (x : Emitted) → AddsValues l.around l.out x l.local l.body (exprs (drop l.e-index l.all)) → AddsValues l.around l.fn.out x l.local l.body (exprs l.all);
}
