use Rattle.std.proofs.Common.{◌≡◌, ◌++◌}
use Rattle.sp_type_context.specs.Typing.{each_to}
use Rattle.sp_type_exprs.proofs.rows.add_each.Given as goal

abbrev pub invariant-loop-e : goal.invariant-loop-e
invariant-loop-e g l =
    l.parts.items ≡ l.fn.parts.items ++ each_to ((g.C.Context.around l.context).target l.op l.receiver) 0 l.yielded
