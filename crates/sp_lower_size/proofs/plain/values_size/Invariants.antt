use Rattle.std.proofs.Common.{◌≡◌, ◌+◌, drop}
use Rattle.sp_typed.specs.Exprs.{exprs}
use Rattle.sp_code_programs.specs.units.Sizes.{values_size}
use Rattle.sp_lower_expr.specs.Around.{layout_in}
use Rattle.sp_lower_size.proofs.plain.values_size.Given as goal

abbrev pub invariant-loop-value : goal.invariant-loop-value
invariant-loop-value l = l.total + values_size (layout_in l.around) (exprs (drop l.value-index l.values)) ≡ values_size (layout_in l.around) (exprs l.values)
