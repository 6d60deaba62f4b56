use Rattle.std.proofs.Common.{refl}
use Rattle.std.proofs.lemmas.Result.{on_ok_weaker}
use Rattle.sp_value.specs.Val.{void}
use Rattle.sp_methods.specs.Kinds.{Void}
use Rattle.sp_code.specs.declared.instr.Instr.TheVariants.{Return}
use Rattle.sp_lower_stmt.proofs.Straight.{given_added}
use Rattle.sp_lower_stmt.proofs.plain.returned.Goals as goal

pub returns : goal.returns
returns c =
    on_ok_weaker c.emit_last.result (given_added c.args.out.now _ _ _ c.void.result void Void Return Return c.void.ensures refl c.in_ok-constant.ensures c.in_ok-push_row.ensures) c.emit_last.ensures
