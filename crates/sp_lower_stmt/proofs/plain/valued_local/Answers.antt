use Rattle.std.proofs.Common.{subst, OnOk}
use Rattle.sp_code.specs.declared.instr.Instr.TheVariants.{Store}
use Rattle.sp_lower_stmt.specs.Added.{AddsTaken}
use Rattle.sp_lower_stmt.proofs.plain.valued_local.Goals as goal

pub returns : goal.returns
returns c =
    subst (λ n. OnOk c.taken.result (AddsTaken c.args.around.now c.args.out.now c.taken.new.out c.args.e.now (Store n))) c.in_ok-l.ensures c.taken.ensures
