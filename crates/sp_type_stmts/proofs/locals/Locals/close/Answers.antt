use Rattle.std.proofs.Common.{◌<◌, length, ◌∙◌, arith}
use Rattle.sp_type_stmts.proofs.Tabled.{close_step}
use Rattle.sp_type_stmts.proofs.locals.Locals.close.Goals as goal

pub loop-self-preserved : goal.loop-self-preserved
loop-self-preserved c =
    let lt : c.args.keep < length c.loop-self.self = omega (arith, c.loop-self-test.true, c.len.ensures) in
    close_step c.args.keep c.loop-self.self c.close_one.new.self lt c.close_one.ensures ∙ c.loop-self.invariant
