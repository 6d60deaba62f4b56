use Rattle.sp_solver.specs.Told.{told}
use Rattle.sp_names.proofs.Lists.{each_more, one_longer}
use Rattle.sp_type_modules.specs.inside.Tables.{IsFunction}
use Rattle.sp_type_modules.proofs.tables.function_tables.Goals as goal

pub loop-n-preserved : goal.loop-n-preserved
loop-n-preserved c =
    let n = c.loop-n.n in
    let before = c.loop-n.invariant in
    let table = c.in_ok-function_table_at.field-0 in
    let old = c.loop-n.tables.items in
    let new = c.push.new.self.items in (
      one_longer old new n table c.in_ok-push.ensures.items before.0,
      each_more (IsFunction c.args.names.now (told c.args.known.now)) old new n table c.in_ok-push.ensures.items before.0 before.1 c.in_ok-function_table_at.ensures,
    )
