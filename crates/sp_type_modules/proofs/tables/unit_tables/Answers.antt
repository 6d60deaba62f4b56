use Rattle.std.proofs.Common.{◌≡◌, length, arith}
use Rattle.sp_solver.specs.Told.{told}
use Rattle.sp_names.proofs.Lists.{each_more, one_longer}
use Rattle.sp_type_modules.specs.inside.Tables.{IsUnit}
use Rattle.sp_type_modules.proofs.Steps.{first_more}
use Rattle.sp_type_modules.proofs.tables.unit_tables.Goals as goal

pub loop-n-preserved : goal.loop-n-preserved
loop-n-preserved c =
    let list = c.args.names.now in
    let f = told c.args.known.now in
    let n = c.loop-n.n in
    let before = c.loop-n.invariant in
    let table = c.in_ok-table.table in
    let old = c.loop-n.tables.items in
    let new = c.push.new.self.items in
    let is : IsUnit list f n table = c.in_ok-table.ensures before.0 in
    let many : c.in_ok-count.count ≡ length table.members.kinds.items = omega (arith, c.in_ok-count.ensures, c.len.ensures, table.members.kinds.ok.0) in (
      first_more list f n c.loop-n.first c.in_ok-count.count c.in_ok-first.first table before.0 is many c.in_ok-first.ensures,
      one_longer old new n table c.in_ok-push.ensures.items before.1,
      each_more (IsUnit list f) old new n table c.in_ok-push.ensures.items before.1 before.2 is,
    )
