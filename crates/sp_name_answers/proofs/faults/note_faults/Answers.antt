use Rattle.sp_rules.specs.Least.{checked}
use Rattle.sp_solver.specs.Told.{told}
use Rattle.sp_names.specs.Faults.{name_faults}
use Rattle.sp_name_answers.proofs.Checks.{one_module}
use Rattle.sp_name_answers.proofs.faults.note_faults.Goals as goal

pub loop-i-preserved : goal.loop-i-preserved
loop-i-preserved c =
    let list = c.args.names.now in
    let f = told c.args.known.now in
    one_module list f c.modules-modules.result.now c.loop-i.i c.in_ok-number.field-0 c.index-modules-i.result c.loop-i.least c.note_module.new.least (checked c.args.least.now (name_faults list f)) c.loop-i-test.true c.index-modules-i.is c.in_ok-number.ensures c.in_ok-note_module.ensures c.loop-i.invariant
