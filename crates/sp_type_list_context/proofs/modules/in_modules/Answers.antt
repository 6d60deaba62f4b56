use Rattle.std.proofs.Common.{map}
use Rattle.sp_solver.specs.Told.{told}
use Rattle.sp_type_list_context.specs.Holds.{here_told}
use Rattle.sp_type_list_context.proofs.Joining.{modules_step}
use Rattle.sp_type_list_context.proofs.modules.in_modules.Goals as goal

pub loop-module-preserved : goal.loop-module-preserved
loop-module-preserved c =
    modules_step c.args.known.now.row.now.0 (told c.args.known.now.row.now.1) (told c.args.known.now.answers.now) (told c.args.stored.now) c.modules-module-items.result.now c.loop-module._module-index c.loop-module.owner c.in_ok-owner.owner (map here_told c.loop-module.all.items) (map here_told c.add_module.new.all.items) _ c.loop-module-test.true c.in_ok-owner.ensures c.in_ok-add_module.ensures c.loop-module.invariant
