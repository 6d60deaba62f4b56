use Rattle.sp_type_list_context.specs.Holds.{here_told}
use Rattle.sp_type_list_context.proofs.Joining.{pushed}
use Rattle.sp_type_list_context.proofs.modules.add_module.Goals as goal

pub returns : goal.returns
returns c =
    pushed here_told c.args.all.now.items c.push.new.self.items c.in_module.result _ c.in_ok-push.ensures.items c.in_module.ensures
