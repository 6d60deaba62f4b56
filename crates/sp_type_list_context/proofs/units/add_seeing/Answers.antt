use Rattle.std.proofs.Common.{◌≡◌, false}
use Rattle.sp_type_scopes.specs.Parameters.{with_parameters}
use Rattle.sp_type_list_context.specs.Holds.{here_told, seeing_told}
use Rattle.sp_type_list_context.proofs.Joining.{pushed}
use Rattle.sp_type_list_context.proofs.units.add_seeing.Goals as goal

pub returns : goal.returns
returns c =
    let told : seeing_told c.new.result ≡ with_parameters 0 false c.args.table.now (here_told c.args.home.now) = (let a = c.new.ensures.outside in let b = c.new.ensures.parameters in let d = c.new.ensures.first in let e = c.new.ensures.hides in cc) in
    pushed seeing_told c.args.all.now.items c.push.new.self.items c.new.result _ c.in_ok-push.ensures.items told
