use Rattle.std.proofs.Common.{◌≡◌}
use Rattle.sp_typed.specs.declared.words.Standing.TheVariants as standing_is
use Rattle.sp_type_scopes.specs.Decorators.{with_self}
use Rattle.sp_type_list_context.specs.Holds.{seeing_told, unit_told}
use Rattle.sp_type_list_context.proofs.Joining.{pushed}
use Rattle.sp_type_list_context.proofs.units.add_being.Goals as goal

pub returns : goal.returns
returns c =
    let told : unit_told c.new.result ≡ with_self c.args.ty.now standing_is.Meant (seeing_told c.args.context.now) = (let a = c.new.ensures.context in let b = c.new.ensures.ty in let d = c.new.ensures.standing in cc) in
    pushed unit_told c.args.all.now.items c.push.new.self.items c.new.result _ c.in_ok-push.ensures.items told
