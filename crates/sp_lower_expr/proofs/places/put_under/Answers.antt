use Rattle.std.proofs.Common.{sym, ◌∙◌}
use Rattle.sp_meaning_states.specs.Types.{kind_of_type}
use Rattle.sp_lower_expr.specs.Around.{globals_in, layout_in}
use Rattle.sp_lower_expr.proofs.Receivers.{under_added}
use Rattle.sp_lower_expr.proofs.places.put_under.Goals as goal

pub returns : goal.returns
returns c =
    let g = globals_in c.args.around.now in
    let k = kind_of_type g.ranges c.args.ty.now in
    under_added g (layout_in c.args.around.now) c.args.out.now _ _ _ _ _ c.args.m k c.args.receiver.now c.in_ok-n.n c.args.depth (sym c.stands_on.ensures ∙ c.if-not-stands_on.false) c.in_ok-n.ensures c.requires
    c.in_ok-pending.ensures c.in_ok-push_type.ensures c.in_ok-push_value.ensures c.in_ok-emit.ensures c.lower.ensures
