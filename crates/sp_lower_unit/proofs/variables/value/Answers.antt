use Rattle.std.proofs.Common.{ap}
use Rattle.std.proofs.lemmas.Result.{on_ok_weaker}
use Rattle.sp_meaning.specs.Globals.{globals_of}
use Rattle.sp_code_programs.specs.exprs.Code.{kind_of}
use Rattle.sp_lower_expr.specs.Around.{globals_in, layout_in}
use Rattle.sp_lower_unit.proofs.Stored.{value_added}
use Rattle.sp_lower_unit.proofs.variables.value.Goals as goal

pub returns : goal.returns
returns c =
    let x = c.unit_around.result in
    let e = c.args.value.now in
    let round = c.unit_around.ensures in
    let got = c.in_ok-expr.ensures in
    on_ok_weaker c.set_member.result
    (value_added c.args.list.now (globals_in x) (layout_in x) c.args.out.now _ _ c.args.unit c.args.member e (ap globals_of round.list) round.layout got)
    (c.set_member.ensures c.args.out.now.now (kind_of (globals_in x) (layout_in x) e) got.now)
