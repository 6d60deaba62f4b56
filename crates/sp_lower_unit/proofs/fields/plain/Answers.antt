use Rattle.std.proofs.Common.{ap, ◌∙◌}
use Rattle.std.proofs.lemmas.Result.{on_ok_weaker}
use Rattle.sp_code.specs.Shapes.{push, read_kind}
use Rattle.sp_code_programs.specs.units.Units.{unit_shape}
use Rattle.sp_lower_unit.proofs.Stored.{plain_added}
use Rattle.sp_lower_unit.proofs.fields.plain.Goals as goal

pub returns : goal.returns
returns c = λ r begin.
    let s = unit_shape c.args.unit r in
    let k = read_kind c.args.form.signed in
    let got = c.in_ok-read.ensures in
    on_ok_weaker c.store.result (plain_added c.args.out.now _ _ c.args.unit s c.args.form c.args.member begin got) (c.store.ensures s k (got.now ∙ ap (push k) begin))
