use Rattle.sp_solver.specs.Told.{told}
use Rattle.sp_type_values.proofs.Steps.{constant_found, label_found}
use Rattle.sp_type_values.proofs.known.Known.answer_of.Goals as goal

pub returns-in_ok-e-in-Constant : goal.returns-in_ok-e-in-Constant
returns-in_ok-e-in-Constant c =
    let k = c.args.self.now in
    constant_found c.constant_answer.result k.row.now.0 (told k.row.now.1) (told k.answers.now) c.args.place c.in-Constant.owner c.in-Constant.written _ c.in-Constant.value c.in_ok-e-in-Constant.e c.args.row.now c.constant_answer.ensures c.as_ref.ensures.value c.in_ok-e-in-Constant.ensures c.in-Constant.is

pub returns-in_ok-value-in-Numbered : goal.returns-in_ok-value-in-Numbered
returns-in_ok-value-in-Numbered c =
    let k = c.args.self.now in
    label_found k.row.now.0 (told k.row.now.1) (told k.answers.now) c.args.place c.in-Numbered.kind c.in-Numbered.owner c.in-Numbered.number c.in_ok-e-in-Numbered.e c.in_ok-value-in-Numbered.value c.label_value.result c.label_answer.result c.args.row.now c.label_answer.ensures c.label_value.ensures c.in_ok-value-in-Numbered.ensures c.in_ok-e-in-Numbered.ensures c.in-Numbered.is
