use Rattle.std.proofs.Common.{take, ap, ◌∙◌}
use Rattle.sp_lib.proofs.Fronts.{utf8_all, utf8_up_to}
use Rattle.sp_lib.proofs.texts.utf8_front.Goals as goal

pub returns-in-Ok : goal.returns-in-Ok
returns-in-Ok c = utf8_all c.args.x.now c.in-Ok.text.now c.in-Ok.ensures.cases.0 c.in-Ok.ensures.cases.1

pub returns-in-Ok-from_utf8 : goal.returns-in-Ok-from_utf8
returns-in-Ok-from_utf8 c =
    utf8_up_to c.args.x.now c.in-Ok-from_utf8.text.now _ c.in-Err.ensures.cases.1
    (c.in-Ok-from_utf8.ensures.cases.0 ∙ ap (λ n. take n c.args.x.now) c.valid_up_to.ensures)
