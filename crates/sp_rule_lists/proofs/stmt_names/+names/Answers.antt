use Rattle.std.proofs.Common.{arith, refl}
use Rattle.sp_typed.specs.Exprs.{exprs}
use Rattle.sp_rule_lists.specs.Names.{expr_names, exprs_names}
use Rattle.sp_rule_lists.proofs.Checked.{row_step}
use Rattle.sp_rule_lists.proofs.Falls.{expr_falls}
use Rattle.sp_rule_lists.proofs.stmt_names.+names.Goals as goal

pub note_exprs_names-note_expr_names-requires : goal.note_exprs_names-note_expr_names-requires
note_exprs_names-note_expr_names-requires t c =
    let small = expr_falls c.args.parts.now c.loop-e.e-index c.e-item.result (omega arith) c.e-item.is in
    (omega arith, tt)

pub note_exprs_names-loop-e-preserved : goal.note_exprs_names-loop-e-preserved
note_exprs_names-loop-e-preserved t c =
    row_step (λ es. exprs_names c.args.owner (exprs es)) (expr_names c.args.owner) (λ x xs. refl) c.args.parts.now c.loop-e.e-index c.e-item.result c.loop-e.least c.note_expr_names.new.least _ c.loop-e-test.true c.e-item.is c.note_expr_names.ensures c.loop-e.invariant
