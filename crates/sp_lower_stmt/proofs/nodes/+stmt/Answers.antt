use Rattle.std.proofs.Common.{◌≡◌, ◌+◌, length, drop, sym, ap, subst, ◌∙◌, arith}
use Rattle.std.proofs.Math.Seq.{drop-length}
use Rattle.std.proofs.lemmas.Result.{on_ok_weaker}
use Rattle.sp_typed.specs.Exprs.{exprs}
use Rattle.sp_typed.specs.Stmts.{stmts, branch_row, case_row, more_cases, no_cases}
use Rattle.sp_code_programs.specs.exprs.Code.{kind_of}
use Rattle.sp_code_programs.specs.units.Sizes.{values_size, stmt_size, branches_size, cases_size}
use Rattle.sp_emit.proofs.Adding.{adds_nothing}
use Rattle.sp_lower_expr.specs.Around.{globals_in, layout_in}
use Rattle.sp_lower_expr.specs.Literals.{AllLiteralsFit}
use Rattle.sp_lower_size.proofs.Falls.{next_item, stmt_falls, branch_falls, case_falls}
use Rattle.sp_lower_stmt.specs.Literals.{StmtsLiteralsFit, BranchesLiteralsFit, CasesLiteralsFit}
use Rattle.sp_lower_stmt.specs.Added.{AddsStmts, AddsBranches, AddsCases}
use Rattle.sp_lower_stmt.proofs.Rounds.{while_added, for_added}
use Rattle.sp_lower_stmt.proofs.Choices.{branch_added, branches_added, choice_added, case_added, cases_added, chosen_added, switch_added}
use Rattle.sp_lower_stmt.proofs.Sequels.{stmts_added}
use Rattle.sp_lower_stmt.proofs.nodes.+stmt.Goals as goal

pub while_loop-returns : goal.while_loop-returns
while_loop-returns t c =
    let g = globals_in c.args.around.now in
    let l = layout_in c.args.around.now in
    let tested = c.in_ok-test.ensures in
    let is_leave : c.in_ok-leave.leave ≡ length c.test.new.out.marks + stmt_size l c.args.body.now + 3 = omega arith in
    on_ok_weaker c.emit-2.result
    (while_added g l c.args.out.now _ _ _ _ _ c.args.e.now c.args.body.now 0 0 c.in_ok-leave.leave c.in_ok-again.again c.in_ok-again.ensures is_leave tested c.in_ok-emit_last.ensures c.in_ok-emit.ensures c.in_ok-stmt.ensures)
    c.emit-2.ensures

pub for_loop-returns : goal.for_loop-returns
for_loop-returns t c =
    let g = globals_in c.args.around.now in
    let l = layout_in c.args.around.now in
    let begun = c.in_ok-sequence.ensures in
    let next = c.in_ok-each.ensures in
    let body = c.in_ok-stmt.ensures in
    let is_leave : c.in_ok-leave.leave ≡ c.in_ok-again.again + stmt_size l c.args.body.now + 3 = omega arith in
    on_ok_weaker c.each_end.result
    (for_added g l c.args.out.now _ _ _ _ c.args.head.now c.args.e.now c.args.body.now 0 0 c.in_ok-leave.leave c.in_ok-again.again c.in_ok-again.ensures is_leave begun next body)
    (c.each_end.ensures c.args.out.now.now (kind_of g l c.args.e.now) (body.now ∙ next.now ∙ begun.now))

pub arm-returns : goal.arm-returns
arm-returns t c =
    let g = globals_in c.args.around.now in
    let l = layout_in c.args.around.now in
    let is_next : c.in_ok-next.next ≡ length c.test.new.out.marks + stmt_size l c.args.body.now + 2 = omega arith in
    on_ok_weaker c.emit.result
    (branch_added g l c.args.out.now _ _ _ _ c.args.e.now c.args.body.now c.args.ways.leave c.args.ways.again c.args.behind c.in_ok-next.next is_next c.in_ok-test.ensures c.in_ok-emit_last.ensures c.in_ok-stmt.ensures)
    c.emit.ensures

pub branches-arm-requires : goal.branches-arm-requires
branches-arm-requires t c =
    let small = branch_falls c.args.row.now c.loop-part.part-index c.part-item.result (omega arith) c.part-item.is in
    let next = next_item c.args.row.now c.loop-part.part-index c.part-item.result c.loop-part-test.true c.part-item.is in
    let fits = subst (λ bs. BranchesLiteralsFit (branch_row bs)) next c.loop-part.invariant.literals in
    (omega (arith, small), (fits.0, fits.1))

pub branches-loop-part-preserved : goal.branches-loop-part-preserved
branches-loop-part-preserved t c =
    let g = globals_in c.args.around.now in
    let l = layout_in c.args.around.now in
    let x = c.part-item.result in
    let next = next_item c.args.row.now c.loop-part.part-index x c.loop-part-test.true c.part-item.is in
    let fits = subst (λ bs. BranchesLiteralsFit (branch_row bs)) next c.loop-part.invariant.literals in
    let rest = drop (c.loop-part.part-index + 1) c.args.row.now in
    record {
      literals = fits.2;
      code =
          λ e h. c.loop-part.invariant.code e
          (subst (λ bs. AddsBranches c.args.around.now c.loop-part.out e c.args.ways c.args.behind (branch_row bs)) (sym next)
          (branches_added g l c.loop-part.out _ e x.0 x.1 (branch_row rest) c.args.ways.leave c.args.ways.again c.args.behind c.in_ok-arm.ensures h));
    }

pub branches-returns : goal.branches-returns
branches-returns t c =
    let all : c.loop-part.part-index ≡ length c.args.row.now = omega arith in
    let none_left = ap (λ n. drop n c.args.row.now) all ∙ drop-length c.args.row.now in
    c.loop-part.invariant.code c.loop-part.out
    (subst (λ bs. AddsBranches c.args.around.now c.loop-part.out c.loop-part.out c.args.ways c.args.behind (branch_row bs)) (sym none_left) (adds_nothing c.loop-part.out))

pub choice-returns : goal.choice-returns
choice-returns t c =
    let g = globals_in c.args.around.now in
    let l = layout_in c.args.around.now in
    let bs = branch_row c.args.row.now in
    let is_behind : c.in_ok-behind.behind ≡ length c.args.out.now.marks + (branches_size l bs + stmt_size l c.args.otherwise.now) = omega arith in
    on_ok_weaker c.stmt.result
    (choice_added g l c.args.out.now _ _ bs c.args.otherwise.now c.args.ways.leave c.args.ways.again c.in_ok-behind.behind is_behind c.in_ok-branches.ensures)
    c.stmt.ensures

pub case-returns : goal.case-returns
case-returns t c =
    let g = globals_in c.args.around.now in
    let l = layout_in c.args.around.now in
    let es = exprs c.args.tests.now in
    let is_body : c.in_ok-at_body.at_body ≡ length c.args.out.now.marks + values_size l es + 1 = omega arith in
    let is_next : c.in_ok-next.next ≡ c.in_ok-at_body.at_body + stmt_size l c.args.body.now + 1 = omega arith in
    on_ok_weaker c.emit-2.result
    (case_added g l c.args.out.now _ _ _ _ es c.args.body.now c.args.ways.leave c.args.ways.again c.args.end c.args.local c.in_ok-at_body.at_body c.in_ok-next.next is_body is_next c.in_ok-values.ensures c.in_ok-emit.ensures c.in_ok-stmt.ensures)
    c.emit-2.ensures

pub cases-case-requires : goal.cases-case-requires
cases-case-requires t c =
    let small = case_falls c.args.row.now c.loop-part.part-index c.part-item.result (omega arith) c.part-item.is in
    let next = next_item c.args.row.now c.loop-part.part-index c.part-item.result c.loop-part-test.true c.part-item.is in
    let fits = subst (λ cs. CasesLiteralsFit (case_row cs)) next c.loop-part.invariant.literals in
    (omega (arith, small), (subst (λ v. AllLiteralsFit (exprs v)) (sym c.deref.ensures.value) fits.0, fits.1))

pub cases-loop-part-preserved : goal.cases-loop-part-preserved
cases-loop-part-preserved t c =
    let g = globals_in c.args.around.now in
    let l = layout_in c.args.around.now in
    let x = c.part-item.result in
    let next = next_item c.args.row.now c.loop-part.part-index x c.loop-part-test.true c.part-item.is in
    let fits = subst (λ cs. CasesLiteralsFit (case_row cs)) next c.loop-part.invariant.literals in
    let rest = drop (c.loop-part.part-index + 1) c.args.row.now in
    let first =
    subst (λ v. AddsCases c.args.around.now c.loop-part.out c.case.new.out c.args.ways c.args.end c.args.local (more_cases (exprs v) x.1 no_cases)) c.deref.ensures.value c.in_ok-case.ensures in
    record {
      literals = fits.2;
      code =
          λ e h. c.loop-part.invariant.code e
          (subst (λ cs. AddsCases c.args.around.now c.loop-part.out e c.args.ways c.args.end c.args.local (case_row cs)) (sym next)
          (cases_added g l c.loop-part.out _ e (exprs x.0.items) x.1 (case_row rest) c.args.ways.leave c.args.ways.again c.args.end c.args.local first h));
    }

pub cases-returns : goal.cases-returns
cases-returns t c =
    let all : c.loop-part.part-index ≡ length c.args.row.now = omega arith in
    let none_left = ap (λ n. drop n c.args.row.now) all ∙ drop-length c.args.row.now in
    c.loop-part.invariant.code c.loop-part.out
    (subst (λ cs. AddsCases c.args.around.now c.loop-part.out c.loop-part.out c.args.ways c.args.end c.args.local (case_row cs)) (sym none_left) (adds_nothing c.loop-part.out))

pub chosen-returns : goal.chosen-returns
chosen-returns t c =
    let g = globals_in c.args.around.now in
    let l = layout_in c.args.around.now in
    let cs = case_row c.args.row.now in
    let is_behind : c.in_ok-end.end ≡ length c.args.out.now.marks + (cases_size l cs + stmt_size l c.args.otherwise.now) = omega arith in
    on_ok_weaker c.stmt.result
    (chosen_added g l c.args.out.now _ _ cs c.args.otherwise.now c.args.ways.leave c.args.ways.again c.in_ok-end.end c.args.local is_behind c.in_ok-cases.ensures)
    c.stmt.ensures

pub switch-returns : goal.switch-returns
switch-returns t c =
    let g = globals_in c.args.around.now in
    let l = layout_in c.args.around.now in
    on_ok_weaker c.chosen.result
    (switch_added g l c.args.out.now _ _ c.args.e.now (case_row c.args.row.now) c.args.otherwise.now c.args.ways.leave c.args.ways.again c.args.slot c.in_ok-local.local c.in_ok-local.ensures c.in_ok-taken.ensures)
    c.chosen.ensures

pub block-stmt-requires : goal.block-stmt-requires
block-stmt-requires t c =
    let small = stmt_falls c.args.row.now c.loop-part.part-index c.part-item.result (omega arith) c.part-item.is in
    let next = next_item c.args.row.now c.loop-part.part-index c.part-item.result c.loop-part-test.true c.part-item.is in
    let fits = subst (λ ss. StmtsLiteralsFit (stmts ss)) next c.loop-part.invariant.literals in
    (omega (arith, small), fits.0)

pub block-loop-part-preserved : goal.block-loop-part-preserved
block-loop-part-preserved t c =
    let g = globals_in c.args.around.now in
    let l = layout_in c.args.around.now in
    let next = next_item c.args.row.now c.loop-part.part-index c.part-item.result c.loop-part-test.true c.part-item.is in
    let fits = subst (λ ss. StmtsLiteralsFit (stmts ss)) next c.loop-part.invariant.literals in
    let rest = drop (c.loop-part.part-index + 1) c.args.row.now in
    record {
      literals = fits.1;
      code =
          λ e h. c.loop-part.invariant.code e
          (subst (λ ss. AddsStmts c.args.around.now c.loop-part.out e c.args.ways (stmts ss)) (sym next)
          (stmts_added g l c.loop-part.out _ e c.part-item.result (stmts rest) c.args.ways.leave c.args.ways.again c.in_ok-stmt.ensures h));
    }

pub block-returns : goal.block-returns
block-returns t c =
    let all : c.loop-part.part-index ≡ length c.args.row.now = omega arith in
    let none_left = ap (λ n. drop n c.args.row.now) all ∙ drop-length c.args.row.now in
    c.loop-part.invariant.code c.loop-part.out
    (subst (λ ss. AddsStmts c.args.around.now c.loop-part.out c.loop-part.out c.args.ways (stmts ss)) (sym none_left) (adds_nothing c.loop-part.out))
