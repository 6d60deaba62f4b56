use Rattle.std.proofs.Common.{length, ◌<◌, subst}
use Rattle.sp_lex.specs.Faults.{OnDiag}
use Rattle.sp_read_unit.specs.Modules.{IsModuleRefused}
use Rattle.sp_read_unit.proofs.Whole.{on_refused, left_inside, left_refused, passed_on}
use Rattle.sp_read_unit.proofs.module.read_module.Goals as goal

pub returns-in_err-read-clause-refused : goal.returns-in_err-read-clause-refused
returns-in_err-read-clause-refused c =
    let tokens = c.args.t.now.list in
    let end = length c.args.t.now.text in
    passed_on c.from_residual.result c.in_err-read.field-0.0 (λ f. OnDiag (λ span kind. IsModuleRefused tokens end span kind) f) c.from_residual.ensures.1 (on_refused tokens end c.in_err-read.field-0.0 c.in_err-read.ensures.refused)

pub returns-then-to-len-clause-inside : goal.returns-then-to-len-clause-inside
returns-then-to-len-clause-inside c =
    left_inside c.args.t.now.list c.as_slice.result.now (length c.args.t.now.text) c.in_ok-read.read.1 _ c.left_over.result c.as_slice.ensures
    (subst (λ n. c.in_ok-read.read.1 < n) c.len.ensures c.if-to-len.true) c.are_of_their_text.ensures.order c.left_over.ensures

pub returns-then-to-len-clause-refused : goal.returns-then-to-len-clause-refused
returns-then-to-len-clause-refused c =
    left_refused c.args.t.now c.as_slice.result.now (length c.args.t.now.text) c.in_ok-read.read.1 _ c.in_ok-read.read.0 c.left_over.result c.as_slice.ensures
    (subst (λ n. c.in_ok-read.read.1 < n) c.len.ensures c.if-to-len.true) c.in_ok-read.ensures.read c.left_over.ensures
