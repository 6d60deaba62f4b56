use Rattle.std.proofs.Common.{◌≡◌, ℕ, length, subst, ap, sym, ◌∙◌, IfOk, arith}
use Rattle.sp_emit.proofs.Steps.{marks_long}
use Rattle.sp_emit.proofs.emitter.Emitter.address.Goals as goal

pub returns : goal.returns
returns c =
    let e = c.self.inside in
    let long : c.len.result ≡ length e.steps.items = omega arith in
    subst (λ (m : ℕ). IfOk c.number.result (λ n. n ≡ m)) (long ∙ sym (marks_long e.kinds e.here.stacks e.consts.items e.steps.items) ∙ ap (λ x. length x.marks) c.self.view_is) c.number.ensures
