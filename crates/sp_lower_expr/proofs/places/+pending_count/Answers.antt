use Rattle.std.proofs.Common.{◌≡◌, ◌+◌, ap, subst, IfOk}
use Rattle.sp_code_programs.specs.exprs.Code.{pending_count}
use Rattle.sp_lower_expr.proofs.places.+pending_count.Goals as goal

pub returns-in_ok-pending_count-in-Two : goal.returns-in_ok-pending_count-in-Two
returns-in_ok-pending_count-in-Two t c =
    subst (λ e. IfOk c.sum.result (λ n. n ≡ pending_count e)) c.in-Two.ensures
    (subst (λ k. IfOk c.sum.result (λ n. n ≡ k)) (ap (λ n. n + 2) c.in_ok-pending_count-in-Two.ensures) c.sum.ensures)
