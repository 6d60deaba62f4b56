use Rattle.std.proofs.Common.{◌≡◌, ◌+◌, ◌*◌, drop, length}
use Rattle.sp_typed.specs.Exprs.{exprs}
use Rattle.sp_typed.specs.inside.ExprCodes.{expr_size, exprs_size}
use Rattle.sp_solver.specs.Told.{told}
use Rattle.sp_type_modules.specs.Sources.{questions}
use Rattle.sp_type_members.specs.Opens.{open_among}
use Rattle.sp_type_members.proofs.opens.+open.Given as goal

abbrev pub decreases-open_in : goal.decreases-open_in
decreases-open_in l = 2 * expr_size l.e.now + 1

abbrev pub decreases-open_two : goal.decreases-open_two
decreases-open_two l = 2 * expr_size l.a.now + (2 * expr_size l.b.now + 2)

abbrev pub decreases-open_among : goal.decreases-open_among
decreases-open_among l = 2 * exprs_size (exprs l.parts.now)

abbrev pub invariant-open_among-loop-e : goal.invariant-open_among-loop-e
invariant-open_among-loop-e l =
    open_among l.rows (length (questions l.rows)) (told l.known) (exprs (drop l.e-index l.parts)) ≡ open_among l.rows (length (questions l.rows)) (told l.known) (exprs l.parts)
