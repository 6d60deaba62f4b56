use Rattle.std.specs.Prelude.{reverse}
use Rattle.std.proofs.Common.{◌≡◌, ◌+◌, ◌*◌, ◌≤◌, ◌++◌, length}
use Rattle.sp_typed.specs.Exprs.{exprs}
use Rattle.sp_typed.specs.inside.ExprCodes.{expr_size, exprs_size}
use Rattle.sp_type_stmts.specs.Owners.{all_kept}
use Rattle.sp_type_stmts.proofs.owners.+kept.Given as goal

abbrev pub decreases-keep_owners : goal.decreases-keep_owners
decreases-keep_owners l = 3 * expr_size l.e + 2

abbrev pub decreases-both_kept : goal.decreases-both_kept
decreases-both_kept l = 3 * (expr_size l.a + expr_size l.b) + 3

abbrev pub decreases-three_kept : goal.decreases-three_kept
decreases-three_kept l = 3 * (expr_size l.a + (expr_size l.b + expr_size l.c)) + 4

abbrev pub decreases-all_kept : goal.decreases-all_kept
decreases-all_kept l = 3 * exprs_size (exprs l.parts.items)

abbrev pub decreases-all_kept-loop-part : goal.decreases-all_kept-loop-part
decreases-all_kept-loop-part l = length l.parts.items

abbrev pub invariant-all_kept-loop-part : goal.invariant-all_kept-loop-part
invariant-all_kept-loop-part l =
    (l.all.items ++ (all_kept l.scope (exprs (reverse l.parts.items))).0 ≡ (all_kept l.fn.scope (exprs l.fn.parts.items)).0)
    × ((all_kept l.scope (exprs (reverse l.parts.items))).1 ≡ (all_kept l.fn.scope (exprs l.fn.parts.items)).1)
    × (exprs_size (exprs (reverse l.parts.items)) ≤ exprs_size (exprs l.fn.parts.items))
