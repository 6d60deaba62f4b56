-- No height of a statement is further above its base than the statement has instructions.
use Rattle.std.proofs.Common.{ℕ, zero, suc, ◌+◌, ◌≤◌, List, [], ◌∷◌, ◌++◌, arith}
use Rattle.sp_typed.specs.Stmts.{Stmt, Stmts, Branches, Cases, bare, valued, assign, print, block, branch, while_loop, for_loop, switch, no_stmts, more_stmts, no_branches, more_branches, no_cases, more_cases}
use Rattle.sp_code_meaning.specs.Layouts.{Layout}
use Rattle.sp_code_meaning.specs.Exprs.{slot_local}
use Rattle.sp_code_programs.specs.exprs.Sizes.{expr_size, exprs_size}
use Rattle.sp_code_programs.specs.units.Sizes.{bare_size, valued_size, assign_size, values_size, stmt_size, stmts_size, branches_size, cases_size}
use Rattle.sp_law_code.specs.turns.Falling.{AreAtMost}
use Rattle.sp_law_code.specs.turns.Heights.{falling, stmt_heights, stmts_heights, branches_heights, cases_heights}

pub low_more : (most more : ℕ) (hs : List ℕ) → most ≤ more → AreAtMost most hs → AreAtMost more hs
low_more most more [] l low = tt
low_more most more (h ∷ hs) l low = (omega (arith, l, low.0), low_more most more hs l low.1)

-- heights that are below a bound, and others behind them
pub low_both : (most more : ℕ) (hs gs : List ℕ) → most ≤ more → AreAtMost most hs → AreAtMost more gs → AreAtMost more (hs ++ gs)
low_both most more [] gs l low behind = behind
low_both most more (h ∷ hs) gs l low behind = (omega (arith, l, low.0), low_both most more hs gs l low.1 behind)

pub falling_low : (base n : ℕ) → AreAtMost (base + n) (falling base n)
falling_low base zero = tt
falling_low base (suc n) = (omega arith, low_more (base + n) (base + suc n) (falling base n) (omega arith) (falling_low base n))

module _ (layout : Layout) where
  mutual
    pub stmt_low : (base : ℕ) (b : Stmt) → AreAtMost (base + stmt_size layout b) (stmt_heights layout base b)
    stmt_low base (bare h) = falling_low base (bare_size h.op)
    stmt_low base (valued h e) = falling_low base (valued_size layout h.op e)
    stmt_low base (assign h target e) = falling_low base (assign_size layout h.op (slot_local layout h.owner) target e)
    stmt_low base (print span es) = falling_low base (exprs_size layout es + 1)
    stmt_low base (block ss) = stmts_low base ss
    stmt_low base (branch bs b) =
        let m = stmt_size layout b in
        let n = branches_size layout bs in
        low_both (base + m + n) (base + (n + m)) (branches_heights layout (base + m) bs) (stmt_heights layout base b) (omega arith) (branches_low (base + m) bs)
        (low_more (base + m) (base + (n + m)) (stmt_heights layout base b) (omega arith) (stmt_low base b))
    stmt_low base (while_loop e b) =
        let n = expr_size layout e in
        let m = stmt_size layout b in
        let test = base + 2 in
        let back = test + n + 1 in
        let top = base + stmt_size layout (while_loop e b) in
        low_both (test + n) top (falling test n) _ (omega arith) (falling_low test n) (
          omega arith,
          (omega arith, low_both (back + m) top (stmt_heights layout back b) (back ∷ []) (omega arith) (stmt_low back b) (omega arith, tt)),
        )
    stmt_low base (for_loop h e b) =
        let n = expr_size layout e in
        let m = stmt_size layout b in
        let back = base + 3 + 1 in
        let start = back + m + 1 + 1 in
        let top = base + stmt_size layout (for_loop h e b) in
        low_both (start + n) top (falling start n) _ (omega arith) (falling_low start n) (
          omega arith,
          (
            omega arith,
            (omega arith, low_both (back + m) top (stmt_heights layout back b) _ (omega arith) (stmt_low back b) (omega arith, (omega arith, (omega arith, tt)))),
          ),
        )
    stmt_low base (switch slot e cs b) =
        let n = expr_size layout e in
        let m = stmt_size layout b in
        let k = cases_size layout cs in
        let otherwise = base + m in
        let subject = otherwise + k + 1 in
        let top = base + stmt_size layout (switch slot e cs b) in
        low_both (subject + n) top (falling subject n) _ (omega arith) (falling_low subject n) (
          omega arith,
          low_both (otherwise + k) top (cases_heights layout otherwise cs) (stmt_heights layout base b) (omega arith) (cases_low otherwise cs)
              (low_more (base + m) top (stmt_heights layout base b) (omega arith) (stmt_low base b)),
        )

    stmts_low : (base : ℕ) (ss : Stmts) → AreAtMost (base + stmts_size layout ss) (stmts_heights layout base ss)
    stmts_low base no_stmts = tt
    stmts_low base (more_stmts b ss) =
        let n = stmt_size layout b in
        let m = stmts_size layout ss in
        low_both (base + m + n) (base + (n + m)) (stmt_heights layout (base + m) b) (stmts_heights layout base ss) (omega arith) (stmt_low (base + m) b)
        (low_more (base + m) (base + (n + m)) (stmts_heights layout base ss) (omega arith) (stmts_low base ss))

    branches_low : (base : ℕ) (bs : Branches) → AreAtMost (base + branches_size layout bs) (branches_heights layout base bs)
    branches_low base no_branches = tt
    branches_low base (more_branches e b bs) =
        let n = expr_size layout e in
        let m = stmt_size layout b in
        let k = branches_size layout bs in
        let leave = base + k + 1 in
        let test = leave + m + 1 in
        let top = base + branches_size layout (more_branches e b bs) in
        low_both (test + n) top (falling test n) _ (omega arith) (falling_low test n) (
          omega arith,
          low_both (leave + m) top (stmt_heights layout leave b) _ (omega arith) (stmt_low leave b)
              (omega arith, low_more (base + k) top (branches_heights layout base bs) (omega arith) (branches_low base bs)),
        )

    cases_low : (base : ℕ) (cs : Cases) → AreAtMost (base + cases_size layout cs) (cases_heights layout base cs)
    cases_low base no_cases = tt
    cases_low base (more_cases es b cs) =
        let n = values_size layout es in
        let m = stmt_size layout b in
        let k = cases_size layout cs in
        let leave = base + k + 1 in
        let pass = leave + m + 1 in
        let top = base + cases_size layout (more_cases es b cs) in
        low_both (pass + n) top (falling pass n) _ (omega arith) (falling_low pass n) (
          omega arith,
          low_both (leave + m) top (stmt_heights layout leave b) _ (omega arith) (stmt_low leave b)
              (omega arith, low_more (base + k) top (cases_heights layout base cs) (omega arith) (cases_low base cs)),
        )
