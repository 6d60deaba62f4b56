-- The heights of the addresses of code, one for each instruction. All of them are above a base, than which neither the address behind
-- the code nor those where a break and a continue lead are higher.
use Rattle.std.specs.Prelude.{ℕ, zero, suc, ◌+◌, List, [], ◌∷◌, ◌++◌}
use Rattle.sp_typed.specs.Stmts.{Stmt, Stmts, Branches, Cases, bare, valued, assign, print, block, branch, while_loop, for_loop, switch, no_stmts, more_stmts, no_branches, more_branches, no_cases, more_cases}
use Rattle.sp_code_meaning.specs.Layouts.{Layout}
use Rattle.sp_code_meaning.specs.Exprs.{slot_local}
use Rattle.sp_code_programs.specs.exprs.Sizes.{expr_size, exprs_size}
use Rattle.sp_code_programs.specs.units.Sizes.{bare_size, valued_size, assign_size, values_size, stmt_size, stmts_size, branches_size, cases_size}

-- so many heights in code that leads only further on, as that of each expression: each is one less than the one before
abbrev pub falling : ℕ → ℕ → List ℕ
falling base zero = []
falling base (suc n) = (base + suc n) ∷ falling base n

module _ (layout : Layout) where
  abbrev mutual
    -- Of a statement. The body of a loop is above its test, to which it leads back, and a turn stands between the test and the body.
    pub stmt_heights : ℕ → Stmt → List ℕ
    stmt_heights base (bare h) = falling base (bare_size h.op)
    stmt_heights base (valued h e) = falling base (valued_size layout h.op e)
    stmt_heights base (assign h target e) = falling base (assign_size layout h.op (slot_local layout h.owner) target e)
    stmt_heights base (print span es) = falling base (exprs_size layout es + 1)
    stmt_heights base (block ss) = stmts_heights base ss
    stmt_heights base (branch bs b) = branches_heights (base + stmt_size layout b) bs ++ stmt_heights base b
    stmt_heights base (while_loop e b) =
        let test = base + 2 in
        let back = test + expr_size layout e + 1 in
        falling test (expr_size layout e) ++ test ∷ (base + 1) ∷ (stmt_heights back b ++ back ∷ [])
    stmt_heights base (for_loop h e b) =
        let next = base + 3 in
        let back = next + 1 in
        let element = back + stmt_size layout b + 1 in
        let start = element + 1 in
        falling start (expr_size layout e) ++ start ∷ next ∷ element ∷ (stmt_heights back b ++ back ∷ (base + 2) ∷ (base + 1) ∷ [])
    stmt_heights base (switch slot e cs b) =
        let otherwise = base + stmt_size layout b in
        let subject = otherwise + cases_size layout cs + 1 in
        falling subject (expr_size layout e) ++ subject ∷ (cases_heights otherwise cs ++ stmt_heights base b)

    -- of statements, one behind another
    pub stmts_heights : ℕ → Stmts → List ℕ
    stmts_heights base no_stmts = []
    stmts_heights base (more_stmts b ss) = stmt_heights (base + stmts_size layout ss) b ++ stmts_heights base ss

    -- of the branches of an `if`, each of which leads behind all at its end
    pub branches_heights : ℕ → Branches → List ℕ
    branches_heights base no_branches = []
    branches_heights base (more_branches e b bs) =
        let leave = base + branches_size layout bs + 1 in
        let test = leave + stmt_size layout b + 1 in
        falling test (expr_size layout e) ++ test ∷ (stmt_heights leave b ++ leave ∷ branches_heights base bs)

    -- so of the cases of a `switch`
    pub cases_heights : ℕ → Cases → List ℕ
    cases_heights base no_cases = []
    cases_heights base (more_cases es b cs) =
        let leave = base + cases_size layout cs + 1 in
        let pass = leave + stmt_size layout b + 1 in
        falling pass (values_size layout es) ++ pass ∷ (stmt_heights leave b ++ leave ∷ cases_heights base cs)

  -- of a body, behind whose statement stands what returns a value
  abbrev pub body_heights : Stmt → List ℕ
  body_heights b = stmt_heights 2 b ++ falling 0 2
