-- The heights of statements fall.
use Rattle.std.proofs.Common.{◌≡◌, ℕ, ◌+◌, ◌<◌, ◌≤◌, Bool, true, List, [], ◌∷◌, ◌++◌, length, refl, subst, arith, length-append, eq-or-lt_of_le, inl, inr}
use Rattle.std.specs.Prelude.{◌⊎◌}
use Rattle.sp_methods.specs.Kinds.{Unsigned}
use Rattle.sp_typed.specs.declared.stmt_words.BareOp.{BareOp}
use Rattle.sp_typed.specs.declared.stmt_words.BareOp.TheVariants as bare_is
use Rattle.sp_typed.specs.Exprs.{Expr}
use Rattle.sp_typed.specs.Stmts.{Stmt, Stmts, Branches, Cases, bare, valued, assign, print, block, branch, while_loop, for_loop, switch, no_stmts, more_stmts, no_branches, more_branches, no_cases, more_cases}
use Rattle.sp_meaning.specs.Globals.{Globals}
use Rattle.sp_code_meaning.specs.Layouts.{Layout}
use Rattle.sp_code_meaning.specs.Exprs.{slot_local}
use Rattle.sp_code.specs.Shapes.{Shape, push}
use Rattle.sp_code_programs.specs.exprs.Marked.{Marked}
use Rattle.sp_code_programs.specs.exprs.Sizes.{expr_size, exprs_size}
use Rattle.sp_code_programs.specs.exprs.Code.{kind_of, expr_code, exprs_code}
use Rattle.sp_code_programs.specs.units.Sizes.{bare_size, valued_size, assign_size, values_size, stmt_size, stmts_size, branches_size, cases_size}
use Rattle.sp_code_programs.specs.units.Code.{bare_code, valued_code, assign_code, values_code, stmt_code, stmts_code, branches_code, cases_code}
use Rattle.sp_law_code.proofs.exprs_lemmas.Sizes.{expr_sized, exprs_sized}
use Rattle.sp_law_code.proofs.bodies_lemmas.Sizes.{values_sized, stmt_sized, branches_sized, cases_sized}
use Rattle.sp_law_code.specs.turns.Loops.{BareKeepsToLoops, KeepsToLoops, AllKeepToLoops, BranchesKeepToLoops, CasesKeepToLoops}
use Rattle.sp_law_code.specs.turns.Falling.{HaveHeights, AllFall}
use Rattle.sp_law_code.specs.turns.Heights.{falling, stmt_heights, stmts_heights, branches_heights, cases_heights}
use Rattle.sp_law_code.specs.turns.Laws.{StatementsFall}
use Rattle.sp_law_code.proofs.turns_lemmas.Forward.{to_next, then_forward, fall_both, heights_front, heights_back, falling_counted, past_falls, straight_falls}
use Rattle.sp_law_code.proofs.turns_lemmas.Stmts.{valued_forward, assign_forward, values_forward}
use Rattle.sp_law_code.proofs.turns_lemmas.Exprs.{expr_forward, exprs_forward}

module _ (layout : Layout) where
  -- there are so many heights of a statement as instructions
  mutual
    pub stmt_counted : (base : ℕ) (b : Stmt) → length (stmt_heights layout base b) ≡ stmt_size layout b
    stmt_counted base (bare h) = falling_counted base (bare_size h.op)
    stmt_counted base (valued h e) = falling_counted base (valued_size layout h.op e)
    stmt_counted base (assign h target e) = falling_counted base (assign_size layout h.op (slot_local layout h.owner) target e)
    stmt_counted base (print span es) = falling_counted base (exprs_size layout es + 1)
    stmt_counted base (block ss) = stmts_counted base ss
    stmt_counted base (branch bs b) = omega (arith, length-append {A = ℕ}, branches_counted (base + stmt_size layout b) bs, stmt_counted base b)
    stmt_counted base (while_loop e b) =
        let test = base + 2 in
        omega (arith, length-append {A = ℕ}, falling_counted test (expr_size layout e), stmt_counted (test + expr_size layout e + 1) b)
    stmt_counted base (for_loop h e b) =
        let back = base + 3 + 1 in
        omega (arith, length-append {A = ℕ}, falling_counted (back + stmt_size layout b + 1 + 1) (expr_size layout e), stmt_counted back b)
    stmt_counted base (switch slot e cs b) =
        let otherwise = base + stmt_size layout b in
        omega (arith, length-append {A = ℕ}, falling_counted (otherwise + cases_size layout cs + 1) (expr_size layout e), cases_counted otherwise cs, stmt_counted base b)

    stmts_counted : (base : ℕ) (ss : Stmts) → length (stmts_heights layout base ss) ≡ stmts_size layout ss
    stmts_counted base no_stmts = refl
    stmts_counted base (more_stmts b ss) = omega (arith, length-append {A = ℕ}, stmt_counted (base + stmts_size layout ss) b, stmts_counted base ss)

    branches_counted : (base : ℕ) (bs : Branches) → length (branches_heights layout base bs) ≡ branches_size layout bs
    branches_counted base no_branches = refl
    branches_counted base (more_branches e b bs) =
        let leave = base + branches_size layout bs + 1 in
        omega (arith, length-append {A = ℕ}, falling_counted (leave + stmt_size layout b + 1) (expr_size layout e), stmt_counted leave b, branches_counted base bs)

    cases_counted : (base : ℕ) (cs : Cases) → length (cases_heights layout base cs) ≡ cases_size layout cs
    cases_counted base no_cases = refl
    cases_counted base (more_cases es b cs) =
        let leave = base + cases_size layout cs + 1 in
        omega (arith, length-append {A = ℕ}, falling_counted (leave + stmt_size layout b + 1) (values_size layout es), stmt_counted leave b, cases_counted base cs)

module _ (height : ℕ → ℕ) (globals : Globals) (layout : Layout) where
  abbrev code_of : Shape → ℕ → Expr → List Marked
  code_of s pc e = expr_code globals layout s pc e

  -- code of a size falls, and begins no higher above a base than it is long
  abbrev Falls : ℕ → ℕ → List Marked → Type 0
  Falls pc top ms = AllFall height pc ms × (height pc ≤ top)

  -- a break and a continue of what stands in a loop lead no higher than to the base
  abbrev Leave : (in_loop : Bool) → ℕ → ℕ → ℕ → Type 0
  Leave in_loop out again base = in_loop ≡ true → (height out ≤ base) × (height again ≤ base)

  higher : (in_loop : Bool) (out again base above : ℕ) → base ≤ above → Leave in_loop out again base → Leave in_loop out again above
  higher in_loop out again base above l leave e = let h = leave e in (omega (arith, l, h.0), omega (arith, l, h.1))

  nothing_falls : (pc base : ℕ) → height (pc + 0) ≤ base → Falls pc (base + 0) []
  nothing_falls pc base low = (tt, let q : pc + 0 ≡ pc = omega arith in let l = subst (λ i. height i ≤ base) q low in omega (arith, l))

  bare_falls : (in_loop : Bool) (s : Shape) (out again pc base : ℕ) (o : BareOp) → BareKeepsToLoops in_loop o → Leave in_loop out again base → height (pc + bare_size o) ≤ base
      → HaveHeights height pc (falling base (bare_size o)) → Falls pc (base + bare_size o) (bare_code globals layout s out again o)
  bare_falls in_loop s out again pc base (bare_is.Local l) keeps leave low have =
      straight_falls height pc base 2 (bare_code globals layout s out again (bare_is.Local l)) refl (to_next pc 1 0, (to_next (pc + 1) 0 0, tt)) low have
  bare_falls in_loop s out again pc base bare_is.Return keeps leave low have =
      straight_falls height pc base 2 (bare_code globals layout s out again bare_is.Return) refl (to_next pc 1 0, (tt, tt)) low have
  bare_falls in_loop s out again pc base (bare_is.Break meant) keeps leave low have = let to = leave keeps in (((omega (arith, to.0, have.0), tt), tt), omega (arith, have.0))
  bare_falls in_loop s out again pc base (bare_is.Continue meant) keeps leave low have = let to = leave keeps in (((omega (arith, to.1, have.0), tt), tt), omega (arith, have.0))
  bare_falls in_loop s out again pc base _ keeps leave low have = nothing_falls pc base low

  -- an address and the one behind it are low
  two_low : (pc base : ℕ) → height pc ≤ base → height (pc + 1) ≤ base → (to : ℕ) → pc ≤ to → to ≤ pc + 1 → height to ≤ base
  two_low pc base low low_next to l m = by_place (eq-or-lt_of_le l)
    where
      by_place : (pc ≡ to) ⊎ (pc < to) → height to ≤ base
      by_place (inl e) = subst (λ i. height i ≤ base) e low
      by_place (inr b) = let q : pc + 1 ≡ to = omega (arith, b, m) in subst (λ i. height i ≤ base) q low_next

  -- an expression above a base, by what stands behind it
  expr_falls : (s : Shape) (pc base : ℕ) (e : Expr) → height (pc + expr_size layout e) ≤ base → HaveHeights height pc (falling base (expr_size layout e)) → Falls pc (base + expr_size layout e) (code_of s pc e)
  expr_falls s pc base e low have = straight_falls height pc base (expr_size layout e) (code_of s pc e) (expr_sized globals layout s pc e) (expr_forward globals layout s pc e) low have

  mutual
    pub stmt_falls : (b : Stmt) (in_loop : Bool) (s : Shape) (out again pc base : ℕ) → KeepsToLoops in_loop b → Leave in_loop out again base → height (pc + stmt_size layout b) ≤ base
        → HaveHeights height pc (stmt_heights layout base b) → Falls pc (base + stmt_size layout b) (stmt_code globals layout s out again pc b)
    stmt_falls (bare h) in_loop s out again pc base keeps leave low have = bare_falls in_loop s out again pc base h.op keeps leave low have
    stmt_falls (valued h e) in_loop s out again pc base keeps leave low have =
        straight_falls height pc base (valued_size layout h.op e) (valued_code globals layout s pc h.op e) (stmt_sized globals layout s out again pc (valued h e)) (valued_forward globals layout s pc h.op e) low have
    stmt_falls (assign h target e) in_loop s out again pc base keeps leave low have =
        let owner = slot_local layout h.owner in
        straight_falls height pc base (assign_size layout h.op owner target e) (assign_code globals layout s pc h.op owner target e) (stmt_sized globals layout s out again pc (assign h target e))
        (assign_forward globals layout s pc h.op owner target e) low have
    stmt_falls (print span es) in_loop s out again pc base keeps leave low have =
        let n = exprs_size layout es in
        straight_falls height pc base (n + 1) (stmt_code globals layout s out again pc (print span es)) (stmt_sized globals layout s out again pc (print span es))
        (then_forward 0 pc n (exprs_code globals layout s pc es) _ (exprs_sized globals layout s pc es) (exprs_forward globals layout s pc es) (to_next (pc + n) 0 0, tt)) low have
    stmt_falls (block ss) in_loop s out again pc base keeps leave low have = stmts_fall ss in_loop s out again pc base keeps leave low have
    stmt_falls (branch bs b) in_loop s out again pc base keeps leave low have =
        let n = branches_size layout bs in
        let m = stmt_size layout b in
        let hs = branches_heights layout (base + m) bs in
        let at_else = pc + n in
        let behind = at_else + m in
        let same : pc + (n + m) ≡ behind = omega arith in
        let low_behind = subst (λ i. height i ≤ base) same low in
        let of_b = stmt_falls b in_loop s out again at_else base keeps.1 leave low_behind (heights_back height pc n hs (stmt_heights layout base b) (branches_counted layout (base + m) bs) have) in
        let of_bs =
        branches_fall bs in_loop s out again behind pc (base + m) keeps.0 (higher in_loop out again base (base + m) (omega arith) leave) (omega (arith, low_behind)) of_b.1
        (heights_front height pc hs (stmt_heights layout base b) have) in (
          fall_both height pc n (branches_code globals layout s out again behind pc bs) (stmt_code globals layout s out again at_else b) (branches_sized globals layout s out again behind pc bs) of_bs.0 of_b.0,
          omega (arith, of_bs.1),
        )
    stmt_falls (while_loop e b) in_loop s out again pc base keeps leave low have =
        let n = expr_size layout e in
        let m = stmt_size layout b in
        let test = base + 2 in
        let back = test + n + 1 in
        let q = pc + n in
        let at_b = q + 1 + 1 in
        let behind = at_b + m + 1 in
        let same : pc + (n + (1 + (1 + (m + 1)))) ≡ behind = omega arith in
        let low_behind = subst (λ i. height i ≤ base) same low in
        let hs = stmt_heights layout back b in
        let others = test ∷ (base + 1) ∷ (hs ++ back ∷ []) in
        let have_test = heights_back height pc n (falling test n) others (falling_counted test n) have in
        let have_body = have_test.1.1 in
        let have_back = (heights_back height at_b m hs (back ∷ []) (stmt_counted layout back b) have_body).0 in
        let of_e = expr_falls s pc test e (omega (arith, have_test.0)) (heights_front height pc (falling test n) others have) in
        let of_b = stmt_falls b true s behind pc at_b back keeps (λ _. (omega (arith, low_behind), omega (arith, of_e.1))) (omega (arith, have_back)) (heights_front height at_b hs (back ∷ []) have_body) in (
          fall_both height pc n (code_of s pc e) _ (expr_sized globals layout s pc e) of_e.0 (
            (omega (arith, have_test.0, low_behind), (omega (arith, have_test.0, have_test.1.0), tt)),
            (tt, fall_both height at_b m (stmt_code globals layout s behind pc at_b b) _ (stmt_sized globals layout s behind pc at_b b) of_b.0 ((omega (arith, have_back, of_e.1), tt), tt)),
          ),
          omega (arith, of_e.1),
        )
    stmt_falls (for_loop h e b) in_loop s out again pc base keeps leave low have =
        let n = expr_size layout e in
        let m = stmt_size layout b in
        let u = push Unsigned (push (kind_of globals layout e) s) in
        let next = base + 3 in
        let back = next + 1 in
        let element = back + m + 1 in
        let start = element + 1 in
        let q = pc + n in
        let at_next = q + 1 in
        let at_b = at_next + 1 + 1 in
        let out_of_it = at_b + m + 1 in
        let same : pc + (n + (1 + (1 + (1 + (m + (1 + (1 + 1))))))) ≡ out_of_it + 1 + 1 = omega arith in
        let low_behind = subst (λ i. height i ≤ base) same low in
        let hs = stmt_heights layout back b in
        let last = back ∷ (base + 2) ∷ (base + 1) ∷ [] in
        let others = start ∷ next ∷ element ∷ (hs ++ last) in
        let have_start = heights_back height pc n (falling start n) others (falling_counted start n) have in
        let have_next = have_start.1 in
        let have_element = have_next.1 in
        let have_last = heights_back height at_b m hs last (stmt_counted layout back b) have_element.1 in
        let of_e = expr_falls s pc start e (omega (arith, have_start.0)) (heights_front height pc (falling start n) others have) in
        let of_b =
        stmt_falls b true u out_of_it at_next at_b back keeps (λ _. (omega (arith, have_last.1.0), omega (arith, have_next.0))) (omega (arith, have_last.0)) (heights_front height at_b hs last have_element.1) in (
          fall_both height pc n (code_of s pc e) _ (expr_sized globals layout s pc e) of_e.0 (
            (omega (arith, have_start.0, have_next.0), tt),
            (
              (omega (arith, have_next.0, low_behind), tt),
              (
                (omega (arith, have_element.0, of_b.1), tt),
                fall_both height at_b m (stmt_code globals layout u out_of_it at_next at_b b) _ (stmt_sized globals layout u out_of_it at_next at_b b) of_b.0 (
                  (omega (arith, have_last.0, have_next.0), tt),
                  ((omega (arith, have_last.1.0, have_last.1.1.0), tt), ((omega (arith, have_last.1.1.0, low_behind), tt), tt)),
                ),
              ),
            ),
          ),
          omega (arith, of_e.1),
        )
    stmt_falls (switch slot e cs b) in_loop s out again pc base keeps leave low have =
        let n = expr_size layout e in
        let k = cases_size layout cs in
        let m = stmt_size layout b in
        let otherwise = base + m in
        let subject = otherwise + k + 1 in
        let q = pc + n in
        let at_cases = q + 1 in
        let at_else = at_cases + k in
        let behind = at_else + m in
        let l = layout.first + slot in
        let same : pc + (n + (1 + (k + m))) ≡ behind = omega arith in
        let low_behind = subst (λ i. height i ≤ base) same low in
        let hs = cases_heights layout otherwise cs in
        let gs = stmt_heights layout base b in
        let others = subject ∷ (hs ++ gs) in
        let have_subject = heights_back height pc n (falling subject n) others (falling_counted subject n) have in
        let of_b = stmt_falls b in_loop s out again at_else base keeps.1 leave low_behind (heights_back height at_cases k hs gs (cases_counted layout otherwise cs) have_subject.1) in
        let of_cs =
        cases_fall cs in_loop s out again behind l at_cases otherwise keeps.0 (higher in_loop out again base otherwise (omega arith) leave) (omega (arith, low_behind)) of_b.1
        (heights_front height at_cases hs gs have_subject.1) in
        let of_e = expr_falls s pc subject e (omega (arith, have_subject.0)) (heights_front height pc (falling subject n) others have) in (
          fall_both height pc n (code_of s pc e) _ (expr_sized globals layout s pc e) of_e.0 (
            (omega (arith, have_subject.0, of_cs.1), tt),
            fall_both height at_cases k (cases_code globals layout s out again behind l at_cases cs) (stmt_code globals layout s out again at_else b)
                (cases_sized globals layout s out again behind l at_cases cs) of_cs.0 of_b.0,
          ),
          omega (arith, of_e.1),
        )

    stmts_fall : (ss : Stmts) (in_loop : Bool) (s : Shape) (out again pc base : ℕ) → AllKeepToLoops in_loop ss → Leave in_loop out again base → height (pc + stmts_size layout ss) ≤ base
        → HaveHeights height pc (stmts_heights layout base ss) → Falls pc (base + stmts_size layout ss) (stmts_code globals layout s out again pc ss)
    stmts_fall no_stmts in_loop s out again pc base keeps leave low have = nothing_falls pc base low
    stmts_fall (more_stmts b ss) in_loop s out again pc base keeps leave low have =
        let n = stmt_size layout b in
        let m = stmts_size layout ss in
        let hs = stmt_heights layout (base + m) b in
        let next = pc + n in
        let same : pc + (n + m) ≡ next + m = omega arith in
        let of_ss = stmts_fall ss in_loop s out again next base keeps.1 leave (subst (λ i. height i ≤ base) same low) (heights_back height pc n hs (stmts_heights layout base ss) (stmt_counted layout (base + m) b) have) in
        let of_b =
        stmt_falls b in_loop s out again pc (base + m) keeps.0 (higher in_loop out again base (base + m) (omega arith) leave) of_ss.1 (heights_front height pc hs (stmts_heights layout base ss) have) in (
          fall_both height pc n (stmt_code globals layout s out again pc b) (stmts_code globals layout s out again next ss) (stmt_sized globals layout s out again pc b) of_b.0 of_ss.0,
          omega (arith, of_b.1),
        )

    -- the branches of an `if` lead behind it, to what is no higher than the base
    branches_fall : (bs : Branches) (in_loop : Bool) (s : Shape) (out again behind pc base : ℕ) → BranchesKeepToLoops in_loop bs → Leave in_loop out again base → height behind ≤ base
        → height (pc + branches_size layout bs) ≤ base → HaveHeights height pc (branches_heights layout base bs) → Falls pc (base + branches_size layout bs) (branches_code globals layout s out again behind pc bs)
    branches_fall no_branches in_loop s out again behind pc base keeps leave low_behind low have = nothing_falls pc base low
    branches_fall (more_branches e b bs) in_loop s out again behind pc base keeps leave low_behind low have =
        let n = expr_size layout e in
        let m = stmt_size layout b in
        let k = branches_size layout bs in
        let past = base + k + 1 in
        let test = past + m + 1 in
        let q = pc + n in
        let at_b = q + 1 in
        let next = at_b + m + 1 in
        let same : pc + (n + (1 + (m + (1 + k)))) ≡ next + k = omega arith in
        let hs = stmt_heights layout past b in
        let gs = past ∷ branches_heights layout base bs in
        let others = test ∷ (hs ++ gs) in
        let have_test = heights_back height pc n (falling test n) others (falling_counted test n) have in
        let have_past = heights_back height at_b m hs gs (stmt_counted layout past b) have_test.1 in
        let of_bs = branches_fall bs in_loop s out again behind next base keeps.1 leave low_behind (subst (λ i. height i ≤ base) same low) have_past.1 in
        let of_b =
        stmt_falls b in_loop s out again at_b past keeps.0 (higher in_loop out again base past (omega arith) leave) (omega (arith, have_past.0)) (heights_front height at_b hs gs have_test.1) in
        let of_e = expr_falls s pc test e (omega (arith, have_test.0)) (heights_front height pc (falling test n) others have) in (
          fall_both height pc n (code_of s pc e) _ (expr_sized globals layout s pc e) of_e.0 (
            (omega (arith, have_test.0, of_bs.1), (omega (arith, have_test.0, of_b.1), tt)),
            fall_both height at_b m (stmt_code globals layout s out again at_b b) _ (stmt_sized globals layout s out again at_b b) of_b.0 ((omega (arith, have_past.0, low_behind), tt), of_bs.0),
          ),
          omega (arith, of_e.1),
        )

    cases_fall : (cs : Cases) (in_loop : Bool) (s : Shape) (out again behind l pc base : ℕ) → CasesKeepToLoops in_loop cs → Leave in_loop out again base → height behind ≤ base
        → height (pc + cases_size layout cs) ≤ base → HaveHeights height pc (cases_heights layout base cs) → Falls pc (base + cases_size layout cs) (cases_code globals layout s out again behind l pc cs)
    cases_fall no_cases in_loop s out again behind l pc base keeps leave low_behind low have = nothing_falls pc base low
    cases_fall (more_cases es b cs) in_loop s out again behind l pc base keeps leave low_behind low have =
        let n = values_size layout es in
        let m = stmt_size layout b in
        let k = cases_size layout cs in
        let past = base + k + 1 in
        let pass = past + m + 1 in
        let q = pc + n in
        let at_b = q + 1 in
        let next = at_b + m + 1 in
        let same : pc + (n + (1 + (m + (1 + k)))) ≡ next + k = omega arith in
        let hs = stmt_heights layout past b in
        let gs = past ∷ cases_heights layout base cs in
        let others = pass ∷ (hs ++ gs) in
        let have_pass = heights_back height pc n (falling pass n) others (falling_counted pass n) have in
        let have_past = heights_back height at_b m hs gs (stmt_counted layout past b) have_pass.1 in
        let of_cs = cases_fall cs in_loop s out again behind l next base keeps.1 leave low_behind (subst (λ i. height i ≤ base) same low) have_past.1 in
        let of_b =
        stmt_falls b in_loop s out again at_b past keeps.0 (higher in_loop out again base past (omega arith) leave) (omega (arith, have_past.0)) (heights_front height at_b hs gs have_pass.1) in
        let of_es =
        past_falls height 1 pc pass n (values_code globals layout s l at_b pc es) (values_sized globals layout s l at_b pc es) (values_forward globals layout s l at_b pc es refl)
        (two_low q pass (omega (arith, have_pass.0)) (omega (arith, of_b.1))) (heights_front height pc (falling pass n) others have) in (
          fall_both height pc n (values_code globals layout s l at_b pc es) _ (values_sized globals layout s l at_b pc es) of_es.0 (
            (omega (arith, have_pass.0, of_cs.1), tt),
            fall_both height at_b m (stmt_code globals layout s out again at_b b) _ (stmt_sized globals layout s out again at_b b) of_b.0 ((omega (arith, have_past.0, low_behind), tt), of_cs.0),
          ),
          omega (arith, of_es.1),
        )

pub statements_fall : StatementsFall
statements_fall height globals layout b in_loop s out again pc base keeps leave low have = stmt_falls height globals layout b in_loop s out again pc base keeps leave low have
