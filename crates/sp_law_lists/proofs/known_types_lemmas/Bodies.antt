-- Where no rule is broken at the statements of a body, its expressions are values.
use Rattle.std.specs.Prelude.{ℕ, Bool, true, false, not, ◌&&◌, ◌||◌, if◌then◌else◌, List, [], ◌∷◌, ◌++◌, Option, Some, None}
use Rattle.std.specs.List.{list_all}
use Rattle.std.proofs.Common.{◌≡◌, ◌⊎◌, inl, inr, refl, sym, ap, ◌∙◌}
use Rattle.std.proofs.lemmas.Bool.{and_parts, and_from}
use Rattle.std.proofs.lemmas.List.Folds.{list_all-append}
use Rattle.sp_types.specs.Types.{Ty}
use Rattle.sp_typed.specs.declared.words.Written.{Written}
use Rattle.sp_typed.specs.declared.stmt_words.ValuedOp.{ValuedOp}
use Rattle.sp_typed.specs.declared.stmt_words.ValuedOp.TheVariants as valued_is
use Rattle.sp_typed.specs.Exprs.{Expr, Exprs, none, more, type_of}
use Rattle.sp_typed.specs.Nodes.{holds}
use Rattle.sp_typed.specs.Stmts.{Stmt, Stmts, Branches, Cases, bare, valued, assign, print, block, branch, while_loop, for_loop, switch, no_stmts, more_stmts, no_branches, more_branches, no_cases, more_cases}
use Rattle.sp_typed.specs.StmtNodes.{stmts_in, stmts_in_all, stmts_in_branches, stmts_in_cases}
use Rattle.sp_rule_bodies.specs.Known.{Known}
use Rattle.sp_rule_bodies.specs.Values.{is_no_value, is_no_object, is_void, written_tests}
use Rattle.sp_rule_bodies.specs.StmtTests.{stmt_tests, valued_op_tests, local_tests, return_tests, print_tests, branches_tests, case_tests, cases_tests}
use Rattle.sp_law_lists.specs.known_types.Full.{is_right, is_bare, holds_inside}
use Rattle.sp_law_lists.specs.known_types.Stmts.{is_good, takes_key, each_holds, exprs_hold, all_exprs_hold, branch_exprs_hold, case_exprs_hold, is_quiet}
use Rattle.sp_law_lists.proofs.known_types_lemmas.Full.{never}
use Rattle.sp_law_lists.proofs.known_types_lemmas.Tests.{Fine, Good, fine, fine_parts, is_whole, right_of, bare_is_none, bare_is_no_object, bare_is_unknown}

by_or : (a b : Bool) → (a || b) ≡ true → (a ≡ true) ⊎ (b ≡ true)
by_or true b e = inl refl
by_or false b e = inr e

good_of : (e : Expr) → is_good e ≡ true → Good e
good_of e g =
    let p = and_parts (holds_inside is_right e) (is_right e || is_bare e) g in
    (p.0, by_or (is_right e) (is_bare e) p.1)

-- an expression that is a value
value_whole : (e : Expr) → is_good e ≡ true → is_no_value e ≡ false → holds is_right e ≡ true
value_whole e g n =
    let h = good_of e g in
    is_whole is_right e h.0 (right_of e h n)

-- a target, which is a value or a sink
object_whole : (e : Expr) → is_good e ≡ true → is_no_object e ≡ false → holds is_right e ≡ true
object_whole e g n =
    let h = good_of e g in
    is_whole is_right e h.0 (elim h.1 [
      | inl r ↦ r
      | inr b ↦ never (sym n ∙ bare_is_no_object e b)
    ])

-- an expression that stands alone, which need not give anything
alone_whole : (e : Expr) → is_good e ≡ true → (is_no_value e && not (is_void (type_of e))) ≡ false → holds is_right e ≡ true
alone_whole e g n =
    let h = good_of e g in
    is_whole is_right e h.0 (elim h.1 [
      | inl r ↦ r
      | inr b ↦ never (sym n ∙ and_from (is_no_value e) (not (is_void (type_of e))) (bare_is_none e b) (ap (λ t. not (is_void t)) (bare_is_unknown e b)))
    ])

module _ (k : Known) (wanted : Option Ty) (m : ℕ) where
  local_whole : (t : Ty) (o : Option Written) (e : Expr) → is_good e ≡ true → Fine (local_tests m t o e) → holds is_right e ≡ true
  local_whole t None e g f = value_whole e g f.0
  local_whole t (Some w) e g f = value_whole e g (fine_parts (written_tests m w) _ f).1.0

  return_whole : (o : Option Ty) (e : Expr) → is_good e ≡ true → Fine (return_tests o m e) → holds is_right e ≡ true
  return_whole None e g f = value_whole e g f.0
  return_whole (Some t) e g f = value_whole e g f.0

  valued_whole : (op : ValuedOp) (e : Expr) → (if takes_key op then is_good e else is_good e) ≡ true → Fine (valued_op_tests k wanted m op e) → (if takes_key op then is_good e else holds is_right e) ≡ true
  valued_whole (valued_is.Local l) e g f = local_whole l.ty l.written e g f
  valued_whole valued_is.Return e g f = return_whole wanted e g f
  valued_whole valued_is.Throw e g f = value_whole e g f.0
  valued_whole (valued_is.Assert text) e g f = value_whole e g f.0
  valued_whole (valued_is.Add slot) e g f = g
  valued_whole (valued_is.Delete slot) e g f = g
  valued_whole valued_is.Expr e g f = alone_whole e g f.0

  printed_whole : (es : Exprs) → each_holds is_good es ≡ true → Fine (print_tests m es) → each_holds (holds is_right) es ≡ true
  printed_whole none g f = refl
  printed_whole (more e es) g f =
      let p = and_parts (is_good e) (each_holds is_good es) g in
      and_from (holds is_right e) (each_holds (holds is_right) es) (value_whole e p.0 f.0) (printed_whole es p.1 f.1.1.1)

  values_whole : (subject : Expr) (es : Exprs) → each_holds is_good es ≡ true → Fine (case_tests m subject es) → each_holds (holds is_right) es ≡ true
  values_whole subject none g f = refl
  values_whole subject (more e es) g f =
      let p = and_parts (is_good e) (each_holds is_good es) g in
      and_from (holds is_right e) (each_holds (holds is_right) es) (value_whole e p.0 f.0) (values_whole subject es p.1 f.1.1.1)

  abbrev pub Quiet : List Stmt → Type 0
  Quiet ss = list_all (is_quiet k wanted m) ss ≡ true

  pub two_quiet : (ss ts : List Stmt) → Quiet (ss ++ ts) → Quiet ss × Quiet ts
  two_quiet ss ts q =
      let test = list_all (is_quiet k wanted m) in
      and_parts (test ss) (test ts) (sym (list_all-append (is_quiet k wanted m) ss ts) ∙ q)

  pub at_first : (s : Stmt) (ss : List Stmt) → Quiet (s ∷ ss) → Fine (stmt_tests k wanted m s)
  at_first s ss q = fine (stmt_tests k wanted m s) (and_parts (is_quiet k wanted m s) (list_all (is_quiet k wanted m) ss) q).0

  pub behind : (s : Stmt) (ss : List Stmt) → Quiet (s ∷ ss) → Quiet ss
  behind s ss q = (and_parts (is_quiet k wanted m s) (list_all (is_quiet k wanted m) ss) q).1

  mutual
    pub stmt_whole : (s : Stmt) → exprs_hold is_good is_good s ≡ true → Quiet (stmts_in s) → exprs_hold (holds is_right) is_good s ≡ true
    stmt_whole (bare h) g q = refl
    stmt_whole (valued h e) g q = valued_whole h.op e g (at_first (valued h e) [] q)
    stmt_whole (assign h d e) g q =
        let p = and_parts (is_good d) (is_good e) g in
        let f = at_first (assign h d e) [] q in
        and_from (holds is_right d) (holds is_right e) (object_whole d p.0 f.0) (value_whole e p.1 f.1.1.1.0)
    stmt_whole (print span es) g q = printed_whole es g (at_first (print span es) [] q)
    stmt_whole (block ss) g q = all_whole ss g (behind (block ss) (stmts_in_all ss) q)
    stmt_whole (branch bs s) g q =
        let node = branch bs s in
        let inner = stmts_in_branches bs ++ stmts_in s in
        let p = and_parts (branch_exprs_hold is_good is_good bs) (exprs_hold is_good is_good s) g in
        let r = two_quiet (stmts_in_branches bs) (stmts_in s) (behind node inner q) in
        and_from (branch_exprs_hold (holds is_right) is_good bs) (exprs_hold (holds is_right) is_good s) (branches_whole bs p.0 (at_first node inner q) r.0) (stmt_whole s p.1 r.1)
    stmt_whole (while_loop e s) g q =
        let p = and_parts (is_good e) (exprs_hold is_good is_good s) g in
        let f = at_first (while_loop e s) (stmts_in s) q in
        and_from (holds is_right e) (exprs_hold (holds is_right) is_good s) (value_whole e p.0 f.0) (stmt_whole s p.1 (behind (while_loop e s) (stmts_in s) q))
    stmt_whole (for_loop h e s) g q =
        let p = and_parts (is_good e) (exprs_hold is_good is_good s) g in
        let f = at_first (for_loop h e s) (stmts_in s) q in
        and_from (holds is_right e) (exprs_hold (holds is_right) is_good s) (value_whole e p.0 f.0) (stmt_whole s p.1 (behind (for_loop h e s) (stmts_in s) q))
    stmt_whole (switch slot e cs s) g q =
        let node = switch slot e cs s in
        let inner = stmts_in_cases cs ++ stmts_in s in
        let p = and_parts (is_good e) (case_exprs_hold is_good is_good cs && exprs_hold is_good is_good s) g in
        let o = and_parts (case_exprs_hold is_good is_good cs) (exprs_hold is_good is_good s) p.1 in
        let f = at_first node inner q in
        let r = two_quiet (stmts_in_cases cs) (stmts_in s) (behind node inner q) in
        and_from (holds is_right e) (case_exprs_hold (holds is_right) is_good cs && exprs_hold (holds is_right) is_good s) (value_whole e p.0 f.0)
        (and_from (case_exprs_hold (holds is_right) is_good cs) (exprs_hold (holds is_right) is_good s) (cases_whole e cs o.0 f.1.1.1 r.0) (stmt_whole s o.1 r.1))

    all_whole : (ss : Stmts) → all_exprs_hold is_good is_good ss ≡ true → Quiet (stmts_in_all ss) → all_exprs_hold (holds is_right) is_good ss ≡ true
    all_whole no_stmts g q = refl
    all_whole (more_stmts s ss) g q =
        let p = and_parts (exprs_hold is_good is_good s) (all_exprs_hold is_good is_good ss) g in
        let r = two_quiet (stmts_in s) (stmts_in_all ss) q in
        and_from (exprs_hold (holds is_right) is_good s) (all_exprs_hold (holds is_right) is_good ss) (stmt_whole s p.0 r.0) (all_whole ss p.1 r.1)

    branches_whole : (bs : Branches) → branch_exprs_hold is_good is_good bs ≡ true → Fine (branches_tests m bs) → Quiet (stmts_in_branches bs) → branch_exprs_hold (holds is_right) is_good bs ≡ true
    branches_whole no_branches g f q = refl
    branches_whole (more_branches e s bs) g f q =
        let p = and_parts (is_good e) (exprs_hold is_good is_good s && branch_exprs_hold is_good is_good bs) g in
        let o = and_parts (exprs_hold is_good is_good s) (branch_exprs_hold is_good is_good bs) p.1 in
        let r = two_quiet (stmts_in s) (stmts_in_branches bs) q in
        and_from (holds is_right e) (exprs_hold (holds is_right) is_good s && branch_exprs_hold (holds is_right) is_good bs) (value_whole e p.0 f.0)
        (and_from (exprs_hold (holds is_right) is_good s) (branch_exprs_hold (holds is_right) is_good bs) (stmt_whole s o.0 r.0) (branches_whole bs o.1 f.1.1.1 r.1))

    cases_whole : (subject : Expr) (cs : Cases) → case_exprs_hold is_good is_good cs ≡ true → Fine (cases_tests m subject cs) → Quiet (stmts_in_cases cs) → case_exprs_hold (holds is_right) is_good cs ≡ true
    cases_whole subject no_cases g f q = refl
    cases_whole subject (more_cases es s cs) g f q =
        let p = and_parts (each_holds is_good es) (exprs_hold is_good is_good s && case_exprs_hold is_good is_good cs) g in
        let o = and_parts (exprs_hold is_good is_good s) (case_exprs_hold is_good is_good cs) p.1 in
        let h = fine_parts (case_tests m subject es) (cases_tests m subject cs) f in
        let r = two_quiet (stmts_in s) (stmts_in_cases cs) q in
        and_from (each_holds (holds is_right) es) (exprs_hold (holds is_right) is_good s && case_exprs_hold (holds is_right) is_good cs) (values_whole subject es p.0 h.0)
        (and_from (exprs_hold (holds is_right) is_good s) (case_exprs_hold (holds is_right) is_good cs) (stmt_whole s o.0 r.0) (cases_whole subject cs o.1 h.1 r.1))
