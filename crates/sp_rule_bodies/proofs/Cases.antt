-- The values of one more case.
use Rattle.std.proofs.Common.{ℕ, ◌≡◌, ◌+◌, ◌<◌, List, ◌∷◌, length, get_or, drop, Option, sym, ap, ◌∙◌, Global, Vec}
use Rattle.std.proofs.lemmas.List.{at_drop_more}
use Rattle.sp_rules.specs.declared.fault.Fault.{Fault}
use Rattle.sp_rules.specs.Least.{checked}
use Rattle.sp_typed.specs.Exprs.{Expr, exprs}
use Rattle.sp_typed.specs.Stmts.{Stmt, case_row}
use Rattle.sp_rule_bodies.specs.StmtTests.{case_tests, cases_tests}
use Rattle.sp_rule_bodies.proofs.Swept.{checked_more}

pub cases_step : (m : ℕ) (subject : Expr) (cs : List (Vec Expr Global × Stmt)) (i : ℕ) (c : Vec Expr Global × Stmt) (vs : List Expr) (o p q : Option Fault) → i < length cs → c ≡ get_or cs i c → vs ≡ c.0.items → p ≡ checked o (case_tests m subject (exprs vs)) → checked o (cases_tests m subject (case_row (drop i cs))) ≡ q → checked p (cases_tests m subject (case_row (drop (i + 1) cs))) ≡ q
cases_step m subject cs i c vs o p q lt is same h before =
    let rest = case_row (drop (i + 1) cs) in
    let row : case_row (drop i cs) ≡ case_row (c ∷ drop (i + 1) cs) = at_drop_more case_row cs i c lt ∙ ap (λ x. case_row (x ∷ drop (i + 1) cs)) (sym is) in
    ap (λ z. checked z (cases_tests m subject rest)) (h ∙ ap (λ v. checked o (case_tests m subject (exprs v))) same)
    ∙ sym (checked_more o (case_tests m subject (exprs c.0.items)) (cases_tests m subject rest))
    ∙ sym (ap (λ r. checked o (cases_tests m subject r)) row)
    ∙ before
