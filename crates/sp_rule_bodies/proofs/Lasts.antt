-- Whether the last of some statements ends well, told from the left.
use Rattle.std.specs.Prelude.{◌&&◌}
use Rattle.std.proofs.Common.{ℕ, ◌≡◌, ◌+◌, ◌<◌, Bool, true, false, List, length, get_or, drop, refl, sym, ap, ◌∙◌, Global, Vec}
use Rattle.std.proofs.lemmas.List.{at_drop_more}
use Rattle.sp_typed.specs.Exprs.{Expr}
use Rattle.sp_typed.specs.Stmts.{Stmt, Stmts, stmts, branch_row, case_row, no_stmts, more_stmts}
use Rattle.sp_rule_bodies.specs.Ends.{ends_well, last_ends_well, branches_end_well, cases_end_well}

abbrev pub told : Bool → Stmts → Bool
told last no_stmts = last
told last (more_stmts s ss) = told (ends_well s) ss

told_more : (s : Stmt) (ss : Stmts) → told (ends_well s) ss ≡ last_ends_well (more_stmts s ss)
told_more s no_stmts = refl
told_more s (more_stmts t ss) = told_more t ss

pub told_false : (ss : Stmts) → told false ss ≡ last_ends_well ss
told_false no_stmts = refl
told_false (more_stmts s ss) = told_more s ss

-- one more of a row
pub last_step : (ss : List Stmt) (i : ℕ) (s : Stmt) (old new whole : Bool) → i < length ss → s ≡ get_or ss i s → new ≡ ends_well s → told old (stmts (drop i ss)) ≡ whole → told new (stmts (drop (i + 1) ss)) ≡ whole
last_step ss i s old new whole lt is ends before =
    let rest = stmts (drop (i + 1) ss) in
    let row : told old (stmts (drop i ss)) ≡ told (ends_well s) rest = at_drop_more (λ l. told old (stmts l)) ss i s lt ∙ ap (λ x. told (ends_well x) rest) (sym is) in
    ap (λ b. told b rest) ends ∙ sym row ∙ before

pub branch_step : (bs : List (Expr × Stmt)) (i : ℕ) (b : Expr × Stmt) (whole : Bool) → i < length bs → b ≡ get_or bs i b → ends_well b.1 ≡ true → branches_end_well (branch_row (drop i bs)) ≡ whole → branches_end_well (branch_row (drop (i + 1) bs)) ≡ whole
branch_step bs i b whole lt is ends before =
    let rest = branches_end_well (branch_row (drop (i + 1) bs)) in
    let row : branches_end_well (branch_row (drop i bs)) ≡ (ends_well b.1 && rest) = at_drop_more (λ l. branches_end_well (branch_row l)) bs i b lt ∙ ap (λ x. ends_well x.1 && rest) (sym is) in
    sym (row ∙ ap (λ x. x && rest) ends) ∙ before

pub case_step : (cs : List (Vec Expr Global × Stmt)) (i : ℕ) (c : Vec Expr Global × Stmt) (whole : Bool) → i < length cs → c ≡ get_or cs i c → ends_well c.1 ≡ true → cases_end_well (case_row (drop i cs)) ≡ whole → cases_end_well (case_row (drop (i + 1) cs)) ≡ whole
case_step cs i c whole lt is ends before =
    let rest = cases_end_well (case_row (drop (i + 1) cs)) in
    let row : cases_end_well (case_row (drop i cs)) ≡ (ends_well c.1 && rest) = at_drop_more (λ l. cases_end_well (case_row l)) cs i c lt ∙ ap (λ x. ends_well x.1 && rest) (sym is) in
    sym (row ∙ ap (λ x. x && rest) ends) ∙ before
