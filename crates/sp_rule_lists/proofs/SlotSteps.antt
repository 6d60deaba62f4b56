-- Slots of some, and then of more.
use Rattle.std.specs.Prelude.{◌==◌, ◌||◌}
use Rattle.std.proofs.Common.{ℕ, ◌≡◌, ◌+◌, ◌<◌, Bool, true, false, List, [], ◌∷◌, ◌++◌, length, get_or, drop, refl, sym, ap, ◌∙◌, append_assoc, Global, Vec}
use Rattle.std.proofs.lemmas.List.{at_drop_more}
use Rattle.sp_typed.specs.Exprs.{Expr}
use Rattle.sp_typed.specs.Stmts.{Stmt, stmts, branch_row, case_row}
use Rattle.sp_rule_lists.specs.Slots.{for_slots, for_slots_all, for_slots_branches, for_slots_cases, has}

pub append_more : (xs ys zs : List ℕ) → xs ++ (ys ++ zs) ≡ xs ++ ys ++ zs
append_more xs ys zs = sym (append_assoc xs ys zs)

pub append_none : (xs : List ℕ) → xs ++ [] ≡ xs
append_none [] = refl
append_none (x ∷ xs) = ap (λ l. x ∷ l) (append_none xs)

-- a row of which the first adds its own to those of the rest
row_step : {X : Type 0} (all : List X → List ℕ) (own : X → List ℕ) → ((x : X) (xs : List X) → all (x ∷ xs) ≡ own x ++ all xs) → (xs : List X) (i : ℕ) (x : X) (old new whole : List ℕ) → i < length xs → x ≡ get_or xs i x → new ≡ old ++ own x → old ++ all (drop i xs) ≡ whole → new ++ all (drop (i + 1) xs) ≡ whole
row_step all own cons xs i x old new whole lt is put before =
    let rest = all (drop (i + 1) xs) in
    let row : all (drop i xs) ≡ own x ++ rest = at_drop_more all xs i x lt ∙ ap (λ y. all (y ∷ drop (i + 1) xs)) (sym is) ∙ cons x (drop (i + 1) xs) in
    ap (λ l. l ++ rest) put ∙ append_assoc old (own x) rest ∙ ap (λ l. old ++ l) (sym row) ∙ before

pub stmt_step : (ss : List Stmt) (i : ℕ) (s : Stmt) (old new whole : List ℕ) → i < length ss → s ≡ get_or ss i s → new ≡ old ++ for_slots s → old ++ for_slots_all (stmts (drop i ss)) ≡ whole → new ++ for_slots_all (stmts (drop (i + 1) ss)) ≡ whole
stmt_step = row_step (λ l. for_slots_all (stmts l)) for_slots (λ x xs. refl)

pub branch_step : (bs : List (Expr × Stmt)) (i : ℕ) (b : Expr × Stmt) (old new whole : List ℕ) → i < length bs → b ≡ get_or bs i b → new ≡ old ++ for_slots b.1 → old ++ for_slots_branches (branch_row (drop i bs)) ≡ whole → new ++ for_slots_branches (branch_row (drop (i + 1) bs)) ≡ whole
branch_step = row_step (λ l. for_slots_branches (branch_row l)) (λ b. for_slots b.1) (λ x xs. refl)

pub case_step : (cs : List (Vec Expr Global × Stmt)) (i : ℕ) (c : Vec Expr Global × Stmt) (old new whole : List ℕ) → i < length cs → c ≡ get_or cs i c → new ≡ old ++ for_slots c.1 → old ++ for_slots_cases (case_row (drop i cs)) ≡ whole → new ++ for_slots_cases (case_row (drop (i + 1) cs)) ≡ whole
case_step = row_step (λ l. for_slots_cases (case_row l)) (λ c. for_slots c.1) (λ x xs. refl)

-- the marks of one more slot
or_swap : (a b c : Bool) → (a || b || c) ≡ (b || (a || c))
or_swap true true c = refl
or_swap true false c = refl
or_swap false true c = refl
or_swap false false c = refl

pub mark_step : (ks : List ℕ) (i : ℕ) (old new : List Bool) → i < length ks → ((n : ℕ) → get_or new n false ≡ ((n == get_or ks i 0) || get_or old n false)) → ((n : ℕ) → (get_or old n false || has (drop i ks) n) ≡ has ks n) → (n : ℕ) → (get_or new n false || has (drop (i + 1) ks) n) ≡ has ks n
mark_step ks i old new lt put before n =
    let rest = has (drop (i + 1) ks) n in
    let row : has (drop i ks) n ≡ ((n == get_or ks i 0) || rest) = at_drop_more (λ l. has l n) ks i 0 lt in
    ap (λ b. b || rest) (put n) ∙ or_swap (n == get_or ks i 0) (get_or old n false) rest ∙ ap (λ b. get_or old n false || b) (sym row) ∙ before n
