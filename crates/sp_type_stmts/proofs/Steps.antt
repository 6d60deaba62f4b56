-- Rows, one item after another: what was made, and what is left to be made, is what was asked for.
use Rattle.std.specs.Prelude.{reverse}
use Rattle.std.proofs.Common.{ℕ, ◌+◌, ◌≤◌, ◌≡◌, List, [], ◌∷◌, ◌++◌, map, append_assoc, refl, sym, ap, ◌∙◌, arith}
use Rattle.std.proofs.lemmas.List.{reverse-append}
use Rattle.sp_typed.specs.Exprs.{Expr, exprs}
use Rattle.sp_typed.specs.inside.ExprCodes.{expr_size, exprs_size}
use Rattle.sp_ast.specs.Trees.{Tree, Trees, trees, more, tree_size, trees_size}
use Rattle.sp_type_stmts.specs.Scopes.{Scope}
use Rattle.sp_type_stmts.specs.Owners.{kept, all_kept}

-- an item x in front of a row
abbrev pub in_front : {T : Type 0} → T → List T × Scope → List T × Scope
in_front x r = (x ∷ r.0, r.1)

pub step : {T : Type 0} (fs : Scope → Trees → List T × Scope) (f : Scope → Tree → T × Scope)
    → ((sc : Scope) (t : Tree) (ts : Trees) → fs sc (more t ts) ≡ in_front (f sc t).0 (fs (f sc t).1 ts))
    → (all new : List T) (sc next : Scope) (left behind : List Tree) (t : Tree) (x : T) (whole : List T)
    → left ≡ t ∷ behind → x ≡ (f sc t).0 → next ≡ (f sc t).1 → new ≡ all ++ x ∷ []
    → all ++ (fs sc (trees left)).0 ≡ whole → new ++ (fs next (trees behind)).0 ≡ whole
step fs f law all new sc next left behind t x whole steps item scope push so_far =
    ap (λ l. l ++ (fs next (trees behind)).0) push
    ∙ append_assoc all (x ∷ []) (fs next (trees behind)).0
    ∙ ap (λ y. all ++ y ∷ (fs next (trees behind)).0) item
    ∙ ap (λ s. all ++ (f sc t).0 ∷ (fs s (trees behind)).0) scope
    ∙ ap (λ r. all ++ r.0) (sym (law sc t (trees behind)))
    ∙ ap (λ l. all ++ (fs sc (trees l)).0) (sym steps)
    ∙ so_far

pub step_scope : {T : Type 0} (fs : Scope → Trees → List T × Scope) (f : Scope → Tree → T × Scope)
    → ((sc : Scope) (t : Tree) (ts : Trees) → fs sc (more t ts) ≡ in_front (f sc t).0 (fs (f sc t).1 ts))
    → (sc next : Scope) (left behind : List Tree) (t : Tree) (whole : Scope)
    → left ≡ t ∷ behind → next ≡ (f sc t).1 → (fs sc (trees left)).1 ≡ whole → (fs next (trees behind)).1 ≡ whole
step_scope fs f law sc next left behind t whole steps scope so_far =
    ap (λ s. (fs s (trees behind)).1) scope
    ∙ ap (λ r. r.1) (sym (law sc t (trees behind)))
    ∙ ap (λ l. (fs sc (trees l)).1) (sym steps)
    ∙ so_far

map_more : {A B : Type 0} (f : A → B) (xs : List A) (x : A) → map f (xs ++ x ∷ []) ≡ map f xs ++ f x ∷ []
map_more f [] x = refl
map_more f (y ∷ ys) x = ap (λ l. f y ∷ l) (map_more f ys x)

pub mapped : {A B : Type 0} (f : A → B) (xs ys : List A) (x : A) → ys ≡ xs ++ x ∷ [] → map f ys ≡ map f xs ++ f x ∷ []
mapped f xs ys x e = ap (map f) e ∙ map_more f xs x

-- parts that are taken from the end of a reversed list
pub kept_step : (all new : List Expr) (sc next : Scope) (xs ys : List Expr) (e x : Expr) (whole : List Expr)
    → xs ≡ ys ++ e ∷ [] → x ≡ (kept sc e).0 → next ≡ (kept sc e).1 → new ≡ all ++ x ∷ []
    → all ++ (all_kept sc (exprs (reverse xs))).0 ≡ whole → new ++ (all_kept next (exprs (reverse ys))).0 ≡ whole
kept_step all new sc next xs ys e x whole pop item scope push so_far =
    ap (λ l. l ++ (all_kept next (exprs (reverse ys))).0) push
    ∙ append_assoc all (x ∷ []) (all_kept next (exprs (reverse ys))).0
    ∙ ap (λ y. all ++ y ∷ (all_kept next (exprs (reverse ys))).0) item
    ∙ ap (λ s. all ++ (kept sc e).0 ∷ (all_kept s (exprs (reverse ys))).0) scope
    ∙ ap (λ l. all ++ (all_kept sc (exprs l)).0) (sym (ap reverse pop ∙ reverse-append ys (e ∷ [])))
    ∙ so_far

pub kept_scope : (sc next : Scope) (xs ys : List Expr) (e : Expr) (whole : Scope)
    → xs ≡ ys ++ e ∷ [] → next ≡ (kept sc e).1
    → (all_kept sc (exprs (reverse xs))).1 ≡ whole → (all_kept next (exprs (reverse ys))).1 ≡ whole
kept_scope sc next xs ys e whole pop scope so_far =
    ap (λ s. (all_kept s (exprs (reverse ys))).1) scope
    ∙ ap (λ l. (all_kept sc (exprs l)).1) (sym (ap reverse pop ∙ reverse-append ys (e ∷ [])))
    ∙ so_far

size_of_rest : (xs ys : List Expr) (e : Expr) → xs ≡ ys ++ e ∷ [] → exprs_size (exprs (reverse xs)) ≡ expr_size e + 1 + exprs_size (exprs (reverse ys))
size_of_rest xs ys e pop = ap (λ l. exprs_size (exprs l)) (ap reverse pop ∙ reverse-append ys (e ∷ []))

pub size_of_part : (xs ys : List Expr) (e : Expr) (n : ℕ) → xs ≡ ys ++ e ∷ [] → exprs_size (exprs (reverse xs)) ≤ n → expr_size e + 1 ≤ n
size_of_part xs ys e n pop le = let is = size_of_rest xs ys e pop in omega (arith, is, le)

pub size_behind : (xs ys : List Expr) (e : Expr) (n : ℕ) → xs ≡ ys ++ e ∷ [] → exprs_size (exprs (reverse xs)) ≤ n → exprs_size (exprs (reverse ys)) ≤ n
size_behind xs ys e n pop le = let is = size_of_rest xs ys e pop in omega (arith, is, le)

pub less_behind : (left behind : List Tree) (t : Tree) (n : ℕ) → left ≡ t ∷ behind → trees_size (trees left) ≤ n → trees_size (trees behind) ≤ n
less_behind left behind t n is le =
    let same : trees_size (trees left) ≡ tree_size t + 1 + trees_size (trees behind) = ap (λ ts. trees_size (trees ts)) is in omega (arith, le, same)
