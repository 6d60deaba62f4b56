-- Statements as codes, by which a proof tells them apart, and their sizes.
use Rattle.std.specs.Prelude.{ℕ, ◌≡◌, ◌+◌, refl}
use Rattle.std.specs.Coded.{Coded}
use base.Stored.{Gv, gnil, gnum, gcons}
use Rattle.std.proofs.Common.{ap}
use Rattle.sp_base.specs.declared.places.Span.{Span}
use Rattle.sp_typed.specs.declared.stmt_words.Bare.{Bare}
use Rattle.sp_typed.specs.declared.stmt_words.Valued.{Valued}
use Rattle.sp_typed.specs.declared.stmt_words.Assign.{Assign}
use Rattle.sp_typed.specs.declared.stmt_words.For.{For}
use Rattle.sp_typed.specs.Exprs.{Expr, Exprs, none, more}
use Rattle.sp_typed.specs.Stmts.{Stmt, Stmts, Branches, Cases, bare, valued, assign, print, block, branch, while_loop, for_loop, switch, no_stmts, more_stmts, no_branches, more_branches, no_cases, more_cases}

-- how many statements stand inside one
abbrev mutual
  pub stmt_size : Stmt → ℕ
  stmt_size (bare h) = 0
  stmt_size (valued h e) = 0
  stmt_size (assign h target value) = 0
  stmt_size (print at es) = 0
  stmt_size (block ss) = stmts_size ss
  stmt_size (branch bs s) = branches_size bs + stmt_size s + 1
  stmt_size (while_loop e s) = stmt_size s + 1
  stmt_size (for_loop h e s) = stmt_size s + 1
  stmt_size (switch slot e cs s) = cases_size cs + stmt_size s + 1

  pub stmts_size : Stmts → ℕ
  stmts_size no_stmts = 0
  stmts_size (more_stmts s ss) = stmt_size s + 1 + stmts_size ss

  pub branches_size : Branches → ℕ
  branches_size no_branches = 0
  branches_size (more_branches e s bs) = stmt_size s + 1 + branches_size bs

  pub cases_size : Cases → ℕ
  cases_size no_cases = 0
  cases_size (more_cases es s cs) = stmt_size s + 1 + cases_size cs

-- the codes of what statements are made of
pub record Codes : Type 0 where
  pub bare : Coded Bare
  pub valued : Coded Valued
  pub assign : Coded Assign
  pub span : Coded Span
  pub for : Coded For
  pub expr : Coded Expr

abbrev pub row_code : Coded Expr → Exprs → Gv
row_code c none = gnil
row_code c (more e es) = gcons (c.code e) (row_code c es)

abbrev mutual
  pub stmt_code : Codes → Stmt → Gv
  stmt_code k (bare h) = gcons (gnum 0) (k.bare.code h)
  stmt_code k (valued h e) = gcons (gnum 1) (gcons (k.valued.code h) (k.expr.code e))
  stmt_code k (assign h d e) = gcons (gnum 2) (gcons (k.assign.code h) (gcons (k.expr.code d) (k.expr.code e)))
  stmt_code k (print at es) = gcons (gnum 3) (gcons (k.span.code at) (row_code k.expr es))
  stmt_code k (block ss) = gcons (gnum 4) (stmts_code k ss)
  stmt_code k (branch bs s) = gcons (gnum 5) (gcons (branches_code k bs) (stmt_code k s))
  stmt_code k (while_loop e s) = gcons (gnum 6) (gcons (k.expr.code e) (stmt_code k s))
  stmt_code k (for_loop h e s) = gcons (gnum 7) (gcons (k.for.code h) (gcons (k.expr.code e) (stmt_code k s)))
  stmt_code k (switch n e cs s) = gcons (gnum 8) (gcons (gnum n) (gcons (k.expr.code e) (gcons (cases_code k cs) (stmt_code k s))))

  pub stmts_code : Codes → Stmts → Gv
  stmts_code k no_stmts = gnil
  stmts_code k (more_stmts s ss) = gcons (stmt_code k s) (stmts_code k ss)

  pub branches_code : Codes → Branches → Gv
  branches_code k no_branches = gnil
  branches_code k (more_branches e s bs) = gcons (k.expr.code e) (gcons (stmt_code k s) (branches_code k bs))

  pub cases_code : Codes → Cases → Gv
  cases_code k no_cases = gnil
  cases_code k (more_cases es s cs) = gcons (row_code k.expr es) (gcons (stmt_code k s) (cases_code k cs))

abbrev head : Gv → Gv
head (gcons a b) = a
head _ = gnil

abbrev tail : Gv → Gv
tail (gcons a b) = b
tail _ = gnil

abbrev number : Gv → ℕ
number (gnum n) = n
number _ = 0

pub row_inj : (c : Coded Expr) (xs ys : Exprs) → row_code c xs ≡ row_code c ys → xs ≡ ys
row_inj c none none p = refl
row_inj c (more x xs) (more y ys) p =
    let q = c.inj x y (ap head p) in
    let r = row_inj c xs ys (ap tail p) in cc
row_inj c xs ys p = cc

mutual
  pub stmt_inj : (k : Codes) (x y : Stmt) → stmt_code k x ≡ stmt_code k y → x ≡ y
  stmt_inj k (bare h) (bare i) p = ap bare (k.bare.inj h i (ap tail p))
  stmt_inj k (valued h d) (valued i e) p =
      let q = k.valued.inj h i (ap (λ g. head (tail g)) p) in
      let r = k.expr.inj d e (ap (λ g. tail (tail g)) p) in cc
  stmt_inj k (assign h c d) (assign i e f) p =
      let q = k.assign.inj h i (ap (λ g. head (tail g)) p) in
      let r = k.expr.inj c e (ap (λ g. head (tail (tail g))) p) in
      let s = k.expr.inj d f (ap (λ g. tail (tail (tail g))) p) in cc
  stmt_inj k (print m xs) (print n ys) p =
      let q = k.span.inj m n (ap (λ g. head (tail g)) p) in
      let r = row_inj k.expr xs ys (ap (λ g. tail (tail g)) p) in cc
  stmt_inj k (block xs) (block ys) p = ap block (stmts_inj k xs ys (ap tail p))
  stmt_inj k (branch xs s) (branch ys t) p =
      let q = branches_inj k xs ys (ap (λ g. head (tail g)) p) in
      let r = stmt_inj k s t (ap (λ g. tail (tail g)) p) in cc
  stmt_inj k (while_loop d s) (while_loop e t) p =
      let q = k.expr.inj d e (ap (λ g. head (tail g)) p) in
      let r = stmt_inj k s t (ap (λ g. tail (tail g)) p) in cc
  stmt_inj k (for_loop h d s) (for_loop i e t) p =
      let q = k.for.inj h i (ap (λ g. head (tail g)) p) in
      let r = k.expr.inj d e (ap (λ g. head (tail (tail g))) p) in
      let u = stmt_inj k s t (ap (λ g. tail (tail (tail g))) p) in cc
  stmt_inj k (switch m d xs s) (switch n e ys t) p =
      let o : m ≡ n = ap (λ g. number (head (tail g))) p in
      let q = k.expr.inj d e (ap (λ g. head (tail (tail g))) p) in
      let r = cases_inj k xs ys (ap (λ g. head (tail (tail (tail g)))) p) in
      let u = stmt_inj k s t (ap (λ g. tail (tail (tail (tail g)))) p) in cc
  stmt_inj k x y p = cc

  pub stmts_inj : (k : Codes) (xs ys : Stmts) → stmts_code k xs ≡ stmts_code k ys → xs ≡ ys
  stmts_inj k no_stmts no_stmts p = refl
  stmts_inj k (more_stmts x xs) (more_stmts y ys) p =
      let q = stmt_inj k x y (ap head p) in
      let r = stmts_inj k xs ys (ap tail p) in cc
  stmts_inj k xs ys p = cc

  pub branches_inj : (k : Codes) (xs ys : Branches) → branches_code k xs ≡ branches_code k ys → xs ≡ ys
  branches_inj k no_branches no_branches p = refl
  branches_inj k (more_branches d x xs) (more_branches e y ys) p =
      let o = k.expr.inj d e (ap head p) in
      let q = stmt_inj k x y (ap (λ g. head (tail g)) p) in
      let r = branches_inj k xs ys (ap (λ g. tail (tail g)) p) in cc
  branches_inj k xs ys p = cc

  pub cases_inj : (k : Codes) (xs ys : Cases) → cases_code k xs ≡ cases_code k ys → xs ≡ ys
  cases_inj k no_cases no_cases p = refl
  cases_inj k (more_cases d x xs) (more_cases e y ys) p =
      let o = row_inj k.expr d e (ap head p) in
      let q = stmt_inj k x y (ap (λ g. head (tail g)) p) in
      let r = cases_inj k xs ys (ap (λ g. tail (tail g)) p) in cc
  cases_inj k xs ys p = cc

abbrev pub coded_stmt : Coded Bare → Coded Valued → Coded Assign → Coded Span → Coded For → Coded Expr → Coded Stmt
coded_stmt b v a s f e =
    let k : Codes = record { bare = b; valued = v; assign = a; span = s; for = f; expr = e } in
    record { code = stmt_code k; inj = stmt_inj k }
