-- Where no test holds: what is known at each node.
use Rattle.std.specs.Prelude.{ℕ, Bool, true, not, ◌&&◌, List, [], ◌∷◌, ◌++◌}
use Rattle.std.specs.List.{list_all}
use Rattle.std.proofs.Common.{◌≡◌, refl, sym, ◌∙◌}
use Rattle.std.proofs.lemmas.Bool.{and_parts, and_from}
use Rattle.std.proofs.lemmas.List.Folds.{list_all-append}
use Rattle.sp_rules.specs.declared.fault.Fault.{Fault}
use Rattle.sp_typed.specs.declared.words.LeafOp.{LeafOp}
use Rattle.sp_typed.specs.declared.words.LeafOp.TheVariants as leaf_is
use Rattle.sp_typed.specs.Exprs.{Expr, Exprs, leaf, one, two, three, many, none, more}
use Rattle.sp_typed.specs.Nodes.{nodes, all_nodes, holds, all_hold}
use Rattle.sp_typed.proofs.Everywhere.{holds_everywhere, all_everywhere}
use Rattle.sp_typed.specs.Stmts.{Stmt, Stmts, Branches, Cases, bare, valued, assign, print, block, branch, while_loop, for_loop, switch, no_stmts, more_stmts, no_branches, more_branches, no_cases, more_cases}
use Rattle.sp_typed.specs.StmtNodes.{stmt_nodes, stmts_nodes, branches_nodes, cases_nodes, nodes_hold, stmts_hold, branches_hold, cases_hold}
use Rattle.sp_rule_bodies.specs.Known.{Known}
use Rattle.sp_rule_bodies.specs.ExprTests.{expr_tests}
use Rattle.sp_rule_lists.specs.Lists.{all_tests}
use Rattle.sp_rule_lists.specs.Names.{leaf_names, expr_names, exprs_names, valued_names, stmt_names, stmts_names, branches_names, cases_names}
use Rattle.sp_law_lists.specs.known_types.Clear.{none_hold, names_path, names_something, may_stand, any_op, is_clear}
use Rattle.sp_law_lists.proofs.known_types_lemmas.Full.{never}

pub none_parts : (xs ys : List (Bool × Fault)) → none_hold (xs ++ ys) ≡ true → (none_hold xs ≡ true) × (none_hold ys ≡ true)
none_parts [] ys e = (refl, e)
none_parts (x ∷ xs) ys e =
    let p = and_parts (not x.0) (none_hold (xs ++ ys)) e in
    let r = none_parts xs ys p.1 in
    (and_from (not x.0) (none_hold xs) p.0 r.0, r.1)

pub none_all : {X : Type 0} (tests : X → List (Bool × Fault)) (xs : List X) → none_hold (all_tests tests xs) ≡ true → list_all (λ x. none_hold (tests x)) xs ≡ true
none_all tests [] e = refl
none_all tests (x ∷ xs) e =
    let p = none_parts (tests x) (all_tests tests xs) e in
    and_from (none_hold (tests x)) (list_all (λ x. none_hold (tests x)) xs) p.0 (none_all tests xs p.1)

pub all_parts : {X : Type 0} (p : X → Bool) (xs ys : List X) → list_all p (xs ++ ys) ≡ true → (list_all p xs ≡ true) × (list_all p ys ≡ true)
all_parts p xs ys e = and_parts (list_all p xs) (list_all p ys) (sym (list_all-append p xs ys) ∙ e)

-- two tests that hold at each node
module _ (p q r : Expr → Bool) (both : (e : Expr) → p e ≡ true → q e ≡ true → r e ≡ true) where
  mutual
    pub holds_both : (e : Expr) → holds p e ≡ true → holds q e ≡ true → holds r e ≡ true
    holds_both (leaf h) x y = both (leaf h) x y
    holds_both (one h a) x y =
        let e = one h a in
        let i = and_parts (p e) (holds p a) x in
        let j = and_parts (q e) (holds q a) y in
        and_from (r e) (holds r a) (both e i.0 j.0) (holds_both a i.1 j.1)
    holds_both (two h a b) x y =
        let e = two h a b in
        let i = and_parts (p e) (holds p a && holds p b) x in
        let j = and_parts (q e) (holds q a && holds q b) y in
        let s = and_parts (holds p a) (holds p b) i.1 in
        let t = and_parts (holds q a) (holds q b) j.1 in
        and_from (r e) (holds r a && holds r b) (both e i.0 j.0) (and_from (holds r a) (holds r b) (holds_both a s.0 t.0) (holds_both b s.1 t.1))
    holds_both (three h a b c) x y =
        let e = three h a b c in
        let i = and_parts (p e) (holds p a && (holds p b && holds p c)) x in
        let j = and_parts (q e) (holds q a && (holds q b && holds q c)) y in
        let s = and_parts (holds p a) (holds p b && holds p c) i.1 in
        let t = and_parts (holds q a) (holds q b && holds q c) j.1 in
        let u = and_parts (holds p b) (holds p c) s.1 in
        let v = and_parts (holds q b) (holds q c) t.1 in
        and_from (r e) (holds r a && (holds r b && holds r c)) (both e i.0 j.0)
        (and_from (holds r a) (holds r b && holds r c) (holds_both a s.0 t.0) (and_from (holds r b) (holds r c) (holds_both b u.0 v.0) (holds_both c u.1 v.1)))
    holds_both (many h es) x y =
        let e = many h es in
        let i = and_parts (p e) (all_hold p es) x in
        let j = and_parts (q e) (all_hold q es) y in
        and_from (r e) (all_hold r es) (both e i.0 j.0) (all_hold_both es i.1 j.1)

    pub all_hold_both : (es : Exprs) → all_hold p es ≡ true → all_hold q es ≡ true → all_hold r es ≡ true
    all_hold_both none x y = refl
    all_hold_both (more e es) x y =
        let i = and_parts (holds p e) (all_hold p es) x in
        let j = and_parts (holds q e) (all_hold q es) y in
        and_from (holds r e) (all_hold r es) (holds_both e i.0 j.0) (all_hold_both es i.1 j.1)

-- names
leaf_named : (m : ℕ) (op : LeafOp) → none_hold (leaf_names m op) ≡ true → names_path op ≡ true
leaf_named m (leaf_is.Nothing name) e = never e
leaf_named m _ e = refl

mutual
  pub expr_named : (m : ℕ) (e : Expr) → none_hold (expr_names m e) ≡ true → holds names_something e ≡ true
  expr_named m (leaf h) e = leaf_named m h.op e
  expr_named m (one h a) e = expr_named m a e
  expr_named m (two h a b) e =
      let p = none_parts (expr_names m a) (expr_names m b) e in
      and_from (holds names_something a) (holds names_something b) (expr_named m a p.0) (expr_named m b p.1)
  expr_named m (three h a b c) e =
      let p = none_parts (expr_names m a) (expr_names m b ++ expr_names m c) e in
      let q = none_parts (expr_names m b) (expr_names m c) p.1 in
      and_from (holds names_something a) (holds names_something b && holds names_something c) (expr_named m a p.0)
      (and_from (holds names_something b) (holds names_something c) (expr_named m b q.0) (expr_named m c q.1))
  expr_named m (many h es) e = exprs_named m es e

  pub exprs_named : (m : ℕ) (es : Exprs) → none_hold (exprs_names m es) ≡ true → all_hold names_something es ≡ true
  exprs_named m none e = refl
  exprs_named m (more x es) e =
      let p = none_parts (expr_names m x) (exprs_names m es) e in
      and_from (holds names_something x) (all_hold names_something es) (expr_named m x p.0) (exprs_named m es p.1)

pub stands_anywhere : (e : Expr) → may_stand any_op e ≡ true
stands_anywhere (leaf h) = refl
stands_anywhere (one h a) = refl
stands_anywhere (two h a b) = refl
stands_anywhere (three h a b c) = refl
stands_anywhere (many h es) = refl

module _ (k : Known) (m : ℕ) where
  abbrev pub fine : Expr → Bool
  fine e = none_hold (expr_tests k m e)

  abbrev clear : Expr → Bool
  clear = is_clear any_op k m

  node_clear : (e : Expr) → names_something e ≡ true → fine e ≡ true → clear e ≡ true
  node_clear e n f = and_from (names_something e) (may_stand any_op e && fine e) n (and_from (may_stand any_op e) (fine e) (stands_anywhere e) f)

  pub expr_clear : (e : Expr) → none_hold (expr_names m e) ≡ true → list_all fine (nodes e) ≡ true → holds clear e ≡ true
  expr_clear e n f = holds_both names_something fine clear node_clear e (expr_named m e n) (sym (holds_everywhere fine e) ∙ f)

  pub exprs_clear : (es : Exprs) → none_hold (exprs_names m es) ≡ true → list_all fine (all_nodes es) ≡ true → all_hold clear es ≡ true
  exprs_clear es n f = all_hold_both names_something fine clear node_clear es (exprs_named m es n) (sym (all_everywhere fine es) ∙ f)

  -- statements
  mutual
    pub stmt_clear : (s : Stmt) → none_hold (stmt_names m s) ≡ true → list_all fine (stmt_nodes s) ≡ true → nodes_hold clear s ≡ true
    stmt_clear (bare h) n f = refl
    stmt_clear (valued h e) n f = expr_clear e (none_parts (valued_names m h.op) (expr_names m e) n).1 f
    stmt_clear (assign h d e) n f =
        let p = none_parts (expr_names m d) (expr_names m e) n in
        let q = all_parts fine (nodes d) (nodes e) f in
        and_from (holds clear d) (holds clear e) (expr_clear d p.0 q.0) (expr_clear e p.1 q.1)
    stmt_clear (print span es) n f = exprs_clear es n f
    stmt_clear (block ss) n f = stmts_clear ss n f
    stmt_clear (branch bs s) n f =
        let p = none_parts (branches_names m bs) (stmt_names m s) n in
        let q = all_parts fine (branches_nodes bs) (stmt_nodes s) f in
        and_from (branches_hold clear bs) (nodes_hold clear s) (branches_clear bs p.0 q.0) (stmt_clear s p.1 q.1)
    stmt_clear (while_loop e s) n f =
        let p = none_parts (expr_names m e) (stmt_names m s) n in
        let q = all_parts fine (nodes e) (stmt_nodes s) f in
        and_from (holds clear e) (nodes_hold clear s) (expr_clear e p.0 q.0) (stmt_clear s p.1 q.1)
    stmt_clear (for_loop h e s) n f =
        let p = none_parts (expr_names m e) (stmt_names m s) (and_parts (not h.taken) (none_hold (expr_names m e ++ stmt_names m s)) n).1 in
        let q = all_parts fine (nodes e) (stmt_nodes s) f in
        and_from (holds clear e) (nodes_hold clear s) (expr_clear e p.0 q.0) (stmt_clear s p.1 q.1)
    stmt_clear (switch slot e cs s) n f =
        let p = none_parts (expr_names m e) (cases_names m cs ++ stmt_names m s) n in
        let o = none_parts (cases_names m cs) (stmt_names m s) p.1 in
        let q = all_parts fine (nodes e) (cases_nodes cs ++ stmt_nodes s) f in
        let r = all_parts fine (cases_nodes cs) (stmt_nodes s) q.1 in
        and_from (holds clear e) (cases_hold clear cs && nodes_hold clear s) (expr_clear e p.0 q.0)
        (and_from (cases_hold clear cs) (nodes_hold clear s) (cases_clear cs o.0 r.0) (stmt_clear s o.1 r.1))

    pub stmts_clear : (ss : Stmts) → none_hold (stmts_names m ss) ≡ true → list_all fine (stmts_nodes ss) ≡ true → stmts_hold clear ss ≡ true
    stmts_clear no_stmts n f = refl
    stmts_clear (more_stmts s ss) n f =
        let p = none_parts (stmt_names m s) (stmts_names m ss) n in
        let q = all_parts fine (stmt_nodes s) (stmts_nodes ss) f in
        and_from (nodes_hold clear s) (stmts_hold clear ss) (stmt_clear s p.0 q.0) (stmts_clear ss p.1 q.1)

    branches_clear : (bs : Branches) → none_hold (branches_names m bs) ≡ true → list_all fine (branches_nodes bs) ≡ true → branches_hold clear bs ≡ true
    branches_clear no_branches n f = refl
    branches_clear (more_branches e s bs) n f =
        let p = none_parts (expr_names m e) (stmt_names m s ++ branches_names m bs) n in
        let o = none_parts (stmt_names m s) (branches_names m bs) p.1 in
        let q = all_parts fine (nodes e) (stmt_nodes s ++ branches_nodes bs) f in
        let r = all_parts fine (stmt_nodes s) (branches_nodes bs) q.1 in
        and_from (holds clear e) (nodes_hold clear s && branches_hold clear bs) (expr_clear e p.0 q.0)
        (and_from (nodes_hold clear s) (branches_hold clear bs) (stmt_clear s o.0 r.0) (branches_clear bs o.1 r.1))

    cases_clear : (cs : Cases) → none_hold (cases_names m cs) ≡ true → list_all fine (cases_nodes cs) ≡ true → cases_hold clear cs ≡ true
    cases_clear no_cases n f = refl
    cases_clear (more_cases es s cs) n f =
        let p = none_parts (exprs_names m es) (stmt_names m s ++ cases_names m cs) n in
        let o = none_parts (stmt_names m s) (cases_names m cs) p.1 in
        let q = all_parts fine (all_nodes es) (stmt_nodes s ++ cases_nodes cs) f in
        let r = all_parts fine (stmt_nodes s) (cases_nodes cs) q.1 in
        and_from (all_hold clear es) (nodes_hold clear s && cases_hold clear cs) (exprs_clear es p.0 q.0)
        (and_from (nodes_hold clear s) (cases_hold clear cs) (stmt_clear s o.0 r.0) (cases_clear cs o.1 r.1))
