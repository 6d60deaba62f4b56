-- A tree in which each alternative has its parts is one of a body.
use Rattle.std.specs.Prelude.{Bool, true, false, ◌&&◌}
use Rattle.std.proofs.Common.{◌≡◌, refl}
use Rattle.std.proofs.lemmas.Bool.{and_parts, and_from}
use Rattle.sp_ast.specs.Trees.{Tree, Trees, absent, row, node, none, more}
use Rattle.sp_ast.specs.Slots.{is_formed, are_formed}
use Rattle.sp_ast.specs.Groups.{is_of, are_of, fits}
use Rattle.sp_ast.specs.declared.groups.Group.TheVariants as group_is
use Rattle.sp_ast.specs.declared.groups.Sort.TheVariants as sort_is
use Rattle.sp_ast.specs.declared.forms.Form.TheVariants as form_is
use Rattle.sp_ast.specs.declared.forms.StmtForm.TheVariants as stmt_is
use Rattle.sp_law_lists.specs.known_types.Trees.{is_expr, are_exprs, written_hold, all_written_hold}
use Rattle.sp_law_lists.proofs.known_types_lemmas.Full.{never}
use Rattle.sp_law_lists.proofs.known_types_lemmas.Formed.{of_type, formed_expr, formed_exprs}
use Rattle.sp_law_lists.specs.known_bodies.Trees.{is_maybe_expr, is_local, is_stmt, are_stmts, are_branches, are_cases, is_body}

-- the last part
last : (a : Bool) → (a && true) ≡ true → a ≡ true
last a e = (and_parts a true e).0

-- parts of a wrong number
no_second : {X : Type 0} (a b : Bool) → ((a && false) && b) ≡ true → X
no_second true b e = never e
no_second false b e = never e

no_third : {X : Type 0} (a b c : Bool) → ((a && (b && false)) && c) ≡ true → X
no_third true b c e = no_second b c e
no_third false b c e = never e

module _ (is_type is_path : Tree → Bool) where
  abbrev Written : Tree → Type 0
  Written t = written_hold is_type is_path t ≡ true

  abbrev Expression : Tree → Type 0
  Expression t = is_of group_is.Expressions t ≡ true

  formed_maybe : (e : Tree) → fits (sort_is.Optional group_is.Expressions) e ≡ true → is_formed e ≡ true → Written e → is_maybe_expr is_type is_path e ≡ true
  formed_maybe absent of_e f w = refl
  formed_maybe (row es) of_e f w = never of_e
  formed_maybe (node form at es) of_e f w = formed_expr is_type is_path (node form at es) of_e f w

  formed_local : (t e : Tree) → fits (sort_is.Optional group_is.Types) t ≡ true → fits (sort_is.Optional group_is.Expressions) e ≡ true → is_formed e ≡ true → Written t → Written e → is_local is_type is_path t e ≡ true
  formed_local absent e of_t of_e f wt we = formed_maybe e of_e f we
  formed_local (row ts) e of_t of_e f wt we = never of_t
  formed_local (node form at ts) e of_t of_e f wt we =
      let t = node form at ts in
      and_from (is_type t) (is_maybe_expr is_type is_path e) (of_type is_type is_path t of_t wt) (formed_maybe e of_e f we)

  -- one expression, alone and before another part
  formed_one : (e : Tree) → ((is_of group_is.Expressions e && true) && (is_formed e && true)) ≡ true → (written_hold is_type is_path e && true) ≡ true → is_expr is_type is_path e ≡ true
  formed_one e f w =
      let p = and_parts (is_of group_is.Expressions e && true) (is_formed e && true) f in
      formed_expr is_type is_path e (last (is_of group_is.Expressions e) p.0) (last (is_formed e) p.1) (last (written_hold is_type is_path e) w)

  formed_first : (e : Tree) (other formed written : Bool) → ((is_of group_is.Expressions e && other) && (is_formed e && formed)) ≡ true → (written_hold is_type is_path e && written) ≡ true → is_expr is_type is_path e ≡ true
  formed_first e other formed written f w =
      let p = and_parts (is_of group_is.Expressions e && other) (is_formed e && formed) f in
      formed_expr is_type is_path e (and_parts (is_of group_is.Expressions e) other p.0).0 (and_parts (is_formed e) formed p.1).0 (and_parts (written_hold is_type is_path e) written w).0

  mutual
    pub formed_stmt : (t : Tree) → is_formed t ≡ true → Written t → is_stmt is_type is_path t ≡ true
    formed_stmt (node (form_is.Stmt stmt_is.Block) span (more (node form_is.Block at ts) none)) f w =
        let b = node form_is.Block at ts in
        let p = and_parts (are_of group_is.Statements ts) (are_formed ts) (last (is_formed b) f) in
        formed_stmts ts p.1 (last (all_written_hold is_type is_path ts) w)
    formed_stmt (node (form_is.Stmt stmt_is.Local) span (more name (more t (more e none)))) f w =
        let of_types = fits (sort_is.Optional group_is.Types) t in
        let of_exprs = fits (sort_is.Optional group_is.Expressions) e in
        let p = and_parts (is_of group_is.Names name && (of_types && (of_exprs && true))) (is_formed name && (is_formed t && (is_formed e && true))) f in
        let q = and_parts of_types (of_exprs && true) (and_parts (is_of group_is.Names name) (of_types && (of_exprs && true)) p.0).1 in
        let r = and_parts (is_formed t) (is_formed e && true) (and_parts (is_formed name) (is_formed t && (is_formed e && true)) p.1).1 in
        let u = and_parts (written_hold is_type is_path t) (written_hold is_type is_path e && true) (and_parts (written_hold is_type is_path name) (written_hold is_type is_path t && (written_hold is_type is_path e && true)) w).1 in
        formed_local t e q.0 (last of_exprs q.1) (last (is_formed e) r.1) u.0 (last (written_hold is_type is_path e) u.1)
    formed_stmt (node (form_is.Stmt stmt_is.If) span (more (row bs) (more other none))) f w =
        let of_other = fits (sort_is.Optional group_is.Statements) other in
        let p = and_parts (are_of group_is.Branches bs && (of_other && true)) (are_formed bs && (is_formed other && true)) f in
        let q = and_parts (are_formed bs) (is_formed other && true) p.1 in
        let u = and_parts (all_written_hold is_type is_path bs) (written_hold is_type is_path other && true) w in
        and_from (are_branches is_type is_path bs) (is_stmt is_type is_path other) (formed_branches bs (and_parts (are_of group_is.Branches bs) (of_other && true) p.0).0 q.0 u.0)
        (formed_stmt other (last (is_formed other) q.1) (last (written_hold is_type is_path other) u.1))
    formed_stmt (node (form_is.Stmt stmt_is.While) span (more e (more body none))) f w =
        let p = and_parts (is_of group_is.Expressions e && (is_of group_is.Statements body && true)) (is_formed e && (is_formed body && true)) f in
        let q = and_parts (is_formed e) (is_formed body && true) p.1 in
        let u = and_parts (written_hold is_type is_path e) (written_hold is_type is_path body && true) w in
        and_from (is_expr is_type is_path e) (is_stmt is_type is_path body) (formed_first e (is_of group_is.Statements body && true) (is_formed body && true) (written_hold is_type is_path body && true) f w)
        (formed_stmt body (last (is_formed body) q.1) (last (written_hold is_type is_path body) u.1))
    formed_stmt (node (form_is.Stmt stmt_is.For) span (more name (more e (more body none)))) f w =
        let p = and_parts (is_of group_is.Names name && (is_of group_is.Expressions e && (is_of group_is.Statements body && true))) (is_formed name && (is_formed e && (is_formed body && true))) f in
        let of_parts = and_parts (is_of group_is.Names name) (is_of group_is.Expressions e && (is_of group_is.Statements body && true)) p.0 in
        let of_e = and_parts (is_of group_is.Expressions e) (is_of group_is.Statements body && true) of_parts.1 in
        let q = and_parts (is_formed e) (is_formed body && true) (and_parts (is_formed name) (is_formed e && (is_formed body && true)) p.1).1 in
        let u = and_parts (written_hold is_type is_path e) (written_hold is_type is_path body && true) (and_parts (written_hold is_type is_path name) (written_hold is_type is_path e && (written_hold is_type is_path body && true)) w).1 in
        and_from (is_expr is_type is_path e) (is_stmt is_type is_path body) (formed_expr is_type is_path e of_e.0 q.0 u.0)
        (formed_stmt body (last (is_formed body) q.1) (last (written_hold is_type is_path body) u.1))
    formed_stmt (node (form_is.Stmt stmt_is.Switch) span (more e (more (row cs) (more other none)))) f w =
        let of_other = fits (sort_is.Optional group_is.Statements) other in
        let p = and_parts (is_of group_is.Expressions e && (are_of group_is.Cases cs && (of_other && true))) (is_formed e && (are_formed cs && (is_formed other && true))) f in
        let of_parts = and_parts (is_of group_is.Expressions e) (are_of group_is.Cases cs && (of_other && true)) p.0 in
        let of_cases = and_parts (are_of group_is.Cases cs) (of_other && true) of_parts.1 in
        let q = and_parts (is_formed e) (are_formed cs && (is_formed other && true)) p.1 in
        let r = and_parts (are_formed cs) (is_formed other && true) q.1 in
        let u = and_parts (written_hold is_type is_path e) (all_written_hold is_type is_path cs && (written_hold is_type is_path other && true)) w in
        let x = and_parts (all_written_hold is_type is_path cs) (written_hold is_type is_path other && true) u.1 in
        and_from (is_expr is_type is_path e) (are_cases is_type is_path cs && is_stmt is_type is_path other) (formed_expr is_type is_path e of_parts.0 q.0 u.0)
        (and_from (are_cases is_type is_path cs) (is_stmt is_type is_path other) (formed_cases cs of_cases.0 r.0 x.0) (formed_stmt other (last (is_formed other) r.1) (last (written_hold is_type is_path other) x.1)))
    formed_stmt (node (form_is.Stmt stmt_is.Return) span (more e none)) f w =
        let of_e = fits (sort_is.Optional group_is.Expressions) e in
        let p = and_parts (of_e && true) (is_formed e && true) f in
        formed_maybe e (last of_e p.0) (last (is_formed e) p.1) (last (written_hold is_type is_path e) w)
    formed_stmt (node (form_is.Stmt stmt_is.Print) span ts) f w =
        let p = and_parts (are_of group_is.Expressions ts) (are_formed ts) f in
        formed_exprs is_type is_path ts p.0 p.1 w
    formed_stmt (node (form_is.Stmt stmt_is.Throw) span (more e none)) f w = formed_one e f w
    formed_stmt (node (form_is.Stmt stmt_is.Assert) span (more e (more text none))) f w =
        formed_first e (fits (sort_is.Optional group_is.Strings) text && true) (is_formed text && true) (written_hold is_type is_path text && true) f w
    formed_stmt (node (form_is.Stmt stmt_is.Add) span (more e none)) f w = formed_one e f w
    formed_stmt (node (form_is.Stmt stmt_is.Delete) span (more e none)) f w = formed_one e f w
    formed_stmt (node (form_is.Stmt stmt_is.Expr) span (more e none)) f w = formed_one e f w
    formed_stmt (node (form_is.Stmt (stmt_is.Assign op)) span (more t (more e none))) f w =
        let p = and_parts (is_of group_is.Expressions t && (is_of group_is.Expressions e && true)) (is_formed t && (is_formed e && true)) f in
        let q = and_parts (is_of group_is.Expressions t) (is_of group_is.Expressions e && true) p.0 in
        let r = and_parts (is_formed t) (is_formed e && true) p.1 in
        let u = and_parts (written_hold is_type is_path t) (written_hold is_type is_path e && true) w in
        and_from (is_expr is_type is_path t) (is_expr is_type is_path e) (formed_expr is_type is_path t q.0 r.0 u.0)
        (formed_expr is_type is_path e (last (is_of group_is.Expressions e) q.1) (last (is_formed e) r.1) (last (written_hold is_type is_path e) u.1))
    formed_stmt _ f w = refl

    pub formed_stmts : (ts : Trees) → are_formed ts ≡ true → all_written_hold is_type is_path ts ≡ true → are_stmts is_type is_path ts ≡ true
    formed_stmts none f w = refl
    formed_stmts (more t ts) f w =
        let p = and_parts (is_formed t) (are_formed ts) f in
        let u = and_parts (written_hold is_type is_path t) (all_written_hold is_type is_path ts) w in
        and_from (is_stmt is_type is_path t) (are_stmts is_type is_path ts) (formed_stmt t p.0 u.0) (formed_stmts ts p.1 u.1)

    formed_branches : (ts : Trees) → are_of group_is.Branches ts ≡ true → are_formed ts ≡ true → all_written_hold is_type is_path ts ≡ true → are_branches is_type is_path ts ≡ true
    formed_branches none g f w = refl
    formed_branches (more (node form_is.Branch span (more e (more body none))) ts) g f w =
        let b = node form_is.Branch span (more e (more body none)) in
        let p = and_parts (is_formed b) (are_formed ts) f in
        let q = and_parts (is_of group_is.Expressions e && (is_of group_is.Statements body && true)) (is_formed e && (is_formed body && true)) p.0 in
        let r = and_parts (is_formed e) (is_formed body && true) q.1 in
        let u = and_parts (written_hold is_type is_path b) (all_written_hold is_type is_path ts) w in
        let x = and_parts (written_hold is_type is_path e) (written_hold is_type is_path body && true) u.0 in
        and_from (is_expr is_type is_path e) (is_stmt is_type is_path body && are_branches is_type is_path ts)
        (formed_first e (is_of group_is.Statements body && true) (is_formed body && true) (written_hold is_type is_path body && true) p.0 u.0)
        (and_from (is_stmt is_type is_path body) (are_branches is_type is_path ts) (formed_stmt body (last (is_formed body) r.1) (last (written_hold is_type is_path body) x.1)) (formed_branches ts g p.1 u.1))
    formed_branches (more (node form_is.Branch span none) ts) g f w = never f
    formed_branches (more (node form_is.Branch span (more e none)) ts) g f w =
        no_second (is_of group_is.Expressions e) (are_formed (more e none)) (and_parts (is_formed (node form_is.Branch span (more e none))) (are_formed ts) f).0
    formed_branches (more (node form_is.Branch span (more e (more body (more x xs)))) ts) g f w =
        no_third (is_of group_is.Expressions e) (is_of group_is.Statements body) (are_formed (more e (more body (more x xs)))) (and_parts (is_formed (node form_is.Branch span (more e (more body (more x xs))))) (are_formed ts) f).0
    formed_branches _ g f w = never g

    formed_cases : (ts : Trees) → are_of group_is.Cases ts ≡ true → are_formed ts ≡ true → all_written_hold is_type is_path ts ≡ true → are_cases is_type is_path ts ≡ true
    formed_cases none g f w = refl
    formed_cases (more (node form_is.Case span (more (row es) (more body none))) ts) g f w =
        let c = node form_is.Case span (more (row es) (more body none)) in
        let p = and_parts (is_formed c) (are_formed ts) f in
        let q = and_parts (are_of group_is.Expressions es && (is_of group_is.Statements body && true)) (are_formed es && (is_formed body && true)) p.0 in
        let o = and_parts (are_of group_is.Expressions es) (is_of group_is.Statements body && true) q.0 in
        let r = and_parts (are_formed es) (is_formed body && true) q.1 in
        let u = and_parts (written_hold is_type is_path c) (all_written_hold is_type is_path ts) w in
        let x = and_parts (all_written_hold is_type is_path es) (written_hold is_type is_path body && true) u.0 in
        and_from (are_exprs is_type is_path es) (is_stmt is_type is_path body && are_cases is_type is_path ts) (formed_exprs is_type is_path es o.0 r.0 x.0)
        (and_from (is_stmt is_type is_path body) (are_cases is_type is_path ts) (formed_stmt body (last (is_formed body) r.1) (last (written_hold is_type is_path body) x.1)) (formed_cases ts g p.1 u.1))
    formed_cases (more (node form_is.Case span none) ts) g f w = never f
    formed_cases (more (node form_is.Case span (more absent xs)) ts) g f w = never f
    formed_cases (more (node form_is.Case span (more (node form at es) xs)) ts) g f w = never f
    formed_cases (more (node form_is.Case span (more (row es) none)) ts) g f w =
        no_second (are_of group_is.Expressions es) (are_formed (more (row es) none)) (and_parts (is_formed (node form_is.Case span (more (row es) none))) (are_formed ts) f).0
    formed_cases (more (node form_is.Case span (more (row es) (more body (more x xs)))) ts) g f w =
        no_third (are_of group_is.Expressions es) (is_of group_is.Statements body) (are_formed (more (row es) (more body (more x xs)))) (and_parts (is_formed (node form_is.Case span (more (row es) (more body (more x xs))))) (are_formed ts) f).0
    formed_cases _ g f w = never g

  pub formed_body : (t : Tree) → is_formed t ≡ true → Written t → is_body is_type is_path t ≡ true
  formed_body (node form_is.Block span ts) f w = formed_stmts ts (and_parts (are_of group_is.Statements ts) (are_formed ts) f).1 w
  formed_body _ f w = refl
