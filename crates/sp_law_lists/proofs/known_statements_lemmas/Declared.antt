-- Each local that a body declares has a full type, where no rule is broken in the body.
use Rattle.std.specs.Prelude.{ℕ, Bool, true, false, ◌&&◌, List, [], ◌++◌, map, length, Option}
use Rattle.std.proofs.Common.{◌≡◌, refl, ap, ◌∙◌}
use Rattle.std.proofs.lemmas.Bool.{and_parts, and_from}
use Rattle.sp_ast.specs.Trees.{Tree, Trees, absent, row, node, none, more}
use Rattle.sp_ast.specs.declared.forms.Form.TheVariants as form_is
use Rattle.sp_ast.specs.declared.forms.StmtForm.TheVariants as stmt_is
use Rattle.sp_types.specs.Types.{Ty}
use Rattle.sp_typed.specs.declared.words.OneOp.{OneOp}
use Rattle.sp_typed.specs.Exprs.{Expr, exprs, type_of}
use Rattle.sp_typed.specs.Nodes.{holds, all_hold}
use Rattle.sp_typed.specs.Stmts.{Stmt, block, branch, while_loop, for_loop, switch, stmts, branch_row}
use Rattle.sp_typed.specs.StmtNodes.{stmts_in, stmts_in_all, stmts_in_branches, stmts_in_cases, nodes_hold, stmts_hold, branches_hold, cases_hold}
use Rattle.sp_type_context.specs.Contexts.{Around}
use Rattle.sp_type_operands.specs.Literals.{seen, taken}
use Rattle.sp_type_context.specs.Typing.{typed}
use Rattle.sp_type_stmts.specs.declared.body.Body.{Body}
use Rattle.sp_type_stmts.specs.Scopes.{Scope, with_slot, closed}
use Rattle.sp_type_stmts.specs.Visible.{with_locals}
use Rattle.sp_type_stmts.specs.Values.{value_in, values_in}
use Rattle.sp_type_stmts.specs.Statements.{after_local, loop_head, element_type, cases_of, typed_stmt, typed_stmts, typed_branches, typed_branch, typed_cases, typed_case, typed_body}
use Rattle.sp_rule_bodies.specs.Known.{Known}
use Rattle.sp_rule_bodies.specs.StmtTests.{is_sequence}
use Rattle.sp_law_lists.specs.known_types.Full.{is_full}
use Rattle.sp_law_lists.specs.known_types.Clear.{is_clear}
use Rattle.sp_law_lists.specs.known_types.Trees.{is_expr, are_exprs}
use Rattle.sp_law_lists.specs.known_types.Given.{IsKnown}
use Rattle.sp_law_lists.proofs.known_types_lemmas.Full.{never}
use Rattle.sp_law_lists.proofs.known_types_lemmas.Tests.{Holds, value_of, full_of, seen_is, right_when}
use Rattle.sp_law_lists.proofs.known_types_lemmas.Typed.{typed_holds}
use Rattle.sp_law_lists.proofs.known_types_lemmas.Bodies.{Quiet, two_quiet, at_first, behind}
use Rattle.sp_law_lists.specs.known_bodies.Slots.{IsBlind}
use Rattle.sp_law_lists.specs.known_bodies.Decided.{locals_full, DecidesUnder}
use Rattle.sp_law_lists.specs.known_bodies.Trees.{is_stmt, are_stmts, are_branches, are_cases, is_body}
use Rattle.sp_law_lists.proofs.known_bodies_lemmas.Kept.{kept_holds}
use Rattle.sp_law_lists.proofs.known_bodies_lemmas.Contexts.{Full, locals_known, kept_full}
use Rattle.sp_law_lists.proofs.known_bodies_lemmas.Stmts.{element_full, stmt_known}
use Rattle.sp_law_lists.specs.known_statements.Declared.{locals_full_in, locals_full_among, branch_locals_full, case_locals_full}

module _ (only : OneOp → Bool) (k : Known) (m : ℕ) (is_type is_path : Tree → Bool) (blind : IsBlind k) (b : Body) (wanted : Option Ty) (g : Around) (known : IsKnown g only k m is_type is_path) (decides : DecidesUnder g only k m is_type is_path) where
  abbrev clear : Expr → Bool
  clear = is_clear only k m

  abbrev Still : List Stmt → Type 0
  Still ss = Quiet k wanted m ss

  -- behind expressions
  value_holds : (sc : Scope) (t : Tree) → Full sc → is_expr is_type is_path t ≡ true → Holds only k m (value_in g sc t).0
  value_holds sc t f is =
      let inner = with_locals sc.locals g in
      kept_holds only k m blind sc (typed inner t) (typed_holds inner only k m is_type is_path (locals_known g only k m is_type is_path known decides sc.locals f) t is)

  value_full : (sc : Scope) (t : Tree) → Full sc → Full (value_in g sc t).1
  value_full sc t f = kept_full sc (typed (with_locals sc.locals g) t) f

  values_full : (sc : Scope) (ts : Trees) → Full sc → Full (values_in g sc ts).1
  values_full sc none f = f
  values_full sc (more t ts) f = values_full (value_in g sc t).1 ts (value_full sc t f)

  -- a local, by what is known behind it
  local_full : (in_loop : Bool) (sc : Scope) (t : Tree) → is_stmt is_type is_path t ≡ true → Full sc → nodes_hold clear (typed_stmt b g in_loop sc t).0 ≡ true → Still (stmts_in (typed_stmt b g in_loop sc t).0) → Full (typed_stmt b g in_loop sc t).1
  local_full in_loop sc t is f c q = (stmt_known only k m is_type is_path blind b wanted g known decides in_loop sc t is f c q).1

  mutual
    pub stmt_declares : (in_loop : Bool) (sc : Scope) (t : Tree) → is_stmt is_type is_path t ≡ true → Full sc → nodes_hold clear (typed_stmt b g in_loop sc t).0 ≡ true → Still (stmts_in (typed_stmt b g in_loop sc t).0) → locals_full_in (typed_stmt b g in_loop sc t).0 ≡ true
    stmt_declares in_loop sc (node (form_is.Stmt stmt_is.Block) span (more (node form_is.Block at ts) none)) is f c q =
        let ss = stmts (typed_stmts b g in_loop sc ts).0 in
        stmts_declare in_loop sc ts is f c (behind k wanted m (block ss) (stmts_in_all ss) q)
    stmt_declares in_loop sc (node (form_is.Stmt stmt_is.Local) span (more name (more t (more absent none)))) is f c q =
        let whole = node (form_is.Stmt stmt_is.Local) span (more name (more t (more absent none))) in
        (and_parts _ (locals_full sc.locals) (local_full in_loop sc whole is f c q)).0
    stmt_declares in_loop sc (node (form_is.Stmt stmt_is.Local) span (more name (more t (more (row es) none)))) is f c q =
        let e = row es in
        let whole = node (form_is.Stmt stmt_is.Local) span (more name (more t (more e none))) in
        let x = value_in g sc e in
        (and_parts _ (locals_full x.1.locals) (local_full in_loop sc whole is f c q)).0
    stmt_declares in_loop sc (node (form_is.Stmt stmt_is.Local) span (more name (more t (more (node form at es) none)))) is f c q =
        let e = node form at es in
        let whole = node (form_is.Stmt stmt_is.Local) span (more name (more t (more e none))) in
        let x = value_in g sc e in
        (and_parts _ (locals_full x.1.locals) (local_full in_loop sc whole is f c q)).0
    stmt_declares in_loop sc (node (form_is.Stmt stmt_is.If) span (more (row bs) (more other none))) is f c q =
        let p = and_parts (are_branches is_type is_path bs) (is_stmt is_type is_path other) is in
        let r = typed_branches b g in_loop sc bs in
        let s = typed_stmt b g in_loop r.1 other in
        let d = and_parts (branches_hold clear (branch_row r.0)) (nodes_hold clear s.0) c in
        let i = two_quiet k wanted m (stmts_in_branches (branch_row r.0)) (stmts_in s.0) (behind k wanted m (branch (branch_row r.0) s.0) (stmts_in_branches (branch_row r.0) ++ stmts_in s.0) q) in
        and_from (branch_locals_full (branch_row r.0)) (locals_full_in s.0) (branches_declare in_loop sc bs p.0 f d.0 i.0) (stmt_declares in_loop r.1 other p.1 (branches_full in_loop sc bs f) d.1 i.1)
    stmt_declares in_loop sc (node (form_is.Stmt stmt_is.While) span (more e (more inner none))) is f c q =
        let p = and_parts (is_expr is_type is_path e) (is_stmt is_type is_path inner) is in
        let x = value_in g sc e in
        let s = typed_stmt b g true x.1 inner in
        let d = and_parts (holds clear x.0) (nodes_hold clear s.0) c in
        stmt_declares true x.1 inner p.1 (value_full sc e f) d.1 (behind k wanted m (while_loop x.0 s.0) (stmts_in s.0) q)
    stmt_declares in_loop sc (node (form_is.Stmt stmt_is.For) span (more name (more e (more inner none)))) is f c q =
        let p = and_parts (is_expr is_type is_path e) (is_stmt is_type is_path inner) is in
        let x = value_in g sc e in
        let t = element_type (seen x.0) in
        let s = typed_stmt b g true (after_local x.1 name t) inner in
        let loop = for_loop (loop_head x.1 name t) x.0 s.0 in
        let d = and_parts (holds clear x.0) (nodes_hold clear s.0) c in
        let h = value_holds sc e f p.0 in
        let tests = at_first k wanted m loop (stmts_in s.0) q in
        let v = value_of only k m x.0 h d.0 tests.0 tests.1.0 in
        let sequence = right_when x.0 (is_sequence (type_of x.0)) v tests.1.1.0 in
        let element = ap (λ (u : Ty). is_full (element_type u)) (seen_is x.0 v.within) ∙ element_full (type_of x.0) sequence (full_of x.0 v) in
        stmt_declares true (after_local x.1 name t) inner p.1 (and_from (is_full t) (locals_full x.1.locals) element (value_full sc e f)) d.1 (behind k wanted m loop (stmts_in s.0) q)
    stmt_declares in_loop sc (node (form_is.Stmt stmt_is.Switch) span (more e (more (row cs) (more other none)))) is f c q =
        let p = and_parts (is_expr is_type is_path e) (are_cases is_type is_path cs && is_stmt is_type is_path other) is in
        let o = and_parts (are_cases is_type is_path cs) (is_stmt is_type is_path other) p.1 in
        let x = value_in g sc e in
        let inside = with_slot x.1 (seen x.0) in
        let r = typed_cases b g in_loop (seen x.0) inside cs in
        let s = typed_stmt b g in_loop r.1 other in
        let d = and_parts (holds clear x.0) (cases_hold clear (cases_of r.0) && nodes_hold clear s.0) c in
        let i = and_parts (cases_hold clear (cases_of r.0)) (nodes_hold clear s.0) d.1 in
        let n = two_quiet k wanted m (stmts_in_cases (cases_of r.0)) (stmts_in s.0) (behind k wanted m (switch (length x.1.slots) x.0 (cases_of r.0) s.0) (stmts_in_cases (cases_of r.0) ++ stmts_in s.0) q) in
        and_from (case_locals_full (cases_of r.0)) (locals_full_in s.0) (cases_declare in_loop (seen x.0) inside cs o.0 (value_full sc e f) i.0 n.0) (stmt_declares in_loop r.1 other o.1 (cases_full in_loop (seen x.0) inside cs (value_full sc e f)) i.1 n.1)
    stmt_declares in_loop sc (node (form_is.Stmt stmt_is.Return) span (more absent none)) is f c q = refl
    stmt_declares in_loop sc (node (form_is.Stmt stmt_is.Return) span (more (row es) none)) is f c q = refl
    stmt_declares in_loop sc (node (form_is.Stmt stmt_is.Return) span (more (node form at es) none)) is f c q = refl
    stmt_declares in_loop sc (node (form_is.Stmt stmt_is.Break) span none) is f c q = refl
    stmt_declares in_loop sc (node (form_is.Stmt stmt_is.Continue) span none) is f c q = refl
    stmt_declares in_loop sc (node (form_is.Stmt stmt_is.Stop) span none) is f c q = refl
    stmt_declares in_loop sc (node (form_is.Stmt stmt_is.Confirm) span none) is f c q = refl
    stmt_declares in_loop sc (node (form_is.Stmt stmt_is.Reject) span none) is f c q = refl
    stmt_declares in_loop sc (node (form_is.Stmt stmt_is.Print) span ts) is f c q = refl
    stmt_declares in_loop sc (node (form_is.Stmt stmt_is.Throw) span (more e none)) is f c q = refl
    stmt_declares in_loop sc (node (form_is.Stmt stmt_is.Assert) span (more e (more text none))) is f c q = refl
    stmt_declares in_loop sc (node (form_is.Stmt stmt_is.Add) span (more e none)) is f c q = refl
    stmt_declares in_loop sc (node (form_is.Stmt stmt_is.Delete) span (more e none)) is f c q = refl
    stmt_declares in_loop sc (node (form_is.Stmt stmt_is.Expr) span (more e none)) is f c q = refl
    stmt_declares in_loop sc (node (form_is.Stmt (stmt_is.Assign op)) span (more t (more e none))) is f c q = refl
    stmt_declares in_loop sc _ is f c q = refl

    stmts_declare : (in_loop : Bool) (sc : Scope) (ts : Trees) → are_stmts is_type is_path ts ≡ true → Full sc → stmts_hold clear (stmts (typed_stmts b g in_loop sc ts).0) ≡ true → Still (stmts_in_all (stmts (typed_stmts b g in_loop sc ts).0)) → locals_full_among (stmts (typed_stmts b g in_loop sc ts).0) ≡ true
    stmts_declare in_loop sc none is f c q = refl
    stmts_declare in_loop sc (more t ts) is f c q =
        let p = and_parts (is_stmt is_type is_path t) (are_stmts is_type is_path ts) is in
        let s = typed_stmt b g in_loop sc t in
        let ss = typed_stmts b g in_loop s.1 ts in
        let d = and_parts (nodes_hold clear s.0) (stmts_hold clear (stmts ss.0)) c in
        let n = two_quiet k wanted m (stmts_in s.0) (stmts_in_all (stmts ss.0)) q in
        and_from (locals_full_in s.0) (locals_full_among (stmts ss.0)) (stmt_declares in_loop sc t p.0 f d.0 n.0) (stmts_declare in_loop s.1 ts p.1 (local_full in_loop sc t p.0 f d.0 n.0) d.1 n.1)

    branches_declare : (in_loop : Bool) (sc : Scope) (ts : Trees) → are_branches is_type is_path ts ≡ true → Full sc → branches_hold clear (branch_row (typed_branches b g in_loop sc ts).0) ≡ true → Still (stmts_in_branches (branch_row (typed_branches b g in_loop sc ts).0)) → branch_locals_full (branch_row (typed_branches b g in_loop sc ts).0) ≡ true
    branches_declare in_loop sc none is f c q = refl
    branches_declare in_loop sc (more (node form_is.Branch span (more e (more inner none))) ts) is f c q =
        let p = and_parts (is_expr is_type is_path e) (is_stmt is_type is_path inner && are_branches is_type is_path ts) is in
        let o = and_parts (is_stmt is_type is_path inner) (are_branches is_type is_path ts) p.1 in
        let x = value_in g sc e in
        let s = typed_stmt b g in_loop x.1 inner in
        let rest = branch_row (typed_branches b g in_loop (closed sc s.1) ts).0 in
        let d = and_parts (holds clear x.0) (nodes_hold clear s.0 && branches_hold clear rest) c in
        let i = and_parts (nodes_hold clear s.0) (branches_hold clear rest) d.1 in
        let n = two_quiet k wanted m (stmts_in s.0) (stmts_in_branches rest) q in
        and_from (locals_full_in s.0) (branch_locals_full rest) (stmt_declares in_loop x.1 inner o.0 (value_full sc e f) i.0 n.0) (branches_declare in_loop (closed sc s.1) ts o.1 f i.1 n.1)
    branches_declare in_loop sc _ is f c q = never is

    branches_full : (in_loop : Bool) (sc : Scope) (ts : Trees) → Full sc → Full (typed_branches b g in_loop sc ts).1
    branches_full in_loop sc none f = f
    branches_full in_loop sc (more t ts) f = branches_full in_loop (typed_branch b g in_loop sc t).1 ts (branch_full in_loop sc t f)

    branch_full : (in_loop : Bool) (sc : Scope) (t : Tree) → Full sc → Full (typed_branch b g in_loop sc t).1
    branch_full in_loop sc (node form_is.Branch span (more e (more inner none))) f = f
    branch_full in_loop sc _ f = f

    cases_declare : (in_loop : Bool) (t : Ty) (sc : Scope) (ts : Trees) → are_cases is_type is_path ts ≡ true → Full sc → cases_hold clear (cases_of (typed_cases b g in_loop t sc ts).0) ≡ true → Still (stmts_in_cases (cases_of (typed_cases b g in_loop t sc ts).0)) → case_locals_full (cases_of (typed_cases b g in_loop t sc ts).0) ≡ true
    cases_declare in_loop t sc none is f c q = refl
    cases_declare in_loop t sc (more (node form_is.Case span (more (row es) (more inner none))) ts) is f c q =
        let p = and_parts (are_exprs is_type is_path es) (is_stmt is_type is_path inner && are_cases is_type is_path ts) is in
        let o = and_parts (is_stmt is_type is_path inner) (are_cases is_type is_path ts) p.1 in
        let xs = values_in g sc es in
        let s = typed_stmt b g in_loop xs.1 inner in
        let rest = cases_of (typed_cases b g in_loop t (closed sc s.1) ts).0 in
        let d = and_parts (all_hold clear (exprs (map (taken t) xs.0))) (nodes_hold clear s.0 && cases_hold clear rest) c in
        let i = and_parts (nodes_hold clear s.0) (cases_hold clear rest) d.1 in
        let n = two_quiet k wanted m (stmts_in s.0) (stmts_in_cases rest) q in
        and_from (locals_full_in s.0) (case_locals_full rest) (stmt_declares in_loop xs.1 inner o.0 (values_full sc es f) i.0 n.0) (cases_declare in_loop t (closed sc s.1) ts o.1 f i.1 n.1)
    cases_declare in_loop t sc _ is f c q = never is

    cases_full : (in_loop : Bool) (t : Ty) (sc : Scope) (ts : Trees) → Full sc → Full (typed_cases b g in_loop t sc ts).1
    cases_full in_loop t sc none f = f
    cases_full in_loop t sc (more c cs) f = cases_full in_loop t (typed_case b g in_loop t sc c).1 cs (case_full in_loop t sc c f)

    case_full : (in_loop : Bool) (t : Ty) (sc : Scope) (c : Tree) → Full sc → Full (typed_case b g in_loop t sc c).1
    case_full in_loop t sc (node form_is.Case span (more (row es) (more inner none))) f = f
    case_full in_loop t sc _ f = f

  -- a body
  pub body_declares : (slots : List Ty) (t : Tree) → is_body is_type is_path t ≡ true → nodes_hold clear (typed_body b g slots t).0 ≡ true → Still (stmts_in (typed_body b g slots t).0) → locals_full_in (typed_body b g slots t).0 ≡ true
  body_declares slots (node form_is.Block span ts) is c q =
      let sc : Scope = record { locals = []; slots = slots } in
      let ss = stmts (typed_stmts b g false sc ts).0 in
      stmts_declare false sc ts is refl c (behind k wanted m (block ss) (stmts_in_all ss) q)
  body_declares slots _ is c q = refl
