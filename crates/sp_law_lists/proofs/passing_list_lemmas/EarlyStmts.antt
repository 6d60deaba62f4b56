-- The statements of a body in which all is built have no late nodes.
use Rattle.std.specs.Prelude.{ℕ, Bool, true, false, not, ◌&&◌, List, [], None}
use Rattle.std.proofs.Common.{◌≡◌, refl, sym, ap, ◌∙◌}
use Rattle.std.proofs.lemmas.Bool.{and_from}
use Rattle.sp_base.specs.declared.places.Span.{Span}
use Rattle.sp_ast.specs.Trees.{Tree, Trees, absent, row, node, none, more}
use Rattle.sp_ast.specs.declared.forms.Form.TheVariants as form_is
use Rattle.sp_ast.specs.declared.forms.StmtForm.TheVariants as stmt_is
use Rattle.sp_types.specs.Types.{Ty}
use Rattle.sp_typed.specs.declared.words.OneOp.{OneOp}
use Rattle.sp_typed.specs.declared.words.OneOp.TheVariants as one_is
use Rattle.sp_typed.specs.declared.words.ManyOp.{ManyOp}
use Rattle.sp_typed.specs.declared.words.ManyOp.TheVariants as many_is
use Rattle.sp_typed.specs.Exprs.{Expr, leaf, one, two, three, many, exprs}
use Rattle.sp_typed.specs.Nodes.{holds, all_hold}
use Rattle.sp_typed.specs.Stmts.{stmts, branch_row}
use Rattle.sp_type_operands.specs.Literals.{seen}
use Rattle.sp_type_context.specs.declared.places.Place.TheVariants as place_is
use Rattle.sp_type_context.specs.Contexts.{Around}
use Rattle.sp_type_context.specs.Typing.{typed, to_target}
use Rattle.sp_type_stmts.specs.declared.body.Body.{Body}
use Rattle.sp_type_stmts.specs.Scopes.{Scope, with_slot}
use Rattle.sp_type_stmts.specs.Visible.{with_locals}
use Rattle.sp_type_stmts.specs.Owners.{with_slot_of, kept}
use Rattle.sp_type_stmts.specs.Values.{value_in, values_in}
use Rattle.sp_type_stmts.specs.Statements.{after_local, written_type, local_in, element_type, return_in, cases_of, typed_stmt, typed_stmts, typed_branches, typed_branch, typed_cases, typed_case, typed_body}
use Rattle.sp_rule_bodies.specs.Values.{is_new}
use Rattle.sp_law_lists.proofs.known_types_lemmas.Full.{never}
use Rattle.sp_law_lists.specs.known_bodies.Slots.{plain}
use Rattle.sp_law_lists.proofs.known_bodies_lemmas.Slots.{kept_plain, type_plain}
use Rattle.sp_law_lists.proofs.known_bodies_lemmas.Kept.{holds_plain}
use Rattle.sp_law_lists.proofs.passing_list_lemmas.Early.{early_one, early_many, is_early, stmt_early, stmts_early, branches_early, cases_early, AreEarly}
use Rattle.sp_law_lists.proofs.passing_list_lemmas.EarlyExprs.{Early, AllEarly, target_early, maybe_early, more_early, all_taken_early, Fine, AllFine, inside, first, rest, second, third, typed_early}
use Rattle.sp_law_lists.proofs.passing_list_lemmas.EarlyNames.{locals_early}

-- what is kept in slots is as early as it was
one_plain : (op : OneOp) (a : Expr) → early_one op (plain a) ≡ early_one op a
one_plain one_is.Widen a = ap (λ t. not (is_new t)) (type_plain a)
one_plain (one_is.SinkOf n) a = refl
one_plain _ a = refl

many_plain : (op : ManyOp) (t : Ty) → early_many (with_slot_of op None) t ≡ early_many op t
many_plain (many_is.Method m slot) t = refl
many_plain _ t = refl

early_plain : (e : Expr) → is_early (plain e) ≡ is_early e
early_plain (leaf h) = refl
early_plain (one h a) = one_plain h.op a
early_plain (two h a b) = refl
early_plain (three h a b c) = refl
early_plain (many h es) = many_plain h.op h.ty

kept_early : (sc : Scope) (e : Expr) → Early e → Early (kept sc e).0
kept_early sc e h = sym (holds_plain is_early early_plain (kept sc e).0) ∙ ap (holds is_early) (kept_plain sc e) ∙ holds_plain is_early early_plain e ∙ h

module _ (g : Around) (known : AreEarly g) (text : List ℕ) (m : ℕ) where
  value_early : (sc : Scope) (t : Tree) → Fine text m t → Early (value_in g sc t).0
  value_early sc t h = kept_early sc (typed (with_locals sc.locals g) t) (typed_early (with_locals sc.locals g) (locals_early g sc.locals known) text m t h)

  values_early : (sc : Scope) (ts : Trees) → AllFine text m ts → AllEarly (values_in g sc ts).0
  values_early sc none h = refl
  values_early sc (more t ts) h =
      let x = value_in g sc t in
      more_early x.0 (values_in g x.1 ts).0 (value_early sc t (first text m t ts h)) (values_early x.1 ts (rest text m t ts h))

  local_early : (sc : Scope) (span : Span) (name t e : Tree) → Fine text m e → stmt_early (local_in g sc span name t e).0 ≡ true
  local_early sc span name t absent h = refl
  local_early sc span name t (row es) h = maybe_early (written_type g place_is.Local t) (value_in g sc (row es)).0 (value_early sc (row es) h)
  local_early sc span name t (node form at es) h = maybe_early (written_type g place_is.Local t) (value_in g sc (node form at es)).0 (value_early sc (node form at es) h)

  module _ (b : Body) where
    return_early : (sc : Scope) (span : Span) (e : Tree) → Fine text m e → stmt_early (return_in b g sc span e).0 ≡ true
    return_early sc span absent h = refl
    return_early sc span (row es) h = maybe_early b.result (value_in g sc (row es)).0 (value_early sc (row es) h)
    return_early sc span (node form at es) h = maybe_early b.result (value_in g sc (node form at es)).0 (value_early sc (node form at es) h)

    mutual
      stmt_is_early : (in_loop : Bool) (sc : Scope) (t : Tree) → Fine text m t → stmt_early (typed_stmt b g in_loop sc t).0 ≡ true
      stmt_is_early in_loop sc (node (form_is.Stmt stmt_is.Block) span (more (node form_is.Block at ts) none)) h =
          stmts_are_early in_loop sc ts (inside text m form_is.Block at ts (first text m (node form_is.Block at ts) none (inside text m (form_is.Stmt stmt_is.Block) span (more (node form_is.Block at ts) none) h)))
      stmt_is_early in_loop sc (node (form_is.Stmt stmt_is.Local) span (more name (more t (more e none)))) h =
          local_early sc span name t e (third text m name t e none (inside text m (form_is.Stmt stmt_is.Local) span (more name (more t (more e none))) h))
      stmt_is_early in_loop sc (node (form_is.Stmt stmt_is.If) span (more (row bs) (more other none))) h =
          let q = inside text m (form_is.Stmt stmt_is.If) span (more (row bs) (more other none)) h in
          let r = typed_branches b g in_loop sc bs in
          and_from (branches_early (branch_row r.0)) (stmt_early (typed_stmt b g in_loop r.1 other).0) (branches_are_early in_loop sc bs (first text m (row bs) (more other none) q)) (stmt_is_early in_loop r.1 other (second text m (row bs) other none q))
      stmt_is_early in_loop sc (node (form_is.Stmt stmt_is.While) span (more c (more body none))) h =
          let q = inside text m (form_is.Stmt stmt_is.While) span (more c (more body none)) h in
          let x = value_in g sc c in
          and_from (holds is_early x.0) (stmt_early (typed_stmt b g true x.1 body).0) (value_early sc c (first text m c (more body none) q)) (stmt_is_early true x.1 body (second text m c body none q))
      stmt_is_early in_loop sc (node (form_is.Stmt stmt_is.For) span (more name (more e (more body none)))) h =
          let q = inside text m (form_is.Stmt stmt_is.For) span (more name (more e (more body none))) h in
          let x = value_in g sc e in
          let y = after_local x.1 name (element_type (seen x.0)) in
          and_from (holds is_early x.0) (stmt_early (typed_stmt b g true y body).0) (value_early sc e (second text m name e (more body none) q)) (stmt_is_early true y body (third text m name e body none q))
      stmt_is_early in_loop sc (node (form_is.Stmt stmt_is.Switch) span (more e (more (row cs) (more other none)))) h =
          let q = inside text m (form_is.Stmt stmt_is.Switch) span (more e (more (row cs) (more other none))) h in
          let x = value_in g sc e in
          let r = typed_cases b g in_loop (seen x.0) (with_slot x.1 (seen x.0)) cs in
          let s = typed_stmt b g in_loop r.1 other in
          and_from (holds is_early x.0) (cases_early (cases_of r.0) && stmt_early s.0) (value_early sc e (first text m e (more (row cs) (more other none)) q))
          (and_from (cases_early (cases_of r.0)) (stmt_early s.0) (cases_are_early in_loop (seen x.0) (with_slot x.1 (seen x.0)) cs (second text m e (row cs) (more other none) q)) (stmt_is_early in_loop r.1 other (third text m e (row cs) other none q)))
      stmt_is_early in_loop sc (node (form_is.Stmt stmt_is.Return) span (more e none)) h = return_early sc span e (first text m e none (inside text m (form_is.Stmt stmt_is.Return) span (more e none) h))
      stmt_is_early in_loop sc (node (form_is.Stmt stmt_is.Break) span none) h = refl
      stmt_is_early in_loop sc (node (form_is.Stmt stmt_is.Continue) span none) h = refl
      stmt_is_early in_loop sc (node (form_is.Stmt stmt_is.Stop) span ts) h = never h
      stmt_is_early in_loop sc (node (form_is.Stmt stmt_is.Confirm) span ts) h = never h
      stmt_is_early in_loop sc (node (form_is.Stmt stmt_is.Reject) span ts) h = never h
      stmt_is_early in_loop sc (node (form_is.Stmt stmt_is.Print) span ts) h = values_early sc ts (inside text m (form_is.Stmt stmt_is.Print) span ts h)
      stmt_is_early in_loop sc (node (form_is.Stmt stmt_is.Throw) span (more e none)) h = value_early sc e (first text m e none (inside text m (form_is.Stmt stmt_is.Throw) span (more e none) h))
      stmt_is_early in_loop sc (node (form_is.Stmt stmt_is.Assert) span (more e (more x none))) h = value_early sc e (first text m e (more x none) (inside text m (form_is.Stmt stmt_is.Assert) span (more e (more x none)) h))
      stmt_is_early in_loop sc (node (form_is.Stmt stmt_is.Add) span (more e none)) h = value_early sc e (first text m e none (inside text m (form_is.Stmt stmt_is.Add) span (more e none) h))
      stmt_is_early in_loop sc (node (form_is.Stmt stmt_is.Delete) span (more e none)) h = value_early sc e (first text m e none (inside text m (form_is.Stmt stmt_is.Delete) span (more e none) h))
      stmt_is_early in_loop sc (node (form_is.Stmt stmt_is.Expr) span (more e none)) h = value_early sc e (first text m e none (inside text m (form_is.Stmt stmt_is.Expr) span (more e none) h))
      stmt_is_early in_loop sc (node (form_is.Stmt (stmt_is.Assign op)) span (more t (more e none))) h =
          let q = inside text m (form_is.Stmt (stmt_is.Assign op)) span (more t (more e none)) h in
          let x = value_in g sc t in
          let y = value_in g x.1 e in
          and_from (holds is_early x.0) (holds is_early (to_target (seen x.0) y.0)) (value_early sc t (first text m t (more e none) q)) (target_early (seen x.0) y.0 (value_early x.1 e (second text m t e none q)))
      stmt_is_early in_loop sc _ h = refl

      stmts_are_early : (in_loop : Bool) (sc : Scope) (ts : Trees) → AllFine text m ts → stmts_early (stmts (typed_stmts b g in_loop sc ts).0) ≡ true
      stmts_are_early in_loop sc none h = refl
      stmts_are_early in_loop sc (more t ts) h =
          let s = typed_stmt b g in_loop sc t in
          and_from (stmt_early s.0) (stmts_early (stmts (typed_stmts b g in_loop s.1 ts).0)) (stmt_is_early in_loop sc t (first text m t ts h)) (stmts_are_early in_loop s.1 ts (rest text m t ts h))

      branches_are_early : (in_loop : Bool) (sc : Scope) (ts : Trees) → AllFine text m ts → branches_early (branch_row (typed_branches b g in_loop sc ts).0) ≡ true
      branches_are_early in_loop sc none h = refl
      branches_are_early in_loop sc (more t ts) h =
          let x = typed_branch b g in_loop sc t in
          let own = branch_is_early in_loop sc t (first text m t ts h) in
          and_from (holds is_early x.0.0) (stmt_early x.0.1 && branches_early (branch_row (typed_branches b g in_loop x.1 ts).0)) own.0
          (and_from (stmt_early x.0.1) (branches_early (branch_row (typed_branches b g in_loop x.1 ts).0)) own.1 (branches_are_early in_loop x.1 ts (rest text m t ts h)))

      branch_is_early : (in_loop : Bool) (sc : Scope) (t : Tree) → Fine text m t → Early (typed_branch b g in_loop sc t).0.0 × (stmt_early (typed_branch b g in_loop sc t).0.1 ≡ true)
      branch_is_early in_loop sc (node form_is.Branch span (more c (more body none))) h =
          let q = inside text m form_is.Branch span (more c (more body none)) h in
          (value_early sc c (first text m c (more body none) q), stmt_is_early in_loop (value_in g sc c).1 body (second text m c body none q))
      branch_is_early in_loop sc _ h = (refl, refl)

      cases_are_early : (in_loop : Bool) (t : Ty) (sc : Scope) (ts : Trees) → AllFine text m ts → cases_early (cases_of (typed_cases b g in_loop t sc ts).0) ≡ true
      cases_are_early in_loop t sc none h = refl
      cases_are_early in_loop t sc (more c cs) h =
          let x = typed_case b g in_loop t sc c in
          let own = case_is_early in_loop t sc c (first text m c cs h) in
          and_from (all_hold is_early (exprs x.0.0)) (stmt_early x.0.1 && cases_early (cases_of (typed_cases b g in_loop t x.1 cs).0)) own.0
          (and_from (stmt_early x.0.1) (cases_early (cases_of (typed_cases b g in_loop t x.1 cs).0)) own.1 (cases_are_early in_loop t x.1 cs (rest text m c cs h)))

      case_is_early : (in_loop : Bool) (t : Ty) (sc : Scope) (c : Tree) → Fine text m c → AllEarly (typed_case b g in_loop t sc c).0.0 × (stmt_early (typed_case b g in_loop t sc c).0.1 ≡ true)
      case_is_early in_loop t sc (node form_is.Case span (more (row es) (more body none))) h =
          let q = inside text m form_is.Case span (more (row es) (more body none)) h in
          let xs = values_in g sc es in
          (all_taken_early t xs.0 (values_early sc es (first text m (row es) (more body none) q)), stmt_is_early in_loop xs.1 body (second text m (row es) body none q))
      case_is_early in_loop t sc _ h = (refl, refl)

    -- A body.
    pub body_early : (slots : List Ty) (t : Tree) → Fine text m t → stmt_early (typed_body b g slots t).0 ≡ true
    body_early slots (node form_is.Block span ts) h = stmts_are_early false (record { locals = []; slots = slots }) ts (inside text m form_is.Block span ts h)
    body_early slots _ h = refl
