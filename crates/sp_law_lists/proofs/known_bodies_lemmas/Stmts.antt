-- Typed statements: where no rule is broken, each expression in one is good, and each local that it opens has a full type.
use Rattle.std.specs.Prelude.{ℕ, Bool, true, false, ◌&&◌, ◌||◌, List, [], ◌∷◌, ◌++◌, map, length, Option, Some, None, is_none}
use Rattle.std.proofs.Common.{◌≡◌, inl, inr, refl, sym, ap, ◌∙◌}
use Rattle.std.proofs.lemmas.Bool.{and_parts, and_from}
use Rattle.sp_base.specs.declared.places.Span.{Span}
use Rattle.sp_ast.specs.Trees.{Tree, Trees, absent, row, node, none, more}
use Rattle.sp_ast.specs.declared.forms.Form.TheVariants as form_is
use Rattle.sp_ast.specs.declared.forms.StmtForm.TheVariants as stmt_is
use Rattle.sp_types.specs.declared.words.Word.TheVariants as word_is
use Rattle.sp_types.specs.declared.words.Maker.TheVariants as maker_is
use Rattle.sp_types.specs.Types.{Ty, word, made}
use Rattle.sp_typed.specs.declared.words.OneOp.{OneOp}
use Rattle.sp_typed.specs.declared.words.Written.{Written}
use Rattle.sp_typed.specs.declared.stmt_words.ValuedOp.TheVariants as valued_is
use Rattle.sp_typed.specs.Exprs.{Expr, exprs, type_of}
use Rattle.sp_typed.specs.Nodes.{holds, all_hold}
use Rattle.sp_typed.specs.Stmts.{Stmt, block, branch, while_loop, for_loop, switch, stmts, branch_row}
use Rattle.sp_typed.specs.StmtNodes.{stmts_in, stmts_in_all, stmts_in_branches, stmts_in_cases, nodes_hold, stmts_hold, branches_hold, cases_hold}
use Rattle.sp_type_context.specs.declared.places.Place.TheVariants as place_is
use Rattle.sp_type_context.specs.Contexts.{Around}
use Rattle.sp_type_operands.specs.Literals.{seen, taken}
use Rattle.sp_type_context.specs.Typing.{typed, to_target, to_maybe}
use Rattle.sp_type_stmts.specs.declared.body.Body.{Body}
use Rattle.sp_type_stmts.specs.Scopes.{Scope, with_slot, closed}
use Rattle.sp_type_stmts.specs.Visible.{with_locals}
use Rattle.sp_type_stmts.specs.Owners.{owner}
use Rattle.sp_type_stmts.specs.Values.{value_in, values_in}
use Rattle.sp_type_stmts.specs.Statements.{valued_at, after_local, declared, loop_head, local_with, local_without, element_type, cases_of, typed_stmt, typed_stmts, typed_branches, typed_cases, typed_body}
use Rattle.sp_rule_bodies.specs.Known.{Known}
use Rattle.sp_rule_bodies.specs.Values.{written_tests}
use Rattle.sp_rule_bodies.specs.StmtTests.{is_sequence}
use Rattle.sp_law_lists.specs.known_types.Full.{is_full, is_right, is_bare, holds_inside}
use Rattle.sp_law_lists.specs.known_types.Clear.{is_clear}
use Rattle.sp_law_lists.specs.known_types.Trees.{is_expr, are_exprs}
use Rattle.sp_law_lists.specs.known_types.Given.{IsKnown}
use Rattle.sp_law_lists.specs.known_types.Stmts.{is_good, each_holds, exprs_hold, all_exprs_hold, branch_exprs_hold, case_exprs_hold}
use Rattle.sp_law_lists.proofs.known_types_lemmas.Full.{never, vector_first, set_first, entry_full}
use Rattle.sp_law_lists.proofs.known_types_lemmas.Tests.{Good, Holds, fine_parts, not_misplaced, value_of, full_of, seen_is, seen_full, right_when}
use Rattle.sp_law_lists.proofs.known_types_lemmas.Kept.{HoldsAll, taken_holds, target_holds, maybe_holds}
use Rattle.sp_law_lists.proofs.known_types_lemmas.Typed.{typed_holds}
use Rattle.sp_law_lists.proofs.known_types_lemmas.Bodies.{Quiet, two_quiet, at_first, behind}
use Rattle.sp_law_lists.specs.known_bodies.Slots.{IsBlind}
use Rattle.sp_law_lists.specs.known_bodies.Decided.{locals_full, DecidesUnder}
use Rattle.sp_law_lists.specs.known_bodies.Trees.{is_stmt, are_stmts, are_branches, are_cases, is_body}
use Rattle.sp_law_lists.proofs.known_bodies_lemmas.Kept.{kept_holds}
use Rattle.sp_law_lists.proofs.known_bodies_lemmas.Contexts.{Full, locals_known, kept_full, owner_full}

-- what a `for` goes over has elements of a full type
pub element_full : (t : Ty) → is_sequence t ≡ true → is_full t ≡ true → is_full (element_type t) ≡ true
element_full (word word_is.Bytes) s f = refl
element_full (made maker_is.Vector ts) s f = vector_first ts f
element_full (made maker_is.Set ts) s f = set_first ts f
element_full (made maker_is.Map ts) s f = entry_full ts f
element_full _ s f = never s

-- the type that is written for a local, with what is said of it, is full unless it is misplaced
abbrev WrittenFull : Option Ty → Option Written → Type 0
WrittenFull None None = Unit {0}
WrittenFull (Some t) (Some w) = is_none w.misplaced ≡ true → is_full t ≡ true
WrittenFull _ _ = ⊥

good_is : (e : Expr) → Good e → is_good e ≡ true
good_is e g = and_from (holds_inside is_right e) (is_right e || is_bare e) g.0 (elim g.1 [
  | inl r ↦ ap (λ b. b || is_bare e) r
  | inr b ↦ ap (λ x. is_right e || x) b ∙ or_true (is_right e)
])
  where
    or_true : (b : Bool) → (b || true) ≡ true
    or_true true = refl
    or_true false = refl

module _ (only : OneOp → Bool) (k : Known) (m : ℕ) (is_type is_path : Tree → Bool) (blind : IsBlind k) (b : Body) (wanted : Option Ty) (g : Around) (known : IsKnown g only k m is_type is_path) (decides : DecidesUnder g only k m is_type is_path) where
  abbrev clear : Expr → Bool
  clear = is_clear only k m

  -- what is said of a statement and of the scope behind it
  abbrev pub IsGood : Stmt → Scope → Type 0
  IsGood s sc = (exprs_hold is_good is_good s ≡ true) × Full sc

  abbrev IsClear : Stmt → Type 0
  IsClear s = nodes_hold clear s ≡ true

  abbrev IsQuiet : Stmt → Type 0
  IsQuiet s = Quiet k wanted m (stmts_in s)

  good_where : (e : Expr) → Holds only k m e → holds clear e ≡ true → is_good e ≡ true
  good_where e h c = good_is e (h c)

  -- an expression of a body
  value_holds : (sc : Scope) (t : Tree) → Full sc → is_expr is_type is_path t ≡ true → Holds only k m (value_in g sc t).0
  value_holds sc t f is =
      let inner = with_locals sc.locals g in
      kept_holds only k m blind sc (typed inner t) (typed_holds inner only k m is_type is_path (locals_known g only k m is_type is_path known decides sc.locals f) t is)

  value_full : (sc : Scope) (t : Tree) → Full sc → Full (value_in g sc t).1
  value_full sc t f = kept_full sc (typed (with_locals sc.locals g) t) f

  values_hold : (sc : Scope) (ts : Trees) → Full sc → are_exprs is_type is_path ts ≡ true → HoldsAll only k m (values_in g sc ts).0 × Full (values_in g sc ts).1
  values_hold sc none f is = (tt, f)
  values_hold sc (more t ts) f is =
      let p = and_parts (is_expr is_type is_path t) (are_exprs is_type is_path ts) is in
      let r = values_hold (value_in g sc t).1 ts (value_full sc t f) p.1 in
      ((value_holds sc t f p.0, r.0), r.1)

  each_good : (es : List Expr) → HoldsAll only k m es → all_hold clear (exprs es) ≡ true → each_holds is_good (exprs es) ≡ true
  each_good [] h c = refl
  each_good (e ∷ es) h c =
      let p = and_parts (holds clear e) (all_hold clear (exprs es)) c in
      and_from (is_good e) (each_holds is_good (exprs es)) (good_where e h.0 p.0) (each_good es h.1 p.1)

  all_taken : (t : Ty) (es : List Expr) → HoldsAll only k m es → HoldsAll only k m (map (taken t) es)
  all_taken t [] h = tt
  all_taken t (e ∷ es) h = (taken_holds only k m t e h.0, all_taken t es h.1)

  -- a local, with a value and without
  local_value : (sc : Scope) (span : Span) (name e : Tree) (t : Option Ty) (w : Option Written) → WrittenFull t w → Full sc → is_expr is_type is_path e ≡ true
      → IsClear (local_with (value_in g sc e).1 span name t w (value_in g sc e).0).0
      → IsQuiet (local_with (value_in g sc e).1 span name t w (value_in g sc e).0).0
      → IsGood (local_with (value_in g sc e).1 span name t w (value_in g sc e).0).0 (local_with (value_in g sc e).1 span name t w (value_in g sc e).0).1
  local_value sc span name e None None written f is c q =
      let x = value_in g sc e in
      let h = value_holds sc e f is in
      let tests = at_first k wanted m (valued_at span (valued_is.Local (declared x.1 name (seen x.0) None)) x.0) [] q in
      let v = value_of only k m x.0 h c tests.0 tests.1.0 in
      (good_where x.0 h c, and_from (is_full (seen x.0)) (locals_full x.1.locals) (seen_full x.0 v) (value_full sc e f))
  local_value sc span name e (Some t) (Some w) written f is c q =
      let x = value_in g sc e in
      let value = to_target t x.0 in
      let h = target_holds only k m t x.0 (value_holds sc e f is) in
      let tests = at_first k wanted m (valued_at span (valued_is.Local (declared x.1 name t (Some w))) value) [] q in
      let placed = not_misplaced m w.misplaced (fine_parts (written_tests m w) _ tests).0 in
      (good_where value h c, and_from (is_full t) (locals_full x.1.locals) (written placed) (value_full sc e f))
  local_value sc span name e None (Some w) written f is c q = absurd written
  local_value sc span name e (Some t) None written f is c q = absurd written

  local_alone : (sc : Scope) (span : Span) (name : Tree) (t : Ty) (w : Written) → (is_none w.misplaced ≡ true → is_full t ≡ true) → Full sc
      → IsQuiet (local_without sc span name (Some t) (Some w)).0
      → IsGood (local_without sc span name (Some t) (Some w)).0 (local_without sc span name (Some t) (Some w)).1
  local_alone sc span name t w written f q =
      let s = (local_without sc span name (Some t) (Some w)).0 in
      let placed = not_misplaced m w.misplaced (at_first k wanted m s [] q) in
      (refl, and_from (is_full t) (locals_full sc.locals) (written placed) f)

  mutual
    pub stmt_known : (in_loop : Bool) (sc : Scope) (t : Tree) → is_stmt is_type is_path t ≡ true → Full sc → IsClear (typed_stmt b g in_loop sc t).0 → IsQuiet (typed_stmt b g in_loop sc t).0 → IsGood (typed_stmt b g in_loop sc t).0 (typed_stmt b g in_loop sc t).1
    stmt_known in_loop sc (node (form_is.Stmt stmt_is.Block) span (more (node form_is.Block at ts) none)) is f c q =
        let ss = stmts (typed_stmts b g in_loop sc ts).0 in
        let r = stmts_known in_loop sc ts is f c (behind k wanted m (block ss) (stmts_in_all ss) q) in
        (r.0, f)
    stmt_known in_loop sc (node (form_is.Stmt stmt_is.Local) span (more name (more absent (more absent none)))) is f c q =
        never (sym (at_first k wanted m (local_without sc span name None None).0 [] q).0)
    stmt_known in_loop sc (node (form_is.Stmt stmt_is.Local) span (more name (more absent (more (row es) none)))) is f c q = never is
    stmt_known in_loop sc (node (form_is.Stmt stmt_is.Local) span (more name (more absent (more (node form at es) none)))) is f c q =
        local_value sc span name (node form at es) None None tt f is c q
    stmt_known in_loop sc (node (form_is.Stmt stmt_is.Local) span (more name (more (row ts) (more absent none)))) is f c q =
        local_alone sc span name (g.type_in place_is.Value (row ts)) (g.written place_is.Value (row ts)) (known.type_in place_is.Value (row ts) (and_parts (is_type (row ts)) true is).0) f q
    stmt_known in_loop sc (node (form_is.Stmt stmt_is.Local) span (more name (more (row ts) (more (row es) none)))) is f c q =
        never (and_parts (is_type (row ts)) false is).1
    stmt_known in_loop sc (node (form_is.Stmt stmt_is.Local) span (more name (more (row ts) (more (node form at es) none)))) is f c q =
        let p = and_parts (is_type (row ts)) (is_expr is_type is_path (node form at es)) is in
        local_value sc span name (node form at es) (Some (g.type_in place_is.Local (row ts))) (Some (g.written place_is.Local (row ts))) (known.type_in place_is.Local (row ts) p.0) f p.1 c q
    stmt_known in_loop sc (node (form_is.Stmt stmt_is.Local) span (more name (more (node sort from ts) (more absent none)))) is f c q =
        let t = node sort from ts in
        local_alone sc span name (g.type_in place_is.Value t) (g.written place_is.Value t) (known.type_in place_is.Value t (and_parts (is_type t) true is).0) f q
    stmt_known in_loop sc (node (form_is.Stmt stmt_is.Local) span (more name (more (node sort from ts) (more (row es) none)))) is f c q =
        never (and_parts (is_type (node sort from ts)) false is).1
    stmt_known in_loop sc (node (form_is.Stmt stmt_is.Local) span (more name (more (node sort from ts) (more (node form at es) none)))) is f c q =
        let t = node sort from ts in
        let p = and_parts (is_type t) (is_expr is_type is_path (node form at es)) is in
        local_value sc span name (node form at es) (Some (g.type_in place_is.Local t)) (Some (g.written place_is.Local t)) (known.type_in place_is.Local t p.0) f p.1 c q
    stmt_known in_loop sc (node (form_is.Stmt stmt_is.If) span (more (row bs) (more other none))) is f c q =
        let p = and_parts (are_branches is_type is_path bs) (is_stmt is_type is_path other) is in
        let r = typed_branches b g in_loop sc bs in
        let s = typed_stmt b g in_loop r.1 other in
        let d = and_parts (branches_hold clear (branch_row r.0)) (nodes_hold clear s.0) c in
        let i = two_quiet k wanted m (stmts_in_branches (branch_row r.0)) (stmts_in s.0) (behind k wanted m (branch (branch_row r.0) s.0) (stmts_in_branches (branch_row r.0) ++ stmts_in s.0) q) in
        let x = branches_known in_loop sc bs p.0 f d.0 i.0 in
        let y = stmt_known in_loop r.1 other p.1 x.1 d.1 i.1 in
        (and_from (branch_exprs_hold is_good is_good (branch_row r.0)) (exprs_hold is_good is_good s.0) x.0 y.0, f)
    stmt_known in_loop sc (node (form_is.Stmt stmt_is.While) span (more e (more body none))) is f c q =
        let p = and_parts (is_expr is_type is_path e) (is_stmt is_type is_path body) is in
        let x = value_in g sc e in
        let s = typed_stmt b g true x.1 body in
        let d = and_parts (holds clear x.0) (nodes_hold clear s.0) c in
        let y = stmt_known true x.1 body p.1 (value_full sc e f) d.1 (behind k wanted m (while_loop x.0 s.0) (stmts_in s.0) q) in
        (and_from (is_good x.0) (exprs_hold is_good is_good s.0) (good_where x.0 (value_holds sc e f p.0) d.0) y.0, f)
    stmt_known in_loop sc (node (form_is.Stmt stmt_is.For) span (more name (more e (more body none)))) is f c q =
        let p = and_parts (is_expr is_type is_path e) (is_stmt is_type is_path body) is in
        let x = value_in g sc e in
        let t = element_type (seen x.0) in
        let s = typed_stmt b g true (after_local x.1 name t) body in
        let loop = for_loop (loop_head x.1 name t) x.0 s.0 in
        let d = and_parts (holds clear x.0) (nodes_hold clear s.0) c in
        let h = value_holds sc e f p.0 in
        let tests = at_first k wanted m loop (stmts_in s.0) q in
        let v = value_of only k m x.0 h d.0 tests.0 tests.1.0 in
        let sequence = right_when x.0 (is_sequence (type_of x.0)) v tests.1.1.0 in
        let element = ap (λ (u : Ty). is_full (element_type u)) (seen_is x.0 v.within) ∙ element_full (type_of x.0) sequence (full_of x.0 v) in
        let y = stmt_known true (after_local x.1 name t) body p.1 (and_from (is_full t) (locals_full x.1.locals) element (value_full sc e f)) d.1 (behind k wanted m loop (stmts_in s.0) q) in
        (and_from (is_good x.0) (exprs_hold is_good is_good s.0) (good_where x.0 h d.0) y.0, f)
    stmt_known in_loop sc (node (form_is.Stmt stmt_is.Switch) span (more e (more (row cs) (more other none)))) is f c q =
        let p = and_parts (is_expr is_type is_path e) (are_cases is_type is_path cs && is_stmt is_type is_path other) is in
        let o = and_parts (are_cases is_type is_path cs) (is_stmt is_type is_path other) p.1 in
        let x = value_in g sc e in
        let inside = with_slot x.1 (seen x.0) in
        let r = typed_cases b g in_loop (seen x.0) inside cs in
        let s = typed_stmt b g in_loop r.1 other in
        let d = and_parts (holds clear x.0) (cases_hold clear (cases_of r.0) && nodes_hold clear s.0) c in
        let i = and_parts (cases_hold clear (cases_of r.0)) (nodes_hold clear s.0) d.1 in
        let n = two_quiet k wanted m (stmts_in_cases (cases_of r.0)) (stmts_in s.0) (behind k wanted m (switch (length x.1.slots) x.0 (cases_of r.0) s.0) (stmts_in_cases (cases_of r.0) ++ stmts_in s.0) q) in
        let y = cases_known in_loop (seen x.0) inside cs o.0 (value_full sc e f) i.0 n.0 in
        let z = stmt_known in_loop r.1 other o.1 y.1 i.1 n.1 in (
          and_from (is_good x.0) (case_exprs_hold is_good is_good (cases_of r.0) && exprs_hold is_good is_good s.0) (good_where x.0 (value_holds sc e f p.0) d.0)
              (and_from (case_exprs_hold is_good is_good (cases_of r.0)) (exprs_hold is_good is_good s.0) y.0 z.0),
          f,
        )
    stmt_known in_loop sc (node (form_is.Stmt stmt_is.Return) span (more absent none)) is f c q = (refl, f)
    stmt_known in_loop sc (node (form_is.Stmt stmt_is.Return) span (more (row es) none)) is f c q = never is
    stmt_known in_loop sc (node (form_is.Stmt stmt_is.Return) span (more (node form at es) none)) is f c q =
        let e = node form at es in
        let x = value_in g sc e in
        (good_where (to_maybe b.result x.0) (maybe_holds only k m b.result x.0 (value_holds sc e f is)) c, value_full sc e f)
    stmt_known in_loop sc (node (form_is.Stmt stmt_is.Break) span none) is f c q = (refl, f)
    stmt_known in_loop sc (node (form_is.Stmt stmt_is.Break) span (more t ts)) is f c q = (refl, f)
    stmt_known in_loop sc (node (form_is.Stmt stmt_is.Continue) span none) is f c q = (refl, f)
    stmt_known in_loop sc (node (form_is.Stmt stmt_is.Continue) span (more t ts)) is f c q = (refl, f)
    stmt_known in_loop sc (node (form_is.Stmt stmt_is.Stop) span none) is f c q = (refl, f)
    stmt_known in_loop sc (node (form_is.Stmt stmt_is.Stop) span (more t ts)) is f c q = (refl, f)
    stmt_known in_loop sc (node (form_is.Stmt stmt_is.Confirm) span none) is f c q = (refl, f)
    stmt_known in_loop sc (node (form_is.Stmt stmt_is.Confirm) span (more t ts)) is f c q = (refl, f)
    stmt_known in_loop sc (node (form_is.Stmt stmt_is.Reject) span none) is f c q = (refl, f)
    stmt_known in_loop sc (node (form_is.Stmt stmt_is.Reject) span (more t ts)) is f c q = (refl, f)
    stmt_known in_loop sc (node (form_is.Stmt stmt_is.Print) span ts) is f c q =
        let h = values_hold sc ts f is in
        (each_good (values_in g sc ts).0 h.0 c, h.1)
    stmt_known in_loop sc (node (form_is.Stmt stmt_is.Throw) span (more e none)) is f c q =
        (good_where (value_in g sc e).0 (value_holds sc e f is) c, value_full sc e f)
    stmt_known in_loop sc (node (form_is.Stmt stmt_is.Assert) span (more e (more text none))) is f c q =
        (good_where (value_in g sc e).0 (value_holds sc e f is) c, value_full sc e f)
    stmt_known in_loop sc (node (form_is.Stmt stmt_is.Add) span (more e none)) is f c q =
        let x = value_in g sc e in
        (good_where x.0 (value_holds sc e f is) c, owner_full x.1 (owner x.0) (value_full sc e f))
    stmt_known in_loop sc (node (form_is.Stmt stmt_is.Delete) span (more e none)) is f c q =
        let x = value_in g sc e in
        (good_where x.0 (value_holds sc e f is) c, owner_full x.1 (owner x.0) (value_full sc e f))
    stmt_known in_loop sc (node (form_is.Stmt stmt_is.Expr) span (more e none)) is f c q =
        (good_where (value_in g sc e).0 (value_holds sc e f is) c, value_full sc e f)
    stmt_known in_loop sc (node (form_is.Stmt (stmt_is.Assign op)) span (more t (more e none))) is f c q =
        let p = and_parts (is_expr is_type is_path t) (is_expr is_type is_path e) is in
        let x = value_in g sc t in
        let y = value_in g x.1 e in
        let behind_target = value_full sc t f in
        let value = to_target (seen x.0) y.0 in
        let d = and_parts (holds clear x.0) (holds clear value) c in
        let h = target_holds only k m (seen x.0) y.0 (value_holds x.1 e behind_target p.1) in
        (and_from (is_good x.0) (is_good value) (good_where x.0 (value_holds sc t f p.0) d.0) (good_where value h d.1), owner_full y.1 (owner x.0) (value_full x.1 e behind_target))
    stmt_known in_loop sc _ is f c q = (refl, f)

    pub stmts_known : (in_loop : Bool) (sc : Scope) (ts : Trees) → are_stmts is_type is_path ts ≡ true → Full sc → stmts_hold clear (stmts (typed_stmts b g in_loop sc ts).0) ≡ true → Quiet k wanted m (stmts_in_all (stmts (typed_stmts b g in_loop sc ts).0))
        → (all_exprs_hold is_good is_good (stmts (typed_stmts b g in_loop sc ts).0) ≡ true) × Full (typed_stmts b g in_loop sc ts).1
    stmts_known in_loop sc none is f c q = (refl, f)
    stmts_known in_loop sc (more t ts) is f c q =
        let p = and_parts (is_stmt is_type is_path t) (are_stmts is_type is_path ts) is in
        let s = typed_stmt b g in_loop sc t in
        let ss = typed_stmts b g in_loop s.1 ts in
        let d = and_parts (nodes_hold clear s.0) (stmts_hold clear (stmts ss.0)) c in
        let n = two_quiet k wanted m (stmts_in s.0) (stmts_in_all (stmts ss.0)) q in
        let x = stmt_known in_loop sc t p.0 f d.0 n.0 in
        let y = stmts_known in_loop s.1 ts p.1 x.1 d.1 n.1 in
        (and_from (exprs_hold is_good is_good s.0) (all_exprs_hold is_good is_good (stmts ss.0)) x.0 y.0, y.1)

    branches_known : (in_loop : Bool) (sc : Scope) (ts : Trees) → are_branches is_type is_path ts ≡ true → Full sc → branches_hold clear (branch_row (typed_branches b g in_loop sc ts).0) ≡ true → Quiet k wanted m (stmts_in_branches (branch_row (typed_branches b g in_loop sc ts).0))
        → (branch_exprs_hold is_good is_good (branch_row (typed_branches b g in_loop sc ts).0) ≡ true) × Full (typed_branches b g in_loop sc ts).1
    branches_known in_loop sc none is f c q = (refl, f)
    branches_known in_loop sc (more (node form_is.Branch span (more e (more body none))) ts) is f c q =
        let p = and_parts (is_expr is_type is_path e) (is_stmt is_type is_path body && are_branches is_type is_path ts) is in
        let o = and_parts (is_stmt is_type is_path body) (are_branches is_type is_path ts) p.1 in
        let x = value_in g sc e in
        let s = typed_stmt b g in_loop x.1 body in
        let behind_it = closed sc s.1 in
        let rest = branch_row (typed_branches b g in_loop behind_it ts).0 in
        let d = and_parts (holds clear x.0) (nodes_hold clear s.0 && branches_hold clear rest) c in
        let i = and_parts (nodes_hold clear s.0) (branches_hold clear rest) d.1 in
        let n = two_quiet k wanted m (stmts_in s.0) (stmts_in_branches rest) q in
        let y = stmt_known in_loop x.1 body o.0 (value_full sc e f) i.0 n.0 in
        let z = branches_known in_loop behind_it ts o.1 f i.1 n.1 in (
          and_from (is_good x.0) (exprs_hold is_good is_good s.0 && branch_exprs_hold is_good is_good rest) (good_where x.0 (value_holds sc e f p.0) d.0)
              (and_from (exprs_hold is_good is_good s.0) (branch_exprs_hold is_good is_good rest) y.0 z.0),
          z.1,
        )
    branches_known in_loop sc _ is f c q = never is

    cases_known : (in_loop : Bool) (t : Ty) (sc : Scope) (ts : Trees) → are_cases is_type is_path ts ≡ true → Full sc → cases_hold clear (cases_of (typed_cases b g in_loop t sc ts).0) ≡ true → Quiet k wanted m (stmts_in_cases (cases_of (typed_cases b g in_loop t sc ts).0))
        → (case_exprs_hold is_good is_good (cases_of (typed_cases b g in_loop t sc ts).0) ≡ true) × Full (typed_cases b g in_loop t sc ts).1
    cases_known in_loop t sc none is f c q = (refl, f)
    cases_known in_loop t sc (more (node form_is.Case span (more (row es) (more body none))) ts) is f c q =
        let p = and_parts (are_exprs is_type is_path es) (is_stmt is_type is_path body && are_cases is_type is_path ts) is in
        let o = and_parts (is_stmt is_type is_path body) (are_cases is_type is_path ts) p.1 in
        let xs = values_in g sc es in
        let h = values_hold sc es f p.0 in
        let values = map (taken t) xs.0 in
        let s = typed_stmt b g in_loop xs.1 body in
        let behind_it = closed sc s.1 in
        let rest = cases_of (typed_cases b g in_loop t behind_it ts).0 in
        let d = and_parts (all_hold clear (exprs values)) (nodes_hold clear s.0 && cases_hold clear rest) c in
        let i = and_parts (nodes_hold clear s.0) (cases_hold clear rest) d.1 in
        let n = two_quiet k wanted m (stmts_in s.0) (stmts_in_cases rest) q in
        let y = stmt_known in_loop xs.1 body o.0 h.1 i.0 n.0 in
        let z = cases_known in_loop t behind_it ts o.1 f i.1 n.1 in (
          and_from (each_holds is_good (exprs values)) (exprs_hold is_good is_good s.0 && case_exprs_hold is_good is_good rest) (each_good values (all_taken t xs.0 h.0) d.0)
              (and_from (exprs_hold is_good is_good s.0) (case_exprs_hold is_good is_good rest) y.0 z.0),
          z.1,
        )
    cases_known in_loop t sc _ is f c q = never is

  -- a body
  pub body_known : (slots : List Ty) (t : Tree) → is_body is_type is_path t ≡ true → nodes_hold clear (typed_body b g slots t).0 ≡ true → Quiet k wanted m (stmts_in (typed_body b g slots t).0) → exprs_hold is_good is_good (typed_body b g slots t).0 ≡ true
  body_known slots (node form_is.Block span ts) is c q =
      let sc : Scope = record { locals = []; slots = slots } in
      let ss = stmts (typed_stmts b g false sc ts).0 in
      (stmts_known false sc ts is refl c (behind k wanted m (block ss) (stmts_in_all ss) q)).0
  body_known slots _ is c q = refl
