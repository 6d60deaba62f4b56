-- Typing makes statements ready where the body keeps their slots, and all in them is built.
use Rattle.std.specs.Prelude.{ℕ, ◌+◌, Bool, true, false, not, ◌&&◌, ◌||◌, cond, if◌then◌else◌, List, [], ◌∷◌, ◌++◌, map, length, Option, Some, None, slice_get}
use Rattle.std.specs.List.{list_all}
use Rattle.std.proofs.Common.{◌≡◌, refl, sym, ◌∙◌, subst}
use Rattle.std.proofs.lemmas.Bool.{and_parts, and_from}
use Rattle.sp_base.specs.declared.places.Span.{Span}
use Rattle.sp_ast.specs.Trees.{Tree, Trees, absent, row, node, none, more}
use Rattle.sp_ast.specs.declared.forms.Form.TheVariants as form_is
use Rattle.sp_ast.specs.declared.forms.StmtForm.TheVariants as stmt_is
use Rattle.sp_types.specs.declared.words.Word.{Word}
use Rattle.sp_types.specs.declared.words.Word.TheVariants as word_is
use Rattle.sp_types.specs.Types.{Ty, word, made, same, widens}
use Rattle.sp_types.proofs.Same.{same_itself}
use Rattle.sp_typed.specs.declared.words.OneOp.TheVariants as one_is
use Rattle.sp_typed.specs.declared.words.Written.{Written}
use Rattle.sp_typed.specs.Exprs as row_of
use Rattle.sp_typed.specs.Exprs.{Expr, Exprs, leaf, one, two, three, many, exprs, type_of, span_of, is_literal, retyped, settled}
use Rattle.sp_typed.specs.Nodes.{holds, all_hold}
use Rattle.sp_typed.specs.Stmts.{Stmt, stmts, branch_row}
use Rattle.sp_type_operands.specs.Literals.{can_take, taken, seen, is_past}
use Rattle.sp_type_context.specs.declared.places.Place.{Place}
use Rattle.sp_type_context.specs.declared.places.Place.TheVariants as place_is
use Rattle.sp_type_context.specs.Contexts.{Around as Names}
use Rattle.sp_type_context.specs.Typing.{typed, one_at, widened, to_target, to_maybe}
use Rattle.sp_type_stmts.specs.declared.body.Body.{Body as Typing}
use Rattle.sp_type_stmts.specs.Scopes.{Local, Scope, with_slot, closed}
use Rattle.sp_type_stmts.specs.Visible.{found_maybe, local_or, with_locals}
use Rattle.sp_type_context.specs.Names.{single_name}
use Rattle.sp_type_stmts.specs.Owners.{owner, owner_slot, with_owner, changed_owner, kept, all_kept}
use Rattle.sp_type_stmts.specs.Values.{value_in, values_in}
use Rattle.sp_type_stmts.specs.Statements.{after_local, written_type, written_of, type_or, local_with, local_in, element_type, return_in, cases_of, typed_stmt, typed_stmts, typed_branches, typed_branch, typed_cases, typed_case, typed_body}
use Rattle.sp_law_lists.proofs.known_types_lemmas.Full.{never}
use Rattle.sp_law_lists.specs.known_literals.Widened.{widens_value, AreWidened}
use Rattle.sp_law_lists.proofs.known_literals_lemmas.Widening.{typed_is}
use Rattle.sp_law_lists.proofs.whole_list_lemmas.None.{holds_both}
use Rattle.sp_law_lists.specs.fit_expr.Around.{Around}
use Rattle.sp_law_lists.specs.fit_body.Bodies.{Body}
use Rattle.sp_law_lists.specs.fit_body.Test.{slot_is}
use Rattle.sp_law_lists.specs.known_kinds.Made.{is_targeted, maybe_targeted, is_made, AreMade, keeps_owner, is_built}
use Rattle.sp_law_lists.specs.known_kinds.Kept.{is_kept, SlotsKept}
use Rattle.sp_law_lists.proofs.known_kinds_lemmas.Making.{literal_taken, targeted_made, maybe_made, typed_made}
use Rattle.sp_law_lists.proofs.known_kinds_lemmas.Names.{locals_made}
use Rattle.sp_law_lists.proofs.known_kinds_lemmas.Owners.{Grows, added_last, stays_behind, owner_grows, kept_grows, made_kept, widened_kept, owner_so, owner_keeps}
use Rattle.sp_law_lists.specs.known_statements.Ready.{node_ready, owner_ready, stmt_ready, stmts_ready, branches_ready, cases_ready}
use Rattle.sp_law_lists.specs.known_statements.Built.{stmt_built, stmts_built, branches_built, cases_built}

-- what takes the type of its place, and what is widened, where a test holds of both
module _ (p : Expr → Bool) (retypes : (w : Word) (e : Expr) → is_literal e ≡ true → can_take w ≡ true → holds p e ≡ true → holds p (retyped (word w) e) ≡ true)
    (widening : (t : Ty) (e : Expr) → widens (seen e) t ≡ true → p (one_at (span_of e) t one_is.Widen e) ≡ true) where
  settled_keeps : (w : Word) (e : Expr) → can_take w ≡ true → holds p e ≡ true → holds p (settled w e) ≡ true
  settled_keeps w e may h = by (is_literal e) refl
    where
      by : (b : Bool) → is_literal e ≡ b → holds p (cond b (retyped (word w) e) e) ≡ true
      by true l = retypes w e l may h
      by false l = h

  taken_keeps : (t : Ty) (e : Expr) → holds p e ≡ true → holds p (taken t e) ≡ true
  taken_keeps (word w) e h = by (is_literal e && can_take w) refl
    where
      by : (b : Bool) → (is_literal e && can_take w) ≡ b → holds p (if b then settled w e else e) ≡ true
      by true l = settled_keeps w e (and_parts (is_literal e) (can_take w) l).1 h
      by false l = h
  taken_keeps (made maker ts) e h = h

  widened_keeps : (t : Ty) (e : Expr) → holds p e ≡ true → holds p (widened t e) ≡ true
  widened_keeps t e h = by (widens (seen e) t && not (same (seen e) t)) refl
    where
      by : (b : Bool) → (widens (seen e) t && not (same (seen e) t)) ≡ b → holds p (if b then one_at (span_of e) t one_is.Widen e else e) ≡ true
      by true l = and_from (p (one_at (span_of e) t one_is.Widen e)) (holds p e) (widening t e (and_parts (widens (seen e) t) (not (same (seen e) t)) l).0) h
      by false l = h

  target_keeps : (t : Ty) (e : Expr) → holds p e ≡ true → holds p (to_target t e) ≡ true
  target_keeps t e h = widened_keeps t (taken t e) (taken_keeps t e h)

-- each of the three tests
widen_retyped : (w : Word) (e : Expr) → is_literal e ≡ true → can_take w ≡ true → holds widens_value e ≡ true → holds widens_value (retyped (word w) e) ≡ true
widen_retyped w (leaf h) l may i = i
widen_retyped w (one h a) l may i = i
widen_retyped w (two h a b) l may i = i
widen_retyped w (three h a b c) l may i = i
widen_retyped w (many h es) l may i = i

unknown_widens : (t : Ty) → widens (word word_is.Unknown) t ≡ true → false ≡ true
unknown_widens (word (word_is.Uint w)) e = e
unknown_widens (word (word_is.Int w)) e = e
unknown_widens (word _) e = e
unknown_widens (made maker ts) e = e

widen_within : (t u : Ty) (b : Bool) → widens (if b then word word_is.Unknown else u) t ≡ true → not b ≡ true
widen_within t u true e = unknown_widens t e
widen_within t u false e = refl

widen_widened : (t : Ty) (e : Expr) → widens (seen e) t ≡ true → widens_value (one_at (span_of e) t one_is.Widen e) ≡ true
widen_widened t e w = widen_within t (type_of e) (is_past e) w

module _ (around : Around) where
  pub owner_retyped : (w : Word) (e : Expr) → is_literal e ≡ true → can_take w ≡ true → holds (keeps_owner around) e ≡ true → holds (keeps_owner around) (retyped (word w) e) ≡ true
  owner_retyped w (leaf h) l may i = i
  owner_retyped w (one h a) l may i = i
  owner_retyped w (two h a b) l may i = i
  owner_retyped w (three h a b c) l may i = i
  owner_retyped w (many h es) l may i = i

  -- what is known of an expression as typing makes it and the body keeps it
  pub record Here (e : Expr) : Type 0 where
    pub of_form : holds (is_made around) e ≡ true
    pub wide : holds widens_value e ≡ true
    pub owned : holds (keeps_owner around) e ≡ true

  here_taken : (t : Ty) (e : Expr) → Here e → Here (taken t e)
  here_taken t e x = record {
    of_form = taken_keeps (is_made around) (literal_taken around) (λ u a w. w) t e x.of_form;
    wide = taken_keeps widens_value widen_retyped widen_widened t e x.wide;
    owned = taken_keeps (keeps_owner around) owner_retyped (λ u a w. refl) t e x.owned;
  }

  pub here_target : (t : Ty) (e : Expr) → Here e → Here (to_target t e)
  here_target t e x = record {
    of_form = target_keeps (is_made around) (literal_taken around) (λ u a w. w) t e x.of_form;
    wide = target_keeps widens_value widen_retyped widen_widened t e x.wide;
    owned = target_keeps (keeps_owner around) owner_retyped (λ u a w. refl) t e x.owned;
  }

  here_maybe : (o : Option Ty) (e : Expr) → Here e → Here (to_maybe o e)
  here_maybe None e x = x
  here_maybe (Some t) e x = here_target t e x

  abbrev AllHere : List Expr → Type 0
  AllHere [] = Unit {0}
  AllHere (e ∷ es) = Here e × AllHere es

  all_here_taken : (t : Ty) (es : List Expr) → AllHere es → AllHere (map (taken t) es)
  all_here_taken t [] h = tt
  all_here_taken t (e ∷ es) h = (here_taken t e h.0, all_here_taken t es h.1)

-- locals that have slots of their types
abbrev AllNamed : List Ty → List Local → Type 0
AllNamed slots [] = Unit {0}
AllNamed slots (l ∷ ls) = (slice_get slots l.slot ≡ Some l.ty) × AllNamed slots ls

abbrev Named : Scope → Type 0
Named sc = AllNamed sc.slots sc.locals

-- behind a statement slots are only added, and the locals that are open have slots
record Behind (before after : Scope) : Type 0 where
  grows : Grows before after
  named : Named before → Named after

named_more : (xs ys : List Ty) (ls : List Local) → ((n : ℕ) (t : Ty) → slice_get xs n ≡ Some t → slice_get ys n ≡ Some t) → AllNamed xs ls → AllNamed ys ls
named_more xs ys [] grows named = tt
named_more xs ys (l ∷ ls) grows named = (grows l.slot l.ty named.0, named_more xs ys ls grows named.1)

same_scope : (sc : Scope) → Behind sc sc
same_scope sc = record { grows = λ n t e. e; named = λ x. x }

then_behind : (a b c : Scope) → Behind a b → Behind b c → Behind a c
then_behind a b c x y = record { grows = λ n t e. y.grows n t (x.grows n t e); named = λ n. y.named (x.named n) }

-- a scope with the same locals and more slots
more_slots : (a b : Scope) → Grows a b → b.locals ≡ a.locals → Behind a b
more_slots a b grows same_locals = record { grows = grows; named = λ n. subst (AllNamed b.slots) (sym same_locals) (named_more a.slots b.slots a.locals grows n) }

closed_behind : (a b : Scope) → Behind a b → Behind a (closed a b)
closed_behind a b x = record { grows = x.grows; named = λ n. named_more a.slots b.slots a.locals x.grows n }

owner_behind : (sc : Scope) (o : Option Ty) → Behind sc (with_owner sc o)
owner_behind sc None = same_scope sc
owner_behind sc (Some t) = more_slots sc (with_slot sc t) (owner_grows sc (Some t)) refl

slot_behind : (sc : Scope) (t : Ty) → Behind sc (with_slot sc t)
slot_behind sc t = owner_behind sc (Some t)

local_behind : (sc : Scope) (name : Tree) (t : Ty) → Behind sc (after_local sc name t)
local_behind sc name t = record {
  grows = λ n u e. stays_behind sc.slots (t ∷ []) n u e;
  named = λ x. (added_last sc.slots t, named_more sc.slots (sc.slots ++ t ∷ []) sc.locals (λ n u e. stays_behind sc.slots (t ∷ []) n u e) x);
}

-- what is kept opens no local
owner_locals : (sc : Scope) (o : Option Ty) → (with_owner sc o).locals ≡ sc.locals
owner_locals sc None = refl
owner_locals sc (Some t) = refl

mutual
  kept_locals : (sc : Scope) (e : Expr) → (kept sc e).1.locals ≡ sc.locals
  kept_locals sc (leaf h) = refl
  kept_locals sc (one h a) = kept_locals sc a
  kept_locals sc (two h a b) = kept_locals (kept sc a).1 b ∙ kept_locals sc a
  kept_locals sc (three h a b c) =
      let x = kept sc a in
      let y = kept x.1 b in
      kept_locals y.1 c ∙ kept_locals x.1 b ∙ kept_locals sc a
  kept_locals sc (many h es) =
      let xs = all_kept sc es in
      owner_locals xs.1 (changed_owner h.op xs.0) ∙ all_kept_locals sc es

  all_kept_locals : (sc : Scope) (es : Exprs) → (all_kept sc es).1.locals ≡ sc.locals
  all_kept_locals sc row_of.none = refl
  all_kept_locals sc (row_of.more e es) = all_kept_locals (kept sc e).1 es ∙ kept_locals sc e

module _ (g : Names) where
  value_behind : (sc : Scope) (t : Tree) → Behind sc (value_in g sc t).1
  value_behind sc t = (let e = typed (with_locals sc.locals g) t in more_slots sc (kept sc e).1 (kept_grows sc e) (kept_locals sc e))

  values_behind : (sc : Scope) (ts : Trees) → Behind sc (values_in g sc ts).1
  values_behind sc none = same_scope sc
  values_behind sc (more t ts) = (let x = value_in g sc t in then_behind sc x.1 (values_in g x.1 ts).1 (value_behind sc t) (values_behind x.1 ts))

  -- a local, with a value and without
  local_in_behind : (sc : Scope) (span : Span) (name t e : Tree) → Behind sc (local_in g sc span name t e).1
  local_in_behind sc span name t absent = local_behind sc name (type_or (written_type g place_is.Value t) (word word_is.Unknown))
  local_in_behind sc span name t (row es) =
      let x = value_in g sc (row es) in
      then_behind sc x.1 (local_in g sc span name t (row es)).1 (value_behind sc (row es)) (local_behind x.1 name (type_or (written_type g place_is.Local t) (seen x.0)))
  local_in_behind sc span name t (node form at es) =
      let x = value_in g sc (node form at es) in
      then_behind sc x.1 (local_in g sc span name t (node form at es)).1 (value_behind sc (node form at es)) (local_behind x.1 name (type_or (written_type g place_is.Local t) (seen x.0)))

  kept_behind : (sc : Scope) (t : Tree) → Behind sc (with_owner (value_in g sc t).1 (owner (value_in g sc t).0))
  kept_behind sc t =
      let x = value_in g sc t in
      then_behind sc x.1 (with_owner x.1 (owner x.0)) (value_behind sc t) (owner_behind x.1 (owner x.0))

  module _ (b : Typing) where
    return_behind : (sc : Scope) (span : Span) (e : Tree) → Behind sc (return_in b g sc span e).1
    return_behind sc span absent = same_scope sc
    return_behind sc span (row es) = value_behind sc (row es)
    return_behind sc span (node form at es) = value_behind sc (node form at es)

    mutual
      stmt_behind : (in_loop : Bool) (sc : Scope) (t : Tree) → Behind sc (typed_stmt b g in_loop sc t).1
      stmt_behind in_loop sc (node (form_is.Stmt stmt_is.Block) span (more (node form_is.Block at ts) none)) = closed_behind sc (typed_stmts b g in_loop sc ts).1 (stmts_behind in_loop sc ts)
      stmt_behind in_loop sc (node (form_is.Stmt stmt_is.Local) span (more name (more t (more e none)))) = local_in_behind sc span name t e
      stmt_behind in_loop sc (node (form_is.Stmt stmt_is.If) span (more (row bs) (more other none))) =
          let r = typed_branches b g in_loop sc bs in
          let s = typed_stmt b g in_loop r.1 other in
          closed_behind sc s.1 (then_behind sc r.1 s.1 (branches_behind in_loop sc bs) (stmt_behind in_loop r.1 other))
      stmt_behind in_loop sc (node (form_is.Stmt stmt_is.While) span (more c (more inner none))) =
          let x = value_in g sc c in
          let s = typed_stmt b g true x.1 inner in
          closed_behind sc s.1 (then_behind sc x.1 s.1 (value_behind sc c) (stmt_behind true x.1 inner))
      stmt_behind in_loop sc (node (form_is.Stmt stmt_is.For) span (more name (more e (more inner none)))) =
          let x = value_in g sc e in
          let t = element_type (seen x.0) in
          let y = after_local x.1 name t in
          let s = typed_stmt b g true y inner in
          closed_behind sc s.1 (then_behind sc x.1 s.1 (value_behind sc e) (then_behind x.1 y s.1 (local_behind x.1 name t) (stmt_behind true y inner)))
      stmt_behind in_loop sc (node (form_is.Stmt stmt_is.Switch) span (more e (more (row cs) (more other none)))) =
          let x = value_in g sc e in
          let y = with_slot x.1 (seen x.0) in
          let r = typed_cases b g in_loop (seen x.0) y cs in
          let s = typed_stmt b g in_loop r.1 other in
          closed_behind sc s.1 (then_behind sc x.1 s.1 (value_behind sc e) (then_behind x.1 y s.1 (slot_behind x.1 (seen x.0)) (then_behind y r.1 s.1 (cases_behind in_loop (seen x.0) y cs) (stmt_behind in_loop r.1 other))))
      stmt_behind in_loop sc (node (form_is.Stmt stmt_is.Return) span (more e none)) = return_behind sc span e
      stmt_behind in_loop sc (node (form_is.Stmt stmt_is.Break) span none) = same_scope sc
      stmt_behind in_loop sc (node (form_is.Stmt stmt_is.Break) span (more t ts)) = same_scope sc
      stmt_behind in_loop sc (node (form_is.Stmt stmt_is.Continue) span none) = same_scope sc
      stmt_behind in_loop sc (node (form_is.Stmt stmt_is.Continue) span (more t ts)) = same_scope sc
      stmt_behind in_loop sc (node (form_is.Stmt stmt_is.Stop) span none) = same_scope sc
      stmt_behind in_loop sc (node (form_is.Stmt stmt_is.Stop) span (more t ts)) = same_scope sc
      stmt_behind in_loop sc (node (form_is.Stmt stmt_is.Confirm) span none) = same_scope sc
      stmt_behind in_loop sc (node (form_is.Stmt stmt_is.Confirm) span (more t ts)) = same_scope sc
      stmt_behind in_loop sc (node (form_is.Stmt stmt_is.Reject) span none) = same_scope sc
      stmt_behind in_loop sc (node (form_is.Stmt stmt_is.Reject) span (more t ts)) = same_scope sc
      stmt_behind in_loop sc (node (form_is.Stmt stmt_is.Print) span ts) = values_behind sc ts
      stmt_behind in_loop sc (node (form_is.Stmt stmt_is.Throw) span (more e none)) = value_behind sc e
      stmt_behind in_loop sc (node (form_is.Stmt stmt_is.Assert) span (more e (more text none))) = value_behind sc e
      stmt_behind in_loop sc (node (form_is.Stmt stmt_is.Add) span (more e none)) = kept_behind sc e
      stmt_behind in_loop sc (node (form_is.Stmt stmt_is.Delete) span (more e none)) = kept_behind sc e
      stmt_behind in_loop sc (node (form_is.Stmt stmt_is.Expr) span (more e none)) = value_behind sc e
      stmt_behind in_loop sc (node (form_is.Stmt (stmt_is.Assign op)) span (more t (more e none))) =
          let x = value_in g sc t in
          let y = value_in g x.1 e in
          then_behind sc x.1 (with_owner y.1 (owner x.0)) (value_behind sc t) (then_behind x.1 y.1 (with_owner y.1 (owner x.0)) (value_behind x.1 e) (owner_behind y.1 (owner x.0)))
      stmt_behind in_loop sc _ = same_scope sc

      stmts_behind : (in_loop : Bool) (sc : Scope) (ts : Trees) → Behind sc (typed_stmts b g in_loop sc ts).1
      stmts_behind in_loop sc none = same_scope sc
      stmts_behind in_loop sc (more t ts) =
          let s = typed_stmt b g in_loop sc t in
          then_behind sc s.1 (typed_stmts b g in_loop s.1 ts).1 (stmt_behind in_loop sc t) (stmts_behind in_loop s.1 ts)

      branches_behind : (in_loop : Bool) (sc : Scope) (ts : Trees) → Behind sc (typed_branches b g in_loop sc ts).1
      branches_behind in_loop sc none = same_scope sc
      branches_behind in_loop sc (more t ts) =
          let x = typed_branch b g in_loop sc t in
          then_behind sc x.1 (typed_branches b g in_loop x.1 ts).1 (branch_behind in_loop sc t) (branches_behind in_loop x.1 ts)

      branch_behind : (in_loop : Bool) (sc : Scope) (t : Tree) → Behind sc (typed_branch b g in_loop sc t).1
      branch_behind in_loop sc (node form_is.Branch span (more c (more inner none))) =
          let x = value_in g sc c in
          let s = typed_stmt b g in_loop x.1 inner in
          closed_behind sc s.1 (then_behind sc x.1 s.1 (value_behind sc c) (stmt_behind in_loop x.1 inner))
      branch_behind in_loop sc _ = same_scope sc

      cases_behind : (in_loop : Bool) (t : Ty) (sc : Scope) (ts : Trees) → Behind sc (typed_cases b g in_loop t sc ts).1
      cases_behind in_loop t sc none = same_scope sc
      cases_behind in_loop t sc (more c cs) =
          let x = typed_case b g in_loop t sc c in
          then_behind sc x.1 (typed_cases b g in_loop t x.1 cs).1 (case_behind in_loop t sc c) (cases_behind in_loop t x.1 cs)

      case_behind : (in_loop : Bool) (t : Ty) (sc : Scope) (c : Tree) → Behind sc (typed_case b g in_loop t sc c).1
      case_behind in_loop t sc (node form_is.Case span (more (row es) (more inner none))) =
          let xs = values_in g sc es in
          let s = typed_stmt b g in_loop xs.1 inner in
          closed_behind sc s.1 (then_behind sc xs.1 s.1 (values_behind sc es) (stmt_behind in_loop xs.1 inner))
      case_behind in_loop t sc _ = same_scope sc

-- what widens is as it was behind locals
local_widens : (span : Span) (o : Option Local) (e : Expr) → holds widens_value e ≡ true → holds widens_value (local_or span o e) ≡ true
local_widens span None e h = h
local_widens span (Some l) e h = refl

locals_widen : (g : Names) (ls : List Local) → AreWidened g → AreWidened (with_locals ls g)
locals_widen g ls known = record {
  path = λ span path. local_widens span (found_maybe (single_name path) ls) (g.path span path) (known.path span path);
  named = known.named;
  itself = known.itself;
  current = known.current;
  member = known.member;
  left_out = known.left_out;
}

module _ (body : Body) (g : Names) (made_names : AreMade body.around g) (wide_names : AreWidened g) (b : Typing) where
  abbrev Kept : Scope → Type 0
  Kept sc = SlotsKept body.around sc.slots

  abbrev wanted : Option Ty
  wanted = b.result

  abbrev ready : Expr → Bool
  ready = node_ready body wanted

  abbrev In : Expr → Type 0
  In e = Here body.around e

  back : (before after : Scope) → Behind before after → Kept after → Kept before
  back before after x slots = λ n t e. slots n t (x.grows n t e)

  named_kept : (slots : List Ty) (ls : List Local) → AllNamed slots ls → SlotsKept body.around slots → list_all (is_kept body.around) ls ≡ true
  named_kept slots [] named have = refl
  named_kept slots (l ∷ ls) named have = and_from (is_kept body.around l) (list_all (is_kept body.around) ls) (have l.slot l.ty named.0) (named_kept slots ls named.1 have)

  value_here : (sc : Scope) (t : Tree) → Named sc → Kept (value_in g sc t).1 → In (value_in g sc t).0
  value_here sc t named slots =
      let inner = with_locals sc.locals g in
      let e = typed inner t in
      let before = back sc (value_in g sc t).1 (value_behind g sc t) slots in
      record {
        of_form = made_kept body.around sc e (typed_made body.around inner (locals_made body.around g sc.locals made_names (named_kept sc.slots sc.locals named before)) t);
        wide = widened_kept sc e (typed_is inner (locals_widen g sc.locals wide_names) t);
        owned = owner_keeps body.around sc e slots;
      }

  values_here : (sc : Scope) (ts : Trees) → Named sc → Kept (values_in g sc ts).1 → AllHere body.around (values_in g sc ts).0
  values_here sc none named slots = tt
  values_here sc (more t ts) named slots =
      let x = value_in g sc t in
      (value_here sc t named (back x.1 (values_in g x.1 ts).1 (values_behind g x.1 ts) slots), values_here x.1 ts ((value_behind g sc t).named named) slots)

  ready_so : (e : Expr) → In e → holds is_built e ≡ true → holds ready e ≡ true
  ready_so e x built =
      let owned : Expr → Bool = λ y. widens_value y && keeps_owner body.around y in
      let formed : Expr → Bool = λ y. is_made body.around y && (widens_value y && keeps_owner body.around y) in
      holds_both is_built formed ready (λ y i j. and_from (is_built y) (formed y) i j) e built
      (holds_both (is_made body.around) owned formed (λ y i j. and_from (is_made body.around y) (owned y) i j) e x.of_form
      (holds_both widens_value (keeps_owner body.around) owned (λ y i j. and_from (widens_value y) (keeps_owner body.around y) i j) e x.wide x.owned))

  all_ready_so : (es : List Expr) → AllHere body.around es → all_hold is_built (exprs es) ≡ true → all_hold ready (exprs es) ≡ true
  all_ready_so [] h built = refl
  all_ready_so (e ∷ es) h built =
      let p = and_parts (holds is_built e) (all_hold is_built (exprs es)) built in
      and_from (holds ready e) (all_hold ready (exprs es)) (ready_so e h.0 p.0) (all_ready_so es h.1 p.1)

  last_slot : (sc : Scope) (t : Ty) → SlotsKept body.around (sc.slots ++ t ∷ []) → slot_is body.around (length sc.slots) t ≡ true
  last_slot sc t slots = slots (length sc.slots) t (added_last sc.slots t)

  -- a local
  abbrev WithReady : Scope → Span → Tree → Expr → Option Ty → Option Written → Type 0
  WithReady sc span name e t w =
      In e → Kept (local_with sc span name t w e).1 → stmt_built (local_with sc span name t w e).0 ≡ true → stmt_ready body wanted true (local_with sc span name t w e).0 ≡ true

  by_written : (P : Option Ty → Option Written → Type 0) → P None None → ((t : Ty) (w : Written) → P (Some t) (Some w)) → (place : Place) (t : Tree) → P (written_type g place t) (written_of g place t)
  by_written P alone both place absent = alone
  by_written P alone both place (row ts) = both (g.type_in place (row ts)) (g.written place (row ts))
  by_written P alone both place (node form at ts) = both (g.type_in place (node form at ts)) (g.written place (node form at ts))

  with_ready : (sc : Scope) (span : Span) (name t : Tree) (e : Expr) → WithReady sc span name e (written_type g place_is.Local t) (written_of g place_is.Local t)
  with_ready sc span name t e = by_written (WithReady sc span name e)
      (λ x slots built.
      and_from (holds ready e) (same (seen e) (seen e) && slot_is body.around (length sc.slots) (seen e)) (ready_so e x built)
      (and_from (same (seen e) (seen e)) (slot_is body.around (length sc.slots) (seen e)) (same_itself (seen e)) (last_slot sc (seen e) slots)))
      (λ u w x slots built.
      and_from (holds ready (to_target u e)) (is_targeted u (to_target u e) && slot_is body.around (length sc.slots) u) (ready_so (to_target u e) (here_target body.around u e x) built)
      (and_from (is_targeted u (to_target u e)) (slot_is body.around (length sc.slots) u) (targeted_made u e) (last_slot sc u slots)))
      place_is.Local t

  local_ready_so : (in_loop : Bool) (sc : Scope) (span : Span) (name t e : Tree) → Named sc → Kept (local_in g sc span name t e).1 → stmt_built (local_in g sc span name t e).0 ≡ true → stmt_ready body wanted in_loop (local_in g sc span name t e).0 ≡ true
  local_ready_so in_loop sc span name t absent named slots built = last_slot sc (type_or (written_type g place_is.Value t) (word word_is.Unknown)) slots
  local_ready_so in_loop sc span name t (row es) named slots built =
      let x = value_in g sc (row es) in
      let first = back x.1 (local_in g sc span name t (row es)).1 (local_behind x.1 name (type_or (written_type g place_is.Local t) (seen x.0))) slots in
      with_ready x.1 span name t x.0 (value_here sc (row es) named first) slots built
  local_ready_so in_loop sc span name t (node form at es) named slots built =
      let x = value_in g sc (node form at es) in
      let first = back x.1 (local_in g sc span name t (node form at es)).1 (local_behind x.1 name (type_or (written_type g place_is.Local t) (seen x.0))) slots in
      with_ready x.1 span name t x.0 (value_here sc (node form at es) named first) slots built

  -- what is returned
  return_ready_so : (in_loop : Bool) (sc : Scope) (span : Span) (e : Tree) → Named sc → Kept (return_in b g sc span e).1 → stmt_built (return_in b g sc span e).0 ≡ true → stmt_ready body wanted in_loop (return_in b g sc span e).0 ≡ true
  return_ready_so in_loop sc span absent named slots built = refl
  return_ready_so in_loop sc span (row es) named slots built =
      let x = (value_in g sc (row es)).0 in
      and_from (holds ready (to_maybe wanted x)) (maybe_targeted wanted (to_maybe wanted x)) (ready_so (to_maybe wanted x) (here_maybe body.around wanted x (value_here sc (row es) named slots)) built) (maybe_made wanted x)
  return_ready_so in_loop sc span (node form at es) named slots built =
      let x = (value_in g sc (node form at es)).0 in
      and_from (holds ready (to_maybe wanted x)) (maybe_targeted wanted (to_maybe wanted x)) (ready_so (to_maybe wanted x) (here_maybe body.around wanted x (value_here sc (node form at es) named slots)) built) (maybe_made wanted x)

  -- an expression of which nothing is asked, and what is changed
  alone_ready : (sc : Scope) (e : Tree) → Named sc → Kept (value_in g sc e).1 → holds is_built (value_in g sc e).0 ≡ true → (holds ready (value_in g sc e).0 && true) ≡ true
  alone_ready sc e named slots built = and_from (holds ready (value_in g sc e).0) true (ready_so (value_in g sc e).0 (value_here sc e named slots) built) refl

  changed_ready : (sc : Scope) (e : Tree) → Named sc → Kept (with_owner (value_in g sc e).1 (owner (value_in g sc e).0)) → holds is_built (value_in g sc e).0 ≡ true
      → (holds ready (value_in g sc e).0 && owner_ready body wanted (owner_slot (value_in g sc e).1 (owner (value_in g sc e).0)) (value_in g sc e).0) ≡ true
  changed_ready sc e named slots built =
      let x = value_in g sc e in
      let first = back x.1 (with_owner x.1 (owner x.0)) (owner_behind x.1 (owner x.0)) slots in
      and_from (holds ready x.0) (owner_ready body wanted (owner_slot x.1 (owner x.0)) x.0) (ready_so x.0 (value_here sc e named first) built) (owner_so body.around x.1 x.0 slots)

  meant_in : (b : Bool) → (not b || b) ≡ true
  meant_in true = refl
  meant_in false = refl

  mutual
    stmt_is_ready : (in_loop : Bool) (sc : Scope) (t : Tree) → Named sc → Kept (typed_stmt b g in_loop sc t).1 → stmt_built (typed_stmt b g in_loop sc t).0 ≡ true → stmt_ready body wanted in_loop (typed_stmt b g in_loop sc t).0 ≡ true
    stmt_is_ready in_loop sc (node (form_is.Stmt stmt_is.Block) span (more (node form_is.Block at ts) none)) named slots built = stmts_are_ready in_loop sc ts named slots built
    stmt_is_ready in_loop sc (node (form_is.Stmt stmt_is.Local) span (more name (more t (more e none)))) named slots built = local_ready_so in_loop sc span name t e named slots built
    stmt_is_ready in_loop sc (node (form_is.Stmt stmt_is.If) span (more (row bs) (more other none))) named slots built =
        let r = typed_branches b g in_loop sc bs in
        let s = typed_stmt b g in_loop r.1 other in
        let p = and_parts (branches_built (branch_row r.0)) (stmt_built s.0) built in
        and_from (branches_ready body wanted in_loop (branch_row r.0)) (stmt_ready body wanted in_loop s.0) (branches_are_ready in_loop sc bs named (back r.1 s.1 (stmt_behind g b in_loop r.1 other) slots) p.0)
        (stmt_is_ready in_loop r.1 other ((branches_behind g b in_loop sc bs).named named) slots p.1)
    stmt_is_ready in_loop sc (node (form_is.Stmt stmt_is.While) span (more c (more inner none))) named slots built =
        let x = value_in g sc c in
        let s = typed_stmt b g true x.1 inner in
        let p = and_parts (holds is_built x.0) (stmt_built s.0) built in
        and_from (holds ready x.0) (stmt_ready body wanted true s.0) (ready_so x.0 (value_here sc c named (back x.1 s.1 (stmt_behind g b true x.1 inner) slots)) p.0)
        (stmt_is_ready true x.1 inner ((value_behind g sc c).named named) slots p.1)
    stmt_is_ready in_loop sc (node (form_is.Stmt stmt_is.For) span (more name (more e (more inner none)))) named slots built =
        let x = value_in g sc e in
        let t = element_type (seen x.0) in
        let y = after_local x.1 name t in
        let s = typed_stmt b g true y inner in
        let p = and_parts (holds is_built x.0) (stmt_built s.0) built in
        let inside = back y s.1 (stmt_behind g b true y inner) slots in
        let first = back x.1 y (local_behind x.1 name t) inside in
        and_from (holds ready x.0) (same t t && (slot_is body.around (length x.1.slots) t && stmt_ready body wanted true s.0)) (ready_so x.0 (value_here sc e named first) p.0)
        (and_from (same t t) (slot_is body.around (length x.1.slots) t && stmt_ready body wanted true s.0) (same_itself t)
        (and_from (slot_is body.around (length x.1.slots) t) (stmt_ready body wanted true s.0) (last_slot x.1 t inside)
        (stmt_is_ready true y inner ((local_behind x.1 name t).named ((value_behind g sc e).named named)) slots p.1)))
    stmt_is_ready in_loop sc (node (form_is.Stmt stmt_is.Switch) span (more e (more (row cs) (more other none)))) named slots built =
        let x = value_in g sc e in
        let t = seen x.0 in
        let y = with_slot x.1 t in
        let r = typed_cases b g in_loop t y cs in
        let s = typed_stmt b g in_loop r.1 other in
        let p = and_parts (holds is_built x.0) (cases_built (cases_of r.0) && stmt_built s.0) built in
        let q = and_parts (cases_built (cases_of r.0)) (stmt_built s.0) p.1 in
        let last = back r.1 s.1 (stmt_behind g b in_loop r.1 other) slots in
        let inside = back y r.1 (cases_behind g b in_loop t y cs) last in
        let first = back x.1 y (slot_behind x.1 t) inside in
        let names = (slot_behind x.1 t).named ((value_behind g sc e).named named) in
        and_from (holds ready x.0) (slot_is body.around (length x.1.slots) t && (cases_ready body wanted in_loop (cases_of r.0) && stmt_ready body wanted in_loop s.0)) (ready_so x.0 (value_here sc e named first) p.0)
        (and_from (slot_is body.around (length x.1.slots) t) (cases_ready body wanted in_loop (cases_of r.0) && stmt_ready body wanted in_loop s.0) (last_slot x.1 t inside)
        (and_from (cases_ready body wanted in_loop (cases_of r.0)) (stmt_ready body wanted in_loop s.0) (cases_are_ready in_loop t y cs names last q.0)
        (stmt_is_ready in_loop r.1 other ((cases_behind g b in_loop t y cs).named names) slots q.1)))
    stmt_is_ready in_loop sc (node (form_is.Stmt stmt_is.Return) span (more e none)) named slots built = return_ready_so in_loop sc span e named slots built
    stmt_is_ready in_loop sc (node (form_is.Stmt stmt_is.Break) span none) named slots built = meant_in in_loop
    stmt_is_ready in_loop sc (node (form_is.Stmt stmt_is.Break) span (more t ts)) named slots built = refl
    stmt_is_ready in_loop sc (node (form_is.Stmt stmt_is.Continue) span none) named slots built = meant_in in_loop
    stmt_is_ready in_loop sc (node (form_is.Stmt stmt_is.Continue) span (more t ts)) named slots built = refl
    stmt_is_ready in_loop sc (node (form_is.Stmt stmt_is.Stop) span none) named slots built = never built
    stmt_is_ready in_loop sc (node (form_is.Stmt stmt_is.Stop) span (more t ts)) named slots built = refl
    stmt_is_ready in_loop sc (node (form_is.Stmt stmt_is.Confirm) span none) named slots built = never built
    stmt_is_ready in_loop sc (node (form_is.Stmt stmt_is.Confirm) span (more t ts)) named slots built = refl
    stmt_is_ready in_loop sc (node (form_is.Stmt stmt_is.Reject) span none) named slots built = never built
    stmt_is_ready in_loop sc (node (form_is.Stmt stmt_is.Reject) span (more t ts)) named slots built = refl
    stmt_is_ready in_loop sc (node (form_is.Stmt stmt_is.Print) span ts) named slots built = all_ready_so (values_in g sc ts).0 (values_here sc ts named slots) built
    stmt_is_ready in_loop sc (node (form_is.Stmt stmt_is.Throw) span (more e none)) named slots built = alone_ready sc e named slots built
    stmt_is_ready in_loop sc (node (form_is.Stmt stmt_is.Assert) span (more e (more text none))) named slots built = alone_ready sc e named slots built
    stmt_is_ready in_loop sc (node (form_is.Stmt stmt_is.Add) span (more e none)) named slots built = changed_ready sc e named slots built
    stmt_is_ready in_loop sc (node (form_is.Stmt stmt_is.Delete) span (more e none)) named slots built = changed_ready sc e named slots built
    stmt_is_ready in_loop sc (node (form_is.Stmt stmt_is.Expr) span (more e none)) named slots built = alone_ready sc e named slots built
    stmt_is_ready in_loop sc (node (form_is.Stmt (stmt_is.Assign op)) span (more t (more e none))) named slots built =
        let x = value_in g sc t in
        let y = value_in g x.1 e in
        let u = seen x.0 in
        let value = to_target u y.0 in
        let o = owner x.0 in
        let p = and_parts (holds is_built x.0) (holds is_built value) built in
        let second = back y.1 (with_owner y.1 o) (owner_behind y.1 o) slots in
        let first = back x.1 y.1 (value_behind g x.1 e) second in
        and_from (holds ready x.0) (holds ready value && (is_targeted u value && owner_ready body wanted (owner_slot y.1 o) x.0)) (ready_so x.0 (value_here sc t named first) p.0)
        (and_from (holds ready value) (is_targeted u value && owner_ready body wanted (owner_slot y.1 o) x.0) (ready_so value (here_target body.around u y.0 (value_here x.1 e ((value_behind g sc t).named named) second)) p.1)
        (and_from (is_targeted u value) (owner_ready body wanted (owner_slot y.1 o) x.0) (targeted_made u y.0) (owner_so body.around y.1 x.0 slots)))
    stmt_is_ready in_loop sc _ named slots built = refl

    stmts_are_ready : (in_loop : Bool) (sc : Scope) (ts : Trees) → Named sc → Kept (typed_stmts b g in_loop sc ts).1 → stmts_built (stmts (typed_stmts b g in_loop sc ts).0) ≡ true → stmts_ready body wanted in_loop (stmts (typed_stmts b g in_loop sc ts).0) ≡ true
    stmts_are_ready in_loop sc none named slots built = refl
    stmts_are_ready in_loop sc (more t ts) named slots built =
        let s = typed_stmt b g in_loop sc t in
        let ss = typed_stmts b g in_loop s.1 ts in
        let p = and_parts (stmt_built s.0) (stmts_built (stmts ss.0)) built in
        and_from (stmt_ready body wanted in_loop s.0) (stmts_ready body wanted in_loop (stmts ss.0)) (stmt_is_ready in_loop sc t named (back s.1 ss.1 (stmts_behind g b in_loop s.1 ts) slots) p.0)
        (stmts_are_ready in_loop s.1 ts ((stmt_behind g b in_loop sc t).named named) slots p.1)

    branches_are_ready : (in_loop : Bool) (sc : Scope) (ts : Trees) → Named sc → Kept (typed_branches b g in_loop sc ts).1 → branches_built (branch_row (typed_branches b g in_loop sc ts).0) ≡ true → branches_ready body wanted in_loop (branch_row (typed_branches b g in_loop sc ts).0) ≡ true
    branches_are_ready in_loop sc none named slots built = refl
    branches_are_ready in_loop sc (more t ts) named slots built =
        let x = typed_branch b g in_loop sc t in
        let xs = typed_branches b g in_loop x.1 ts in
        let first = back x.1 xs.1 (branches_behind g b in_loop x.1 ts) slots in
        let p = and_parts (holds is_built x.0.0) (stmt_built x.0.1 && branches_built (branch_row xs.0)) built in
        let q = and_parts (stmt_built x.0.1) (branches_built (branch_row xs.0)) p.1 in
        let own = branch_is_ready in_loop sc t named first p.0 q.0 in
        and_from (holds ready x.0.0) (stmt_ready body wanted in_loop x.0.1 && branches_ready body wanted in_loop (branch_row xs.0)) own.0
        (and_from (stmt_ready body wanted in_loop x.0.1) (branches_ready body wanted in_loop (branch_row xs.0)) own.1 (branches_are_ready in_loop x.1 ts ((branch_behind g b in_loop sc t).named named) slots q.1))

    branch_is_ready : (in_loop : Bool) (sc : Scope) (t : Tree) → Named sc → Kept (typed_branch b g in_loop sc t).1 → holds is_built (typed_branch b g in_loop sc t).0.0 ≡ true → stmt_built (typed_branch b g in_loop sc t).0.1 ≡ true
        → (holds ready (typed_branch b g in_loop sc t).0.0 ≡ true) × (stmt_ready body wanted in_loop (typed_branch b g in_loop sc t).0.1 ≡ true)
    branch_is_ready in_loop sc (node form_is.Branch span (more c (more inner none))) named slots built inner_built =
        let x = value_in g sc c in
        let s = typed_stmt b g in_loop x.1 inner in
        (ready_so x.0 (value_here sc c named (back x.1 s.1 (stmt_behind g b in_loop x.1 inner) slots)) built, stmt_is_ready in_loop x.1 inner ((value_behind g sc c).named named) slots inner_built)
    branch_is_ready in_loop sc _ named slots built inner_built = (refl, refl)

    cases_are_ready : (in_loop : Bool) (t : Ty) (sc : Scope) (ts : Trees) → Named sc → Kept (typed_cases b g in_loop t sc ts).1 → cases_built (cases_of (typed_cases b g in_loop t sc ts).0) ≡ true → cases_ready body wanted in_loop (cases_of (typed_cases b g in_loop t sc ts).0) ≡ true
    cases_are_ready in_loop t sc none named slots built = refl
    cases_are_ready in_loop t sc (more c cs) named slots built =
        let x = typed_case b g in_loop t sc c in
        let xs = typed_cases b g in_loop t x.1 cs in
        let first = back x.1 xs.1 (cases_behind g b in_loop t x.1 cs) slots in
        let p = and_parts (all_hold is_built (exprs x.0.0)) (stmt_built x.0.1 && cases_built (cases_of xs.0)) built in
        let q = and_parts (stmt_built x.0.1) (cases_built (cases_of xs.0)) p.1 in
        let own = case_is_ready in_loop t sc c named first p.0 q.0 in
        and_from (all_hold ready (exprs x.0.0)) (stmt_ready body wanted in_loop x.0.1 && cases_ready body wanted in_loop (cases_of xs.0)) own.0
        (and_from (stmt_ready body wanted in_loop x.0.1) (cases_ready body wanted in_loop (cases_of xs.0)) own.1 (cases_are_ready in_loop t x.1 cs ((case_behind g b in_loop t sc c).named named) slots q.1))

    case_is_ready : (in_loop : Bool) (t : Ty) (sc : Scope) (c : Tree) → Named sc → Kept (typed_case b g in_loop t sc c).1 → all_hold is_built (exprs (typed_case b g in_loop t sc c).0.0) ≡ true → stmt_built (typed_case b g in_loop t sc c).0.1 ≡ true
        → (all_hold ready (exprs (typed_case b g in_loop t sc c).0.0) ≡ true) × (stmt_ready body wanted in_loop (typed_case b g in_loop t sc c).0.1 ≡ true)
    case_is_ready in_loop t sc (node form_is.Case span (more (row es) (more inner none))) named slots built inner_built =
        let xs = values_in g sc es in
        let s = typed_stmt b g in_loop xs.1 inner in
        let here = values_here sc es named (back xs.1 s.1 (stmt_behind g b in_loop xs.1 inner) slots) in
        (all_ready_so (map (taken t) xs.0) (all_here_taken body.around t xs.0 here) built, stmt_is_ready in_loop xs.1 inner ((values_behind g sc es).named named) slots inner_built)
    case_is_ready in_loop t sc _ named slots built inner_built = (refl, refl)

  -- a body
  pub body_is_ready : (slots : List Ty) (t : Tree) → SlotsKept body.around (typed_body b g slots t).1 → stmt_built (typed_body b g slots t).0 ≡ true → stmt_ready body wanted false (typed_body b g slots t).0 ≡ true
  body_is_ready slots (node form_is.Block span ts) have built =
      let sc : Scope = record { locals = []; slots = slots } in
      stmts_are_ready false sc ts tt have built
  body_is_ready slots _ have built = refl
