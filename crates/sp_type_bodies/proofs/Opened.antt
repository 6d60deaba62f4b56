-- What statements leave open: the locals before them, behind those that they opened.
use Rattle.std.specs.Prelude.{ℕ, if◌then◌else◌, Bool, true, false, List, [], ◌∷◌, ◌++◌, ◌-◌, drop, length, Option, Some, None, Result, Ok, Err, OnOk, IfOk}
use Rattle.std.proofs.Common.{◌≡◌, refl, sym, ap, ◌∙◌, ◌+◌, append_assoc, arith}
use Rattle.std.proofs.lemmas.List.{length-append}
use Rattle.std.proofs.Math.Seq.{drop-append_seam}
use Rattle.sp_base.specs.declared.places.Span.{Span}
use Rattle.sp_ast.specs.Trees.{Tree, Trees, absent, row, node, none, more}
use Rattle.sp_ast.specs.declared.forms.Form.TheVariants as form_is
use Rattle.sp_ast.specs.declared.forms.StmtForm.TheVariants as stmt_is
use Rattle.sp_types.specs.Types.{Ty}
use Rattle.sp_typed.specs.Exprs.{Expr, Exprs, leaf, one, two, three, many}
use Rattle.sp_typed.specs.Exprs as typed
use Rattle.sp_type_context.specs.declared.places.Place.TheVariants as place_is
use Rattle.sp_type_context.specs.Contexts.{Around}
use Rattle.sp_type_operands.specs.Operands.{unknown}
use Rattle.sp_type_operands.specs.Literals.{seen}
use Rattle.sp_type_context.specs.Typing as typing
use Rattle.sp_type_stmts.specs.declared.body.Body.{Body}
use Rattle.sp_type_stmts.specs.Scopes.{Local, local, Scope, with_slot, closed}
use Rattle.sp_type_stmts.specs.Marks.{back}
use Rattle.sp_type_stmts.specs.Visible.{with_locals}
use Rattle.sp_type_stmts.specs.Owners.{owner, with_owner, changed_owner, kept, all_kept}
use Rattle.sp_type_stmts.specs.Values.{value_in, values_in}
use Rattle.sp_type_stmts.specs.Statements.{written_type, type_or, after_local, local_in, return_in, typed_stmt, typed_stmts, typed_branch, typed_branches, typed_case, typed_cases}

-- expressions open none
owner_locals : (sc : Scope) (t : Option Ty) → (with_owner sc t).locals ≡ sc.locals
owner_locals sc None = refl
owner_locals sc (Some t) = refl

mutual
  kept_locals : (sc : Scope) (e : Expr) → (kept sc e).1.locals ≡ sc.locals
  kept_locals sc (leaf h) = refl
  kept_locals sc (one h a) = kept_locals sc a
  kept_locals sc (two h a b) = kept_locals (kept sc a).1 b ∙ kept_locals sc a
  kept_locals sc (three h a b c) =
      kept_locals (kept (kept sc a).1 b).1 c ∙ kept_locals (kept sc a).1 b ∙ kept_locals sc a
  kept_locals sc (many h es) =
      owner_locals (all_kept sc es).1 (changed_owner h.op (all_kept sc es).0) ∙ all_kept_locals sc es

  all_kept_locals : (sc : Scope) (es : Exprs) → (all_kept sc es).1.locals ≡ sc.locals
  all_kept_locals sc typed.none = refl
  all_kept_locals sc (typed.more e es) = all_kept_locals (kept sc e).1 es ∙ kept_locals sc e

value_locals : (g : Around) (sc : Scope) (t : Tree) → (value_in g sc t).1.locals ≡ sc.locals
value_locals g sc t = kept_locals sc (typing.typed (with_locals sc.locals g) t)

values_locals : (g : Around) (sc : Scope) (ts : Trees) → (values_in g sc ts).1.locals ≡ sc.locals
values_locals g sc none = refl
values_locals g sc (more t ts) = values_locals g (value_in g sc t).1 ts ∙ value_locals g sc t

-- each of these locals is still open
abbrev pub AreLeft : List Local → List Local → Type 0
AreLeft before after = (opened : List Local) × (after ≡ opened ++ before)

after_left : (sc x : Scope) (name : Tree) (ty : Ty) → x.locals ≡ sc.locals → AreLeft sc.locals (after_local x name ty).locals
after_left sc x name ty same =
    let l = local (typing.name_of name) (length x.slots) ty in (l ∷ [], ap (λ ls. l ∷ ls) same)

local_left : (g : Around) (sc : Scope) (span : Span) (name t e : Tree) → AreLeft sc.locals (local_in g sc span name t e).1.locals
local_left g sc span name t absent = after_left sc sc name (type_or (written_type g place_is.Value t) unknown) refl
local_left g sc span name t (row ts) =
    let x = value_in g sc (row ts) in after_left sc x.1 name (type_or (written_type g place_is.Local t) (seen x.0)) (value_locals g sc (row ts))
local_left g sc span name t (node f s ts) =
    let x = value_in g sc (node f s ts) in after_left sc x.1 name (type_or (written_type g place_is.Local t) (seen x.0)) (value_locals g sc (node f s ts))

return_locals : (b : Body) (g : Around) (sc : Scope) (span : Span) (e : Tree) → (return_in b g sc span e).1.locals ≡ sc.locals
return_locals b g sc span absent = refl
return_locals b g sc span (row ts) = value_locals g sc (row ts)
return_locals b g sc span (node f s ts) = value_locals g sc (node f s ts)

stmt_left : (b : Body) (g : Around) (l : Bool) (sc : Scope) (t : Tree) → AreLeft sc.locals (typed_stmt b g l sc t).1.locals
stmt_left b g l sc (node (form_is.Stmt stmt_is.Block) span (more (node form_is.Block at ts) none)) = ([], refl)
stmt_left b g l sc (node (form_is.Stmt stmt_is.Local) span (more name (more t (more e none)))) = local_left g sc span name t e
stmt_left b g l sc (node (form_is.Stmt stmt_is.If) span (more (row bs) (more other none))) = ([], refl)
stmt_left b g l sc (node (form_is.Stmt stmt_is.While) span (more c (more body none))) = ([], refl)
stmt_left b g l sc (node (form_is.Stmt stmt_is.For) span (more name (more e (more body none)))) = ([], refl)
stmt_left b g l sc (node (form_is.Stmt stmt_is.Switch) span (more e (more (row cs) (more other none)))) = ([], refl)
stmt_left b g l sc (node (form_is.Stmt stmt_is.Return) span (more e none)) = ([], return_locals b g sc span e)
stmt_left b g l sc (node (form_is.Stmt stmt_is.Break) span none) = ([], refl)
stmt_left b g l sc (node (form_is.Stmt stmt_is.Continue) span none) = ([], refl)
stmt_left b g l sc (node (form_is.Stmt stmt_is.Stop) span none) = ([], refl)
stmt_left b g l sc (node (form_is.Stmt stmt_is.Confirm) span none) = ([], refl)
stmt_left b g l sc (node (form_is.Stmt stmt_is.Reject) span none) = ([], refl)
stmt_left b g l sc (node (form_is.Stmt stmt_is.Print) span ts) = ([], values_locals g sc ts)
stmt_left b g l sc (node (form_is.Stmt stmt_is.Throw) span (more e none)) = ([], value_locals g sc e)
stmt_left b g l sc (node (form_is.Stmt stmt_is.Assert) span (more e (more text none))) = ([], value_locals g sc e)
stmt_left b g l sc (node (form_is.Stmt stmt_is.Add) span (more e none)) =
    let x = value_in g sc e in ([], owner_locals x.1 (owner x.0) ∙ value_locals g sc e)
stmt_left b g l sc (node (form_is.Stmt stmt_is.Delete) span (more e none)) =
    let x = value_in g sc e in ([], owner_locals x.1 (owner x.0) ∙ value_locals g sc e)
stmt_left b g l sc (node (form_is.Stmt stmt_is.Expr) span (more e none)) = ([], value_locals g sc e)
stmt_left b g l sc (node (form_is.Stmt (stmt_is.Assign op)) span (more t (more e none))) =
    let x = value_in g sc t in
    let y = value_in g x.1 e in
    ([], owner_locals y.1 (owner x.0) ∙ value_locals g x.1 e ∙ value_locals g sc t)
stmt_left b g l sc _ = ([], refl)

stmts_left : (b : Body) (g : Around) (l : Bool) (sc : Scope) (ts : Trees) → AreLeft sc.locals (typed_stmts b g l sc ts).1.locals
stmts_left b g l sc none = ([], refl)
stmts_left b g l sc (more t ts) =
    let one = stmt_left b g l sc t in
    let others = stmts_left b g l (typed_stmt b g l sc t).1 ts in
    (others.0 ++ one.0, others.1 ∙ ap (λ ls. others.0 ++ ls) one.1 ∙ sym (append_assoc others.0 one.0 sc.locals))

branch_locals : (b : Body) (g : Around) (l : Bool) (sc : Scope) (t : Tree) → (typed_branch b g l sc t).1.locals ≡ sc.locals
branch_locals b g l sc (node form_is.Branch span (more c (more body none))) = refl
branch_locals b g l sc _ = refl

branches_locals : (b : Body) (g : Around) (l : Bool) (sc : Scope) (ts : Trees) → (typed_branches b g l sc ts).1.locals ≡ sc.locals
branches_locals b g l sc none = refl
branches_locals b g l sc (more t ts) = branches_locals b g l (typed_branch b g l sc t).1 ts ∙ branch_locals b g l sc t

case_locals : (b : Body) (g : Around) (l : Bool) (ty : Ty) (sc : Scope) (t : Tree) → (typed_case b g l ty sc t).1.locals ≡ sc.locals
case_locals b g l ty sc (node form_is.Case span (more (row es) (more body none))) = refl
case_locals b g l ty sc _ = refl

cases_locals : (b : Body) (g : Around) (l : Bool) (ty : Ty) (sc : Scope) (ts : Trees) → (typed_cases b g l ty sc ts).1.locals ≡ sc.locals
cases_locals b g l ty sc none = refl
cases_locals b g l ty sc (more t ts) = cases_locals b g l ty (typed_case b g l ty sc t).1 ts ∙ case_locals b g l ty sc t

-- closing by how many were open
shut : (before after : Scope) (opened : List Local) → after.locals ≡ opened ++ before.locals
    → back (length before.locals) after ≡ closed before after
shut before after opened is =
    let count : length after.locals - length before.locals ≡ length opened =
    (let sum = ap length is ∙ length-append opened before.locals in omega (arith, sum)) in
    ap (λ ls. record { locals = ls; slots = after.slots })
    (ap (λ n. drop n after.locals) count ∙ ap (drop (length opened)) is ∙ drop-append_seam opened before.locals)

shut_stmt : (b : Body) (g : Around) (l : Bool) (sc inner : Scope) (t : Tree) → AreLeft sc.locals inner.locals
    → back (length sc.locals) (typed_stmt b g l inner t).1 ≡ closed sc (typed_stmt b g l inner t).1
shut_stmt b g l sc inner t before =
    let left = stmt_left b g l inner t in
    shut sc (typed_stmt b g l inner t).1 (left.0 ++ before.0)
    (left.1 ∙ ap (λ ls. left.0 ++ ls) before.1 ∙ sym (append_assoc left.0 before.0 sc.locals))

pub shut_block : (b : Body) (g : Around) (l : Bool) (sc : Scope) (ts : Trees)
    → back (length sc.locals) (typed_stmts b g l sc ts).1 ≡ closed sc (typed_stmts b g l sc ts).1
shut_block b g l sc ts =
    let left = stmts_left b g l sc ts in shut sc (typed_stmts b g l sc ts).1 left.0 left.1

pub shut_value : (b : Body) (g : Around) (l : Bool) (sc : Scope) (c t : Tree)
    → back (length sc.locals) (typed_stmt b g l (value_in g sc c).1 t).1 ≡ closed sc (typed_stmt b g l (value_in g sc c).1 t).1
shut_value b g l sc c t = shut_stmt b g l sc (value_in g sc c).1 t ([], value_locals g sc c)

pub shut_values : (b : Body) (g : Around) (l : Bool) (sc : Scope) (es : Trees) (t : Tree)
    → back (length sc.locals) (typed_stmt b g l (values_in g sc es).1 t).1 ≡ closed sc (typed_stmt b g l (values_in g sc es).1 t).1
shut_values b g l sc es t = shut_stmt b g l sc (values_in g sc es).1 t ([], values_locals g sc es)

pub shut_loop : (b : Body) (g : Around) (sc : Scope) (e name : Tree) (ty : Ty) (t : Tree)
    → back (length sc.locals) (typed_stmt b g true (after_local (value_in g sc e).1 name ty) t).1
    ≡ closed sc (typed_stmt b g true (after_local (value_in g sc e).1 name ty) t).1
shut_loop b g sc e name ty t =
    shut_stmt b g true sc (after_local (value_in g sc e).1 name ty) t (after_left sc (value_in g sc e).1 name ty (value_locals g sc e))

pub shut_if : (b : Body) (g : Around) (l : Bool) (sc : Scope) (bs : Trees) (t : Tree)
    → back (length sc.locals) (typed_stmt b g l (typed_branches b g l sc bs).1 t).1
    ≡ closed sc (typed_stmt b g l (typed_branches b g l sc bs).1 t).1
shut_if b g l sc bs t =
    shut_stmt b g l sc (typed_branches b g l sc bs).1 t ([], branches_locals b g l sc bs)

pub shut_switch : (b : Body) (g : Around) (l : Bool) (sc : Scope) (e : Tree) (ty : Ty) (cs : Trees) (t : Tree)
    → back (length sc.locals) (typed_stmt b g l (typed_cases b g l ty (with_slot (value_in g sc e).1 ty) cs).1 t).1
    ≡ closed sc (typed_stmt b g l (typed_cases b g l ty (with_slot (value_in g sc e).1 ty) cs).1 t).1
shut_switch b g l sc e ty cs t =
    shut_stmt b g l sc (typed_cases b g l ty (with_slot (value_in g sc e).1 ty) cs).1 t
    ([], cases_locals b g l ty (with_slot (value_in g sc e).1 ty) cs ∙ value_locals g sc e)

-- behind a close, the scope is what is asked for
pub closing : (before after new whole : Scope) (mark : ℕ) → mark ≡ length before.locals → new ≡ back mark after → after ≡ whole
    → back (length before.locals) whole ≡ closed before whole → new ≡ closed before whole
closing before after new whole mark count close is shuts =
    close ∙ ap (λ n. back n after) count ∙ ap (back (length before.locals)) is ∙ shuts

pub on_ok : {A E P : Type 0} (r : Result A E) → P → OnOk r P
on_ok (Ok x) p = p
on_ok (Err e) p = tt

pub ok_is : {A E : Type 0} (r : Result A E) (x y : A) → x ≡ y → IfOk r (λ v. v ≡ x) → IfOk r (λ v. v ≡ y)
ok_is (Ok v) x y same is = is ∙ same
ok_is (Err e) x y same is = tt
