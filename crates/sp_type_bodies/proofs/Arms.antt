-- What each statement in which others stand is, by what its parts are.
use Rattle.std.specs.Prelude.{ℕ, Bool, true, List, [], ◌∷◌, length, Option}
use Rattle.std.proofs.Common.{◌≡◌, refl, sym, ap, ◌∙◌, Global}
use Rattle.std.specs.declared.vec.Vec.{Vec}
use Rattle.sp_base.specs.declared.places.Span.{Span}
use Rattle.sp_ast.specs.Trees.{Tree, tree, trees, in_row}
use Rattle.sp_ast.specs.Views.{optional_tree}
use Rattle.sp_ast.specs.declared.forms.Form.TheVariants as form_is
use Rattle.sp_types.specs.Types.{Ty}
use Rattle.sp_typed.specs.Exprs.{Expr, exprs}
use Rattle.sp_typed.specs.Stmts.{Stmt, block, switch, stmts, case_row, more_cases}
use Rattle.sp_type_context.specs.Contexts.{Around}
use Rattle.sp_type_operands.specs.Literals.{seen}
use Rattle.sp_type_stmts.specs.declared.body.Body.{Body}
use Rattle.sp_type_stmts.specs.Scopes.{Scope, with_slot, closed}
use Rattle.sp_type_stmts.specs.Marks.{back}
use Rattle.sp_type_stmts.specs.Values.{value_in, values_in}
use Rattle.sp_type_stmts.specs.Statements.{after_local, element_type, cases_of, typed_stmt, typed_stmts, typed_branch, typed_branches, typed_case, typed_cases}
use Rattle.sp_type_bodies.specs.inside.Forms.{block_tree, if_tree, while_tree, for_tree, switch_tree, plain_cases}
use Rattle.sp_type_bodies.proofs.Opened.{closing, shut_block, shut_value, shut_values, shut_loop, shut_if, shut_switch}

pub block_is : (b : Body) (g : Around) (l : Bool) (sc : Scope) (t : Tree) (span : Span) (ts : List Tree) (ss : List Stmt)
    → t ≡ tree form_is.Block span ts → ss ≡ (typed_stmts b g l sc (trees ts)).0 → block (stmts ss) ≡ (typed_stmt b g l sc (block_tree t)).0
block_is b g l sc t span ts ss is made =
    ap (λ x. block (stmts x)) made ∙ ap (λ x. (typed_stmt b g l sc (block_tree x)).0) (sym is)

pub block_scope : (b : Body) (g : Around) (l : Bool) (sc after new : Scope) (t : Tree) (span : Span) (ts : List Tree) (mark : ℕ)
    → t ≡ tree form_is.Block span ts → mark ≡ length sc.locals → new ≡ back mark after → after ≡ (typed_stmts b g l sc (trees ts)).1
    → new ≡ (typed_stmt b g l sc (block_tree t)).1
block_scope b g l sc after new t span ts mark is count close made =
    closing sc after new (typed_stmts b g l sc (trees ts)).1 mark count close made (shut_block b g l sc (trees ts))
    ∙ ap (λ x. (typed_stmt b g l sc (block_tree x)).1) (sym is)

pub branch_scope : (b : Body) (g : Around) (l : Bool) (sc mid after new : Scope) (t c body : Tree) (span : Span) (mark : ℕ)
    → tree form_is.Branch span (c ∷ body ∷ []) ≡ t → mark ≡ length sc.locals → mid ≡ (value_in g sc c).1 → after ≡ (typed_stmt b g l mid body).1
    → new ≡ back mark after → new ≡ (typed_branch b g l sc t).1
branch_scope b g l sc mid after new t c body span mark view count behind made close =
    closing sc after new (typed_stmt b g l (value_in g sc c).1 body).1 mark count close (made ∙ ap (λ m. (typed_stmt b g l m body).1) behind) (shut_value b g l sc c body)
    ∙ ap (λ u. (typed_branch b g l sc u).1) view

pub if_scope : (b : Body) (g : Around) (l : Bool) (sc mid after new : Scope) (bs : List Tree) (o : Option Tree) (mark : ℕ)
    → mark ≡ length sc.locals → mid ≡ (typed_branches b g l sc (trees bs)).1 → after ≡ (typed_stmt b g l mid (optional_tree o)).1
    → new ≡ back mark after → new ≡ (typed_stmt b g l sc (if_tree bs o)).1
if_scope b g l sc mid after new bs o mark count behind made close =
    closing sc after new (typed_stmt b g l (typed_branches b g l sc (trees bs)).1 (optional_tree o)).1 mark count close
    (made ∙ ap (λ m. (typed_stmt b g l m (optional_tree o)).1) behind) (shut_if b g l sc (trees bs) (optional_tree o))

pub while_scope : (b : Body) (g : Around) (sc mid after new : Scope) (c t : Tree) (mark : ℕ)
    → mark ≡ length sc.locals → mid ≡ (value_in g sc c).1 → after ≡ (typed_stmt b g true mid t).1 → new ≡ back mark after
    → new ≡ (typed_stmt b g true sc (while_tree c t)).1
while_scope b g sc mid after new c t mark count behind made close =
    closing sc after new (typed_stmt b g true (value_in g sc c).1 t).1 mark count close (made ∙ ap (λ m. (typed_stmt b g true m t).1) behind) (shut_value b g true sc c t)

pub case_scope : (b : Body) (g : Around) (l : Bool) (ty : Ty) (sc mid after new : Scope) (t body : Tree) (es : List Tree) (span : Span) (mark : ℕ)
    → tree form_is.Case span (in_row es ∷ body ∷ []) ≡ t → mark ≡ length sc.locals → mid ≡ (values_in g sc (trees es)).1
    → after ≡ (typed_stmt b g l mid body).1 → new ≡ back mark after → new ≡ (typed_case b g l ty sc t).1
case_scope b g l ty sc mid after new t body es span mark view count behind made close =
    closing sc after new (typed_stmt b g l (values_in g sc (trees es)).1 body).1 mark count close (made ∙ ap (λ m. (typed_stmt b g l m body).1) behind) (shut_values b g l sc (trees es) body)
    ∙ ap (λ u. (typed_case b g l ty sc u).1) view

rows_of_cases : (cs : List (Vec Expr Global × Stmt)) → case_row cs ≡ cases_of (plain_cases cs)
rows_of_cases [] = refl
rows_of_cases (c ∷ cs) = ap (more_cases (exprs c.0.items) c.1) (rows_of_cases cs)

-- the scope of a switch, behind its subject and behind its cases
kept_is : (g : Around) (sc mid kept : Scope) (e : Tree) (ty copied : Ty) (x : Expr)
    → x ≡ (value_in g sc e).0 → mid ≡ (value_in g sc e).1 → ty ≡ seen x → copied ≡ ty → kept ≡ with_slot mid copied
    → kept ≡ with_slot (value_in g sc e).1 (seen (value_in g sc e).0)
kept_is g sc mid kept e ty copied x value behind of_type same slot =
    slot ∙ ap (λ m. with_slot m copied) behind ∙ ap (with_slot (value_in g sc e).1) (same ∙ of_type ∙ ap seen value)

pub switch_is : (b : Body) (g : Around) (l : Bool) (sc mid kept between : Scope) (e : Tree) (cs : List Tree) (o : Option Tree) (number : ℕ) (ty copied : Ty) (x : Expr) (rows : List (Vec Expr Global × Stmt)) (s : Stmt)
    → x ≡ (value_in g sc e).0 → mid ≡ (value_in g sc e).1 → ty ≡ seen x → copied ≡ ty
    → number ≡ length mid.slots → kept ≡ with_slot mid copied
    → plain_cases rows ≡ (typed_cases b g l ty kept (trees cs)).0 → between ≡ (typed_cases b g l ty kept (trees cs)).1
    → s ≡ (typed_stmt b g l between (optional_tree o)).0
    → switch number x (case_row rows) s ≡ (typed_stmt b g l sc (switch_tree e cs o)).0
switch_is b g l sc mid kept between e cs o number ty copied x rows s value behind of_type same slot keeps list after made =
    let v = value_in g sc e in
    let cases : Ty → Scope → List (List Expr × Stmt) × Scope = λ u m. typed_cases b g l u m (trees cs) in
    let all : cases ty kept ≡ cases (seen v.0) (with_slot v.1 (seen v.0)) =
    ap (λ u. cases u kept) (of_type ∙ ap seen value) ∙ ap (cases (seen v.0)) (kept_is g sc mid kept e ty copied x value behind of_type same keeps) in
    ap (λ n. switch n x (case_row rows) s) (slot ∙ ap (λ m. length m.slots) behind)
    ∙ ap (λ z. switch (length v.1.slots) z (case_row rows) s) value
    ∙ ap (λ z. switch (length v.1.slots) v.0 z s) (rows_of_cases rows ∙ ap cases_of (list ∙ ap (λ r. r.0) all))
    ∙ ap (switch (length v.1.slots) v.0 (cases_of (cases (seen v.0) (with_slot v.1 (seen v.0))).0))
    (made ∙ ap (λ m. (typed_stmt b g l m (optional_tree o)).0) (after ∙ ap (λ r. r.1) all))

pub switch_scope : (b : Body) (g : Around) (l : Bool) (sc mid kept between after new : Scope) (e : Tree) (cs : List Tree) (o : Option Tree) (ty copied : Ty) (x : Expr) (mark : ℕ)
    → mark ≡ length sc.locals → x ≡ (value_in g sc e).0 → mid ≡ (value_in g sc e).1 → ty ≡ seen x → copied ≡ ty
    → kept ≡ with_slot mid copied → between ≡ (typed_cases b g l ty kept (trees cs)).1
    → after ≡ (typed_stmt b g l between (optional_tree o)).1 → new ≡ back mark after
    → new ≡ (typed_stmt b g l sc (switch_tree e cs o)).1
switch_scope b g l sc mid kept between after new e cs o ty copied x mark count value behind of_type same keeps cases_behind made close =
    let v = value_in g sc e in
    let cases : Ty → Scope → List (List Expr × Stmt) × Scope = λ u m. typed_cases b g l u m (trees cs) in
    let all : cases ty kept ≡ cases (seen v.0) (with_slot v.1 (seen v.0)) =
    ap (λ u. cases u kept) (of_type ∙ ap seen value) ∙ ap (cases (seen v.0)) (kept_is g sc mid kept e ty copied x value behind of_type same keeps) in
    closing sc after new (typed_stmt b g l (cases (seen v.0) (with_slot v.1 (seen v.0))).1 (optional_tree o)).1 mark count close
    (made ∙ ap (λ m. (typed_stmt b g l m (optional_tree o)).1) (cases_behind ∙ ap (λ r. r.1) all))
    (shut_switch b g l sc e (seen v.0) (trees cs) (optional_tree o))

pub for_scope : (b : Body) (g : Around) (sc mid opened after new : Scope) (name e t : Tree) (x : Expr) (shown ty : Ty) (mark : ℕ)
    → mark ≡ length sc.locals → x ≡ (value_in g sc e).0 → mid ≡ (value_in g sc e).1 → shown ≡ seen x → ty ≡ element_type shown
    → opened ≡ after_local mid name ty → after ≡ (typed_stmt b g true opened t).1 → new ≡ back mark after
    → new ≡ (typed_stmt b g true sc (for_tree name e t)).1
for_scope b g sc mid opened after new name e t x shown ty mark count value behind sees element opens made close =
    let v = value_in g sc e in
    let opened_is : opened ≡ after_local v.1 name (element_type (seen v.0)) =
    opens ∙ ap (λ m. after_local m name ty) behind ∙ ap (after_local v.1 name) (element ∙ ap element_type (sees ∙ ap seen value)) in
    closing sc after new (typed_stmt b g true (after_local v.1 name (element_type (seen v.0))) t).1 mark count close
    (made ∙ ap (λ m. (typed_stmt b g true m t).1) opened_is) (shut_loop b g sc e name (element_type (seen v.0)) t)
