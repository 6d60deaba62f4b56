-- The typed statement that a tree is, in what stands round it.
use Rattle.std.specs.Prelude.{ℕ, Bool, true, false, List, [], ◌∷◌, map, length, is_some, Option, Some, None}
use Rattle.sp_base.specs.declared.places.Span.{Span}
use Rattle.sp_words.specs.declared.operators.AssignOp.{AssignOp}
use Rattle.sp_numbers.specs.declared.width.Width.TheVariants as width
use Rattle.sp_ast.specs.Trees.{Tree, Trees, absent, row, node, none, more}
use Rattle.sp_ast.specs.Trees as read
use Rattle.sp_ast.specs.declared.forms.Form.TheVariants as form_is
use Rattle.sp_ast.specs.declared.forms.StmtForm.TheVariants as stmt_is
use Rattle.sp_types.specs.declared.words.Word.TheVariants as word_is
use Rattle.sp_types.specs.declared.words.Maker.TheVariants as maker_is
use Rattle.sp_types.specs.Types.{Ty, word, made}
use Rattle.sp_typed.specs.declared.words.Written.{Written}
use Rattle.sp_typed.specs.declared.stmt_words.Local.{Local}
use Rattle.sp_typed.specs.declared.stmt_words.BareOp.{BareOp}
use Rattle.sp_typed.specs.declared.stmt_words.BareOp.TheVariants as bare_is
use Rattle.sp_typed.specs.declared.stmt_words.ValuedOp.{ValuedOp}
use Rattle.sp_typed.specs.declared.stmt_words.ValuedOp.TheVariants as valued_is
use Rattle.sp_typed.specs.declared.stmt_words.For.{For}
use Rattle.sp_typed.specs.Exprs.{Expr, exprs}
use Rattle.sp_typed.specs.Stmts.{Stmt, Cases, bare, valued, assign, print, block, branch, while_loop, for_loop, switch, stmts, no_stmts, branch_row, no_cases, more_cases}
use Rattle.sp_type_context.specs.declared.places.Place.{Place}
use Rattle.sp_type_context.specs.declared.places.Place.TheVariants as place_is
use Rattle.sp_type_context.specs.Contexts.{Around}
use Rattle.sp_type_operands.specs.Operands.{unknown, first_type}
use Rattle.sp_type_operands.specs.Literals.{taken, seen}
use Rattle.sp_type_context.specs.Typing.{no_expr, name_of, to_target, to_maybe}
use Rattle.sp_type_stmts.specs.declared.body.Body.{Body}
use Rattle.sp_type_stmts.specs.Scopes.{Scope, found, with_slot, with_local, closed}
use Rattle.sp_type_stmts.specs.Owners.{owner, owner_slot, with_owner}
use Rattle.sp_type_stmts.specs.Values.{value_in, values_in}

-- statements without parts, and with one expression
abbrev pub bare_at : Span → BareOp → Stmt
bare_at span op = bare (record { span = span; op = op })

abbrev pub valued_at : Span → ValuedOp → Expr → Stmt
valued_at span op e = valued (record { span = span; op = op }) e

-- The declaration of a local, which has the next slot. Its name is taken where an open local has it.
abbrev pub declared : Scope → Tree → Ty → Option Written → Local
declared sc name t w =
    record { slot = length sc.slots; name = read.span_of name; ty = t; written = w; taken = is_some (found (name_of name) sc.locals) }

abbrev pub after_local : Scope → Tree → Ty → Scope
after_local sc name t = with_local sc (name_of name) t

-- the type that is written at a place, if one is
abbrev pub written_type : Around → Place → Tree → Option Ty
written_type g place absent = None
written_type g place t = Some (g.type_in place t)

abbrev pub written_of : Around → Place → Tree → Option Written
written_of g place absent = None
written_of g place t = Some (g.written place t)

abbrev pub type_or : Option Ty → Ty → Ty
type_or None t = t
type_or (Some w) t = w

-- A local with a value is seen behind the value alone. Without a written type it has that of its value.
abbrev pub local_with : Scope → Span → Tree → Option Ty → Option Written → Expr → Stmt × Scope
local_with sc span name t w e =
    (valued_at span (valued_is.Local (declared sc name (type_or t (seen e)) w)) (to_maybe t e), after_local sc name (type_or t (seen e)))

abbrev pub local_without : Scope → Span → Tree → Option Ty → Option Written → Stmt × Scope
local_without sc span name t w =
    (bare_at span (bare_is.Local (declared sc name (type_or t unknown) w)), after_local sc name (type_or t unknown))

abbrev pub local_in : Around → Scope → Span → Tree → Tree → Tree → Stmt × Scope
local_in g sc span name t absent = local_without sc span name (written_type g place_is.Value t) (written_of g place_is.Value t)
local_in g sc span name t e =
    let x = value_in g sc e in local_with x.1 span name (written_type g place_is.Local t) (written_of g place_is.Local t) x.0

-- The type of the variable of a `for`: the elements of a vector, the keys of a set, pairs of a key and a value of a map, and
-- the bytes of bytes.
abbrev pub element_type : Ty → Ty
element_type (word word_is.Bytes) = word (word_is.Uint width.W8)
element_type (made maker_is.Vector ts) = first_type ts
element_type (made maker_is.Set ts) = first_type ts
element_type (made maker_is.Map ts) = made maker_is.Tuple ts
element_type _ = unknown

abbrev pub loop_head : Scope → Tree → Ty → For
loop_head sc name t =
    record { slot = length sc.slots; name = read.span_of name; ty = t; taken = is_some (found (name_of name) sc.locals) }

-- `return`, with a value that goes to the type of the result
abbrev pub return_in : Body → Around → Scope → Span → Tree → Stmt × Scope
return_in b g sc span absent = (bare_at span bare_is.Return, sc)
return_in b g sc span e = let x = value_in g sc e in (valued_at span valued_is.Return (to_maybe b.result x.0), x.1)

-- the text behind an assertion, if there is one
abbrev pub text_in : Tree → Option (List ℕ)
text_in (node (form_is.String x) span ts) = Some x
text_in _ = None

-- a statement with one expression of which nothing is asked
abbrev pub valued_in : Around → Scope → Span → ValuedOp → Tree → Stmt × Scope
valued_in g sc span op e = let x = value_in g sc e in (valued_at span op x.0, x.1)

-- `add` and `delete`: the key of a container, whose owner may have to be kept
abbrev pub add_in : Around → Scope → Span → Tree → Stmt × Scope
add_in g sc span e =
    let x = value_in g sc e in
    (valued_at span (valued_is.Add (owner_slot x.1 (owner x.0))) x.0, with_owner x.1 (owner x.0))

abbrev pub delete_in : Around → Scope → Span → Tree → Stmt × Scope
delete_in g sc span e =
    let x = value_in g sc e in
    (valued_at span (valued_is.Delete (owner_slot x.1 (owner x.0))) x.0, with_owner x.1 (owner x.0))

-- An assignment: the value goes to the type of the target. The owner of the target comes last.
abbrev pub assigned : Scope → AssignOp → Expr → Expr → Stmt × Scope
assigned sc op target e =
    (assign (record { op = op; owner = owner_slot sc (owner target) }) target (to_target (seen target) e), with_owner sc (owner target))

abbrev pub assign_in : Around → Scope → AssignOp → Tree → Tree → Stmt × Scope
assign_in g sc op t e = let x = value_in g sc t in let y = value_in g x.1 e in assigned y.1 op x.0 y.0

-- the cases of a switch, by their values
abbrev pub cases_of : List (List Expr × Stmt) → Cases
cases_of [] = no_cases
cases_of (c ∷ cs) = more_cases (exprs c.0) c.1 (cases_of cs)

-- The typed statement of a tree and what is open behind it, a line for each alternative. What is left out is an empty block.
-- A block, and each statement that stands in another, closes the locals that it opened. `in_loop` says whether it is in a loop
-- of its body.
abbrev mutual
  pub typed_stmt : Body → Around → Bool → Scope → Tree → Stmt × Scope
  typed_stmt b g in_loop sc (node (form_is.Stmt stmt_is.Block) span (more (node form_is.Block at ts) none)) =
      let r = typed_stmts b g in_loop sc ts in (block (stmts r.0), closed sc r.1)
  typed_stmt b g in_loop sc (node (form_is.Stmt stmt_is.Local) span (more name (more t (more e none)))) = local_in g sc span name t e
  typed_stmt b g in_loop sc (node (form_is.Stmt stmt_is.If) span (more (row bs) (more other none))) =
      let r = typed_branches b g in_loop sc bs in
      let s = typed_stmt b g in_loop r.1 other in (branch (branch_row r.0) s.0, closed sc s.1)
  typed_stmt b g in_loop sc (node (form_is.Stmt stmt_is.While) span (more c (more body none))) =
      let x = value_in g sc c in
      let s = typed_stmt b g true x.1 body in (while_loop x.0 s.0, closed sc s.1)
  typed_stmt b g in_loop sc (node (form_is.Stmt stmt_is.For) span (more name (more e (more body none)))) =
      let x = value_in g sc e in
      let t = element_type (seen x.0) in
      let s = typed_stmt b g true (after_local x.1 name t) body in (for_loop (loop_head x.1 name t) x.0 s.0, closed sc s.1)
  typed_stmt b g in_loop sc (node (form_is.Stmt stmt_is.Switch) span (more e (more (row cs) (more other none)))) =
      let x = value_in g sc e in
      let r = typed_cases b g in_loop (seen x.0) (with_slot x.1 (seen x.0)) cs in
      let s = typed_stmt b g in_loop r.1 other in (switch (length x.1.slots) x.0 (cases_of r.0) s.0, closed sc s.1)
  typed_stmt b g in_loop sc (node (form_is.Stmt stmt_is.Return) span (more e none)) = return_in b g sc span e
  typed_stmt b g in_loop sc (node (form_is.Stmt stmt_is.Break) span none) = (bare_at span (bare_is.Break in_loop), sc)
  typed_stmt b g in_loop sc (node (form_is.Stmt stmt_is.Continue) span none) = (bare_at span (bare_is.Continue in_loop), sc)
  typed_stmt b g in_loop sc (node (form_is.Stmt stmt_is.Stop) span none) = (bare_at span (bare_is.Stop b.in_foreach), sc)
  typed_stmt b g in_loop sc (node (form_is.Stmt stmt_is.Confirm) span none) = (bare_at span (bare_is.Confirm b.sees_unit), sc)
  typed_stmt b g in_loop sc (node (form_is.Stmt stmt_is.Reject) span none) = (bare_at span (bare_is.Reject b.sees_unit), sc)
  typed_stmt b g in_loop sc (node (form_is.Stmt stmt_is.Print) span ts) =
      let xs = values_in g sc ts in (print span (exprs xs.0), xs.1)
  typed_stmt b g in_loop sc (node (form_is.Stmt stmt_is.Throw) span (more e none)) = valued_in g sc span valued_is.Throw e
  typed_stmt b g in_loop sc (node (form_is.Stmt stmt_is.Assert) span (more e (more text none))) =
      valued_in g sc span (valued_is.Assert (text_in text)) e
  typed_stmt b g in_loop sc (node (form_is.Stmt stmt_is.Add) span (more e none)) = add_in g sc span e
  typed_stmt b g in_loop sc (node (form_is.Stmt stmt_is.Delete) span (more e none)) = delete_in g sc span e
  typed_stmt b g in_loop sc (node (form_is.Stmt stmt_is.Expr) span (more e none)) = valued_in g sc span valued_is.Expr e
  typed_stmt b g in_loop sc (node (form_is.Stmt (stmt_is.Assign op)) span (more t (more e none))) = assign_in g sc op t e
  typed_stmt b g in_loop sc _ = (block no_stmts, sc)

  -- statements one behind another: each sees the locals of those before it
  pub typed_stmts : Body → Around → Bool → Scope → Trees → List Stmt × Scope
  typed_stmts b g in_loop sc none = ([], sc)
  typed_stmts b g in_loop sc (more t ts) =
      let s = typed_stmt b g in_loop sc t in let ss = typed_stmts b g in_loop s.1 ts in (s.0 ∷ ss.0, ss.1)

  -- the conditions of an `if` with their statements
  pub typed_branches : Body → Around → Bool → Scope → Trees → List (Expr × Stmt) × Scope
  typed_branches b g in_loop sc none = ([], sc)
  typed_branches b g in_loop sc (more t ts) =
      let x = typed_branch b g in_loop sc t in
      let xs = typed_branches b g in_loop x.1 ts in (x.0 ∷ xs.0, xs.1)

  pub typed_branch : Body → Around → Bool → Scope → Tree → (Expr × Stmt) × Scope
  typed_branch b g in_loop sc (node form_is.Branch span (more c (more body none))) =
      let x = value_in g sc c in
      let s = typed_stmt b g in_loop x.1 body in ((x.0, s.0), closed sc s.1)
  typed_branch b g in_loop sc _ = ((no_expr, block no_stmts), sc)

  -- the cases of a switch over a subject of this type, which the literals among their values take
  pub typed_cases : Body → Around → Bool → Ty → Scope → Trees → List (List Expr × Stmt) × Scope
  typed_cases b g in_loop t sc none = ([], sc)
  typed_cases b g in_loop t sc (more c cs) =
      let x = typed_case b g in_loop t sc c in
      let xs = typed_cases b g in_loop t x.1 cs in (x.0 ∷ xs.0, xs.1)

  pub typed_case : Body → Around → Bool → Ty → Scope → Tree → (List Expr × Stmt) × Scope
  typed_case b g in_loop t sc (node form_is.Case span (more (row es) (more body none))) =
      let xs = values_in g sc es in
      let s = typed_stmt b g in_loop xs.1 body in ((map (taken t) xs.0, s.0), closed sc s.1)
  typed_case b g in_loop t sc _ = (([], block no_stmts), sc)

-- The typed body that a block is, and the types of all its slots. It has the first slots from outside, of its hidden arguments.
abbrev pub typed_body : Body → Around → List Ty → Tree → Stmt × List Ty
typed_body b g slots (node form_is.Block span ts) =
    let r = typed_stmts b g false (record { locals = []; slots = slots }) ts in (block (stmts r.0), r.1.slots)
typed_body b g slots _ = (block no_stmts, slots)
