-- Rows on which the typing of statements is run: locals that end with their block, slots, owners, and where words are meant.
use Rattle.std.specs.Prelude.{ℕ, ◌≡◌, Bool, true, false, if◌then◌else◌, List, [], ◌∷◌, Option, Some, None, codes, refl}
use Rattle.std.specs.Str.{bytes_eq}
use Rattle.sp_base.specs.declared.places.Span.{Span}
use Rattle.sp_words.specs.declared.operators.AssignOp.TheVariants as assign_is
use Rattle.sp_words.specs.declared.methods.Method.TheVariants as method_is
use Rattle.sp_numbers.specs.declared.width.Width.TheVariants.{W8, W16, W64}
use Rattle.sp_ast.specs.Trees.{Tree, tree, in_row, absent}
use Rattle.sp_ast.specs.declared.forms.Form.TheVariants as form_is
use Rattle.sp_ast.specs.declared.forms.ExprForm.{ExprForm}
use Rattle.sp_ast.specs.declared.forms.ExprForm.TheVariants as expr_is
use Rattle.sp_ast.specs.declared.forms.StmtForm.{StmtForm}
use Rattle.sp_ast.specs.declared.forms.StmtForm.TheVariants as stmt_is
use Rattle.sp_ast.specs.declared.forms.TypeForm.TheVariants as type_is
use Rattle.sp_types.specs.Types.{Ty, word, made}
use Rattle.sp_types.specs.Types as types
use Rattle.sp_types.specs.declared.words.Word.TheVariants as word_is
use Rattle.sp_types.specs.declared.words.Maker.TheVariants as maker_is
use Rattle.sp_typed.specs.declared.words.LeafOp.TheVariants as leaf_is
use Rattle.sp_typed.specs.declared.words.OneOp.TheVariants as one_is
use Rattle.sp_typed.specs.declared.words.TwoOp.TheVariants as two_is
use Rattle.sp_typed.specs.declared.words.ManyOp.TheVariants as many_is
use Rattle.sp_typed.specs.declared.words.Standing.TheVariants as standing_is
use Rattle.sp_typed.specs.declared.stmt_words.Local.{Local}
use Rattle.sp_typed.specs.declared.stmt_words.BareOp.TheVariants as bare_is
use Rattle.sp_typed.specs.declared.stmt_words.ValuedOp.TheVariants as valued_is
use Rattle.sp_typed.specs.Exprs.{Expr, none}
use Rattle.sp_typed.specs.Exprs as typed
use Rattle.sp_typed.specs.Stmts.{Stmt, block, branch, while_loop, for_loop, switch, assign, stmts, no_stmts, no_branches, more_branches, no_cases, more_cases}
use Rattle.sp_type_context.specs.Contexts.{Around}
use Rattle.sp_type_operands.specs.Operands.{unknown, boolean}
use Rattle.sp_type_context.specs.Typing.{leaf_at, one_at, two_at, many_at}
use Rattle.sp_type_context.specs.declared.context.Member.{Member}
use Rattle.sp_type_stmts.specs.declared.body.Body.{Body}
use Rattle.sp_type_stmts.specs.Statements.{bare_at, valued_at, typed_body}

abbrev here : Span
here = record { from = 0; to = 0 }

abbrev byte : Ty
byte = word (word_is.Uint W8)

abbrev short : Ty
short = word (word_is.Uint W16)

abbrev long : Ty
long = word (word_is.Uint W64)

abbrev text : Ty
text = word word_is.String

abbrev unit : Ty
unit = word (word_is.Unit 0)

abbrev row_of_bytes : Ty
row_of_bytes = made maker_is.Vector (types.more byte types.none)

abbrev map_of_texts : Ty
map_of_texts = made maker_is.Map (types.more text (types.more short types.none))

-- A unit has itself as member u, a vector of bytes as v, a map as m, and a byte as b. The one written type is uint16.
abbrev member : List ℕ → Option Member
member x =
    if bytes_eq x (codes "u") then Some (record { op = one_is.Field 0; ty = unit }) else
    (if bytes_eq x (codes "v") then Some (record { op = one_is.Variable 1; ty = row_of_bytes }) else
    (if bytes_eq x (codes "m") then Some (record { op = one_is.Variable 2; ty = map_of_texts }) else Some (record { op = one_is.Field 3; ty = byte })))

abbrev around : Around
around = record {
  path = λ span path. leaf_at span unknown leaf_is.Name;
  named = λ span path. leaf_at span unknown leaf_is.Decoder;
  itself = λ span. leaf_at span unit (leaf_is.Itself standing_is.Meant);
  current = λ span. leaf_at span unknown leaf_is.Name;
  type_in = λ place t. short;
  written = λ place t. record { span = here; unnamed = None; misplaced = None };
  member = λ t x. member x;
  method = λ t x span ts. Some (record { op = many_is.Method method_is.PushBack None; ty = word word_is.Void });
  target = λ op t n. Some byte;
  left_out = λ op span n. [];
  result = λ n. unknown;
  item = λ e. None;
}

abbrev hook : Body
hook = record { result = None; in_foreach = false; sees_unit = true }

abbrev giving : Ty → Body
giving t = record { result = Some t; in_foreach = false; sees_unit = false }

-- trees
abbrev name : List ℕ → Tree
name x = tree (form_is.Name x) here []

abbrev expr : ExprForm → List Tree → Tree
expr form parts = tree (form_is.Expr form) here parts

abbrev path : List ℕ → Tree
path x = expr expr_is.Path (tree form_is.Path here (name x ∷ []) ∷ [])

abbrev number : ℕ → Tree
number n = expr (expr_is.Number n) []

abbrev yes : Tree
yes = expr expr_is.True []

abbrev itself : Tree
itself = expr expr_is.Itself []

abbrev dot : Tree → List ℕ → Tree
dot object x = expr expr_is.Member (object ∷ name x ∷ [])

abbrev push : Tree → Tree → Tree
push object e = expr expr_is.Call (dot object (codes "push_back") ∷ in_row (e ∷ []) ∷ [])

abbrev stmt : StmtForm → List Tree → Tree
stmt form parts = tree (form_is.Stmt form) here parts

abbrev braces : List Tree → Tree
braces ss = tree form_is.Block here ss

abbrev inner : List Tree → Tree
inner ss = stmt stmt_is.Block (braces ss ∷ [])

abbrev local_is : List ℕ → Tree → Tree
local_is x e = stmt stmt_is.Local (name x ∷ absent ∷ e ∷ [])

abbrev local_of : List ℕ → Tree → Tree
local_of x e = stmt stmt_is.Local (name x ∷ tree (form_is.Type type_is.Bool) here [] ∷ e ∷ [])

abbrev just : Tree → Tree
just e = stmt stmt_is.Expr (e ∷ [])

abbrev x : List ℕ
x = codes "x"

-- typed parts
abbrev plain_local : ℕ → Ty → Bool → Local
plain_local n t taken = record { slot = n; name = here; ty = t; written = None; taken = taken }

abbrev true_at : Expr
true_at = leaf_at here boolean leaf_is.True

abbrev one_number : Ty → Expr
one_number t = leaf_at here t (leaf_is.Number 1)

abbrev local_at : ℕ → Ty → Expr
local_at n t = leaf_at here t (leaf_is.Local n)

abbrev local_stmt : ℕ → Ty → Bool → Expr → Stmt
local_stmt n t taken e = valued_at here (valued_is.Local (plain_local n t taken)) e

abbrev just_is : Expr → Stmt
just_is e = valued_at here valued_is.Expr e

-- `local x = True; { local x = 1; x; } x;`: each x is the innermost open one, and the second one's name is taken. Each has a
-- slot of its own.
innermost : typed_body hook around [] (braces (local_is x yes ∷ inner (local_is x (number 1) ∷ just (path x) ∷ []) ∷ just (path x) ∷ []))
    ≡ (block (stmts (local_stmt 0 boolean false true_at ∷ block (stmts (local_stmt 1 long true (one_number long) ∷ just_is (local_at 1 long) ∷ [])) ∷ just_is (local_at 0 boolean) ∷ [])), boolean ∷ long ∷ [])
innermost = refl

-- `if (True) local x = 1; x;`: a local that is the whole of an `if` ends with it
whole_of_if : typed_body hook around [] (braces (stmt stmt_is.If (in_row (tree form_is.Branch here (yes ∷ local_is x (number 1) ∷ []) ∷ []) ∷ absent ∷ []) ∷ just (path x) ∷ []))
    ≡ (block (stmts (branch (more_branches true_at (local_stmt 0 long false (one_number long)) no_branches) (block no_stmts) ∷ just_is (leaf_at here unknown leaf_is.Name) ∷ [])), long ∷ [])
whole_of_if = refl

-- `local x = x;`: its value is not yet itself
behind_value : typed_body hook around [] (braces (local_is x (path x) ∷ []))
    ≡ (block (stmts (local_stmt 0 unknown false (leaf_at here unknown leaf_is.Name) ∷ [])), unknown ∷ [])
behind_value = refl

-- `local x: uint16 = self.b;`: the value is widened. The body has a hidden argument in slot 0.
widened_value : typed_body hook around (byte ∷ []) (braces (local_of x (dot itself (codes "b")) ∷ []))
    ≡ (block (stmts (valued_at here (valued_is.Local (record { slot = 1; name = here; ty = short; written = Some (record { span = here; unnamed = None; misplaced = None }); taken = false })) (one_at here short one_is.Widen (one_at here byte (one_is.Field 3) (leaf_at here unit (leaf_is.Itself standing_is.Meant)))) ∷ [])), byte ∷ short ∷ [])
widened_value = refl

-- `for (x in self.m) break;`: pairs of a key and a value, and `break` is meant
over_a_map : typed_body hook around [] (braces (stmt stmt_is.For (name x ∷ dot itself (codes "m") ∷ stmt stmt_is.Break [] ∷ []) ∷ []))
    ≡ (block (stmts (for_loop (record { slot = 0; name = here; ty = made maker_is.Tuple (types.more text (types.more short types.none)); taken = false }) (one_at here map_of_texts (one_is.Variable 2) (leaf_at here unit (leaf_is.Itself standing_is.Meant))) (bare_at here (bare_is.Break true)) ∷ [])), made maker_is.Tuple (types.more text (types.more short types.none)) ∷ [])
over_a_map = refl

-- `switch (self.b) { case 1: break; default: local x = True; }`: the subject has a slot, the literal its type, and `break` is
-- not meant
in_a_switch : typed_body hook around [] (braces (stmt stmt_is.Switch (dot itself (codes "b") ∷ in_row (tree form_is.Case here (in_row (number 1 ∷ []) ∷ stmt stmt_is.Break [] ∷ []) ∷ []) ∷ local_is x yes ∷ []) ∷ []))
    ≡ (block (stmts (switch 0 (one_at here byte (one_is.Field 3) (leaf_at here unit (leaf_is.Itself standing_is.Meant))) (more_cases (typed.more (one_number byte) typed.none) (bare_at here (bare_is.Break false)) no_cases) (local_stmt 1 boolean false true_at) ∷ [])), byte ∷ boolean ∷ [])
in_a_switch = refl

-- `while (True) { stop; reject; continue; }`
in_a_while : typed_body hook around [] (braces (stmt stmt_is.While (yes ∷ inner (stmt stmt_is.Stop [] ∷ stmt stmt_is.Reject [] ∷ stmt stmt_is.Continue [] ∷ []) ∷ []) ∷ []))
    ≡ (block (stmts (while_loop true_at (block (stmts (bare_at here (bare_is.Stop false) ∷ bare_at here (bare_is.Reject true) ∷ bare_at here (bare_is.Continue true) ∷ []))) ∷ [])), [])
in_a_while = refl

-- `return 1;` takes the type of the result, where there is one
returned : typed_body (giving byte) around [] (braces (stmt stmt_is.Return (number 1 ∷ []) ∷ []))
    ≡ (block (stmts (valued_at here valued_is.Return (one_number byte) ∷ [])), [])
returned = refl

returned_by_a_hook : typed_body hook around [] (braces (stmt stmt_is.Return (number 1 ∷ []) ∷ []))
    ≡ (block (stmts (valued_at here valued_is.Return (one_number long) ∷ [])), [])
returned_by_a_hook = refl

-- `self.v.push_back(1); self.u.v.push_back(1);`: `self` is at hand, and its member u is kept
abbrev pushed : Expr → Option ℕ → Expr
pushed object slot =
    many_at here (word word_is.Void) (many_is.Method method_is.PushBack slot) (one_at here row_of_bytes (one_is.Variable 1) object ∷ one_number byte ∷ [])

abbrev self_at : Expr
self_at = leaf_at here unit (leaf_is.Itself standing_is.Meant)

owners : typed_body hook around [] (braces (just (push (dot itself (codes "v")) (number 1)) ∷ just (push (dot (dot itself (codes "u")) (codes "v")) (number 1)) ∷ []))
    ≡ (block (stmts (just_is (pushed self_at None) ∷ just_is (pushed (one_at here unit (one_is.Field 0) self_at) (Some 0)) ∷ [])), unit ∷ [])
owners = refl

-- `self.u.b = 1; delete self.u.m[1];`: two owners in two slots, the element's is that of the container
changed : typed_body hook around [] (braces (stmt (stmt_is.Assign assign_is.Set) (dot (dot itself (codes "u")) (codes "b") ∷ number 1 ∷ []) ∷ stmt stmt_is.Delete (expr expr_is.Index (dot (dot itself (codes "u")) (codes "m") ∷ number 1 ∷ []) ∷ []) ∷ []))
    ≡ (block (stmts (assign (record { op = assign_is.Set; owner = Some 0 }) (one_at here byte (one_is.Field 3) (one_at here unit (one_is.Field 0) self_at)) (one_number byte) ∷ valued_at here (valued_is.Delete (Some 1)) (two_at here short two_is.Index (one_at here map_of_texts (one_is.Variable 2) (one_at here unit (one_is.Field 0) self_at)) (one_number long)) ∷ [])), unit ∷ unit ∷ [])
changed = refl
