-- Rows on which locals, slots and owners are run.
use Rattle.std.specs.Prelude.{ℕ, ◌≡◌, if◌then◌else◌, List, [], ◌∷◌, Option, Some, None, codes, refl}
use Rattle.std.specs.Str.{bytes_eq}
use Rattle.sp_base.specs.declared.places.Span.{Span}
use Rattle.sp_words.specs.declared.methods.Method.TheVariants as method_is
use Rattle.sp_numbers.specs.declared.width.Width.TheVariants.{W8, W16}
use Rattle.sp_ast.specs.Trees.{Tree, tree, trees, in_row}
use Rattle.sp_ast.specs.declared.forms.Form.TheVariants as form_is
use Rattle.sp_ast.specs.declared.forms.ExprForm.{ExprForm}
use Rattle.sp_ast.specs.declared.forms.ExprForm.TheVariants as expr_is
use Rattle.sp_types.specs.Types.{Ty, word, made}
use Rattle.sp_types.specs.Types as types
use Rattle.sp_types.specs.declared.words.Word.TheVariants as word_is
use Rattle.sp_types.specs.declared.words.Maker.TheVariants as maker_is
use Rattle.sp_typed.specs.declared.words.LeafOp.TheVariants as leaf_is
use Rattle.sp_typed.specs.declared.words.OneOp.TheVariants as one_is
use Rattle.sp_typed.specs.declared.words.ManyOp.TheVariants as many_is
use Rattle.sp_typed.specs.declared.words.Standing.TheVariants as standing_is
use Rattle.sp_typed.specs.Exprs.{Expr}
use Rattle.sp_type_context.specs.Contexts.{Around}
use Rattle.sp_type_operands.specs.Operands.{unknown, boolean}
use Rattle.sp_type_context.specs.Typing.{leaf_at, one_at, many_at}
use Rattle.sp_type_context.specs.declared.context.Member.{Member}
use Rattle.sp_type_stmts.specs.Scopes.{Scope, with_slot, with_local, closed}
use Rattle.sp_type_stmts.specs.Marks.{back}
use Rattle.sp_type_stmts.specs.Visible.{with_locals}
use Rattle.sp_type_stmts.specs.Owners.{owner}
use Rattle.sp_type_stmts.specs.Values.{value_in, values_in}

abbrev here : Span
here = record { from = 0; to = 0 }

abbrev byte : Ty
byte = word (word_is.Uint W8)

abbrev short : Ty
short = word (word_is.Uint W16)

abbrev text : Ty
text = word word_is.String

abbrev unit : Ty
unit = word (word_is.Unit 0)

abbrev row_of_bytes : Ty
row_of_bytes = made maker_is.Vector (types.more byte types.none)

abbrev map_of_texts : Ty
map_of_texts = made maker_is.Map (types.more text (types.more short types.none))

-- A unit has itself as member u, a vector of bytes as v, a map as m, and a byte under any other name.
abbrev member : List ℕ → Option Member
member x =
    if bytes_eq x (codes "u") then Some (record { op = one_is.Field 0; ty = unit }) else
    (if bytes_eq x (codes "v") then Some (record { op = one_is.Variable 1; ty = row_of_bytes }) else
    (if bytes_eq x (codes "m") then Some (record { op = one_is.Variable 2; ty = map_of_texts }) else Some (record { op = one_is.Field 3; ty = byte })))

abbrev around : Around
around = record {
  path = λ span path. leaf_at span unknown leaf_is.Name;
  named = λ span path. leaf_at span unknown leaf_is.Decoder;
  itself = λ span. leaf_at span unit (leaf_is.Itself standing_is.Meant);
  current = λ span. leaf_at span unknown leaf_is.Name;
  type_in = λ place t. short;
  written = λ place t. record { span = here; unnamed = None; misplaced = None };
  member = λ t x. member x;
  method = λ t x span ts. Some (record { op = many_is.Method method_is.PushBack None; ty = word word_is.Void });
  target = λ op t n. Some byte;
  left_out = λ op span n. [];
  result = λ n. unknown;
  item = λ e. None;
}

-- trees
abbrev name : List ℕ → Tree
name x = tree (form_is.Name x) here []

abbrev expr : ExprForm → List Tree → Tree
expr form parts = tree (form_is.Expr form) here parts

abbrev path : List ℕ → Tree
path x = expr expr_is.Path (tree form_is.Path here (name x ∷ []) ∷ [])

abbrev number : ℕ → Tree
number n = expr (expr_is.Number n) []

abbrev itself : Tree
itself = expr expr_is.Itself []

abbrev dot : Tree → List ℕ → Tree
dot object x = expr expr_is.Member (object ∷ name x ∷ [])

abbrev push : Tree → Tree → Tree
push object e = expr expr_is.Call (dot object (codes "push_back") ∷ in_row (e ∷ []) ∷ [])

abbrev x : List ℕ
x = codes "x"

-- typed parts
abbrev self_at : Expr
self_at = leaf_at here unit (leaf_is.Itself standing_is.Meant)

abbrev pushed : Expr → Option ℕ → Expr
pushed object slot =
    many_at here (word word_is.Void) (many_is.Method method_is.PushBack slot) (one_at here row_of_bytes (one_is.Variable 1) object ∷ leaf_at here byte (leaf_is.Number 1) ∷ [])

-- a hidden argument in slot 0, a local x of bool in slot 1, and one of its name inside in slot 2
abbrev outer : Scope
outer = with_local (record { locals = []; slots = byte ∷ [] }) x boolean

abbrev deeper : Scope
deeper = with_local outer x short

-- `x` is the innermost one, and behind the block the outer one, though the slots stay
innermost : value_in around deeper (path x) ≡ (leaf_at here short (leaf_is.Local 2), deeper)
innermost = refl

behind_the_block : (value_in around (closed outer deeper) (path x)).0 ≡ leaf_at here boolean (leaf_is.Local 1)
behind_the_block = refl

slots_stay : (closed outer deeper).slots ≡ byte ∷ boolean ∷ short ∷ []
slots_stay = refl

closed_by_count : back 1 deeper ≡ closed outer deeper
closed_by_count = refl

-- another name, and a path of two names, are as outside
other_name : (value_in around deeper (path (codes "y"))).0 ≡ leaf_at here unknown leaf_is.Name
other_name = refl

longer_path : (value_in around deeper (expr expr_is.Path (tree form_is.Path here (name x ∷ name x ∷ []) ∷ []))).0 ≡ leaf_at here unknown leaf_is.Name
longer_path = refl

-- `new x` sees no local
behind_new : (with_locals deeper.locals around).named here (tree form_is.Path here (name x ∷ [])) ≡ leaf_at here unknown leaf_is.Decoder
behind_new = refl

-- `self.v.push_back(1)`: `self` is at hand. `self.u.v.push_back(1)`: the unit that is member u is kept in the next slot.
at_hand : value_in around outer (push (dot itself (codes "v")) (number 1)) ≡ (pushed self_at None, outer)
at_hand = refl

kept_owner : value_in around outer (push (dot (dot itself (codes "u")) (codes "v")) (number 1))
    ≡ (pushed (one_at here unit (one_is.Field 0) self_at) (Some 2), with_slot outer unit)
kept_owner = refl

-- `[self.u.v.push_back(1), self.u.v.push_back(1)]`: two owners in two slots
two_owners : (values_in around outer (trees (push (dot (dot itself (codes "u")) (codes "v")) (number 1) ∷ push (dot (dot itself (codes "u")) (codes "v")) (number 1) ∷ []))).1.slots ≡ byte ∷ boolean ∷ unit ∷ unit ∷ []
two_owners = refl

-- the owner of `self.u.m[x]` is that of the map, and `x` has none
owner_behind_an_index : owner (value_in around outer (expr expr_is.Index (dot (dot itself (codes "u")) (codes "m") ∷ path x ∷ []))).0 ≡ Some unit
owner_behind_an_index = refl

no_owner : owner (value_in around outer (path x)).0 ≡ None
no_owner = refl
