-- Rows on which parameters, functions and hooks are run.
use Rattle.std.specs.Prelude.{ℕ, ℤ, pos, ◌≡◌, Bool, true, false, List, [], ◌∷◌, Option, Some, None, codes, refl}
use Rattle.sp_base.specs.declared.places.Span.{Span}
use Rattle.sp_words.specs.declared.words.HookName.{HookName}
use Rattle.sp_words.specs.declared.words.HookName.TheVariants as event_is
use Rattle.sp_words.specs.declared.words.IntWord.TheVariants as int
use Rattle.sp_numbers.specs.declared.width.Width.TheVariants.{W64}
use Rattle.sp_ast.specs.Trees.{Tree, tree, in_row, trees, node, absent}
use Rattle.sp_ast.specs.declared.forms.Form.TheVariants as form_is
use Rattle.sp_ast.specs.declared.forms.ExprForm.{ExprForm}
use Rattle.sp_ast.specs.declared.forms.ExprForm.TheVariants as expr_is
use Rattle.sp_ast.specs.declared.forms.StmtForm.{StmtForm}
use Rattle.sp_ast.specs.declared.forms.StmtForm.TheVariants as stmt_is
use Rattle.sp_ast.specs.declared.forms.TypeForm.{TypeForm}
use Rattle.sp_ast.specs.declared.forms.TypeForm.TheVariants as type_is
use Rattle.sp_ast.specs.declared.forms.DeclForm.TheVariants as decl_is
use Rattle.sp_types.specs.Types.{Ty, word}
use Rattle.sp_types.specs.declared.words.Word.TheVariants as word_is
use Rattle.sp_typed.specs.declared.words.LeafOp.{LeafOp}
use Rattle.sp_typed.specs.declared.words.LeafOp.TheVariants as leaf_is
use Rattle.sp_typed.specs.declared.words.Standing.{Standing}
use Rattle.sp_typed.specs.declared.words.Standing.TheVariants as standing_is
use Rattle.sp_typed.specs.declared.words.Written.{Written}
use Rattle.sp_typed.specs.declared.stmt_words.BareOp.TheVariants as bare_is
use Rattle.sp_typed.specs.declared.stmt_words.ValuedOp.TheVariants as valued_is
use Rattle.sp_typed.specs.Exprs.{Expr, leaf}
use Rattle.sp_typed.specs.Stmts.{Stmt, block, stmts}
use Rattle.sp_typed_units.specs.declared.declarations.Parameter.{Parameter}
use Rattle.sp_typed_units.specs.declared.declarations.Hook.{Hook}
use Rattle.sp_typed_units.specs.declared.declarations.HookOf.{HookOf}
use Rattle.sp_typed_units.specs.declared.declarations.HookOf.TheVariants as hook_of
use Rattle.sp_type_context.specs.Contexts.{Around}
use Rattle.sp_type_operands.specs.Operands.{unknown}
use Rattle.sp_type_context.specs.Typing.{leaf_at}
use Rattle.sp_type_stmts.specs.Statements.{bare_at, valued_at}
use Rattle.sp_type_functions.specs.declared.site.Site.{Site}
use Rattle.sp_type_scopes.specs.Parameters.{parameters_in, with_parameters}
use Rattle.sp_type_functions.specs.Functions.{function_of}
use Rattle.sp_type_functions.specs.Events.{fits}
use Rattle.sp_type_functions.specs.Hooks.{hook_on, hook_behind}

abbrev here : Span
here = record { from = 0; to = 0 }

abbrev long : Ty
long = word (word_is.Uint W64)

abbrev bytes : Ty
bytes = word word_is.Bytes

abbrev unit : Ty
unit = word (word_is.Unit 4)

-- Numbers are uint64, a name is that of a unit, and `string` is a type of which nothing is known.
abbrev type_of : Tree → Ty
type_of (node (form_is.Type (type_is.Int w)) span ts) = long
type_of (node (form_is.Type type_is.Bytes) span ts) = bytes
type_of (node (form_is.Type type_is.Path) span ts) = unit
type_of _ = unknown

abbrev fine : Written
fine = record { span = here; unnamed = None; misplaced = None }

-- a module in which a path means a function, `self` and `$$` aren't meant
abbrev around : Around
around = record {
  path = λ span path. leaf_at span unknown (leaf_is.Function 9);
  named = λ span path. leaf_at span unknown leaf_is.Decoder;
  itself = λ span. leaf_at span unknown (leaf_is.Itself standing_is.Unmeant);
  current = λ span. leaf_at span unknown (leaf_is.Current standing_is.Unmeant);
  type_in = λ place t. type_of t;
  written = λ place t. fine;
  member = λ t x. None;
  method = λ t x span ts. None;
  target = λ op t n. None;
  left_out = λ op span n. [];
  result = λ n. unknown;
  item = λ e. None;
}

-- trees
abbrev name : List ℕ → Tree
name x = tree (form_is.Name x) here []

abbrev type : TypeForm → Tree
type form = tree (form_is.Type form) here []

abbrev number_type : Tree
number_type = type (type_is.Int int.Uint64)

abbrev parameter : Bool → List ℕ → Tree → Tree
parameter inout x t = tree (form_is.Parameter inout) here (name x ∷ t ∷ [])

abbrev expr : ExprForm → List Tree → Tree
expr form parts = tree (form_is.Expr form) here parts

abbrev names : List Tree → Tree
names xs = tree form_is.Path here xs

abbrev path : List ℕ → Tree
path x = expr expr_is.Path (names (name x ∷ []) ∷ [])

abbrev number : ℕ → Tree
number n = expr (expr_is.Number n) []

abbrev stmt : StmtForm → List Tree → Tree
stmt form parts = tree (form_is.Stmt form) here parts

abbrev just : Tree → Tree
just e = stmt stmt_is.Expr (e ∷ [])

abbrev braces : List Tree → Tree
braces ss = tree form_is.Block here ss

abbrev function : List Tree → Tree → List Tree → Tree
function ps result ss =
    tree (form_is.Decl (decl_is.Function false)) here (name (codes "f") ∷ in_row ps ∷ result ∷ braces ss ∷ [])

abbrev body_tree : Bool → Tree → List Tree → Tree
body_tree each priority ss = tree (form_is.HookBody each) here (priority ∷ braces ss ∷ [])

abbrev hook_tree : List Tree → Tree → List Tree → Tree
hook_tree ps priority ss = tree form_is.Hook here (in_row ps ∷ body_tree false priority ss ∷ [])

abbrev a : List ℕ
a = codes "a"

abbrev n : List ℕ
n = codes "n"

abbrev u : List ℕ
u = codes "u"

-- typed parts
abbrev taking : Bool → List ℕ → Ty → Parameter
taking inout x t = record { name = x; span = here; written = fine; ty = t; inout = inout }

abbrev seen : ℕ → Ty → Standing → Expr
seen k t s = leaf_at here t (leaf_is.Parameter k s)

abbrev outside : Expr
outside = leaf_at here unknown (leaf_is.Function 9)

abbrev just_is : Expr → Stmt
just_is e = valued_at here valued_is.Expr e

-- `(a: uint64, inout u: U)`
two_parameters : parameters_in around (trees (parameter false a number_type ∷ parameter true u (type type_is.Path) ∷ []))
    ≡ (taking false a long ∷ taking true u unit ∷ [])
two_parameters = refl

-- A parameter is seen by its name, and the first of two; another name, and a path of two names, mean what they do outside, and so
-- does a path behind `new`.
abbrev inside : Around
inside = with_parameters 2 true (taking false a long ∷ taking false a bytes ∷ taking false n bytes ∷ taking true u unit ∷ []) around

first_of_two : inside.path here (names (name a ∷ [])) ≡ seen 2 long standing_is.Meant
first_of_two = refl

plain_one : inside.path here (names (name n ∷ [])) ≡ seen 4 bytes standing_is.Meant
plain_one = refl

hidden_one : inside.path here (names (name u ∷ [])) ≡ seen 5 unit standing_is.Hidden
hidden_one = refl

other_name : inside.path here (names (name (codes "b") ∷ [])) ≡ outside
other_name = refl

two_names : inside.path here (names (name a ∷ name n ∷ [])) ≡ outside
two_names = refl

behind_new : inside.named here (names (name a ∷ [])) ≡ leaf_at here unknown leaf_is.Decoder
behind_new = refl

-- `function f(a: uint64): bytes { a; local a = $$; a; return a; }` in the module n: the local hides the parameter, and `$$` isn't
-- meant
giving : function_of around n 3 (function (parameter false a number_type ∷ []) (type type_is.Bytes) (just (path a) ∷ stmt stmt_is.Local (name a ∷ absent ∷ expr expr_is.Current [] ∷ []) ∷ just (path a) ∷ []))
    ≡ record {
      path = codes "n::f";
      «module» = 3;
      span = here;
      parameters = taking false a long ∷ [];
      result = bytes;
      written = Some fine;
      slots = unknown ∷ [];
      body = block (stmts (just_is (seen 0 long standing_is.Meant) ∷ valued_at here (valued_is.Local (record { slot = 0; name = here; ty = unknown; written = None; taken = false })) (leaf_at here unknown (leaf_is.Current standing_is.Unmeant)) ∷ just_is (leaf_at here unknown (leaf_is.Local 0)) ∷ []));
    }
giving = refl

-- `function f() { confirm; stop; }`
giving_nothing : function_of around n 3 (function [] absent (stmt stmt_is.Confirm [] ∷ stmt stmt_is.Stop [] ∷ []))
    ≡ record {
      path = codes "n::f";
      «module» = 3;
      span = here;
      parameters = [];
      result = word word_is.Void;
      written = None;
      slots = [];
      body = block (stmts (bare_at here (bare_is.Confirm false) ∷ bare_at here (bare_is.Stop false) ∷ []));
    }
giving_nothing = refl

-- Hooks of the unit 4, which has the parameters `(n: bytes, inout u: U)`, in the module 3.
abbrev of_unit : List Parameter
of_unit = taking false n bytes ∷ taking true u unit ∷ []

abbrev site : HookOf → Site
site of = record { «module» = 3; span = here; of = of; container = true; current = long }

-- a number without a sign is what it is worth
abbrev number_of : LeafOp → Option ℤ
number_of (leaf_is.Number k) = Some (pos k)
number_of _ = None

abbrev worth : Expr → Option ℤ
worth (leaf h) = number_of h.op
worth _ = None

abbrev hook : HookOf → Bool → List Parameter → Option Expr → Option ℤ → List Stmt → Hook
hook of right ps priority rank ss =
    record { «module» = 3; span = here; of = of; fits = right; parameters = ps; priority = priority; rank = rank; slots = []; body = block (stmts ss) }

-- `on %gap(a: uint64, n: uint64) { a; n; u; self; $$; reject; }`: its own parameters come first and hide those of the unit; what
-- isn't plain is hidden, `self` too, and `$$` and `reject` aren't meant
of_a_sink : hook_on around worth (site (hook_of.Unit 4 event_is.Gap)) of_unit (hook_tree (parameter false a number_type ∷ parameter false n number_type ∷ []) absent (just (path a) ∷ just (path n) ∷ just (path u) ∷ just (expr expr_is.Itself []) ∷ just (expr expr_is.Current []) ∷ stmt stmt_is.Reject [] ∷ []))
    ≡ hook (hook_of.Unit 4 event_is.Gap) true (taking false a long ∷ taking false n long ∷ []) None (Some (pos 0)) (just_is (seen 0 long standing_is.Meant) ∷ just_is (seen 1 long standing_is.Meant) ∷ just_is (seen 3 unit standing_is.Hidden) ∷ just_is (leaf_at here unit (leaf_is.Itself standing_is.Hidden)) ∷ just_is (leaf_at here unknown (leaf_is.Current standing_is.Unmeant)) ∷ bare_at here (bare_is.Reject false) ∷ [])
of_a_sink = refl

-- `on %skipped(a: uint64) { n; }`: a plain parameter of the unit is meant, and is numbered behind the hook's own
plain_in_a_sink : hook_on around worth (site (hook_of.Unit 4 event_is.Skipped)) of_unit (hook_tree (parameter false a number_type ∷ []) absent (just (path n) ∷ []))
    ≡ hook (hook_of.Unit 4 event_is.Skipped) true (taking false a long ∷ []) None (Some (pos 0)) (just_is (seen 1 bytes standing_is.Meant) ∷ [])
plain_in_a_sink = refl

-- `on %init &priority = 5 { u; self; $$; confirm; }`
of_an_event : hook_on around worth (site (hook_of.Unit 4 event_is.Init)) of_unit (hook_tree [] (number 5) (just (path u) ∷ just (expr expr_is.Itself []) ∷ just (expr expr_is.Current []) ∷ stmt stmt_is.Confirm [] ∷ []))
    ≡ hook (hook_of.Unit 4 event_is.Init) true [] (Some (leaf_at here (word (word_is.Int W64)) (leaf_is.Number 5))) (Some (pos 5)) (just_is (seen 1 unit standing_is.Meant) ∷ just_is (leaf_at here unit (leaf_is.Itself standing_is.Meant)) ∷ just_is (leaf_at here unknown (leaf_is.Current standing_is.Unmeant)) ∷ bare_at here (bare_is.Confirm true) ∷ [])
of_an_event = refl

-- `on %init &priority = self { }`: `self` is not meant in a priority
itself_in_a_priority : hook_on around worth (site (hook_of.Unit 4 event_is.Init)) of_unit (hook_tree [] (expr expr_is.Itself []) [])
    ≡ hook (hook_of.Unit 4 event_is.Init) true [] (Some (around.itself here)) None []
itself_in_a_priority = refl

-- `{ $$; stop; }` behind a field, and `foreach &priority = n { $$; stop; }` behind one whose elements are uint64
of_a_field : hook_behind around worth (site (hook_of.Field 4 2)) of_unit (body_tree false absent (just (expr expr_is.Current []) ∷ stmt stmt_is.Stop [] ∷ []))
    ≡ hook (hook_of.Field 4 2) true [] None (Some (pos 0)) (just_is (leaf_at here long (leaf_is.Current standing_is.Meant)) ∷ bare_at here (bare_is.Stop false) ∷ [])
of_a_field = refl

of_elements : hook_behind around worth (site (hook_of.AnonymousElements 4)) of_unit (body_tree true (path n) (just (expr expr_is.Current []) ∷ stmt stmt_is.Stop [] ∷ []))
    ≡ hook (hook_of.AnonymousElements 4) true [] (Some (seen 0 bytes standing_is.Meant)) None (just_is (leaf_at here long (leaf_is.Current standing_is.Meant)) ∷ bare_at here (bare_is.Stop true) ∷ [])
of_elements = refl

-- a hook of nothing: nothing is known of `self` and `$$`
of_nothing : hook_on around worth (site hook_of.Nothing) [] (hook_tree [] absent (just (expr expr_is.Itself []) ∷ just (expr expr_is.Current []) ∷ []))
    ≡ hook hook_of.Nothing true [] None (Some (pos 0)) (just_is (leaf_at here unknown (leaf_is.Itself standing_is.Meant)) ∷ just_is (leaf_at here unknown (leaf_is.Current standing_is.Meant)) ∷ [])
of_nothing = refl

-- what fits: the parameters of an event by count, types and without `inout`; nothing is asked of a type that isn't known
abbrev event : HookName → List Parameter → Bool
event e ps = fits (hook_of.Unit 4 e) false false ps

one_too_few : event event_is.Gap (taking false a long ∷ []) ≡ false
one_too_few = refl

changed_in_place : event event_is.Skipped (taking true a long ∷ []) ≡ false
changed_in_place = refl

of_another_type : event event_is.Undelivered (taking false a long ∷ taking false n long ∷ []) ≡ false
of_another_type = refl

unknown_one : event event_is.Overlap (taking false a unknown ∷ taking false n bytes ∷ taking false u bytes ∷ []) ≡ true
unknown_one = refl

told_nothing : event event_is.Done (taking false a long ∷ []) ≡ false
told_nothing = refl

foreach_of_a_unit : fits (hook_of.Unit 4 event_is.Init) true true [] ≡ false
foreach_of_a_unit = refl

no_container : fits (hook_of.Elements 4 2) true false [] ≡ false
no_container = refl

field_with_parameters : fits (hook_of.Field 4 2) false false (taking false a long ∷ []) ≡ false
field_with_parameters = refl
