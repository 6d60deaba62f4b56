-- Rows on which the definitions are run: hooks of fields of two names, of an anonymous field, of an event and of nothing.
use Rattle.std.specs.Prelude.{ℕ, ℤ, pos, ◌≡◌, Bool, true, false, List, [], ◌∷◌, Option, Some, None, map, codes, refl}
use Rattle.sp_base.specs.declared.places.Span.{Span}
use Rattle.sp_words.specs.declared.words.AttributeName.TheVariants as name_is
use Rattle.sp_words.specs.declared.words.HookName.TheVariants as event_is
use Rattle.sp_words.specs.declared.words.IntWord.{IntWord}
use Rattle.sp_words.specs.declared.words.IntWord.TheVariants as int
use Rattle.sp_numbers.specs.declared.width.Width.TheVariants.{W8, W16}
use Rattle.sp_ast.specs.Trees.{Tree, absent, in_row, tree}
use Rattle.sp_ast.specs.declared.forms.Form.{Form}
use Rattle.sp_ast.specs.declared.forms.Form.TheVariants as form_is
use Rattle.sp_ast.specs.declared.forms.DeclForm.TheVariants as decl_is
use Rattle.sp_ast.specs.declared.forms.TypeForm.TheVariants as type_is
use Rattle.sp_ast.specs.declared.forms.ItemForm.TheVariants as item_is
use Rattle.sp_ast.specs.declared.forms.TargetForm.TheVariants as target_is
use Rattle.sp_ast.specs.declared.forms.PartForm.TheVariants as part_is
use Rattle.sp_ast.specs.declared.forms.BaseForm.TheVariants as base_is
use Rattle.sp_ast.specs.declared.forms.ExprForm.TheVariants as expr_is
use Rattle.sp_ast.specs.declared.forms.StmtForm.TheVariants as stmt_is
use Rattle.sp_types.specs.Types.{Ty, word, made, tys}
use Rattle.sp_types.specs.declared.words.Word.TheVariants as word_is
use Rattle.sp_types.specs.declared.words.Maker.TheVariants as maker_is
use Rattle.sp_solver.specs.Rounds.{round}
use Rattle.sp_names.specs.Aliases.{tries}
use Rattle.sp_typed.specs.declared.words.LeafOp.{LeafOp}
use Rattle.sp_typed.specs.declared.words.LeafOp.TheVariants as leaf_is
use Rattle.sp_typed.specs.declared.words.Standing.TheVariants as standing_is
use Rattle.sp_typed.specs.declared.stmt_words.ValuedOp.TheVariants as valued_is
use Rattle.sp_typed.specs.Exprs.{Expr, leaf}
use Rattle.sp_typed.specs.Stmts.{Stmt, block, stmts}
use Rattle.sp_typed_units.specs.declared.declarations.Hook.{Hook}
use Rattle.sp_type_context.specs.Contexts.{Around}
use Rattle.sp_type_operands.specs.Operands.{unknown, boolean}
use Rattle.sp_type_context.specs.Typing.{leaf_at}
use Rattle.sp_type_stmts.specs.Statements.{valued_at}
use Rattle.sp_type_fields.specs.Values.{Values}
use Rattle.sp_type_modules.specs.Arounds.{Facts, around}
use Rattle.sp_type_hook_order.specs.declared.keys.HookKey.TheVariants as key_is
use Rattle.sp_type_hook_rows.specs.Sites.{sites}
use Rattle.sp_type_hook_rows.specs.HookRows.{hook_rows}
use Rattle.sp_type_hooks.specs.Fields.{mark_of, one_of, seen_of}
use Rattle.sp_type_hooks.specs.Hooks.{seen_at, typed_hooks, ranks_of}

abbrev span : ℕ → Span
span n = record { from = n; to = n }

abbrev of : Form → List Tree → Tree
of form parts = tree form (span 0) parts

abbrev name : List ℕ → Tree
name x = of (form_is.Name x) []

-- `{ $$; }`, whose brace stands at a place, and with `foreach`
abbrev current : Tree
current = of (form_is.Stmt stmt_is.Expr) (of (form_is.Expr expr_is.Current) [] ∷ [])

abbrev body : Bool → Tree → ℕ → Tree
body each priority n = of (form_is.HookBody each) (priority ∷ tree form_is.Block (span n) (current ∷ []) ∷ [])

abbrev hook : Bool → Tree → Tree
hook each priority = of form_is.Hook (in_row [] ∷ body each priority 0 ∷ [])

abbrev on_field : ℕ → Bool → Tree → List ℕ → Tree
on_field n each priority x = of (form_is.Item item_is.On) (tree (form_is.Target (target_is.Name x)) (span n) [] ∷ hook each priority ∷ [])

abbrev on_init : ℕ → Tree
on_init n = of (form_is.Item item_is.On) (tree (form_is.Target (target_is.Hook event_is.Init)) (span n) [] ∷ hook false absent ∷ [])

abbrev on_path : ℕ → List (List ℕ) → Tree
on_path n xs = of (form_is.Decl decl_is.On) (tree form_is.Path (span n) (map name xs) ∷ absent ∷ hook false absent ∷ [])

abbrev reads : IntWord → Tree
reads w = of (form_is.Base base_is.Type) (of (form_is.Type (type_is.Int w)) [] ∷ [])

abbrev brackets : List Tree
brackets = of form_is.Count (absent ∷ []) ∷ []

-- `&convert=self?.c`
abbrev converted_to_set : List Tree
converted_to_set = of (form_is.Attribute name_is.Convert) (of (form_is.Expr expr_is.SetMember) (of (form_is.Expr expr_is.Itself) [] ∷ name (codes "c") ∷ []) ∷ []) ∷ []

abbrev field : ℕ → Tree → IntWord → List Tree → List Tree → List Tree → Tree
field n x w counts attributes bodies =
    of (form_is.Item item_is.Part) (of (form_is.Part part_is.Field) (tree form_is.Field (span n) (x ∷ reads w ∷ in_row counts ∷ in_row attributes ∷ absent ∷ absent ∷ in_row bodies ∷ []) ∷ []) ∷ [])

-- module M; on V::b { $$; }
-- type U = unit {
--   a: uint8[] { $$; } foreach { $$; }  : uint16[] { $$; } foreach { $$; }  : uint16 foreach { $$; }
--   on b foreach &priority=5 { $$; }  on %init { $$; }
--   b: uint8;  b: uint16[];  c: uint8[] &convert=self?.c foreach { $$; }
--   d: uint8[] &convert=self?.c;  d: uint16[] &convert=self?.c foreach { $$; }
-- };
abbrev module_tree : Tree
module_tree =
    of form_is.Module (name (codes "M") ∷ in_row (
    on_path 0 (codes "V" ∷ codes "b" ∷ [])
    ∷ of (form_is.Decl (decl_is.Type false)) (name (codes "U") ∷ of (form_is.Type type_is.Unit) (of form_is.Unit (in_row [] ∷ in_row (
    field 1 (name (codes "a")) int.Uint8 brackets [] (body false absent 2 ∷ body true absent 3 ∷ [])
    ∷ field 4 absent int.Uint16 brackets [] (body false absent 5 ∷ body true absent 6 ∷ [])
    ∷ field 7 absent int.Uint16 [] [] (body true absent 8 ∷ [])
    ∷ on_field 9 true (of (form_is.Expr (expr_is.Number 5)) []) (codes "b")
    ∷ on_init 10
    ∷ field 11 (name (codes "b")) int.Uint8 [] [] []
    ∷ field 12 (name (codes "b")) int.Uint16 brackets [] []
    ∷ field 13 (name (codes "c")) int.Uint8 brackets converted_to_set (body true absent 14 ∷ [])
    ∷ field 15 (name (codes "d")) int.Uint8 brackets converted_to_set []
    ∷ field 16 (name (codes "d")) int.Uint16 brackets converted_to_set (body true absent 17 ∷ [])
    ∷ []) ∷ []) ∷ []) ∷ [])
    ∷ []) ∷ [])

abbrev list : List Tree
list = module_tree ∷ []

abbrev answers : ℕ → Option Ty
answers = round (tries list) 3

abbrev facts : Facts
facts = record { answers = λ g. None; constant = λ n. unknown; stored = λ n k. unknown; number = λ e. None }

abbrev values : Values
values = record { number = λ e. None; bytes = λ e. None; regex = λ e. None }

abbrev here : Around
here = around list facts 0

abbrev byte : Ty
byte = word (word_is.Uint W8)

abbrev short : Ty
short = word (word_is.Uint W16)

abbrev vector : Ty → Ty
vector t = made maker_is.Vector (tys (t ∷ []))

abbrev seen : ℕ × ℕ × ℕ → Option Ty × Option Ty
seen = seen_of list (here ∷ []) values (sites list)

-- a field with brackets, one without
container_row : seen_at seen (mark_of (Some (key_is.Member 0 0))) ≡ (Some (vector byte), Some byte)
container_row = refl

plain_row : seen_at seen (mark_of (Some (key_is.Anonymous 0 7))) ≡ (Some short, None)
plain_row = refl

-- of fields of one name the first one tells what is stored, and one with brackets what an element is
first_row : seen_at seen (mark_of (Some (key_is.Member 0 1))) ≡ (Some byte, Some short)
first_row = refl

-- elements are read before they are converted
converted_row : seen_at seen (mark_of (Some (key_is.Member 0 2))) ≡ (Some boolean, Some byte)
converted_row = refl

-- elements of different types are none
mixed_row : seen_at seen (mark_of (Some (key_is.Member 0 3))) ≡ (Some boolean, None)
mixed_row = refl

-- of a type that isn't known nothing is asked
one_row : one_of (byte ∷ unknown ∷ byte ∷ []) ≡ Some byte
one_row = refl

-- no field, and no key of one
nothing_row : seen_at seen (mark_of (Some (key_is.Member 0 4))) ≡ (None, None)
nothing_row = refl

event_row : seen_at seen (mark_of (Some (key_is.Unit 0 event_is.Init))) ≡ (None, None)
event_row = refl

-- a number without a sign is what it is worth
abbrev number_of : LeafOp → Option ℤ
number_of (leaf_is.Number k) = Some (pos k)
number_of _ = None

abbrev worth : Expr → Option ℤ
worth (leaf h) = number_of h.op
worth _ = None

abbrev all : List Hook
all = typed_hooks (here ∷ []) worth seen ([] ∷ []) (hook_rows list answers)

abbrev told : Hook → Bool × Stmt
told h = (h.fits, h.body)

-- `{ $$; }`, where `$$` is of a type
abbrev shows : Ty → Stmt
shows t = block (stmts (valued_at (span 0) valued_is.Expr (leaf_at (span 0) t (leaf_is.Current standing_is.Meant)) ∷ []))

abbrev shows_none : Stmt
shows_none = block (stmts (valued_at (span 0) valued_is.Expr (leaf_at (span 0) unknown (leaf_is.Current standing_is.Unmeant)) ∷ []))

-- a hook of nothing; those behind `a`; those of the anonymous fields, the second of which has no elements; of the elements of
-- `b`, whose first field has none; of an event; of the elements of `c`, and of `d`, whose elements are of two types
hooks_row : map told all
    ≡ (true, shows unknown)
    ∷ (true, shows (vector byte))
    ∷ (true, shows byte)
    ∷ (true, shows (vector short))
    ∷ (true, shows short)
    ∷ (false, shows unknown)
    ∷ (true, shows short)
    ∷ (true, shows_none)
    ∷ (true, shows byte)
    ∷ (false, shows unknown)
    ∷ []
hooks_row = refl

ranks_row : ranks_of all ≡ pos 0 ∷ pos 0 ∷ pos 0 ∷ pos 0 ∷ pos 0 ∷ pos 0 ∷ pos 5 ∷ pos 0 ∷ pos 0 ∷ pos 0 ∷ []
ranks_row = refl

-- a module without a context has no hooks
no_context_row : map told (typed_hooks [] worth seen ([] ∷ []) (hook_rows list answers)) ≡ map (λ h. (h.fits, block (stmts []))) all
no_context_row = refl
