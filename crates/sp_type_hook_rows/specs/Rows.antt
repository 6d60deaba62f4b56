-- Rows on which the definitions are run: two modules that import each other, with hooks of a unit in both.
use Rattle.std.specs.Prelude.{ℕ, ℤ, pos, ◌≡◌, Bool, true, false, List, [], ◌∷◌, Option, Some, None, map, codes, refl}
use Rattle.sp_base.specs.declared.places.Span.{Span}
use Rattle.sp_words.specs.declared.words.IntWord.TheVariants as int
use Rattle.sp_words.specs.declared.words.HookName.TheVariants as name_is
use Rattle.sp_ast.specs.Trees.{Tree, absent, in_row, tree}
use Rattle.sp_ast.specs.declared.forms.Form.{Form}
use Rattle.sp_ast.specs.declared.forms.Form.TheVariants as form_is
use Rattle.sp_ast.specs.declared.forms.DeclForm.TheVariants as decl_is
use Rattle.sp_ast.specs.declared.forms.TypeForm.TheVariants as type_is
use Rattle.sp_ast.specs.declared.forms.ItemForm.TheVariants as item_is
use Rattle.sp_ast.specs.declared.forms.TargetForm.TheVariants as target_is
use Rattle.sp_ast.specs.declared.forms.PartForm.TheVariants as part_is
use Rattle.sp_ast.specs.declared.forms.GuardForm.TheVariants as guard_is
use Rattle.sp_ast.specs.declared.forms.BodyForm.TheVariants as body_is
use Rattle.sp_ast.specs.declared.forms.BaseForm.TheVariants as base_is
use Rattle.sp_types.specs.Types.{Ty}
use Rattle.sp_solver.specs.Rounds.{round}
use Rattle.sp_names.specs.Aliases.{tries}
use Rattle.sp_rules.specs.declared.fault.Fault.{Fault}
use Rattle.sp_rules.specs.declared.rule.Rule.TheVariants as rule_is
use Rattle.sp_rules.specs.Least.{checked}
use Rattle.sp_typed_units.specs.declared.declarations.HookOf.{HookOf}
use Rattle.sp_typed_units.specs.declared.declarations.HookOf.TheVariants as of_is
use Rattle.sp_type_hook_order.specs.declared.keys.HookKey.TheVariants as key_is
use Rattle.sp_type_hook_order.specs.Keys.{hooks_of}
use Rattle.sp_type_hook_rows.specs.declared.rows.HookRow.{HookRow}
use Rattle.sp_type_hook_rows.specs.Sites.{sites}
use Rattle.sp_type_hook_rows.specs.HookRows.{hook_rows, keys_of}
use Rattle.sp_type_hook_rows.specs.Tests.{containers, hook_tests}
use Rattle.sp_type_hook_rows.specs.Places.{key_at}

abbrev span : ℕ → Span
span n = record { from = n; to = n }

abbrev of : Form → List Tree → Tree
of form parts = tree form (span 0) parts

abbrev name : List ℕ → Tree
name x = of (form_is.Name x) []

abbrev import : List ℕ → Tree
import x = of (form_is.Decl decl_is.Import) (name x ∷ [])

abbrev type : List ℕ → Tree → Tree
type x t = of (form_is.Decl (decl_is.Type false)) (name x ∷ t ∷ [])

-- a body whose brace stands at a place
abbrev body : Bool → ℕ → Tree
body each n = of (form_is.HookBody each) (absent ∷ tree form_is.Block (span n) [] ∷ [])

abbrev hook : Bool → Tree
hook each = of form_is.Hook (in_row [] ∷ body each 0 ∷ [])

-- `on a { }`, `on %init { }` in a unit, and `on M::U::a { }`, `on U::%done { }` outside
abbrev on_field : ℕ → Bool → List ℕ → Tree
on_field n each x = of (form_is.Item item_is.On) (tree (form_is.Target (target_is.Name x)) (span n) [] ∷ hook each ∷ [])

abbrev on_init : ℕ → Bool → Tree
on_init n each = of (form_is.Item item_is.On) (tree (form_is.Target (target_is.Hook name_is.Init)) (span n) [] ∷ hook each ∷ [])

abbrev on_path : ℕ → List (List ℕ) → Tree
on_path n xs = of (form_is.Decl decl_is.On) (tree form_is.Path (span n) (map name xs) ∷ absent ∷ hook false ∷ [])

abbrev on_done : ℕ → List (List ℕ) → Tree
on_done n xs = of (form_is.Decl decl_is.On) (tree form_is.Path (span n) (map name xs) ∷ of (form_is.HookName name_is.Done) [] ∷ hook false ∷ [])

abbrev field : ℕ → Tree → List Tree → List Tree → Tree
field n x counts bodies =
    of (form_is.Part part_is.Field) (tree form_is.Field (span n) (x ∷ of (form_is.Base base_is.Type) (of (form_is.Type (type_is.Int int.Uint8)) [] ∷ []) ∷ in_row counts ∷ in_row [] ∷ absent ∷ absent ∷ in_row bodies ∷ []) ∷ [])

abbrev item : Tree → Tree
item part = of (form_is.Item item_is.Part) (part ∷ [])

abbrev arm : Tree → Tree
arm part = of form_is.Arm (of (form_is.Guard guard_is.LookAhead) [] ∷ of (form_is.Body body_is.One) (part ∷ []) ∷ [])

-- `on a { }`, `a: uint8[] { } foreach { }`, `: uint8 { } foreach { }`, `on a foreach { }`, `on %init { }`, `var v: bool;`,
-- `on v { }`, `on %init foreach { }`, `switch { -> b: uint8 { } }`, `on b foreach { }`
abbrev unit : Tree
unit =
    of form_is.Unit (in_row [] ∷ in_row (
    on_field 1 false (codes "a")
    ∷ item (field 2 (name (codes "a")) (of form_is.Count (absent ∷ []) ∷ []) (body false 3 ∷ body true 4 ∷ []))
    ∷ item (field 5 absent [] (body false 6 ∷ body true 7 ∷ []))
    ∷ on_field 8 true (codes "a")
    ∷ on_init 9 false
    ∷ of (form_is.Item item_is.Variable) (name (codes "v") ∷ of (form_is.Type type_is.Bool) [] ∷ absent ∷ [])
    ∷ on_field 10 false (codes "v")
    ∷ on_init 11 true
    ∷ item (of (form_is.Part part_is.Switch) (absent ∷ in_row (arm (field 12 (name (codes "b")) [] (body false 13 ∷ [])) ∷ []) ∷ []))
    ∷ on_field 14 true (codes "b")
    ∷ []) ∷ [])

-- module N; import M; type E = unit { }; on M::U::a { } on M::W::%done { } on U::a { } on M::U { } on M::U::a::a { }
abbrev n : Tree
n =
    of form_is.Module (name (codes "N") ∷ in_row (
    import (codes "M")
    ∷ type (codes "E") (of (form_is.Type type_is.Unit) (of form_is.Unit (in_row [] ∷ in_row [] ∷ []) ∷ []))
    ∷ on_path 20 (codes "M" ∷ codes "U" ∷ codes "a" ∷ [])
    ∷ on_done 21 (codes "M" ∷ codes "W" ∷ [])
    ∷ on_path 22 (codes "U" ∷ codes "a" ∷ [])
    ∷ on_path 23 (codes "M" ∷ codes "U" ∷ [])
    ∷ on_path 24 (codes "M" ∷ codes "U" ∷ codes "a" ∷ codes "a" ∷ [])
    ∷ []) ∷ [])

-- module M; on U::b { } type U = unit { .. }; type W = U;
abbrev m : Tree
m =
    of form_is.Module (name (codes "M") ∷ in_row (
    on_path 0 (codes "U" ∷ codes "b" ∷ [])
    ∷ type (codes "U") (of (form_is.Type type_is.Unit) (unit ∷ []))
    ∷ type (codes "W") (of (form_is.Type type_is.Path) (of form_is.Path (name (codes "U") ∷ []) ∷ []))
    ∷ []) ∷ [])

-- N stands before M, and its unit has the number 0
abbrev list : List Tree
list = n ∷ m ∷ []

abbrev answers : ℕ → Option Ty
answers = round (tries list) 3

abbrev all : List HookRow
all = hook_rows list answers

abbrev place : HookRow → ℕ × ℕ
place r = (r.«module», r.span.from)

abbrev hook_of : HookRow → HookOf
hook_of r = r.of

-- module by module in the order of the list, each in the order of its text
places_row : map place all
    ≡ (0, 20) ∷ (0, 21) ∷ (0, 22) ∷ (0, 23) ∷ (0, 24) ∷ (1, 0) ∷ (1, 1) ∷ (1, 3) ∷ (1, 4) ∷ (1, 6) ∷ (1, 7) ∷ (1, 8) ∷ (1, 9) ∷ (1, 10) ∷ (1, 11) ∷ (1, 13) ∷ (1, 14) ∷ []
places_row = refl

-- through the alias W too; a variable, `foreach` on `%init`, and what names no unit or no field are nothing
of_row : map hook_of all
    ≡ of_is.Field 1 0
    ∷ of_is.Unit 1 name_is.Done
    ∷ of_is.Nothing
    ∷ of_is.Nothing
    ∷ of_is.Nothing
    ∷ of_is.Field 1 2
    ∷ of_is.Field 1 0
    ∷ of_is.Field 1 0
    ∷ of_is.Elements 1 0
    ∷ of_is.Anonymous 1
    ∷ of_is.AnonymousElements 1
    ∷ of_is.Elements 1 0
    ∷ of_is.Unit 1 name_is.Init
    ∷ of_is.Nothing
    ∷ of_is.Nothing
    ∷ of_is.Field 1 2
    ∷ of_is.Elements 1 2
    ∷ []
of_row = refl

-- the ranks of all are 0, but for that at 8, which is 1
abbrev ranks : List ℤ
ranks = pos 0 ∷ pos 0 ∷ pos 0 ∷ pos 0 ∷ pos 0 ∷ pos 0 ∷ pos 0 ∷ pos 0 ∷ pos 0 ∷ pos 0 ∷ pos 0 ∷ pos 1 ∷ pos 0 ∷ pos 0 ∷ pos 0 ∷ pos 0 ∷ pos 0 ∷ []

-- the hooks of `a`: of the greater rank first, then that of the other module, which stands first in the list
member_row : hooks_of (keys_of all) ranks (key_is.Member 1 0) ≡ 11 ∷ 0 ∷ 6 ∷ 7 ∷ 8 ∷ []
member_row = refl

-- those of the field behind which they stand
anonymous_row : hooks_of (keys_of all) ranks (key_is.Anonymous 1 5) ≡ 9 ∷ 10 ∷ []
anonymous_row = refl

done_row : hooks_of (keys_of all) ranks (key_is.Unit 1 name_is.Done) ≡ 1 ∷ []
done_row = refl

abbrev least_of : List HookRow → Option Fault
least_of rs = checked None (hook_tests (containers list (sites list)) rs)

-- the first hook of nothing
least_row : least_of all ≡ Some (record { rule = rule_is.UnknownHook; «module» = 0; span = span 22 })
least_row = refl

-- `a` has `[ ]`, and so its two hooks with `foreach` are hooks; an anonymous field without has no elements
containers_row : containers list (sites list) ≡ (1, 0) ∷ []
containers_row = refl

-- A field that has a name stands at that, and not where the field begins. Here all names stand at 0, and the first is `a`.
name_row : key_at list (1, 0) (sites list) ≡ Some (key_is.Member 1 0)
name_row = refl

field_row : key_at list (1, 12) (sites list) ≡ None
field_row = refl

-- an anonymous one stands at its colon

colon_row : key_at list (1, 5) (sites list) ≡ Some (key_is.Anonymous 1 5)
colon_row = refl
