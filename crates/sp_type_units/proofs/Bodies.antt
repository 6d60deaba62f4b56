-- The names of a unit that come twice, by its number; and what a declaration gives that is a unit, and what one that is none.
use Rattle.std.proofs.Common.{ℕ, ◌≡◌, ◌∙◌, ap, sym, List, [], Option, Some}
use Rattle.std.specs.Prelude.{ℤ}
use Rattle.sp_ast.specs.Trees.{Tree, absent, span_of}
use Rattle.sp_types.specs.Types.{Ty}
use Rattle.sp_type_context.specs.Contexts.{Around}
use Rattle.sp_type_fields.specs.Values.{Values}
use Rattle.sp_typed_units.specs.declared.declarations.Parameter.{Parameter}
use Rattle.sp_type_context.specs.Names.{path_of}
use Rattle.sp_type_scopes.specs.Parameters.{parameters_in}
use Rattle.sp_names.specs.declared.rows.Declaration.{Declaration}
use Rattle.sp_names.specs.Declarations.{name_of, module_name, module_at, type_tree_of}
use Rattle.sp_type_modules.specs.Members.{unit_in, unit_items}
use Rattle.sp_type_modules.specs.Heads.{unit_parameters}
use Rattle.sp_type_modules.specs.Taken.{taken_among, parameter_numbers, member_number, taken_places}
use Rattle.sp_type_hook_order.specs.declared.keys.HookKey.{HookKey}
use Rattle.sp_type_hook_rows.specs.declared.sites.Site.{Site}
use Rattle.sp_type_units.specs.declared.calls.UnitCalls.{UnitCalls}
use Rattle.sp_type_units.specs.declared.tell.Head.{Head}
use Rattle.sp_type_units.specs.declared.unit.Inside.{Inside}
use Rattle.sp_type_units.specs.UnitRows.{type_name, is_public, parameter_trees, inside_unit, row_after, declared_row}
use Rattle.sp_type_units.specs.inside.Insides.{inside_with, unit_with, bare_unit}

pub taken_is : (t : Tree → Ty) (numbered unit : Tree) → numbered ≡ unit
    → taken_among (member_number numbered) t (parameter_numbers (member_number numbered) (unit_parameters unit)) [] (unit_items unit) ≡ taken_places t unit
taken_is t numbered unit e = ap (λ u. taken_among (member_number u) t (parameter_numbers (member_number u) (unit_parameters unit)) [] (unit_items unit)) e

pub bare_is : (list : List Tree) (known : ℕ → Option Ty) (ss : List Site) (hooks : List (Option HookKey) × List ℤ) (v : Values) (calls : UnitCalls) (g : Around) (n : ℕ) (d : Declaration) → unit_in (type_tree_of d.tree) ≡ absent
    → bare_unit list calls d ≡ declared_row list known ss hooks v calls g n (Some d)
bare_is list known ss hooks v calls g n d e = ap (λ u. row_after list known ss hooks v calls n d u g (parameters_in g (parameter_trees u))) (let back : absent ≡ unit_in (type_tree_of d.tree) = sym e in back)

pub row_is : (list : List Tree) (known : ℕ → Option Ty) (ss : List Site) (hooks : List (Option HookKey) × List ℤ) (v : Values) (calls : UnitCalls) (n : ℕ) (d : Declaration) (unit : Tree) (g : Around) (head : Head) (own seen ps : List Parameter) (inside : Inside)
    → head.path ≡ path_of (module_name (module_at list d.«module»)) (name_of (type_name d.tree))
    → head.«module» ≡ d.«module»
    → head.span ≡ span_of (type_name d.tree)
    → head.public ≡ is_public d.tree
    → seen ≡ own
    → own ≡ ps
    → inside ≡ inside_with list known ss hooks v calls n d.«module» unit (inside_unit n seen g)
    → unit_with head own inside ≡ row_after list known ss hooks v calls n d unit g ps
row_is list known ss hooks v calls n d unit g head own seen ps inside path owner span public same is made =
    let whole = inside_with list known ss hooks v calls n d.«module» unit (inside_unit n ps g) in
    ap (λ x. unit_with head own x) (made ∙ ap (λ l. inside_with list known ss hooks v calls n d.«module» unit (inside_unit n l g)) (same ∙ is))
    ∙ ap (λ l. unit_with head l whole) is
    ∙ ap (λ x. unit_with (record { path = x; «module» = head.«module»; span = head.span; public = head.public }) ps whole) path
    ∙ ap (λ x. unit_with (record { path = path_of (module_name (module_at list d.«module»)) (name_of (type_name d.tree)); «module» = x; span = head.span; public = head.public }) ps whole) owner
    ∙ ap (λ x. unit_with (record { path = path_of (module_name (module_at list d.«module»)) (name_of (type_name d.tree)); «module» = d.«module»; span = x; public = head.public }) ps whole) span
    ∙ ap (λ x. unit_with (record { path = path_of (module_name (module_at list d.«module»)) (name_of (type_name d.tree)); «module» = d.«module»; span = span_of (type_name d.tree); public = x }) ps whole) public
