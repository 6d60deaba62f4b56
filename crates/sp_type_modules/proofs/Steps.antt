-- Steps of the loops that make the tables, and what the tables of a number are.
use Rattle.std.proofs.Common.{ℕ, ◌≡◌, ◌+◌, ◌<◌, suc, refl, sym, ap, subst, ◌∙◌, arith, List, [], ◌∷◌, ◌++◌, length, Option, Some, None, slice_get, get_or}
use Rattle.std.proofs.lemmas.List.{append_assoc, append-nil}
use Rattle.std.specs.Prelude.{Result, Ok, Err, IfOk}
use Rattle.sp_base.specs.declared.places.Span.{Span}
use Rattle.sp_ast.specs.Trees.{Tree}
use Rattle.sp_ast.specs.declared.views.types.TypeView.{TypeView}
use Rattle.sp_ast.specs.declared.views.types.TypeView.TheVariants as view
use Rattle.sp_ast.specs.declared.views.unit.UnitView.{UnitView}
use Rattle.sp_ast.specs.TypeViews.{type_tree}
use Rattle.sp_ast.specs.UnitViews.{unit_tree}
use Rattle.sp_types.specs.Types.{Ty}
use Rattle.sp_names.specs.declared.rows.Declaration.{Declaration}
use Rattle.sp_names.specs.declared.rows.Bitfield.{Bitfield}
use Rattle.sp_names.specs.Declarations.{type_tree_of}
use Rattle.sp_type_context.specs.declared.places.Place.TheVariants.{Value}
use Rattle.sp_names.specs.Types.{bitfields}
use Rattle.sp_names.specs.Tables.{IsTable}
use Rattle.sp_names.proofs.Lists.{here, list_of_trees}
use Rattle.sp_type_modules.specs.declared.tables.UnitTable.{UnitTable}
use Rattle.sp_type_modules.specs.declared.tables.FunctionTable.{FunctionTable}
use Rattle.sp_type_modules.specs.declared.tables.BitTable.{BitTable}
use Rattle.sp_type_modules.specs.Members.{unit_in, members_of, declared_unit, unit_declaration, unit_members, first_member, range_name, bitfield_ranges, bitfield_width, tree_of}
use Rattle.sp_type_modules.specs.Heads.{parameter_type, parameter_types, types_of_unit, types_of_function, type_or_void, unit_parameters, result_of, function_declaration}
use Rattle.sp_type_modules.specs.Written.{type_at}
use Rattle.sp_type_modules.specs.Arounds.{width_type}
use Rattle.sp_type_modules.specs.inside.Kept.{IsKept}
use Rattle.sp_name_tables.specs.Tables.{told_by}
use Rattle.sp_type_modules.specs.inside.Tables.{IsUnit, IsFunction, IsBits}
use Rattle.sp_type_modules.proofs.Joining.{length_kinds}

pub one_parameter : (list : List Tree) (f : ℕ → Option Ty) (m : ℕ) (t : Tree) (ts left : List Tree) (old new : List Ty) (u : Ty) → left ≡ t ∷ ts → new ≡ old ++ u ∷ [] → u ≡ parameter_type list f m t
    → new ++ parameter_types list f m ts ≡ old ++ parameter_types list f m left
one_parameter list f m t ts left old new u e n is =
    ap (λ l. l ++ parameter_types list f m ts) n
    ∙ append_assoc old (u ∷ []) (parameter_types list f m ts)
    ∙ ap (λ v. old ++ v ∷ parameter_types list f m ts) is
    ∙ ap (λ l. old ++ parameter_types list f m l) (sym e)

pub all_parameters : (list : List Tree) (f : ℕ → Option Ty) (m : ℕ) (left : List Tree) (types all : List Ty) → left ≡ [] → types ++ parameter_types list f m left ≡ all → types ≡ all
all_parameters list f m left types all e is = sym (append-nil types) ∙ ap (λ l. types ++ parameter_types list f m l) (sym e) ∙ is

-- the members of the next unit stand behind those of one
pub first_more : (list : List Tree) (f : ℕ → Option Ty) (n first count next : ℕ) (table : UnitTable) → first ≡ first_member list n → IsUnit list f n table → count ≡ length table.members.kinds.items → next ≡ first + count
    → next ≡ first_member list (n + 1)
first_more list f n first count next table e is c s =
    let long = length_kinds (unit_members list n) in
    let kinds = ap length is.members_are.kinds_are in
    let up : first_member list (n + 1) ≡ first_member list (suc n) = ap (first_member list) (let z : n + 1 ≡ suc n = omega arith in z) in
    let sum : next ≡ first_member list n + length (unit_members list n) = omega (arith, e, c, s, long, kinds) in
    sum ∙ sym up

kept_by : (o : Option Declaration) (d : Declaration) (t : UnitTable) → Some d ≡ o → IsKept t.members (members_of (unit_in (type_tree_of d.tree))) → IsKept t.members (members_of (declared_unit o))
kept_by o d t e k = subst (λ u. IsKept t.members (members_of (declared_unit u))) e k

pub unit_is : (list : List Tree) (f : ℕ → Option Ty) (n : ℕ) (d : Declaration) (t : UnitTable) (first : ℕ) → Some d ≡ unit_declaration list n → IsKept t.members (members_of (unit_in (type_tree_of d.tree))) → t.first ≡ first
    → t.takes.items ≡ types_of_unit list f (Some d) → first ≡ first_member list n → IsUnit list f n t
unit_is list f n d t first e kept at takes is = record {
  members_are = kept_by (unit_declaration list n) d t e kept;
  first_is = at ∙ is;
  takes_are = takes ∙ ap (types_of_unit list f) e;
}

pub no_unit : (list : List Tree) (f : ℕ → Option Ty) (n : ℕ) (t : UnitTable) (first : ℕ) → None ≡ unit_declaration list n → IsKept t.members [] → t.first ≡ first → t.takes.items ≡ [] → first ≡ first_member list n → IsUnit list f n t
no_unit list f n t first e kept at takes is = record {
  members_are = subst (λ u. IsKept t.members (members_of (declared_unit u))) e kept;
  first_is = at ∙ is;
  takes_are = takes ∙ ap (types_of_unit list f) e;
}

pub function_is : (list : List Tree) (f : ℕ → Option Ty) (n : ℕ) (o : Option Declaration) (t : FunctionTable) → o ≡ function_declaration list n → t.takes.items ≡ types_of_function list f o → t.gives ≡ result_of list f o → IsFunction list f n t
function_is list f n o t e takes gives = record { takes_are = takes ∙ ap (types_of_function list f) e; gives_is = gives ∙ ap (result_of list f) e }

pub bits_are : (list : List Tree) (bs : List Bitfield) (n : ℕ) (b : Bitfield) (t : BitTable) → bs ≡ bitfields list → n < length bs → b ≡ get_or bs n b → IsTable range_name 0 (bitfield_ranges b.tree) (told_by t.ranges)
    → t.width ≡ width_type (bitfield_width b.tree) → IsBits list n t
bits_are list bs n b t e lt at ranges width =
    let stands : Some b ≡ slice_get (bitfields list) n = ap Some at ∙ sym (here bs n b lt) ∙ ap (λ l. slice_get l n) e in
    record {
      ranges_are = subst (λ o. IsTable range_name 0 (bitfield_ranges (tree_of o)) (told_by t.ranges)) stands ranges;
      width_is = width ∙ ap (λ o. width_type (bitfield_width (tree_of o))) stands;
    }

-- a tree that is a type is there
pub written_is : (list : List Tree) (f : ℕ → Option Ty) (m : ℕ) (span : Span) (v : TypeView) (t : Tree) → type_tree span v ≡ t → type_at list f m Value t ≡ type_or_void list f m t
written_is list f m span v t e = sym (ap (type_at list f m Value) e) ∙ by v ∙ ap (type_or_void list f m) e
  where
    by : (v : TypeView) → type_at list f m Value (type_tree span v) ≡ type_or_void list f m (type_tree span v)
    by (view.Path p) = refl
    by _ = refl

pub parameters_are : (span : Span) (v : UnitView) (unit found : Tree) → unit_tree span v ≡ unit → found ≡ unit → v.parameters ≡ unit_parameters found
parameters_are span v unit found e u = sym (list_of_trees v.parameters) ∙ ap unit_parameters (e ∙ sym u)

-- the same of what a call answers, if it does
pub unit_at : {E : Type 0} (r : Result UnitTable E) (list : List Tree) (f : ℕ → Option Ty) (n : ℕ) (d : Declaration) (first : ℕ) → Some d ≡ unit_declaration list n → IfOk r (λ t. IsKept t.members (members_of (unit_in (type_tree_of d.tree)))) → IfOk r (λ t. t.first ≡ first)
    → IfOk r (λ t. t.takes.items ≡ types_of_unit list f (Some d)) → IfOk r (λ t. first ≡ first_member list n → IsUnit list f n t)
unit_at (Ok t) list f n d first e kept at takes = λ is. unit_is list f n d t first e kept at takes is
unit_at (Err x) list f n d first e kept at takes = tt

pub function_at : {E : Type 0} (r : Result FunctionTable E) (list : List Tree) (f : ℕ → Option Ty) (n : ℕ) (d : Declaration) → Some d ≡ function_declaration list n → IfOk r (λ t. t.takes.items ≡ types_of_function list f (Some d))
    → IfOk r (λ t. t.gives ≡ result_of list f (Some d)) → IfOk r (IsFunction list f n)
function_at (Ok t) list f n d e takes gives = function_is list f n (Some d) t e takes gives
function_at (Err x) list f n d e takes gives = tt
