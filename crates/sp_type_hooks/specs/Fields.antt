-- What hooks see of the fields on which they hang: what `$$` is, the value or an element.
use Rattle.std.specs.Prelude.{ℕ, Bool, true, false, ◌&&◌, ◌||◌, if◌then◌else◌, List, [], ◌∷◌, Option, Some, None, slice_get}
use Rattle.std.specs.List.{list_any}
use Rattle.sp_ast.specs.Trees.{Tree, row, node, more}
use Rattle.sp_ast.specs.declared.forms.Form.TheVariants as form_is
use Rattle.sp_types.specs.Types.{Ty}
use Rattle.sp_type_context.specs.Contexts.{Around}
use Rattle.sp_type_operands.specs.Operands.{unknown}
use Rattle.sp_type_fields.specs.Values.{Values}
use Rattle.sp_type_fields.specs.Attributes.{element_of}
use Rattle.sp_type_fields.specs.Readings.{counted_read}
use Rattle.sp_type_fields.specs.Fields.{field_type}
use Rattle.sp_type_modules.specs.Taken.{differ}
use Rattle.sp_type_hook_order.specs.declared.keys.HookKey.{HookKey}
use Rattle.sp_type_hook_order.specs.declared.keys.HookKey.TheVariants as key_is
use Rattle.sp_type_hook_order.specs.Keys.{are_same}
use Rattle.sp_type_hook_rows.specs.declared.sites.Holder.{Holder}
use Rattle.sp_type_hook_rows.specs.declared.sites.Holder.TheVariants as holder_is
use Rattle.sp_type_hook_rows.specs.declared.sites.Site.{Site}
use Rattle.sp_type_hook_rows.specs.HookRows.{is_some_tree}
use Rattle.sp_type_hook_rows.specs.Places.{holder_key}
use Rattle.sp_type_hooks.specs.declared.field.FieldType.{FieldType}

-- nothing is known of `$$`
abbrev pub nothing_known : FieldType
nothing_known = record { stored = unknown; element = unknown }

-- the type of an element of what a field reads, before any `&convert` of the field
abbrev pub element_type : Around → Values → Tree → Ty
element_type g v (node form_is.Field span (more name (more base (more (row counts) (more (row ts) rest))))) =
    element_of (counted_read g v base counts).ty
element_type g v t = unknown

-- What `$$` is in the hooks of a field and of its elements, where `g` stands round its expressions.
abbrev pub field_types : Around → Values → Tree → FieldType
field_types g v t = record { stored = field_type g v t; element = element_type g v t }

-- those of a field of a unit: of one that has no context nothing is known
abbrev pub types_in : Option Around → Values → Tree → FieldType
types_in None v t = nothing_known
types_in (Some g) v t = field_types g v t

-- those of a field that stands at a place of hooks, where the units have these contexts
abbrev pub holder_types : List Around → Values → ℕ → Holder → FieldType
holder_types contexts v n (holder_is.Field t) = types_in (slice_get contexts n) v t
holder_types contexts v n _ = nothing_known

-- whether a field has brackets
abbrev pub is_container : Tree → Bool
is_container (node form_is.Field span (more name (more base (more (row counts) ts)))) = is_some_tree counts
is_container t = false

abbrev pub holds_container : Holder → Bool
holds_container (holder_is.Field t) = is_container t
holds_container _ = false

-- The mark of the field on which hooks of a key hang: 1, its unit and the number of its member, or 2, its unit and its place.
abbrev pub mark_of : Option HookKey → Option (ℕ × ℕ × ℕ)
mark_of (Some (key_is.Member n k)) = Some (1, n, k)
mark_of (Some (key_is.Anonymous n place)) = Some (2, n, place)
mark_of _ = None

abbrev pub key_in : Option (ℕ × HookKey) → Option HookKey
key_in None = None
key_in (Some k) = Some k.1

-- the mark of the field that stands at a place of hooks
abbrev pub site_mark : List Tree → Site → Option (ℕ × ℕ × ℕ)
site_mark list s = mark_of (key_in (holder_key list s.unit s.holder))

-- whether a field has a mark
abbrev pub hangs : ℕ × ℕ × ℕ → Option (ℕ × ℕ × ℕ) → Bool
hangs x None = false
hangs x (Some y) = are_same x y

-- the first of two that is there
abbrev pub earlier : Option Ty → Option Ty → Option Ty
earlier None o = o
earlier (Some t) o = Some t

-- the type of a field, where it has a mark
abbrev pub if_marked : ℕ × ℕ × ℕ → Option (ℕ × ℕ × ℕ) → Ty → Option Ty
if_marked x None t = None
if_marked x (Some y) t = if are_same y x then Some t else None

-- What the first field of a mark stores: all fields of one name store the same.
abbrev pub first_stored : List Tree → List Around → Values → ℕ × ℕ × ℕ → List Site → Option Ty
first_stored list contexts v x [] = None
first_stored list contexts v x (s ∷ ss) =
    earlier (if_marked x (site_mark list s) (holder_types contexts v s.unit s.holder).stored) (first_stored list contexts v x ss)

-- one more type, if it is there
abbrev pub added : Bool → Ty → List Ty → List Ty
added true t ts = t ∷ ts
added false t ts = ts

-- What the elements are of the fields of a mark that have brackets.
abbrev pub elements_of : List Tree → List Around → Values → ℕ × ℕ × ℕ → List Site → List Ty
elements_of list contexts v x [] = []
elements_of list contexts v x (s ∷ ss) =
    added (holds_container s.holder && hangs x (site_mark list s)) (holder_types contexts v s.unit s.holder).element (elements_of list contexts v x ss)

-- whether some type is another one, where both are known
abbrev pub some_differ : Ty → List Ty → Bool
some_differ t [] = false
some_differ t (u ∷ us) = differ t u || some_differ t us

-- the one type that all of these are, if there are some and none is another than the first
abbrev pub one_of : List Ty → Option Ty
one_of [] = None
one_of (t ∷ ts) = if some_differ t ts then None else Some t

-- What hooks see of the fields of a mark: what they store, and what an element is of those that have brackets. They see no
-- element where none has brackets, or where elements of two are of different types.
abbrev pub seen_of : List Tree → List Around → Values → List Site → ℕ × ℕ × ℕ → Option Ty × Option Ty
seen_of list contexts v ss x = (first_stored list contexts v x ss, one_of (elements_of list contexts v x ss))

-- whether some of these keys is of a mark
abbrev pub is_asked : List (Option HookKey) → ℕ × ℕ × ℕ → Bool
is_asked keys x = list_any (λ key. hangs x (mark_of key)) keys
