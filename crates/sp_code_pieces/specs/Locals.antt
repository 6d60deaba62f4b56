-- The locals of a unit's own code, by the types of what they keep: each field has those that it asks for, behind those of the fields before it.
use Rattle.std.specs.Prelude.{ℕ, Bool, true, false, List, [], ◌∷◌, ◌++◌, Option, Some, None, is_some, if◌then◌else◌}
use Rattle.sp_numbers.specs.declared.width.Width.TheVariants.{W64}
use Rattle.sp_words.specs.declared.words.AttributeName.TheVariants as name_is
use Rattle.sp_types.specs.declared.words.Word.TheVariants as word_is
use Rattle.sp_types.specs.declared.words.Maker.TheVariants as maker_is
use Rattle.sp_types.specs.Types.{Ty, word, made, none, more}
use Rattle.sp_typed.specs.Exprs.{Expr, type_of}
use Rattle.sp_typed_units.specs.declared.attributes.Attribute.{Attribute}
use Rattle.sp_typed_units.specs.declared.declarations.Hook.{Hook}
use Rattle.sp_typed_units.specs.declared.items.Field.{Field}
use Rattle.sp_typed_units.specs.Specs.{Spec, read, unit_read, list_read, group_read}
use Rattle.sp_typed_units.specs.Parts.{Part, Parts, Arms, field, choice, no_parts, more_parts, no_arms, more_arms}
use Rattle.sp_meaning_units.specs.Attributes.{value_of}
use Rattle.sp_meaning_units.specs.Containers.{Ending, Counted, ending_of}
use Rattle.sp_meaning_units.specs.Fields.{bodies_for}

abbrev pub number_type : Ty
number_type = word (word_is.Uint W64)

abbrev pub vector_type : Ty → Ty
vector_type t = made maker_is.Vector (more t none)

-- the type of what attributes make of a value
abbrev pub type_behind : Option Expr → Ty → Ty
type_behind (Some e) t = type_of e
type_behind None t = t

-- the type of what is read, in front of the `&convert` that stands round it
abbrev pub spec_type : Spec → Ty
spec_type (read r) = r.ty
spec_type (unit_read u es) = word (word_is.Unit u.unit)
spec_type (list_read span s count) = vector_type (spec_type s)
spec_type (group_read span s own) = type_behind (value_of name_is.Convert own) (spec_type s)

-- a type, where something asks for a local of it
abbrev pub where_asked : Bool → Ty → List Ty
where_asked true t = t ∷ []
where_asked false t = []

abbrev pub is_asked : Option Expr → Bool
is_asked e = is_some e

-- for `&convert` what was read, and for `&requires` what that makes of it
abbrev pub finish_locals : List Attribute → Ty → List Ty
finish_locals attributes t =
    where_asked (is_asked (value_of name_is.Convert attributes)) t
    ++ where_asked (is_asked (value_of name_is.Requires attributes)) (type_behind (value_of name_is.Convert attributes) t)

-- a counter and its limit
abbrev pub count_locals : Ending → List Ty
count_locals (Counted e) = number_type ∷ number_type ∷ []
count_locals how = []

-- the offset of an element, unless there are no bodies or that of the field counts
abbrev pub offset_locals : (in_bytes : Bool) → (bodies : List ℕ) → List Ty
offset_locals in_bytes [] = []
offset_locals in_bytes (h ∷ hs) = where_asked (if in_bytes then false else true) number_type

-- what a reading asks for: of a container the count, the offset of an element and the element, and then what its element asks for
abbrev pub spec_locals : (in_bytes : Bool) → (bodies : List ℕ) → List Attribute → Spec → List Ty
spec_locals in_bytes hs attributes (read r) = []
spec_locals in_bytes hs attributes (unit_read u es) = []
spec_locals in_bytes hs attributes (list_read span s count) =
    count_locals (ending_of count attributes) ++ (offset_locals in_bytes hs ++ spec_type s ∷ spec_locals in_bytes [] [] s)
spec_locals in_bytes hs attributes (group_read span s own) = finish_locals own (spec_type s) ++ spec_locals in_bytes [] own s

-- whether a field keeps its offset: for the bodies of its hooks, or while its `&parse-from` is read
abbrev pub keeps_offset : (bodies : List ℕ) → (from : Option Expr) → Bool
keeps_offset [] from = is_asked from
keeps_offset (h ∷ hs) from = true

abbrev pub has_bodies : List ℕ → Bool
has_bodies [] = false
has_bodies (h ∷ hs) = true

-- of a field the offset and the value of its hooks, then what its attributes and its reading ask for
abbrev pub field_locals : List Hook → Field → List Ty
field_locals hooks f =
    where_asked (keeps_offset (bodies_for false hooks f.hooks) (value_of name_is.ParseFrom f.attributes)) number_type
    ++ (where_asked (has_bodies (bodies_for false hooks f.hooks)) (type_behind (value_of name_is.Convert f.attributes) (spec_type f.spec))
    ++ (finish_locals f.attributes (spec_type f.spec)
    ++ spec_locals (is_asked (value_of name_is.ParseFrom f.attributes)) (bodies_for true hooks f.hooks) f.attributes f.spec))

module _ (hooks : List Hook) where
  abbrev mutual
    pub parts_locals : Parts → List Ty
    parts_locals no_parts = []
    parts_locals (more_parts p ps) = part_locals p ++ parts_locals ps

    -- of a switch its subject, and what its arms ask for in turn
    pub part_locals : Part → List Ty
    part_locals (field f) = field_locals hooks f
    part_locals (choice span (Some e) arms) = type_of e ∷ arms_locals arms
    part_locals (choice span None arms) = []

    pub arms_locals : Arms → List Ty
    arms_locals no_arms = []
    arms_locals (more_arms a ps rest) = parts_locals ps ++ arms_locals rest
