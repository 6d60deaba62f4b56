-- How events tell what a list of modules declares: its hooks, the members of its units, the labels of its enums with their numbers, and
-- the ranges of its bitfields.
use Rattle.std.specs.Prelude.{ℕ, ◌==◌, List, [], ◌∷◌, ◌++◌, Option, Some, None, codes, slice_get, if◌then◌else◌}
use Rattle.sp_words.specs.Words.{hook_text}
use Rattle.sp_typed_units.specs.declared.declarations.BitRange.{BitRange}
use Rattle.sp_typed_units.specs.declared.declarations.Bitfield.{Bitfield}
use Rattle.sp_typed_units.specs.declared.declarations.Enum.{Enum}
use Rattle.sp_typed_units.specs.declared.declarations.Hook.{Hook}
use Rattle.sp_typed_units.specs.declared.declarations.HookOf.{HookOf}
use Rattle.sp_typed_units.specs.declared.declarations.HookOf.TheVariants as hook_of
use Rattle.sp_typed_units.specs.declared.declarations.Label.{Label}
use Rattle.sp_typed_units.specs.declared.declarations.Member.{Member}
use Rattle.sp_typed_units.specs.declared.declarations.Typed.{Typed}
use Rattle.sp_typed_units.specs.declared.declarations.Unit.{Unit as TypedUnit}
use Rattle.sp_meaning_states.specs.Telling.{Names}
use Rattle.sp_meaning.specs.Globals.{number_of}

-- a name behind that of what it stands in
abbrev pub scoped : List ℕ → List ℕ → List ℕ
scoped x y = x ++ (codes "::" ++ y)

-- that of the elements of a field
abbrev pub of_elements : List ℕ → List ℕ
of_elements x = x ++ codes " foreach"

-- the name of a unit, which stands behind that of its module, and that of a member of it
abbrev pub unit_name : Option TypedUnit → List ℕ
unit_name None = []
unit_name (Some x) = x.path

abbrev pub member_name : Option Member → List ℕ
member_name None = []
member_name (Some m) = m.name

abbrev pub member_of_unit : Option TypedUnit → ℕ → Option Member
member_of_unit None m = None
member_of_unit (Some x) m = slice_get x.members m

-- The name of a hook: that of its unit with its own, as `M::U::%done`, or with that of its field, as `M::U::f`. The hook of a field without
-- a name is named by its unit alone.
module _ (units : List TypedUnit) where
  abbrev pub unit_at : ℕ → Option TypedUnit
  unit_at u = slice_get units u

  abbrev pub field_hook_name : ℕ → ℕ → List ℕ
  field_hook_name u m = scoped (unit_name (unit_at u)) (member_name (member_of_unit (unit_at u) m))

  abbrev pub hook_name : HookOf → List ℕ
  hook_name hook_of.Nothing = []
  hook_name (hook_of.Unit u h) = scoped (unit_name (unit_at u)) (hook_text h)
  hook_name (hook_of.Field u m) = field_hook_name u m
  hook_name (hook_of.Elements u m) = of_elements (field_hook_name u m)
  hook_name (hook_of.Anonymous u) = unit_name (unit_at u)
  hook_name (hook_of.AnonymousElements u) = of_elements (unit_name (unit_at u))

  abbrev pub names_of_hooks : List Hook → List (List ℕ)
  names_of_hooks [] = []
  names_of_hooks (x ∷ xs) = hook_name x.of ∷ names_of_hooks xs

-- the names of the hooks of all bodies, by the numbers of these
abbrev pub hook_names_of : Typed → List (List ℕ)
hook_names_of list = names_of_hooks list.units list.hooks

-- members of a unit
abbrev pub member_names : List Member → List (List ℕ)
member_names [] = []
member_names (m ∷ ms) = m.name ∷ member_names ms

abbrev pub names_of_members : List TypedUnit → List (List (List ℕ))
names_of_members [] = []
names_of_members (x ∷ xs) = member_names x.members ∷ names_of_members xs

-- what stands behind the last colon of a name: the own name of what is named behind its module
abbrev pub behind_colons : List ℕ → List ℕ → List ℕ
behind_colons own [] = own
behind_colons own (b ∷ bs) = behind_colons (if b == 58 then bs else own) bs

abbrev pub own_name : List ℕ → List ℕ
own_name path = behind_colons path path

-- a label by the own name of its enum, as `E::A`
abbrev pub label_names : List ℕ → List Label → List (ℕ × List ℕ)
label_names e [] = []
label_names e (l ∷ ls) = (number_of l.number, scoped e l.name) ∷ label_names e ls

abbrev pub names_of_labels : List Enum → List (List (ℕ × List ℕ))
names_of_labels [] = []
names_of_labels (e ∷ es) = label_names (own_name e.path) e.labels ∷ names_of_labels es

-- ranges of a bitfield
abbrev pub range_names : List BitRange → List (List ℕ)
range_names [] = []
range_names (r ∷ rs) = r.name ∷ range_names rs

abbrev pub names_of_ranges : List Bitfield → List (List (List ℕ))
names_of_ranges [] = []
names_of_ranges (b ∷ bs) = range_names b.ranges ∷ names_of_ranges bs

-- the names with which values are told
abbrev pub value_names_of : Typed → Names
value_names_of list = record { members = names_of_members list.units; labels = names_of_labels list.enums; ranges = names_of_ranges list.bitfields }
