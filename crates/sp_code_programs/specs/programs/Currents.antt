-- The kinds of `$$` in the bodies of hooks.
use Rattle.std.specs.Prelude.{ℕ, suc, List, [], ◌∷◌, Option, Some, None, if◌then◌else◌}
use Rattle.sp_words.specs.declared.words.AttributeName.{AttributeName}
use Rattle.sp_words.specs.declared.words.AttributeName.TheVariants.{Convert}
use Rattle.sp_methods.specs.Kinds.{Kind}
use Rattle.sp_types.specs.declared.words.Word.TheVariants as word_is
use Rattle.sp_types.specs.declared.words.Maker.TheVariants as maker_is
use Rattle.sp_types.specs.Types.{Ty, word, made, none, more}
use Rattle.sp_typed.specs.Exprs.{Expr, type_of}
use Rattle.sp_typed_units.specs.declared.attributes.Attribute.{Attribute}
use Rattle.sp_typed_units.specs.declared.declarations.Hook.{Hook}
use Rattle.sp_typed_units.specs.declared.declarations.HookOf.{HookOf}
use Rattle.sp_typed_units.specs.declared.declarations.HookOf.TheVariants as hook_of
use Rattle.sp_typed_units.specs.declared.declarations.Typed.{Typed}
use Rattle.sp_typed_units.specs.declared.declarations.Unit.{Unit as TypedUnit}
use Rattle.sp_typed_units.specs.declared.items.Field.{Field}
use Rattle.sp_typed_units.specs.Specs.{Spec, read, unit_read, list_read, group_read}
use Rattle.sp_typed_units.specs.Parts.{Part, Parts, Arms, field, choice, no_parts, more_parts, no_arms, more_arms, parts}
use Rattle.sp_meaning_states.specs.Scopes.{is_among}
use Rattle.sp_meaning_states.specs.Types.{kind_of_type}
use Rattle.sp_meaning.specs.Globals.{globals_of}

-- what a `&convert` makes of a value of a type; others leave it
abbrev pub unless_convert : AttributeName → Option Expr → Ty → Ty
unless_convert Convert (Some e) t = type_of e
unless_convert name value t = t

-- of several the first one counts
abbrev pub converted_by : List Attribute → Ty → Ty
converted_by [] t = t
converted_by (a ∷ rest) t = unless_convert a.name a.value (converted_by rest t)

-- the type of what is read
abbrev pub read_type : Spec → Ty
read_type (read r) = r.ty
read_type (unit_read x es) = word (word_is.Unit x.unit)
read_type (list_read span s n) = made maker_is.Vector (more (read_type s) none)
read_type (group_read span s attributes) = converted_by attributes (read_type s)

-- the type of the elements of a container; what is none has no elements
abbrev pub element_type : Spec → Ty
element_type (list_read span s n) = read_type s
element_type s = word word_is.Void

-- the first of two fields that is there
abbrev pub earlier : Option Field → Option Field → Option Field
earlier (Some f) o = Some f
earlier None o = o

-- the first field among these parts, and in all that they hold, that has the body of a hook of this number
abbrev mutual
  pub field_in : ℕ → Part → Option Field
  field_in h (field f) = if is_among h f.hooks then Some f else None
  field_in h (choice span subject cs) = field_in_arms h cs

  pub field_in_parts : ℕ → Parts → Option Field
  field_in_parts h no_parts = None
  field_in_parts h (more_parts x xs) = earlier (field_in h x) (field_in_parts h xs)

  pub field_in_arms : ℕ → Arms → Option Field
  field_in_arms h no_arms = None
  field_in_arms h (more_arms c xs cs) = earlier (field_in_parts h xs) (field_in_arms h cs)

-- that of units
abbrev pub hooked_field : ℕ → List TypedUnit → Option Field
hooked_field h [] = None
hooked_field h (x ∷ xs) = earlier (field_in_parts h (parts x.parts)) (hooked_field h xs)

-- What `$$` is in a body of a hook: what the field stores that has the body, or an element of what the field reads. A hook of no field has
-- none.
abbrev pub current_type : HookOf → Option Field → Ty
current_type (hook_of.Field u m) (Some f) = f.ty
current_type (hook_of.Anonymous u) (Some f) = f.ty
current_type (hook_of.Elements u m) (Some f) = element_type f.spec
current_type (hook_of.AnonymousElements u) (Some f) = element_type f.spec
current_type of f = word word_is.Void

abbrev pub current_kind : List ℕ → List TypedUnit → ℕ → Hook → Kind
current_kind ranges units h x = kind_of_type ranges (current_type x.of (hooked_field h units))

-- those of bodies of hooks from a number on
abbrev pub currents_from : List ℕ → List TypedUnit → ℕ → List Hook → List Kind
currents_from ranges units h [] = []
currents_from ranges units h (x ∷ xs) = current_kind ranges units h x ∷ currents_from ranges units (suc h) xs

-- those of all bodies of hooks, by their numbers
abbrev pub currents_of : Typed → List Kind
currents_of list = currents_from (globals_of list).ranges list.units 0 list.hooks
