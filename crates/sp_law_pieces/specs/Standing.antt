-- What readings have that name only what there is: their expressions see `$$` where there is one.
use Rattle.std.specs.Prelude.{Bool, true, false, List, Option, Some, None}
use Rattle.sp_words.specs.declared.words.AttributeName.{AttributeName}
use Rattle.sp_words.specs.declared.words.AttributeName.TheVariants as name_is
use Rattle.sp_typed.specs.Exprs.{Expr}
use Rattle.sp_typed_units.specs.declared.attributes.Attribute.{Attribute}
use Rattle.sp_typed_units.specs.declared.declarations.Function.{Function}
use Rattle.sp_typed_units.specs.declared.declarations.Typed.{Typed}
use Rattle.sp_typed_units.specs.declared.items.Field.{Field}
use Rattle.sp_typed_units.specs.Specs.{Spec, read, unit_read, list_read, group_read}
use Rattle.sp_law_meaning.specs.Standing.{ExprStands, AllStand, AreHanded}
use Rattle.sp_meaning_units.specs.Attributes.{value_of}

-- attributes whose expressions see a value
abbrev pub sees_value : AttributeName → Bool
sees_value name_is.Convert = true
sees_value name_is.Requires = true
sees_value name_is.Until = true
sees_value name_is.UntilIncluding = true
sees_value name_is.While = true
sees_value name = false

module _ (functions : List Function) where
  -- an expression that may be there
  abbrev pub AskedStands : (has : Bool) → Option Expr → Type 0
  AskedStands has (Some e) = ExprStands has functions e
  AskedStands has None = Unit {0}

  abbrev pub AttributesStand : List Attribute → Type 0
  AttributesStand attributes = (name : AttributeName) → AskedStands (sees_value name) (value_of name attributes)

  abbrev pub SpecStands : Spec → Type 0
  SpecStands (read r) = Unit {0}
  SpecStands (unit_read u es) = AllStand false functions es
  SpecStands (list_read span s count) = AskedStands false count × SpecStands s
  SpecStands (group_read span s own) = AttributesStand own × SpecStands s

-- a field of a list, whose hooks are handed two values
pub record FieldStands (list : Typed) (f : Field) : Type 0 where
  pub attributes : AttributesStand list.functions f.attributes
  pub spec : SpecStands list.functions f.spec
  pub condition : AskedStands list.functions false f.condition
  pub hooks : AreHanded list 2 f.hooks
