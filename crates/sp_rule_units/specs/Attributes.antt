-- The rules at an attribute: whether it can stand there, whether it has a value, and which others it excludes.
use Rattle.std.specs.Prelude.{ℕ, ◌==◌, Bool, true, false, not, ◌||◌, List, [], ◌∷◌, is_some}
use Rattle.sp_words.specs.declared.words.AttributeName.{AttributeName}
use Rattle.sp_words.specs.declared.words.AttributeName.TheVariants as name_is
use Rattle.sp_rules.specs.declared.rule.Rule.TheVariants as rule_is
use Rattle.sp_rules.specs.declared.fault.Fault.{Fault}
use Rattle.sp_typed_units.specs.declared.attributes.Attribute.{Attribute}
use Rattle.sp_type_fields.specs.declared.roles.Kind.{Kind}
use Rattle.sp_type_fields.specs.declared.roles.Holder.{Holder}
use Rattle.sp_type_fields.specs.Roles.{may_stand}
use Rattle.sp_rules.specs.Faults.{at}

-- the attributes without a value: `&eod`, `&try` and `&synchronize`
abbrev pub takes_value : AttributeName → Bool
takes_value name_is.Eod = false
takes_value name_is.Try = false
takes_value name_is.Synchronize = false
takes_value _ = true

-- a value that is missing, and one that is not wanted
abbrev pub is_misvalued : Bool → Bool → Bool
is_misvalued true has = not has
is_misvalued false has = has

-- The attributes that one excludes, as its line of the table has them. What one excludes also excludes it.
abbrev pub excluded : AttributeName → List AttributeName
excluded name_is.Size = name_is.Eod ∷ []
excluded name_is.MaxSize = name_is.Size ∷ []
excluded name_is.Eod = name_is.Until ∷ name_is.UntilIncluding ∷ name_is.While ∷ name_is.Size ∷ []
excluded name_is.Until = name_is.UntilIncluding ∷ name_is.While ∷ name_is.Eod ∷ []
excluded name_is.UntilIncluding = name_is.Until ∷ name_is.While ∷ name_is.Eod ∷ []
excluded name_is.While = name_is.Until ∷ name_is.UntilIncluding ∷ name_is.Eod ∷ []
excluded name_is.ParseFrom = name_is.ParseAt ∷ name_is.Synchronize ∷ []
excluded name_is.ParseAt = name_is.ParseFrom ∷ name_is.Synchronize ∷ []
excluded name_is.Synchronize = name_is.ParseFrom ∷ name_is.ParseAt ∷ []
excluded _ = []

-- which attribute it is, by its line of the table
abbrev pub line_of : AttributeName → ℕ
line_of name_is.Size = 0
line_of name_is.MaxSize = 1
line_of name_is.Eod = 2
line_of name_is.Until = 3
line_of name_is.UntilIncluding = 4
line_of name_is.While = 5
line_of name_is.Convert = 6
line_of name_is.Requires = 7
line_of name_is.Default = 8
line_of name_is.ByteOrder = 9
line_of name_is.BitOrder = 10
line_of name_is.ParseFrom = 11
line_of name_is.ParseAt = 12
line_of name_is.Try = 13
line_of name_is.Synchronize = 14

abbrev pub same_name : AttributeName → AttributeName → Bool
same_name a b = line_of a == line_of b

abbrev pub is_among : AttributeName → List AttributeName → Bool
is_among a [] = false
is_among a (b ∷ bs) = same_name a b || is_among a bs

-- whether two can't stand together: twice the same, or one excludes the other
abbrev pub clash : AttributeName → AttributeName → Bool
clash a b = same_name a b || (is_among b (excluded a) || is_among a (excluded b))

abbrev pub clashes : AttributeName → List Attribute → Bool
clashes name [] = false
clashes name (a ∷ rest) = clash name a.name || clashes name rest

-- the tests at an attribute, with those before it
abbrev pub attribute_tests : ℕ → Holder → Kind → List Attribute → Attribute → List (Bool × Fault)
attribute_tests m h k earlier a =
    (not (may_stand h k a.name), at m rule_is.BadAttribute a.span) ∷ ((is_misvalued (takes_value a.name) (is_some a.value), at m rule_is.BadAttribute a.span) ∷ ((clashes a.name earlier, at m rule_is.AttributeClash a.span) ∷ []))

-- Bytes need one of four attributes, which say where they end.
abbrev pub bounds : AttributeName → Bool
bounds name_is.Size = true
bounds name_is.Eod = true
bounds name_is.Until = true
bounds name_is.UntilIncluding = true
bounds _ = false

abbrev pub is_bounded : List Attribute → Bool
is_bounded [] = false
is_bounded (a ∷ rest) = bounds a.name || is_bounded rest
