-- Typed lists in which no node is a word, and none is of an unknown type.
use Rattle.std.specs.Prelude.{Bool, true, ◌&&◌, Option, Some, None, IsTrue}
use Rattle.std.specs.List.{list_all}
use Rattle.sp_typed.specs.Exprs.{Expr}
use Rattle.sp_typed.specs.Nodes.{holds, all_hold}
use Rattle.sp_typed.specs.Stmts.{Stmt}
use Rattle.sp_typed_units.specs.declared.attributes.Attribute.{Attribute}
use Rattle.sp_typed_units.specs.declared.items.Field.{Field}
use Rattle.sp_typed_units.specs.Specs.{Spec, read, unit_read, list_read, group_read}
use Rattle.sp_typed_units.specs.Parts.{Part, Parts, Arms, field, choice, no_parts, more_parts, no_arms, more_arms, parts}
use Rattle.sp_typed_units.specs.declared.declarations.Parameter.{Parameter}
use Rattle.sp_typed_units.specs.declared.declarations.Member.{Member}
use Rattle.sp_typed_units.specs.declared.declarations.Variable.{Variable}
use Rattle.sp_typed_units.specs.declared.declarations.OrderProperty.{OrderProperty}
use Rattle.sp_typed_units.specs.declared.declarations.Unit.{Unit}
use Rattle.sp_typed_units.specs.declared.declarations.Hook.{Hook}
use Rattle.sp_typed_units.specs.declared.declarations.Function.{Function}
use Rattle.sp_typed_units.specs.declared.declarations.Constant.{Constant}
use Rattle.sp_typed_units.specs.declared.declarations.Label.{Label}
use Rattle.sp_typed_units.specs.declared.declarations.Enum.{Enum}
use Rattle.sp_typed_units.specs.declared.declarations.Typed.{Typed}
use Rattle.sp_law_lists.specs.known_types.Full.{is_full, is_right}
use Rattle.sp_law_lists.specs.known_types.Stmts.{is_good, exprs_hold}

-- an expression of which each node is a value of a full type; the same, where it may be left out
abbrev pub is_known : Expr → Bool
is_known e = holds is_right e

abbrev pub is_known_if : Option Expr → Bool
is_known_if None = true
is_known_if (Some e) = is_known e

-- a body: only `add` and `delete` take what has no value, the key of a set
abbrev pub is_known_body : Stmt → Bool
is_known_body s = exprs_hold is_known is_good s

abbrev pub is_known_parameter : Parameter → Bool
is_known_parameter p = is_full p.ty

-- how something is read
abbrev pub is_known_attribute : Attribute → Bool
is_known_attribute a = is_known_if a.value

abbrev pub is_known_spec : Spec → Bool
is_known_spec (read h) = true
is_known_spec (unit_read h es) = all_hold is_right es
is_known_spec (list_read span s n) = is_known_spec s && is_known_if n
is_known_spec (group_read span s attributes) = is_known_spec s && list_all is_known_attribute attributes

abbrev pub is_known_field : Field → Bool
is_known_field f =
    is_full f.ty && (is_known_spec f.spec && (list_all is_known_attribute f.attributes && (is_known_if f.condition && is_known_if f.sink)))

-- the parts of a unit
abbrev mutual
  pub is_known_part : Part → Bool
  is_known_part (field f) = is_known_field f
  is_known_part (choice span subject rows) = is_known_if subject && are_known_arms rows

  pub are_known_parts : Parts → Bool
  are_known_parts no_parts = true
  are_known_parts (more_parts p ps) = is_known_part p && are_known_parts ps

  pub are_known_arms : Arms → Bool
  are_known_arms no_arms = true
  are_known_arms (more_arms a ps rest) = list_all is_known a.values && (are_known_parts ps && are_known_arms rest)

-- declarations
abbrev pub is_known_order : OrderProperty → Bool
is_known_order o = is_known o.value

abbrev pub is_known_member : Member → Bool
is_known_member x = is_full x.ty

abbrev pub is_known_variable : Variable → Bool
is_known_variable v = is_known_if v.value

abbrev pub is_known_unit : Unit → Bool
is_known_unit u =
    list_all is_known_parameter u.parameters && (list_all is_known_member u.members && (list_all is_known_variable u.variables && (are_known_parts (parts u.parts) && list_all is_known_order u.orders)))

abbrev pub is_known_hook : Hook → Bool
is_known_hook h =
    list_all is_known_parameter h.parameters && (is_known_if h.priority && is_known_body h.body)

abbrev pub is_known_function : Function → Bool
is_known_function f = list_all is_known_parameter f.parameters && (is_full f.result && is_known_body f.body)

abbrev pub is_known_constant : Constant → Bool
is_known_constant c = is_full c.ty && is_known c.expr

abbrev pub is_known_label : Label → Bool
is_known_label l = is_known_if l.expr

abbrev pub is_known_enum : Enum → Bool
is_known_enum e = list_all is_known_label e.labels

-- All is known of a typed list: whatever is written in it.
abbrev pub is_known_list : Typed → Bool
is_known_list t =
    list_all is_known_order t.orders && (list_all is_known_enum t.enums && (list_all is_known_constant t.constants && (list_all is_known_unit t.units && (list_all is_known_function t.functions && list_all is_known_hook t.hooks))))

abbrev pub AllKnown : Typed → Type 0
AllKnown t = IsTrue (is_known_list t)
