use Rattle.std.proofs.Common.{◌≡◌}
use Rattle.sp_ast.specs.Trees.{trees}
use Rattle.sp_type_fields.specs.Attributes.{conversion}
use Rattle.sp_type_fields.proofs.attributes.conversion.Given as goal

abbrev pub invariant-loop-attribute : goal.invariant-loop-attribute
invariant-loop-attribute l =
    (goal.iterator-loop-attribute).can_next l.attribute-iterator × (goal.iterator-loop-attribute).is_finite l.attribute-iterator
    × (conversion (trees l.attribute-iterator) ≡ conversion (trees l.list))
