use Rattle.std.proofs.Common.{◌≡◌, ◌++◌}
use Rattle.sp_ast.specs.Trees.{trees}
use Rattle.sp_type_fields.specs.Attributes.{attributes}
use Rattle.sp_type_fields.proofs.attributes.attributes_of.Given as goal

abbrev pub invariant-loop-attribute : goal.invariant-loop-attribute
invariant-loop-attribute g l =
    (goal.iterator-loop-attribute g).can_next l.attribute-iterator × (goal.iterator-loop-attribute g).is_finite l.attribute-iterator
    × (l.all.items ++ attributes (g.C.Context.around l.context) (g.V.Constants.values l.constants) l.site (trees l.attribute-iterator) ≡ attributes (g.C.Context.around l.context) (g.V.Constants.values l.constants) l.site (trees l.list))
