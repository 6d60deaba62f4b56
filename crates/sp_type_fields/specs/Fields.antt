-- The types of what fields store.
use Rattle.sp_ast.specs.Trees.{Tree, row, node, more}
use Rattle.sp_ast.specs.declared.forms.Form.TheVariants as form_is
use Rattle.sp_types.specs.Types.{Ty}
use Rattle.sp_type_operands.specs.Operands.{unknown}
use Rattle.sp_type_context.specs.Contexts.{Around}
use Rattle.sp_type_fields.specs.Values.{Values}
use Rattle.sp_type_fields.specs.Attributes.{conversion, converted}
use Rattle.sp_type_fields.specs.Readings.{counted_read}

-- The type of what a field stores: of what it reads, or of what its `&convert` makes of that.
abbrev pub field_type : Around → Values → Tree → Ty
field_type g v (node form_is.Field span (more name (more base (more (row counts) (more (row ts) rest))))) =
    converted g (counted_read g v base counts).ty (conversion ts)
field_type g v t = unknown
