-- What stands round an expression, and more: `$$`, `self`, parameters.
use Rattle.sp_types.specs.Types.{Ty}
use Rattle.sp_typed.specs.declared.words.LeafOp.TheVariants as leaf_is
use Rattle.sp_typed.specs.declared.words.Standing.{Standing}
use Rattle.sp_typed.specs.declared.words.Standing.TheVariants as standing_is
use Rattle.sp_type_context.specs.Contexts.{Around}
use Rattle.sp_type_context.specs.Typing.{leaf_at}

-- `$$` of a type
abbrev pub with_current : Ty → Standing → Around → Around
with_current t standing g = record {
  path = g.path;
  named = g.named;
  itself = g.itself;
  current = λ span. leaf_at span t (leaf_is.Current standing);
  type_in = g.type_in;
  written = g.written;
  member = g.member;
  method = g.method;
  target = g.target;
  left_out = g.left_out;
  result = g.result;
  item = g.item;
}

-- `$$` of a type, where it is meant
abbrev pub meant : Ty → Around → Around
meant t g = with_current t standing_is.Meant g

-- `self` of a type
abbrev pub with_self : Ty → Standing → Around → Around
with_self t standing g = record {
  path = g.path;
  named = g.named;
  itself = λ span. leaf_at span t (leaf_is.Itself standing);
  current = g.current;
  type_in = g.type_in;
  written = g.written;
  member = g.member;
  method = g.method;
  target = g.target;
  left_out = g.left_out;
  result = g.result;
  item = g.item;
}
