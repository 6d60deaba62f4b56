-- A node as a tree.
use Rattle.sp_regex.specs.declared.tree.Node.{Node}
use Rattle.sp_regex.specs.declared.tree.Node.TheVariants as node
use Rattle.sp_regex.specs.Trees.{Syntax, byte, any, class, repeat, sequence, alternatives, literal}

abbrev pub node_syntax : Node → Syntax
node_syntax (node.Byte b) = byte b
node_syntax node.Any = any
node_syntax (node.Class c) = class c.negated c.ranges.items
node_syntax (node.Sequence v) = sequence v.items
node_syntax (node.Alternatives v) = alternatives v.items
node_syntax (node.Repeat a c) = repeat c.least c.most a.value
node_syntax (node.Literal v) = literal v.items
