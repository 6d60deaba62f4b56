-- The children of a node are smaller.
use Rattle.std.specs.Prelude.{◌+◌, ◌≤◌, max, List, [], ◌∷◌}
use Rattle.std.specs.List.{fold}
use Rattle.std.proofs.Common.{arith}
use denote.Param.Weighed.{most}
use Rattle.sp_regex.specs.declared.tree.Node.{Node}
use Rattle.sp_regex.specs.declared.tree.Node.TheVariants as node
use Rattle.sp_regex.specs.declared.tree.Regex.TheDeep.{deep-Node}
use Rattle.sp_regex.specs.Trees.{Syntax, followed, either, empty, never, syntax_size}
use Rattle.sp_regex.specs.Views.{node_syntax}

most_le-followed : (a : Syntax) (kids : List Syntax) → max (syntax_size a) (most (λ k. syntax_size k + 1) kids) ≤ syntax_size (fold followed a kids)
most_le-followed a [] = omega arith
most_le-followed a (k ∷ ks) = omega (arith, most_le-followed (followed a k) ks)

most_le-either : (a : Syntax) (kids : List Syntax) → max (syntax_size a) (most (λ k. syntax_size k + 1) kids) ≤ syntax_size (fold either a kids)
most_le-either a [] = omega arith
most_le-either a (k ∷ ks) = omega (arith, most_le-either (either a k) ks)

pub node_falls : (n : Node) → max (deep-Node n) 0 ≤ syntax_size (node_syntax n)
node_falls (node.Sequence v) = omega (arith, most_le-followed empty v.items)
node_falls (node.Alternatives v) = omega (arith, most_le-either never v.items)
node_falls (node.Repeat a c) = omega arith
node_falls n = omega arith
