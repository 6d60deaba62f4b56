use Rattle.std.specs.List.{list_all}
use Rattle.std.proofs.Common.{◌≡◌, drop}
use Rattle.sp_ast.specs.Slots.{is_formed}
use Rattle.sp_law_lists.proofs.unbroken_modules.modules_are_formed.Given as goal

abbrev pub invariant-loop-tree : goal.invariant-loop-tree
invariant-loop-tree l = list_all is_formed (drop l.tree-index l.list) ≡ list_all is_formed l.list
