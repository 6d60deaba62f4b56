use Rattle.std.proofs.Common.{sym, subst, arith}
use Rattle.sp_build.specs.Stacks.{AreTrees}
use Rattle.sp_build.proofs.Held.{tree_there_read, no_tree_under_read, count_within}
use Rattle.sp_build.proofs.stack.TreeStack.tree_under.Goals as goal

pub overflow_sub-left : goal.overflow_sub-left
overflow_sub-left c =
    let within = count_within _ _ _ c.args.count c.self.invariant (subst (AreTrees c.args.count) (sym c.self.view_is) c.requires) in
    omega (arith, within, c.len.ensures)

pub returns-then-left-floor-clause-some : goal.returns-then-left-floor-clause-some
returns-then-left-floor-clause-some c =
    tree_there_read _ _ _ c.deref.result.now c.args.count c.floor.result c.len.result c.index.result.now _ c.at.result c.args.self.now c.deref.ensures.value c.floor.ensures c.self.invariant c.self.view_is c.requires c.if-left-floor.true (omega (arith, c.len.ensures)) c.index.ensures c.at.ensures

pub returns-else-left-floor-clause-none : goal.returns-else-left-floor-clause-none
returns-else-left-floor-clause-none c =
    no_tree_under_read _ _ _ c.deref.result.now c.args.count c.floor.result c.len.result c.args.self.now c.deref.ensures.value c.floor.ensures c.self.invariant c.self.view_is c.requires c.if-left-floor.false (omega (arith, c.len.ensures))
