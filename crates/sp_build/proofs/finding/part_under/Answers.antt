use Rattle.std.proofs.Common.{add-one, sym, ◌∙◌}
use Rattle.sp_build.proofs.Found.{more_trees, part_found}
use Rattle.sp_build.proofs.finding.part_under.Goals as goal

pub returns-then-fits-clause-found : goal.returns-then-fits-clause-found
returns-then-fits-clause-found c =
    rw (c.in-Part.is, add-one) (part_found c.in-Part.sort c.args.count c.args.stack.now c.in_ok-tree-in-Part.tree c.requires c.in_ok-tree-in-Part.ensures.some (sym c.fits.ensures ∙ c.if-fits.true))

pub returns-then-fits-clause-last : goal.returns-then-fits-clause-last
returns-then-fits-clause-last c =
    rw add-one (more_trees c.args.count c.args.stack.now _ c.in_ok-tree-in-Part.tree c.requires c.in_ok-tree-in-Part.ensures.some)
