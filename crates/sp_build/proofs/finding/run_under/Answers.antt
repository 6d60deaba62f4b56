use Rattle.std.proofs.Common.{add-one, arith, suc, length, ◌≤◌}
use Rattle.sp_build.specs.inside.Popping.{passes}
use Rattle.sp_build.proofs.Found.{run_more, run_ends, count_of_trees}
use Rattle.sp_build.proofs.finding.run_under.Goals as goal

pub loop-wanted-preserved : goal.loop-wanted-preserved
loop-wanted-preserved c =
    let r = run_more (passes c.args.wanted) c.loop-wanted.found c.is_wanted.result c.args.stack.now _ c.loop-wanted-test.true c.loop-wanted.invariant.last c.is_wanted.ensures.under c.loop-wanted.invariant.found in
    rw add-one (record { last = r.0; found = r.1 })

pub loop-wanted-smaller : goal.loop-wanted-smaller
loop-wanted-smaller c =
    let r = run_more (passes c.args.wanted) c.loop-wanted.found c.is_wanted.result c.args.stack.now _ c.loop-wanted-test.true c.loop-wanted.invariant.last c.is_wanted.ensures.under c.loop-wanted.invariant.found in
    let h : suc c.loop-wanted.found ≤ length c.args.stack.now = count_of_trees (suc c.loop-wanted.found) c.args.stack.now r.0 in omega (arith, h)

pub returns : goal.returns
returns c = record {
  found = run_ends (passes c.args.wanted) c.loop-wanted.found c.is_wanted.result c.args.stack.now _ c.loop-wanted-test.false c.is_wanted.ensures.under c.loop-wanted.invariant.found;
  last = c.loop-wanted.invariant.last;
}
