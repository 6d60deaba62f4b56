use Rattle.std.proofs.Common.{◌≡◌, ◌≤◌, ◌-◌, ℕ, List}
use Rattle.sp_session.specs.Session.{means, received}
use Rattle.sp_driver.specs.inside.Fed.{IsFedBy}
use Rattle.sp_driver.proofs.run.run_session.Given as goal

abbrev pub invariant-pieces : goal.invariant-pieces
invariant-pieces g l = record {
  room : received l.session ≤ l.options.most;
  same : means l.session ≡ means l.fn.session;
  input_quiet : g.S.Source.faults l.input ≡ g.S.Source.faults l.fn.input;
  out_quiet : g.O.Out.faults l.out ≡ g.O.Out.faults l.fn.out;
  fed :
      (s : List ℕ) × (j : ℕ)
      × IsFedBy (means l.fn.session) l.options l.session (g.S.Source.left l.fn.input) (g.S.Source.left l.input) (g.O.Out.held l.fn.out) (g.O.Out.held l.out) s j;
}

abbrev pub decreases-pieces : goal.decreases-pieces
decreases-pieces g l = l.options.most - received l.session
