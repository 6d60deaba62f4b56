use Rattle.std.proofs.Common.{◌≡◌, ◌++◌}
use Rattle.sp_session.specs.Units.{of_flow}
use Rattle.sp_session.proofs.telling.push_all.Given as goal

abbrev pub invariant-loop-what : goal.invariant-loop-what
invariant-loop-what l = record {
  appended : l.out ≡ l.fn.out ++ of_flow l.yielded;
  left : l.yielded ++ l.what-iterator.rest.items ≡ l.fn.whats.items;
}
