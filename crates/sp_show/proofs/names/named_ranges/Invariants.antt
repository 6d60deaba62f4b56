use Rattle.std.proofs.Common.{◌≡◌, ◌++◌}
use Rattle.sp_meaning_states.specs.Telling.{named_ranges}
use Rattle.sp_show.proofs.names.named_ranges.Given as goal

abbrev pub invariant-loop-name : goal.invariant-loop-name
invariant-loop-name l = l.ranges.items ++ named_ranges l.name-iterator.a.rest.now l.name-iterator.b.rest.now ≡ named_ranges l.names l.numbers
