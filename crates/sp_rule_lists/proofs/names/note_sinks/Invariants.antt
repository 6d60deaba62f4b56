use Rattle.std.proofs.Common.{◌≡◌, drop}
use Rattle.sp_rules.specs.Least.{checked}
use Rattle.sp_rule_lists.specs.Lists.{all_tests}
use Rattle.sp_rule_lists.specs.Names.{sink_names}
use Rattle.sp_rule_lists.proofs.names.note_sinks.Given as goal

abbrev pub invariant-loop-sink : goal.invariant-loop-sink
invariant-loop-sink l = checked l.least (all_tests (sink_names l.owner) (drop l.sink-index l.all)) ≡ checked l.fn.least (all_tests (sink_names l.owner) l.all)
