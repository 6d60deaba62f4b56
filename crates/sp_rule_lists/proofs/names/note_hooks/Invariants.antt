use Rattle.std.proofs.Common.{◌≡◌, drop}
use Rattle.sp_rules.specs.Least.{checked}
use Rattle.sp_rule_lists.specs.Lists.{all_tests}
use Rattle.sp_rule_lists.specs.Names.{hook_names}
use Rattle.sp_rule_lists.proofs.names.note_hooks.Given as goal

abbrev pub invariant-loop-hook : goal.invariant-loop-hook
invariant-loop-hook l = checked l.least (all_tests hook_names (drop l.hook-index l.all)) ≡ checked l.fn.least (all_tests hook_names l.all)
