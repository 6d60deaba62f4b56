use Rattle.std.proofs.Common.{◌≡◌, drop}
use Rattle.sp_rules.specs.Least.{checked}
use Rattle.sp_rule_lists.specs.Lists.{all_tests}
use Rattle.sp_rule_lists.specs.Bodies.{hook_tests}
use Rattle.sp_rule_lists.proofs.hooks.note_hooks.Given as goal

abbrev pub invariant-loop-hook : goal.invariant-loop-hook
invariant-loop-hook g l = checked l.least (all_tests (hook_tests l.typed (g.C.Constants.known l.constants)) (drop l.hook-index l.all)) ≡ checked l.fn.least (all_tests (hook_tests l.typed (g.C.Constants.known l.constants)) l.all)
