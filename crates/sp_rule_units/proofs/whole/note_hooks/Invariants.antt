use Rattle.std.proofs.Common.{◌≡◌, drop}
use Rattle.sp_rules.specs.Least.{checked}
use Rattle.sp_rule_units.specs.Faults.{each}
use Rattle.sp_rule_units.specs.Units.{hook_tests}
use Rattle.sp_rule_units.proofs.whole.note_hooks.Given as goal

abbrev pub invariant-loop-hook : goal.invariant-loop-hook
invariant-loop-hook l = checked l.least (each (hook_tests l.units) (drop l.hook-index l.hooks)) ≡ checked l.fn.least (each (hook_tests l.units) l.hooks)
