use Rattle.std.proofs.Common.{◌≡◌, drop}
use Rattle.sp_rules.specs.Least.{checked}
use Rattle.sp_type_answers.specs.Rules.{limits_from}
use Rattle.sp_check_unit.proofs.limits.note_all_limits.Given as goal

abbrev pub invariant-loop-m : goal.invariant-loop-m
invariant-loop-m l =
    checked l.least (limits_from l.m (drop l.m l.list)) ≡ checked l.fn.least (limits_from 0 l.list)
