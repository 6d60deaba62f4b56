use Rattle.std.proofs.Common.{sym, subst}
use Rattle.sp_build.specs.inside.RuleParts.{HasParts}
use Rattle.sp_build.proofs.RuleParts.{rules_have_parts}
use Rattle.sp_build.proofs.steps.step.Goals as goal

pub step_by-requires-clause-parts : goal.step_by-requires-clause-parts
step_by-requires-clause-parts c = subst HasParts (sym c.rule_of.ensures) (rules_have_parts c.args.action)
