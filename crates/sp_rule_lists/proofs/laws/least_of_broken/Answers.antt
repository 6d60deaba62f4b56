use Rattle.sp_rules.proofs.Least.{checked_is_least}
use Rattle.sp_rule_lists.specs.Names.{list_names}
use Rattle.sp_rule_lists.specs.Wholes.{list_tests}
use Rattle.sp_rule_lists.proofs.laws.least_of_broken.Goals as goal

pub returns-clause-names : goal.returns-clause-names
returns-clause-names c t = checked_is_least (list_names t)

pub returns-clause-bodies : goal.returns-clause-bodies
returns-clause-bodies c t values = checked_is_least (list_tests t values)
