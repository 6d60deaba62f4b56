use Rattle.sp_rule_bodies.specs.Known.{nothing_known}
use Rattle.sp_law_rules.proofs.Tested.{nodes_are, names_are}
use Rattle.sp_law_rules.proofs.places.tests_begin_at_tokens.Goals as goal

pub returns-clause-nodes : goal.returns-clause-nodes
returns-clause-nodes c = nodes_are

pub returns-clause-names : goal.returns-clause-names
returns-clause-names c = λ tokens m e i. names_are tokens nothing_known m e i
