use Rattle.std.specs.Prelude.{None, true}
use Rattle.sp_rules.specs.Least.{Among, checked}
use Rattle.sp_rules.proofs.Least.{least_of_groups, checked_is_least}
use Rattle.sp_rules.proofs.laws.least_of_groups.Goals as goal

pub returns : goal.returns
returns c k cs = least_of_groups (λ f. Among cs (true, f)) k (checked None cs) (checked_is_least cs)
