use Rattle.std.proofs.Common.{ap, subst, ◌∙◌}
use Rattle.sp_value.specs.Changes.{IsVector}
use Rattle.sp_methods.specs.Taken.{popped}
use Rattle.sp_lib.proofs.Popped.{popped_last}
use Rattle.sp_lib.proofs.members.pop_back.Goals as goal

pub returns-in-Ok-Some-clause-ok : goal.returns-in-Ok-Some-clause-ok
returns-in-Ok-Some-clause-ok c =
    let is = rw c.in-Ok-Some.field-0-is at c.in-Ok-Some.ensures.ok in
    ap popped is ∙ popped_last c.pop_back.new.self c.in-Ok-Some.x (subst IsVector is c.requires)
