use Rattle.std.proofs.Common.{◌≡◌, length}
use Rattle.sp_value.specs.Changes.{IsSet}
use Rattle.sp_meaning_states.specs.Values.{with_members}
use Rattle.sp_machine.proofs.makes.set_from.Given as goal

abbrev pub invariant-loop-set : goal.invariant-loop-set
invariant-loop-set l = IsSet l.set × (with_members l.set l.rest ≡ with_members l.initial.set l.initial.rest)

abbrev pub decreases-loop-set : goal.decreases-loop-set
decreases-loop-set l = length l.rest
