use Rattle.std.proofs.Common.{◌≡◌, length}
use Rattle.sp_value.specs.Changes.{IsMap}
use Rattle.sp_meaning_states.specs.Values.{with_entries}
use Rattle.sp_machine.proofs.makes.map_from.Given as goal

abbrev pub invariant-loop-rest : goal.invariant-loop-rest
invariant-loop-rest l = IsMap l.map × (with_entries l.map l.rest ≡ with_entries l.initial.map l.initial.rest)

abbrev pub decreases-loop-rest : goal.decreases-loop-rest
decreases-loop-rest l = length l.rest
