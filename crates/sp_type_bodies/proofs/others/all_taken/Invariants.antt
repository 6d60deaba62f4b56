use Rattle.std.proofs.Common.{◌≡◌, map}
use Rattle.sp_type_operands.specs.Literals.{taken}
use Rattle.sp_type_bodies.proofs.others.all_taken.Given as goal

abbrev pub invariant-loop-e : goal.invariant-loop-e
invariant-loop-e l = l.all.items ≡ map (taken l.subject) l.yielded
