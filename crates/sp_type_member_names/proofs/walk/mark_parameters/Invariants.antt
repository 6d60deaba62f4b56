use Rattle.std.proofs.Common.{ℕ, ◌≡◌, ◌+◌}
use Rattle.sp_type_modules.specs.Taken.{parameter_numbers}
use Rattle.sp_type_member_names.specs.inside.Seen.{told_count, how_many}
use Rattle.sp_type_member_names.proofs.walk.mark_parameters.Given as goal

abbrev pub invariant-loop-parameter : goal.invariant-loop-parameter
invariant-loop-parameter g l =
    (goal.iterator-loop-parameter g).can_next l.parameter-iterator × (goal.iterator-loop-parameter g).is_finite l.parameter-iterator
    × ((k : ℕ) → told_count l.near k + how_many k (parameter_numbers (g.N.Naming.numbers l.naming) l.parameter-iterator) ≡ told_count l.fn.near k + how_many k (parameter_numbers (g.N.Naming.numbers l.naming) l.fn.parameters))
