use Rattle.std.proofs.Common.{◌≡◌, [], drop}
use Rattle.sp_type_modules.specs.inside.Kept.{all_joined}
use Rattle.sp_type_units.specs.inside.Shown.{shown}
use Rattle.sp_type_units.specs.inside.Told.{AreNumbered}
use Rattle.sp_type_units.proofs.members.joined.Given as goal

abbrev pub invariant-loop-named : goal.invariant-loop-named
invariant-loop-named l =
    AreNumbered l.numbers (shown l.rows.items)
    × (all_joined (shown l.rows.items) (shown (drop l.named-index l.all)) ≡ all_joined [] (shown l.all))
