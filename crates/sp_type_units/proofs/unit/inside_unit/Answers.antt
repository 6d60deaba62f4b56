use Rattle.sp_type_units.proofs.unit.inside_unit.Goals as goal

pub returns : goal.returns
returns g c =
    let outer = c.new-outer.ensures in
    let inside = c.new-inside.ensures in
    rw (inside.context, inside.ty, inside.standing, outer.outside, outer.parameters, outer.first, outer.hides, c.in_ok-seen.ensures, c.word-ty.ensures) at c.inside_of.ensures
