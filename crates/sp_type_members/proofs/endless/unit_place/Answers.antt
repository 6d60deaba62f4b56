use Rattle.sp_type_members.proofs.endless.unit_place.Goals as goal

pub returns : goal.returns
returns g c =
    let tables = rw c.new.ensures.tables at c.inside_place.ensures in
    let known = rw c.new.ensures.known at tables in
    rw c.new.ensures.context at known
