use Rattle.std.proofs.Common.{ap, [], ◌∷◌, arith}
use Rattle.sp_events.specs.Tree.{fields_of}
use Rattle.sp_events.specs.TreeSizes.{fields_size}
use Rattle.sp_events.proofs.Members.{field_sizes_both}
use Rattle.sp_events.proofs.parting.take_field.Goals as goal

pub returns-in-Some-clause-size : goal.returns-in-Some-clause-size
returns-in-Some-clause-size c =
    let left = c.pop.new.self.items in
    omega (arith, ap (λ ts. fields_size (fields_of ts)) c.in-Some.ensures.items, field_sizes_both left ((c.in-Some.field-0-0, c.in-Some.tree) ∷ []), c.rest_of_fields.ensures)

pub returns-in-Some-clause-falls : goal.returns-in-Some-clause-falls
returns-in-Some-clause-falls c =
    let left = c.pop.new.self.items in
    omega (arith, ap (λ ts. fields_size (fields_of ts)) c.in-Some.ensures.items, field_sizes_both left ((c.in-Some.field-0-0, c.in-Some.tree) ∷ []), c.rest_of_fields.ensures)
