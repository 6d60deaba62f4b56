use Rattle.std.proofs.Common.{arith, ap, ◌∙◌}
use Rattle.sp_solver.specs.Told.{told}
use Rattle.sp_names.proofs.Lookups.{some_at}
use Rattle.sp_type_values.specs.Valued.{own_place}
use Rattle.sp_type_values.proofs.Steps.{place_within, place_found, place_past, place_missed}
use Rattle.sp_type_values.proofs.row.ValueRow.own_place.Goals as goal

pub overflow_add-result : goal.overflow_add-result
overflow_add-result c =
    let t = c.self.inside in
    let p = c.in-Some.found.now in
    let at = rw c.deref.ensures.value at c.in-Some.ensures.lookup in
    let in_row = place_within t.tables.now.0 (told t.tables.now.1) t.rows.items t.constants t.enums.items c.self.invariant c.args.place c.args.label p (some_at t.enums.items c.args.place p at.3.0 at.1) c.if-label-found.true in
    omega (arith, in_row, t.rows.ok.0, t.rows.ok.1, t.rows.small)

pub returns-then-label-found : goal.returns-then-label-found
returns-then-label-found c =
    let t = c.self.inside in
    let p = c.in-Some.found.now in
    let at = rw c.deref.ensures.value at c.in-Some.ensures.lookup in
    place_found t.tables.now.0 (told t.tables.now.1) t.rows.items t.constants t.enums.items c.self.invariant c.args.place c.args.label p (some_at t.enums.items c.args.place p at.3.0 at.1) c.if-label-found.true
    ∙ ap (λ s. own_place s.0 (told s.1) c.args.place c.args.label) c.self.view_is

pub returns-else-label-found : goal.returns-else-label-found
returns-else-label-found c =
    let t = c.self.inside in
    let p = c.in-Some.found.now in
    let at = rw c.deref.ensures.value at c.in-Some.ensures.lookup in
    place_past t.tables.now.0 (told t.tables.now.1) t.rows.items t.constants t.enums.items c.self.invariant c.args.place c.args.label p (some_at t.enums.items c.args.place p at.3.0 at.1) c.if-label-found.false
    ∙ ap (λ s. own_place s.0 (told s.1) c.args.place c.args.label) c.self.view_is

pub returns-in-None : goal.returns-in-None
returns-in-None c =
    let t = c.self.inside in
    let at = rw c.deref.ensures.value at c.in-None.ensures.lookup in
    place_missed t.tables.now.0 (told t.tables.now.1) t.rows.items t.constants t.enums.items c.self.invariant c.args.place c.args.label at.3
    ∙ ap (λ s. own_place s.0 (told s.1) c.args.place c.args.label) c.self.view_is
