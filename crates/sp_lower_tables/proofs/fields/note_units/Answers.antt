use Rattle.std.proofs.Common.{List, drop, refl, subst, arith}
use Rattle.sp_typed_units.specs.Parts.{Part, parts}
use Rattle.sp_code_programs.specs.programs.Currents.{field_in_parts, hooked_field}
use Rattle.sp_lower_tables.specs.inside.Fields.{Notes}
use Rattle.sp_lower_tables.proofs.Numbered.{next_item, none_left}
use Rattle.sp_lower_tables.proofs.Noted.{leads_on, leads_to}
use Rattle.sp_lower_tables.proofs.fields.note_units.Goals as goal

pub loop-unit-preserved : goal.loop-unit-preserved
loop-unit-preserved c =
    let all = c.args.units.now in
    let i = c.loop-unit.unit-index in
    let next = next_item all i c.unit-item.result c.loop-unit-test.true c.unit-item.is in
    let notes = subst (λ (ps : List Part). Notes c.loop-unit.rows.items c.note_parts.new.rows.items (λ h. field_in_parts h (parts ps))) c.as_slice.ensures c.note_parts.ensures in
    leads_on (λ xs h. hooked_field h xs) (λ x h. field_in_parts h (parts x.parts)) (λ x rest h. refl) c.args.rows.now.items c.loop-unit.rows.items c.note_parts.new.rows.items all i c.unit-item.result next c.loop-unit.invariant notes

pub returns : goal.returns
returns c =
    let all = c.args.units.now in
    let i = c.loop-unit.unit-index in
    leads_to (λ xs h. hooked_field h xs) c.args.rows.now.items c.loop-unit.rows.items all (drop i all) (λ h. refl) (none_left all i (omega arith)) c.loop-unit.invariant
