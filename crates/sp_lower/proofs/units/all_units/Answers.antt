use Rattle.std.proofs.Common.{List, [], sym, subst, ◌∙◌, ap}
use Rattle.std.specs.List.{AllByRecursion}
use Rattle.sp_typed_units.specs.declared.declarations.Typed.{Typed}
use Rattle.sp_typed_units.specs.declared.declarations.Unit.{Unit as TypedUnit}
use Rattle.sp_code.specs.declared.program.UnitCode.{UnitCode}
use Rattle.sp_lower.specs.Literals.{UnitFits}
use Rattle.sp_lower.specs.inside.Units.{LaysUnits}
use Rattle.sp_lower.proofs.units.all_units.Goals as goal

pub lay_units-requires-clause-all : goal.lay_units-requires-clause-all
lay_units-requires-clause-all c = c.as_slice.ensures ∙ sym (ap (λ (l : Typed). l.units) c.in_ok-tables.ensures)

pub lay_units-requires-clause-literals : goal.lay_units-requires-clause-literals
lay_units-requires-clause-literals c = subst (λ (l : List TypedUnit). AllByRecursion UnitFits l) (sym c.as_slice.ensures) c.requires

pub returns : goal.returns
returns c =
    let a = c.args.out.now in
    let b = c.lay_units.new.out in
    let us = c.lay_units.new.entries.items in
    subst (λ (l : List TypedUnit). LaysUnits c.args.list.now a [] b us 0 l) c.as_slice.ensures
    (subst (λ (l : Typed). LaysUnits l a [] b us 0 c.as_slice.result.now) c.in_ok-tables.ensures
    (subst (λ (vs : List UnitCode). LaysUnits c.in_ok-tables.tables.list.now a vs b us 0 c.as_slice.result.now) c.new-entries.ensures.items c.in_ok-lay_units.ensures))
