use Rattle.std.proofs.Common.{◌<◌, ◌+◌, ℕ, List, [], ◌∷◌, drop, length, sym, ap, subst, ◌∙◌, arith}
use Rattle.std.specs.List.{AllByRecursion}
use Rattle.sp_typed_units.specs.declared.declarations.Unit.{Unit as TypedUnit}
use Rattle.sp_lower_tables.proofs.Numbered.{next_item, none_left}
use Rattle.sp_lower.specs.Literals.{UnitFits}
use Rattle.sp_lower.specs.inside.Units.{LaysUnits}
use Rattle.sp_lower.proofs.Counted.{leads_on, leads_to}
use Rattle.sp_lower.proofs.units.lay_units.Goals as goal

pub lay_unit-requires-clause-number : goal.lay_unit-requires-clause-number
lay_unit-requires-clause-number c =
    subst (λ (n : ℕ). n < length c.args.tables.now.list.now.units) (sym c.loop-i.invariant.number) (subst (λ (l : List TypedUnit). c.loop-i.i < length l) c.requires.all c.loop-i-test.true)

pub lay_unit-requires-clause-literals : goal.lay_unit-requires-clause-literals
lay_unit-requires-clause-literals c =
    let next = next_item c.args.all.now c.loop-i.i c.index-all-i.result c.loop-i-test.true c.index-all-i.is in
    let fits = subst (λ (l : List TypedUnit). AllByRecursion UnitFits l) next c.loop-i.invariant.fits in fits.0

pub loop-i-preserved : goal.loop-i-preserved
loop-i-preserved c =
    let list = c.args.tables.now.list.now in
    let i = c.loop-i.i in
    let x = c.index-all-i.result in
    let all = c.args.all.now in
    let next = next_item all i x c.loop-i-test.true c.index-all-i.is in
    let fits = subst (λ (l : List TypedUnit). AllByRecursion UnitFits l) next c.loop-i.invariant.fits in
    let one = subst (λ (n : ℕ). LaysUnits list c.loop-i.out c.loop-i.entries.items c.lay_unit.new.out c.lay_unit.new.entries.items n (x ∷ [])) c.loop-i.invariant.number c.in_ok-lay_unit.ensures in
    record {
      number = c.in_ok-next.ensures ∙ ap (λ (n : ℕ). n + 1) c.loop-i.invariant.number;
      fits = fits.1;
      laid = leads_on list c.args.out.now c.loop-i.out _ c.args.entries.now.items c.loop-i.entries.items _ all (drop i all) (drop (i + 1) all) i x next c.loop-i.invariant.laid one;
    }

pub returns : goal.returns
returns c =
    let all = c.args.all.now in
    let i = c.loop-i.i in
    leads_to c.args.tables.now.list.now c.args.out.now c.loop-i.out c.args.entries.now.items c.loop-i.entries.items all (drop i all) i (none_left all i (omega arith)) c.loop-i.invariant.laid
