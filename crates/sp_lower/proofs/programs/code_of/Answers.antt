use Rattle.std.proofs.Common.{List, ap, subst}
use Rattle.sp_typed_units.specs.declared.declarations.Unit.{Unit as TypedUnit}
use Rattle.sp_emit.specs.Emitted.{Emitted}
use Rattle.sp_lower.specs.Literals.{UnitFits}
use Rattle.sp_lower.specs.inside.Units.{AddsStarters}
use Rattle.sp_lower.proofs.Each.{each_of}
use Rattle.sp_lower.proofs.Assembled.{code_is}
use Rattle.sp_lower.proofs.programs.code_of.Goals as goal

pub all_units-requires : goal.all_units-requires
all_units-requires c = each_of UnitFits c.args.list.now.units c.requires.units

pub returns : goal.returns
returns c =
    let list = c.args.list.now in
    let starters = subst (λ (l : List TypedUnit). AddsStarters list c.all_units.new.out c.starters.new.out 0 l) c.as_slice.ensures c.in_ok-starters.ensures in
    code_is list c.new-out.result c.all_bodies.new.out c.all_units.new.out c.starters.new.out _ (ap (λ (e : Emitted). e.marks) c.new-out.ensures) c.in_ok-bodies.ensures c.in_ok-units.ensures starters c.in_ok-emission.ensures
