use Rattle.std.proofs.Common.{map, drop}
use Rattle.sp_type_list_context.specs.Holds.{seeing_told, unit_told}
use Rattle.sp_type_list_context.proofs.Joining.{being_stops, being_step}
use Rattle.sp_type_list_context.proofs.units.in_units.Goals as goal

pub returns-in_default : goal.returns-in_default
returns-in_default c =
    being_stops seeing_told (map unit_told c.loop-i.all.items) (drop c.loop-i.i c.args.types.now) c.args.contexts.now c.loop-i.i _ c.in_default.ensures.lookup.3 c.loop-i.invariant

pub loop-i-preserved : goal.loop-i-preserved
loop-i-preserved c =
    being_step seeing_told c.args.types.now c.args.contexts.now c.loop-i.i c.index-types-i.result c.in-Some.context.now (map unit_told c.loop-i.all.items) (map unit_told c.add_being.new.all.items) _ c.loop-i-test.true c.index-types-i.is c.in-Some.ensures.lookup.3.0 c.in-Some.ensures.lookup.1 c.in_ok-add_being.ensures c.loop-i.invariant
