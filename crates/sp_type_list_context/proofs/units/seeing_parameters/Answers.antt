use Rattle.std.proofs.Common.{map, drop}
use Rattle.sp_type_list_context.specs.Holds.{here_told, seeing_told}
use Rattle.sp_type_list_context.proofs.Joining.{seeing_stops, seeing_step}
use Rattle.sp_type_list_context.proofs.units.seeing_parameters.Goals as goal

pub returns-in_default : goal.returns-in_default
returns-in_default c =
    seeing_stops (map seeing_told c.loop-i.all.items) (map here_told (drop c.loop-i.i c.args.homes.now)) c.args.tables.now c.loop-i.i _ c.in_default.ensures.lookup.3 c.loop-i.invariant

pub loop-i-preserved : goal.loop-i-preserved
loop-i-preserved c =
    seeing_step here_told c.args.homes.now c.args.tables.now c.loop-i.i c.index-homes-i.result c.in-Some.table.now (map seeing_told c.loop-i.all.items) (map seeing_told c.add_seeing.new.all.items) _ c.loop-i-test.true c.index-homes-i.is c.in-Some.ensures.lookup.3.0 c.in-Some.ensures.lookup.1 c.in_ok-add_seeing.ensures c.loop-i.invariant
