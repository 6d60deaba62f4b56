use Rattle.std.proofs.Common.{ℕ, refl}
use Rattle.sp_solver.specs.Told.{told}
use Rattle.sp_typed_units.specs.declared.declarations.Unit.{Unit as Row}
use Rattle.sp_type_context.specs.Contexts.{Around}
use Rattle.sp_type_values.specs.Answers.{values}
use Rattle.sp_type_unit_calls.specs.HookCalling.{has}
use Rattle.sp_type_units.specs.UnitRows.{unit_row}
use Rattle.sp_type_list_context.specs.Holds.{here_told}
use Rattle.sp_type_list.specs.inside.Units.{units_by}
use Rattle.sp_type_list.proofs.Units.{units_step}
use Rattle.sp_type_list.proofs.typed.units_with.Goals as goal

pub loop-i-preserved : goal.loop-i-preserved
loop-i-preserved c =
    let units = c.args.units.now in
    let calls = c.args.calls.now in
    let worth = values c.args.known.now.row.now.0 (told c.args.known.now.row.now.1) (told c.args.known.now.answers.now) in
    let one : ℕ → Around → Row = λ n g. unit_row units.tables.now.0 (told units.stored.now) units.sites.now units.hooks.now worth (record { input = has n calls.input; connect_filter = has n calls.connect_filter }) g n in
    let made = units_by units.tables.now.0 (told units.stored.now) units.sites.now units.hooks.now worth calls.input calls.connect_filter in
    units_step here_told made one (λ n g gs. refl) c.args.homes.now c.loop-i.i c.index-homes-i.result c.loop-i.all.items c.add_unit.new.all.items _ c.loop-i-test.true c.index-homes-i.is c.in_ok-add_unit.ensures c.loop-i.invariant
