use Rattle.std.proofs.Common.{ℕ, ap, ◌∙◌, [], ◌∷◌, ◌++◌}
use Rattle.sp_solver.specs.Told.{told}
use Rattle.sp_typed_units.specs.declared.declarations.Unit.{Unit as Row}
use Rattle.sp_type_values.specs.Answers.{values}
use Rattle.sp_type_unit_calls.specs.HookCalling.{has}
use Rattle.sp_type_units.specs.UnitRows.{unit_row}
use Rattle.sp_type_list_context.specs.Holds.{here_told}
use Rattle.sp_type_list.proofs.typed.add_unit.Goals as goal

pub returns : goal.returns
returns c =
    let units = c.args.units.now in
    let calls = c.args.calls.now in
    let worth = values c.args.known.now.row.now.0 (told c.args.known.now.row.now.1) (told c.args.known.now.answers.now) in
    let row : ℕ → Row = λ n. unit_row units.tables.now.0 (told units.stored.now) units.sites.now units.hooks.now worth (record { input = has n calls.input; connect_filter = has n calls.connect_filter }) (here_told c.args.home.now) n in
    c.in_ok-push.ensures.items ∙ ap (λ (u : Row). c.args.all.now.items ++ u ∷ []) (c.in_ok-unit_at.ensures ∙ ap row c.in_ok-unit.ensures)
