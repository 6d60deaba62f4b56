use Rattle.std.proofs.Common.{◌≡◌, Some, map, get_or, ap, ◌∙◌}
use Rattle.sp_solver.specs.Told.{told}
use Rattle.sp_names.specs.Names.{declaration_of}
use Rattle.sp_type_list_context.specs.Contexts.{module_of}
use Rattle.sp_type_list_context.specs.Holds.{here_told}
use Rattle.sp_type_list_context.proofs.Joining.{homes_step}
use Rattle.sp_type_list_context.proofs.units.homes.Goals as goal

pub loop-i-preserved : goal.loop-i-preserved
loop-i-preserved c =
    homes_step c.args.known.now.row.now.0 (told c.args.known.now.row.now.1) (told c.args.known.now.answers.now) (told c.args.stored.now) c.units-units.result.now c.loop-i.i c.module_at-owner.result (map here_told c.loop-i.all.items) (map here_told c.add_module.new.all.items) _ c.loop-i-test.true (c.module_at-owner.ensures ∙ ap (λ l. module_of (declaration_of l (Some (get_or c.units-units.result.now c.loop-i.i 0)))) c.names_of-names.ensures) c.in_ok-add_module.ensures c.loop-i.invariant
