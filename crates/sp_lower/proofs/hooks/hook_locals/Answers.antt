use Rattle.std.proofs.Common.{List, ◌++◌, ap}
use Rattle.sp_types.specs.Types.{Ty}
use Rattle.sp_meaning.specs.Globals.{globals_of}
use Rattle.sp_code_programs.specs.programs.Routines.{handed_kinds, slot_kinds}
use Rattle.sp_code_programs.specs.programs.Currents.{current_kind}
use Rattle.sp_lower_tables.proofs.Numbered.{gives_more, numbers_as}
use Rattle.sp_lower.proofs.hooks.hook_locals.Goals as goal

pub returns : goal.returns
returns c =
    let list = c.args.fields.now.list.now in
    let ranges = (globals_of list).ranges in
    let x = c.args.x.now in
    numbers_as _ _ _ _ _ (ap (λ (l : List Ty). handed_kinds ranges (current_kind ranges list.units c.args.body x) x ++ slot_kinds ranges l) c.as_slice.ensures)
    (gives_more _ _ _ _ _ _ _ c.in_ok-locals.ensures c.in_ok-add_types.ensures)
