use Rattle.std.proofs.Common.{List, ◌++◌, ap, ◌∙◌}
use Rattle.sp_types.specs.Types.{Ty}
use Rattle.sp_typed_units.specs.declared.declarations.Parameter.{Parameter}
use Rattle.sp_meaning.specs.Globals.{globals_of}
use Rattle.sp_code_programs.specs.programs.Routines.{parameter_kinds, slot_kinds}
use Rattle.sp_lower_tables.proofs.Numbered.{gives_all, gives_more, numbers_as}
use Rattle.sp_lower.proofs.functions.function_locals.Goals as goal

pub returns : goal.returns
returns c =
    let ranges = (globals_of c.args.list.now).ranges in
    let x = c.args.x.now in
    let all = gives_more _ _ _ _ _ _ _ (gives_all _ _ _ _ _ c.new-locals.ensures.items c.in_ok-add_parameters.ensures) c.in_ok-add_types.ensures in
    numbers_as _ _ _ _ _
    (ap (λ (l : List Parameter). parameter_kinds ranges l ++ slot_kinds ranges c.as_slice-2.result.now) c.as_slice.ensures ∙ ap (λ (l : List Ty). parameter_kinds ranges x.parameters ++ slot_kinds ranges l) c.as_slice-2.ensures) all
