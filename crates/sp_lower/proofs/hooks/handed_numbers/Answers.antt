use Rattle.std.proofs.Common.{◌≡◌, false, List, [], ◌∷◌, if◌then◌else◌, sym, ap, ◌∙◌}
use Rattle.sp_methods.specs.Kinds.{Unsigned}
use Rattle.sp_typed_units.specs.declared.declarations.Parameter.{Parameter}
use Rattle.sp_meaning.specs.Globals.{globals_of}
use Rattle.sp_meaning.specs.Hooks.{has_current}
use Rattle.sp_code_programs.specs.programs.Routines.{parameter_kinds}
use Rattle.sp_code_programs.specs.programs.Currents.{current_kind}
use Rattle.sp_lower_tables.proofs.Numbered.{gives_all, numbers_as}
use Rattle.sp_lower.proofs.hooks.handed_numbers.Goals as goal

pub returns : goal.returns
returns c =
    let list = c.args.fields.now.list.now in
    let ranges = (globals_of list).ranges in
    let x = c.args.x.now in
    let k = current_kind ranges list.units c.args.body x in
    let none : has_current x.of ≡ false =
    (let a = c.has_current.ensures in
    let b = c.if-has_current.false in cc) in
    numbers_as _ _ _ _ _
    (ap (λ (l : List Parameter). parameter_kinds ranges l) c.as_slice.ensures ∙ sym (ap (λ b. if b then k ∷ Unsigned ∷ [] else parameter_kinds ranges x.parameters) none))
    (gives_all _ _ _ _ _ c.new-numbers.ensures.items c.in_ok-add_parameters.ensures)
