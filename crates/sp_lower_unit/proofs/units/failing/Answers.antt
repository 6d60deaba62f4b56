use Rattle.std.proofs.Common.{◌++◌}
use Rattle.std.proofs.lemmas.Result.{on_ok_weaker}
use Rattle.sp_words.specs.declared.words.HookName.TheVariants.{Error, Finally}
use Rattle.sp_code.specs.Shapes.{OfFailing}
use Rattle.sp_code_programs.specs.units.Units.{unit_shape, unit_hook_code}
use Rattle.sp_lower_unit.proofs.Joined.{adds_on}
use Rattle.sp_lower_unit.proofs.Begun.{leaves, begins_with}
use Rattle.sp_lower_unit.proofs.units.failing.Goals as goal

pub returns : goal.returns
returns c =
    let list = c.args.tables.now.list.now in
    let u = c.args.number in
    let s = unit_shape u OfFailing in
    let begin = c.in_ok-begin.ensures in
    let errors = c.in_ok-unit_hook.ensures OfFailing begin.now in
    let ends = c.in_ok-unit_hook-2.ensures OfFailing errors.now in
    on_ok_weaker c.emit.result
    (leaves c.args.out.now _ _ _ s (begins_with c.args.out.now _ _ s s (λ at. unit_hook_code list u s Error ++ unit_hook_code list u s Finally) begin (adds_on (unit_hook_code list u s Finally) s errors ends))) c.emit.ensures
