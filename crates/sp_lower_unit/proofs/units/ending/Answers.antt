use Rattle.std.proofs.lemmas.Result.{on_ok_weaker}
use Rattle.sp_words.specs.declared.words.HookName.TheVariants.{Finally}
use Rattle.sp_code.specs.Shapes.{OfEnding}
use Rattle.sp_code_programs.specs.units.Units.{unit_shape, unit_hook_code}
use Rattle.sp_lower_unit.proofs.Begun.{leaves, begins_with}
use Rattle.sp_lower_unit.proofs.units.ending.Goals as goal

pub returns : goal.returns
returns c =
    let list = c.args.tables.now.list.now in
    let s = unit_shape c.args.number OfEnding in
    let begin = c.in_ok-begin.ensures in
    on_ok_weaker c.emit.result
    (leaves c.args.out.now _ _ _ s (begins_with c.args.out.now _ _ s s (λ at. unit_hook_code list c.args.number s Finally) begin (c.in_ok-unit_hook.ensures OfEnding begin.now))) c.emit.ensures
