use Rattle.std.proofs.Common.{length, sym, ap, ◌∙◌}
use Rattle.sp_types.specs.Types.{word}
use Rattle.sp_types.specs.declared.words.Word.TheVariants as word_is
use Rattle.sp_typed.specs.declared.words.Standing.TheVariants as standing_is
use Rattle.sp_type_scopes.specs.Decorators.{with_self}
use Rattle.sp_solver.specs.Told.{told}
use Rattle.sp_names.proofs.Lookups.{some_at, none_at}
use Rattle.sp_type_modules.specs.Sources.{questions}
use Rattle.sp_type_members.specs.Opens.{with_members}
use Rattle.sp_type_members.specs.Endless.{field_place, unit_place}
use Rattle.sp_type_members.proofs.Places.{unit_there, unit_absent}
use Rattle.sp_type_members.proofs.endless.endless_place.Goals as goal

pub returns-in_ok-unit_place-in-Some : goal.returns-in_ok-unit_place-in-Some
returns-in_ok-unit_place-in-Some g c =
    let list = c.args.rows.now in
    let count = length (questions list) in
    let known = told c.args.types.now in
    let v = g.V.Constants.values c.args.constants.now in
    let n = c.args.unit in
    let t = c.args.tree.now in
    let around = g.C.Context.around c.in-Some.context.now in
    let at = some_at c.args.contexts.now n c.in-Some.context.now c.in-Some.ensures.lookup.3.0 c.in-Some.ensures.lookup.1 in
    c.in_ok-unit_place-in-Some.ensures
    ∙ ap (λ l. field_place list count known (with_self (word (word_is.Unit n)) standing_is.Meant (with_members l known around)) v t) c.requires.same
    ∙ ap (unit_place list count known v n t) (sym (unit_there g.C.Context.around c.args.contexts.now c.in-Some.context.now n at))

pub returns-in-None : goal.returns-in-None
returns-in-None g c =
    let n = c.args.unit in
    let absent = unit_absent g.C.Context.around c.args.contexts.now n (none_at c.args.contexts.now n c.in-None.ensures.lookup.3) in
    ap (unit_place c.args.rows.now (length (questions c.args.rows.now)) (told c.args.types.now) (g.V.Constants.values c.args.constants.now) n c.args.tree.now) (sym absent)
