use Rattle.std.proofs.Common.{length}
use Rattle.sp_solver.specs.Told.{told}
use Rattle.sp_names.proofs.Lookups.{some_at, none_at}
use Rattle.sp_type_modules.specs.Sources.{questions}
use Rattle.sp_type_members.proofs.Places.{try_there, try_absent}
use Rattle.sp_type_members.proofs.answers.unit_try.Goals as goal

pub returns-in_ok-question_try-in-Some : goal.returns-in_ok-question_try-in-Some
returns-in_ok-question_try-in-Some g c =
    let q = c.args.question.now in
    try_there g.C.Context.around c.args.contexts.now c.in-Some.context.now c.args.rows.now c.args.tables.now.0 (length (questions c.args.rows.now)) (told c.args.known.now) (g.V.Constants.values c.args.constants.now) q c.in_ok-question_try-in-Some.field-0
    (some_at c.args.contexts.now q.unit c.in-Some.context.now c.in-Some.ensures.lookup.3.0 c.in-Some.ensures.lookup.1)
    c.requires.same
    c.in_ok-question_try-in-Some.ensures

pub returns-in-None : goal.returns-in-None
returns-in-None g c =
    let q = c.args.question.now in
    try_absent g.C.Context.around c.args.contexts.now c.args.rows.now (length (questions c.args.rows.now)) (told c.args.known.now) (g.V.Constants.values c.args.constants.now) q c.word.result
    (none_at c.args.contexts.now q.unit c.in-None.ensures.lookup.3)
    c.word.ensures
